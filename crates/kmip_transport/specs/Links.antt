-- What a contract sees of a link over streams, and what happens to it.
-- Source: own (view). Nothing is known of what goes over a network: no clause speaks of its bytes.
use Rattle.std.specs.Prelude.{ℕ, ◌+◌, Bool, true, false, ◌&&◌, not, Option, Some, None, Result, Ok, Err}
use Rattle.kmip_protocol.specs.declared.link_fault.LinkFault.{LinkFault}
use Rattle.kmip_protocol.specs.declared.link_fault.LinkFault.TheVariants.{Io, Frame, NoMemory}

-- How often the network has failed, and whether a stream is open. Whether that one was held after the reply
-- to an earlier request, and whether streams are held after replies at all, or closed there.
pub record LinkState : Type 0 where
  pub failures : ℕ
  pub is_connected : Bool
  pub is_held : Bool
  pub holds : Bool

-- a stream is open: the one that was, or a new one, which was held after no reply
abbrev pub opened : LinkState → LinkState
opened link = record link { is_connected = true }

-- no stream is open; whether later ones are held stays
abbrev pub closed : LinkState → LinkState
closed link = record link { is_connected = false; is_held = false }

-- after a reply its stream is held for the next exchange, or closed
abbrev pub answered : LinkState → LinkState
answered link = record link { is_connected = link.holds; is_held = link.holds }

-- there was no reply: where the stream had been held, none is held after a reply from now on
abbrev pub lost : LinkState → LinkState
lost link = record (closed link) { holds = link.holds && not link.is_held }

-- the network failed once more, and there was no reply
abbrev pub failed : LinkState → LinkState
failed link = record (lost link) { failures = link.failures + 1 }

-- the link after a call that hands over a message, or none: a stream stays open only after a message, and
-- want of memory says nothing of the stream
abbrev pub link_after : {M : Type 0} → Result (Option M) LinkFault → LinkState → LinkState
link_after (Ok (Some message)) link = answered link
link_after (Ok None) link = lost link
link_after (Err Io) link = failed link
link_after (Err Frame) link = lost link
link_after (Err NoMemory) link = closed link
