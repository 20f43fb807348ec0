-- What a server does to a connection that it answers step by step.
-- Source: own (view), over KMIP 2.1, Message Structure.
use Rattle.std.specs.Prelude.{◌≡◌, ◌≢◌, ◌<◌, ◌⊎◌, ℕ, ℤ, Bool, true, List, [], ◌++◌, length, Option, Result, Ok}
use Rattle.std.specs.Io.KnownBytes.{Consumes, Appends, Keeps, IsAtEnd}
use Rattle.std.specs.List.{AllByRecursion}
use Rattle.kmip_frames.specs.Streams.{IsMessage, joined}
use Rattle.kmip_protocol.specs.declared.link_fault.LinkFault.{LinkFault}
use Rattle.kmip_server.specs.Batching.{batch_reply, stock_after_batch}
use Rattle.kmip_store.specs.Stock.{Stock}
use Rattle.kmip_transport.specs.Receiving.{IsUnfinished, IsNoHead}
use Rattle.kmip_transport.specs.Serving.{stock_after_messages, replies_to, IsBegun}

-- What a connection has at a time: bytes that came and are not answered, and bytes of a reply that are not
-- written yet.
pub record Talk : Type 0 where
  pub held : List ℕ
  pub unsent : List ℕ

-- These messages were served in turn at a time, and with what is held then they are all that was held or read.
-- The replies to them, after what was still to be written, are what was written and what is still to be.
-- It says the records before and after, what the reader had and has left, and what the writer held and holds.
pub record Converses (now : ℤ) (old new : Stock) (before after : Talk) (unread left shown written : Option (List ℕ)) : Type 0 where
  pub messages : List (List ℕ)
  pub read : List ℕ
  pub sent : List ℕ
  pub consumed : Consumes unread left read
  pub cut : before.held ++ read ≡ joined messages ++ after.held
  pub each : AllByRecursion IsMessage messages
  pub records : new ≡ stock_after_messages old messages
  pub put : Appends shown written sent
  pub replied : before.unsent ++ replies_to now old messages ≡ sent ++ after.unsent

-- The message that was held is answered, and nothing is held after it. Its reply is now to be written.
pub record AnswersHeld (now : ℤ) (result : Result Bool LinkFault) (old new : Stock) (before after : Talk) : Type 0 where
  pub goes_on : result ≡ Ok true
  pub records : new ≡ stock_after_batch old before.held
  pub reply : after.unsent ≡ batch_reply old before.held now
  pub empty : after.held ≡ []

-- What a step over memory does if the stream goes on after it: it writes all that is left of a reply. If
-- nothing is left of one and no message is held, it reads some bytes.
pub record GoesOn (before after : Talk) : Type 0 where
  pub written : before.unsent ≢ [] → after.unsent ≡ []
  pub read : before.unsent ≡ [] → ¬ (IsMessage before.held) → length before.held < length after.held

-- the reader has ended, what came last is no message, and each reply is written
abbrev pub IsOver : Talk → Option (List ℕ) → Type 0
IsOver talk left = IsAtEnd left × IsUnfinished talk.held × (talk.unsent ≡ [])

-- what came is no head of a message, and each reply is written
abbrev pub IsAtNoHead : Talk → Type 0
IsAtNoHead talk = IsNoHead talk.held × (talk.unsent ≡ [])

-- Nothing was read or written. The message that was held was not served, or some of its first questions were,
-- and not all of them.
abbrev pub BreaksDown : Talk → Stock → Stock → Option (List ℕ) → Option (List ℕ) → Option (List ℕ) → Option (List ℕ) → Type 0
BreaksDown before old new unread left shown written =
    Keeps unread left × Keeps shown written × IsMessage before.held × ((new ≡ old) ⊎ IsBegun before.held old new)
