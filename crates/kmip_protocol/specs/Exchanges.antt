-- What an exchange over an honest link does to the past: one that loses, repeats and delays what it likes,
-- and invents nothing.
-- Source: own (view), over KMIP 2.1, Message Structure. What an honest link may do is own (choice).
use Rattle.std.specs.Prelude.{◌≡◌, ◌⊎◌, ℕ, List, [], ◌∷◌, ◌++◌, Option, None, Result, Ok, Err, IfSome}
use Rattle.std.specs.List.{All, Contains}
use Rattle.std.specs.Option.{option_map}
use Rattle.kmip_messages.specs.Items.{requests_in, replies_in}
use Rattle.kmip_batch_items.specs.declared.request.Request.{Request}
use Rattle.kmip_protocol.specs.declared.link_fault.LinkFault.{LinkFault}
use Rattle.kmip_protocol.specs.declared.link_fault.LinkFault.TheVariants.{Io, Frame, NoMemory}
use Rattle.kmip_protocol.specs.Moves.{Delivered}
use Rattle.kmip_protocol.specs.Past.{Past, Names}

-- more requests were asked
abbrev pub with_requests : List Request → Past → Past
with_requests requests p = record p { requests = p.requests ++ requests }

-- the requests of one more message were asked
abbrev pub with_asked : List ℕ → Past → Past
with_asked sent p = with_requests (requests_in sent) p

-- one more exchange was made: these bytes were sent, and an answer was handed over, a message or none for a
-- loss
abbrev pub with_exchange : List ℕ → Option (List ℕ) → Past → Past
with_exchange sent answer p = record p { sent = p.sent ++ sent ∷ []; handed = p.handed ++ answer ∷ [] }

-- the replies of the message were all given some time
abbrev pub AreGiven : Past → List ℕ → Type 0
AreGiven p given = All (Contains p.replies) (replies_in given)

-- The requests of a message join those asked, things happen, and an answer is handed over: none, or a message
-- whose replies were all given some time.
pub record HandsOver (names : Names) (old : Past) (sent : List ℕ) (answer : Option (List ℕ)) (new : Past) : Type 0 where
  pub between : Past
  pub delivered : Delivered names (with_asked sent old) between
  pub given : IfSome answer (AreGiven between)
  pub is : new ≡ with_exchange sent answer between

-- what a call answered, its message as bytes
abbrev pub answer_in : {V : Type 0} → (V → List ℕ) → Result (Option V) LinkFault → Result (Option (List ℕ)) LinkFault
answer_in bytes (Ok answer) = Ok (option_map bytes answer)
answer_in bytes (Err fault) = Err fault

-- what an exchange over an honest link does, by what the call returned; where memory ran out, a beginning of
-- it
abbrev pub Exchanged : Names → Past → List ℕ → Result (Option (List ℕ)) LinkFault → Past → Type 0
Exchanged names old sent (Ok answer) new = HandsOver names old sent answer new
Exchanged names old sent (Err Io) new = HandsOver names old sent None new
Exchanged names old sent (Err Frame) new = HandsOver names old sent None new
Exchanged names old sent (Err NoMemory) new = Delivered names old new ⊎ Delivered names (with_asked sent old) new
