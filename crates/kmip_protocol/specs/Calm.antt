-- What an exchange over a calm link does to the past, one that loses and repeats nothing.
-- Source: own (choice), over KMIP 2.1, Message Structure, Batch Error Continuation Option; Operations.
use Rattle.std.specs.Prelude.{◌≡◌, ◌⊎◌, ℕ, Bool, true, false, ◌&&◌, List, [], ◌∷◌, Option, Some, Result, Ok, Err}
use Rattle.kmip_messages.specs.Items.{parts_in, stops_in, replies_in}
use Rattle.kmip_objects.specs.Objects.{Object}
use Rattle.kmip_batch_items.specs.declared.refusal.Refusal.{Refusal}
use Rattle.kmip_batch_items.specs.declared.reply.Reply.{Reply}
use Rattle.kmip_batch_items.specs.declared.request.Request.{Request}
use Rattle.kmip_server.specs.Again.{has_failed}
use Rattle.kmip_server.specs.declared.effect.Effect.{Effect}
use Rattle.kmip_protocol.specs.declared.link_fault.LinkFault.{LinkFault}
use Rattle.kmip_protocol.specs.declared.link_fault.LinkFault.TheVariants.{Io, Frame, NoMemory}
use Rattle.kmip_protocol.specs.Exchanges.{with_asked, with_exchange}
use Rattle.kmip_protocol.specs.Moves.{Serve, Refuse, after_move, HasFailed, Serves, Delivered}
use Rattle.kmip_protocol.specs.Past.{Past, Names}

-- A request is served, and nothing else happens.
pub record IsServed (request : Request) (reply : Reply) (old new : Past) : Type 0 where
  pub objects : List Object
  pub joined : Option Effect
  pub serves : Serves old request reply objects joined
  pub is : new ≡ after_move (Serve request reply objects joined) old

-- A question that is none is refused, and nothing else happens.
pub record IsRefused (reply : Reply) (old new : Past) : Type 0 where
  pub failed : HasFailed reply.outcome
  pub is : new ≡ after_move (Refuse reply) old

-- a question is taken: a request is served, what is none is refused
abbrev pub IsTaken : Result Request Refusal → Reply → Past → Past → Type 0
IsTaken (Ok request) reply old new = IsServed request reply old new
IsTaken (Err refusal) reply old new = IsRefused reply old new

-- These questions are taken in turn, each once, with these replies. Where a failure stops them, those after
-- the first failure are left.
abbrev pub AreTaken : Bool → List (Result Request Refusal) → List Reply → Past → Past → Type 0
AreTaken stops [] [] old new = new ≡ old
AreTaken stops [] (reply ∷ replies) old new = ⊥
AreTaken stops (part ∷ parts) [] old new = ⊥
AreTaken stops (part ∷ parts) (reply ∷ replies) old new =
    (between : Past) × IsTaken part reply old between
    × ((((stops && has_failed reply.outcome) ≡ true) × (replies ≡ []) × (new ≡ between))
    ⊎ (((stops && has_failed reply.outcome) ≡ false) × AreTaken stops parts replies between new))

-- The requests of a message join those asked, it is served once, question by question, and its reply is
-- handed over.
pub record Calmly (old : Past) (sent : List ℕ) (answer : Option (List ℕ)) (new : Past) : Type 0 where
  pub given : List ℕ
  pub between : Past
  pub taken : AreTaken (stops_in sent) (parts_in sent) (replies_in given) (with_asked sent old) between
  pub answer_is : answer ≡ Some given
  pub is : new ≡ with_exchange sent answer between

-- what an exchange over a calm link does, by what the call returned; where memory ran out, what an honest
-- link may do
abbrev pub CalmlyExchanged : Names → Past → List ℕ → Result (Option (List ℕ)) LinkFault → Past → Type 0
CalmlyExchanged names old sent (Ok answer) new = Calmly old sent answer new
CalmlyExchanged names old sent (Err Io) new = ⊥
CalmlyExchanged names old sent (Err Frame) new = ⊥
CalmlyExchanged names old sent (Err NoMemory) new = Delivered names old new ⊎ Delivered names (with_asked sent old) new

-- what the end of a run over a calm link does: nothing, unless memory ran out
abbrev pub CalmlyEnded : {V : Type 0} → Names → Result V LinkFault → Past → Past → Type 0
CalmlyEnded names (Ok done) old new = new ≡ old
CalmlyEnded names (Err Io) old new = ⊥
CalmlyEnded names (Err Frame) old new = ⊥
CalmlyEnded names (Err NoMemory) old new = Delivered names old new
