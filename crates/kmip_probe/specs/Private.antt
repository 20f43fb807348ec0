-- Private: definitions that only clauses of private functions cite.
-- Source: own (view): parts of the public definitions of this crate.
use Rattle.std.specs.Prelude.{◌≡◌, ◌⊎◌, ℕ, List, [], ◌∷◌, ◌++◌, replicate, Option, Some, None, option_and_then}
use Rattle.kmip_ttlv.specs.Spelling.{canon}
use Rattle.kmip_messages.specs.Written.{requests_item}
use Rattle.kmip_batch_items.specs.declared.outcome.Outcome.{Outcome}
use Rattle.kmip_batch_items.specs.declared.request.Request.{Request}
use Rattle.kmip_batch_items.specs.declared.reply.Reply.{Reply}
use Rattle.kmip_protocol.specs.Moves.{HasFailed}
use Rattle.kmip_protocol.specs.Past.{Past}
use Rattle.kmip_server.specs.ServerStep.{ServerStep}
use Rattle.kmip_probe.specs.Answers.{answer_with}
use Rattle.kmip_probe.specs.Asking.{IsNext, IsPut, message_after, next_inquiry, request_for}
use Rattle.kmip_probe.specs.declared.answer.Answer.{Answer}
use Rattle.kmip_probe.specs.declared.answer.Answer.TheVariants.{Nothing, Told}

-- The message was sent this many times, and each time no reply came
pub record HasLost (message : List ℕ) (count : ℕ) (old new : Past) : Type 0 where
  pub sent : new.sent ≡ old.sent ++ replicate count message
  pub handed : new.handed ≡ old.handed ++ replicate count None

-- The message was put over the link, and this was handed over for it at last
pub record HasPut (most : ℕ) (message : List ℕ) (given : Option (List ℕ)) (old new : Past) : Type 0 where
  pub messages : List (List ℕ)
  pub sent : new.sent ≡ old.sent ++ messages
  pub answers : List (Option (List ℕ))
  pub handed : new.handed ≡ old.handed ++ answers
  pub put : IsPut most message given messages answers

-- The message was put over the link, and the answer is what was handed over for it says
pub record HasSent (most : ℕ) (message : List ℕ) (says : Option (List ℕ) → Answer) (answer : Answer) (old new : Past) : Type 0 where
  pub given : Option (List ℕ)
  pub put : HasPut most message given old new
  pub answer_is : answer ≡ says given

-- The server has taken a step for the request, and the answer is what its reply says
pub record HasReplied (request : Request) (number : ℕ) (prefix : List ℕ) (answer : Answer) (old new : Past) : Type 0 where
  pub reply : Reply
  pub step : ServerStep old.room old.objects request.ask reply.outcome new.objects
  pub id_is : (reply.id ≡ request.id) ⊎ ((reply.id ≡ None) × HasFailed reply.outcome)
  pub answer_is : answer ≡ answer_with number prefix reply.id reply.outcome
  pub room_is : new.room ≡ old.room
  pub sent_once : new.sent ≡ old.sent ++ canon (requests_item (request ∷ [])) ∷ []

-- One more question was asked, where it can be, and this is its answer
pub record HasAsked (prefix : List ℕ) (before : List Answer) (answer : Answer) (old new : Past) : Type 0 where
  pub messages : List (List ℕ)
  pub sent : new.sent ≡ old.sent ++ messages
  pub given : List (Option (List ℕ))
  pub handed : new.handed ≡ old.handed ++ given
  pub next : IsNext prefix before (message_after prefix before) answer messages given

-- The server has taken a step for the request, which the answer tells; none where there is no request
abbrev pub HasServed : Option Request → Answer → Past → Past → Type 0
HasServed None answer old new = (answer ≡ Nothing) × (new ≡ old)
HasServed (Some request) answer old new =
    (outcome : Outcome) × ServerStep old.room old.objects request.ask outcome new.objects × (answer ≡ Told outcome) × (new.room ≡ old.room)

-- The server has taken a step for the question that follows these answers, which the answer tells
abbrev pub HasServedNext : List ℕ → List Answer → Answer → Past → Past → Type 0
HasServedNext prefix before answer old new = HasServed (option_and_then (request_for prefix before) (next_inquiry before)) answer old new
