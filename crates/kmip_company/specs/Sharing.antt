-- A link that another client of the plan uses too.
-- Source: own (view).
use Rattle.std.specs.Prelude.{◌++◌, ◌∷◌, ◌≡◌, ◌⊎◌, [], List, Option, Some, ℕ}
use Rattle.kmip_client.specs.Asking.{after_ask, next_question}
use Rattle.kmip_client.specs.Clients.{ClientState, NoneWorks}
use Rattle.kmip_client.specs.declared.question.Question.{Question}
use Rattle.kmip_company.specs.Safety.{IsMember}
use Rattle.kmip_plan.specs.declared.key.Key.{Key}
use Rattle.kmip_protocol.specs.Amid.{with_talk}
use Rattle.kmip_protocol.specs.Exchanges.{HandsOver}
use Rattle.kmip_protocol.specs.Past.{Names, Past, is_planned}
use Rattle.kmip_protocol.specs.Seen.{Seen}
use Rattle.kmip_protocol.specs.Turns.{taught}
use Rattle.kmip_scripted.specs.Scenes.{Scene, past_in}

-- What such a link holds: what the link in memory holds that both use, the other client, and what went over it itself.
pub record Sharing : Type 0 where
  pub scene : Scene
  pub other : ClientState
  pub sent : List (List ℕ)
  pub handed : List (Option (List ℕ))

-- All that has happened over it: all that both asked, were answered and did, and what it sent and handed over itself.
abbrev pub past_of : Sharing → Past
past_of s = with_talk s.sent s.handed (past_in s.scene)

-- The other client is one of the plan, and what it knows is true.
abbrev pub AreTogether : List Key → Sharing → Type 0
AreTogether keys s = IsMember keys (past_of s).objects s.other

-- What is seen of it. It is honest among others of the plan where both are of one plan, and honest for no names.
abbrev pub seen_of : Sharing → Seen
seen_of s = record {
  past = past_of s;
  honest = λ names. ⊥;
  amid = λ keys. AreTogether keys s;
  calm = λ names. ⊥;
  failures = 0;
  disturbances = record { disturbed = 0; requests = 0; strange = 0 };
  ended = [];
  calm_is_honest = λ names calm. calm;
  honest_is_amid = λ keys honest. absurd honest;
  may_fail = λ names calm. absurd calm;
  fewer = λ names few among. (λ honest. honest, λ calm. calm);
}

-- The client asks its next question over an honest link, and learns from the answer that it is exchanged for.
pub record AsksNext (c next : ClientState) (before after : Past) : Type 0 where
  pub question : Question
  pub answer : Option (List ℕ)
  pub question_is : next_question c ≡ Some question
  pub hands_over : HandsOver (is_planned c.keys) before question.bytes answer after
  pub next_is : next ≡ taught question answer (after_ask c)

-- A turn of the client: it asks its next question. If none of its keys is worked on, nothing happens.
abbrev pub TakesTurn : ClientState → ClientState → Past → Past → Type 0
TakesTurn c next before after =
    AsksNext c next before after ⊎ (NoneWorks c.keys c.knowns × (next ≡ c) × (after ≡ before))

-- An exchange over the shared link: this message is exchanged for its answer, and then the other client takes a turn.
pub record SharesExchange (request : List ℕ) (answer : Option (List ℕ)) (old new : Sharing) : Type 0 where
  -- the past after the first exchange, over the link in memory
  pub between : Past
  pub exchanged : (names : Names) → HandsOver names (past_in old.scene) request answer between
  pub turn : TakesTurn old.other new.other between (past_in new.scene)
  pub sent_are : new.sent ≡ old.sent ++ request ∷ []
  pub handed_are : new.handed ≡ old.handed ++ answer ∷ []

-- Exchanges of these messages over the shared link, one after the other.
abbrev pub AreShared : List (List ℕ) → Sharing → Sharing → Type 0
AreShared [] old new = new ≡ old
AreShared (request ∷ requests) old new =
    (answer : Option (List ℕ)) × (between : Sharing) × SharesExchange request answer old between × AreShared requests between new

-- What calls make of the shared link: after each of its exchanges the other client takes a turn.
pub record GoesOn (old new : Sharing) : Type 0 where
  pub requests : List (List ℕ)
  pub shared : AreShared requests old new
