-- What holds of clients that settle over a calm link.
-- Source: own (law); `NoneIsMade` is own (view).
use Rattle.std.specs.Prelude.{◌≡◌, ◌≤◌, ◌<◌, ℕ, ◌+◌, List, length, Option, Some, None, Ok, slice_get}
use Rattle.kmip_objects.specs.Objects.{Object, object_named}
use Rattle.kmip_plan.specs.Chains.{bound}
use Rattle.kmip_plan.specs.Plans.{IsLawful, IsPlanned}
use Rattle.kmip_plan.specs.Prolonging.{Prolongs}
use Rattle.kmip_plan.specs.declared.key.Key.{Key}
use Rattle.kmip_client.specs.declared.knowledge.Knowledge.{Knowledge}
use Rattle.kmip_client.specs.declared.verdict.Verdict.TheVariants.{Finished}
use Rattle.kmip_client.specs.declared.question.Question.{Question}
use Rattle.kmip_client.specs.Asking.{IsAbout}
use Rattle.kmip_client.specs.Clients.{fresh, verdict_at, AreSettled}
use Rattle.kmip_client.specs.Held.{Held}
use Rattle.kmip_client.specs.Knowledge.{chain_length}
use Rattle.kmip_client.specs.Places.{position}
use Rattle.kmip_protocol.specs.Calm.{CalmlyExchanged}
use Rattle.kmip_protocol.specs.Past.{Past, Names}
use Rattle.kmip_protocol.specs.Sound.{Sound}
use Rattle.kmip_protocol.specs.Needs.{need_all, chains_and_looks, missing}
use Rattle.kmip_protocol.specs.Ready.{IsReady}
use Rattle.kmip_protocol.specs.Turns.{known_then}

-- a client that knows the truth of a sound past is ready, where there is room for the objects that are
-- missing
abbrev pub SoundIsReady : Type 0
SoundIsReady =
    (keys : List Key) (p : Past) (knowns : List Knowledge) → Sound keys p → Held p.objects keys knowns
    → length p.objects + missing keys p.objects ≤ p.room → IsReady p.room keys p.objects knowns

-- none of the keys has an object
abbrev pub NoneIsMade : List Key → List Object → Type 0
NoneIsMade keys objects = (key : Key) → IsPlanned keys key → object_named key.attrs.name objects ≡ None

-- a client that knows nothing is ready, where none of the keys has an object, and there is room for all
abbrev pub NothingMadeIsReady : Type 0
NothingMadeIsReady =
    (keys : List Key) (room : ℕ) (objects : List Object) → IsLawful keys → NoneIsMade keys objects
    → length objects + length keys ≤ room → IsReady room keys objects (fresh keys).knowns

-- a client that knows nothing needs the chain of each key and one look before it, where none of them has an
-- object
abbrev pub NothingMadeNeedsTheChains : Type 0
NothingMadeNeedsTheChains =
    (keys : List Key) (objects : List Object) → IsLawful keys → NoneIsMade keys objects
    → need_all keys (fresh keys).knowns objects ≡ chains_and_looks keys

-- after a message over a calm link the client is ready still, and its keys need one question less for each
-- key that it asks about
abbrev pub CalmTurnsAreNearer : Type 0
CalmTurnsAreNearer =
    (keys : List Key) (names : Names) (old new : Past) (knowns : List Knowledge) (places : List ℕ) (question : Question) (answer : Option (List ℕ))
    → IsLawful keys → IsReady old.room keys old.objects knowns → IsAbout keys knowns places question
    → CalmlyExchanged names old question.bytes (Ok answer) new
    → IsReady new.room keys new.objects (known_then keys question answer knowns)
    × (need_all keys (known_then keys question answer knowns) new.objects + length places ≡ need_all keys knowns old.objects)

-- where there is room for what a plan misses that prolongs the client's, there is room for it after a message
-- over a calm link too
abbrev pub RoomIsLeft : Type 0
RoomIsLeft =
    (further keys : List Key) (names : Names) (old new : Past) (knowns : List Knowledge) (places : List ℕ) (question : Question)
    (answer : Option (List ℕ)) → IsLawful keys → IsLawful further → Prolongs further keys → Sound further old
    → IsReady old.room keys old.objects knowns → IsAbout keys knowns places question
    → CalmlyExchanged names old question.bytes (Ok answer) new
    → length old.objects + missing further old.objects ≤ old.room → length new.objects + missing further new.objects ≤ new.room

-- a plan that prolongs another misses no fewer objects than that
abbrev pub ProlongedMissNoLess : Type 0
ProlongedMissNoLess = (new old : List Key) (objects : List Object) → Prolongs new old → missing old objects ≤ missing new objects

-- a client that is ready needs at most the bound of its plan
abbrev pub NeedsAreBounded : Type 0
NeedsAreBounded =
    (room : ℕ) (keys : List Key) (objects : List Object) (knowns : List Knowledge) → IsLawful keys → IsReady room keys objects knowns
    → need_all keys knowns objects ≤ bound keys

-- where what is known is true and nothing is needed, each key is finished
abbrev pub WhoNeedsNothingIsFinished : Type 0
WhoNeedsNothingIsFinished =
    (keys : List Key) (objects : List Object) (knowns : List Knowledge) → Held objects keys knowns → need_all keys knowns objects ≡ 0
    → (place : ℕ) → place < length keys → verdict_at keys knowns place ≡ Finished

-- where what is known is true and no key is worked on, nothing is needed
abbrev pub WhoIsSettledNeedsNothing : Type 0
WhoIsSettledNeedsNothing =
    (keys : List Key) (objects : List Object) (knowns : List Knowledge) → Held objects keys knowns → AreSettled keys knowns
    → need_all keys knowns objects ≡ 0

-- where what is known is true, the object of a key that is finished has had all steps of its chain
abbrev pub TheFinishedStandAtTheEnd : Type 0
TheFinishedStandAtTheEnd =
    (keys : List Key) (objects : List Object) (knowns : List Knowledge) → IsLawful keys → Held objects keys knowns
    → (place : ℕ) (key : Key) → slice_get keys place ≡ Some key → verdict_at keys knowns place ≡ Finished
    → position key objects ≡ chain_length key

-- where what is known is true, a key that is finished has an object
abbrev pub TheFinishedAreThere : Type 0
TheFinishedAreThere =
    (keys : List Key) (objects : List Object) (knowns : List Knowledge) → IsLawful keys → Held objects keys knowns
    → (place : ℕ) (key : Key) → slice_get keys place ≡ Some key → verdict_at keys knowns place ≡ Finished
    → (o : Object) × (object_named key.attrs.name objects ≡ Some o)

-- What holds of clients that settle over a calm link.
pub record SettlingLaws : Type 0 where
  pub ready : SoundIsReady
  pub untouched : NothingMadeIsReady
  pub chains : NothingMadeNeedsTheChains
  pub nearer : CalmTurnsAreNearer
  pub room : RoomIsLeft
  pub less : ProlongedMissNoLess
  pub bounded : NeedsAreBounded
  pub needless : WhoNeedsNothingIsFinished
  pub needed : WhoIsSettledNeedsNothing
  pub at_end : TheFinishedStandAtTheEnd
  pub there : TheFinishedAreThere
