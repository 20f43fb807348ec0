-- What holds of all that may happen between a client and its server.
-- Source: own (law).
use Rattle.std.specs.Prelude.{◌≡◌, ◌≢◌, ◌≤◌, ℕ, Bool, true, List, ◌∷◌, ◌++◌, None, Option, Result, Some}
use Rattle.std.specs.List.{All, Contains}
use Rattle.kmip_batch_items.specs.declared.reply.Reply.{Reply}
use Rattle.kmip_objects.specs.Objects.{Object, DistinctNames, DistinctUids}
use Rattle.kmip_batch_items.specs.declared.outcome.Outcome.{Outcome}
use Rattle.kmip_batch_items.specs.declared.ask.Ask.{Ask}
use Rattle.kmip_server.specs.ServerStep.{ServerStep}
use Rattle.kmip_plan.specs.Chains.{step_place}
use Rattle.kmip_plan.specs.Plans.{IsLawful, IsPlanned, key_fits}
use Rattle.kmip_plan.specs.Prolonging.{Prolongs}
use Rattle.kmip_plan.specs.declared.key.Key.{Key}
use Rattle.kmip_client.specs.Places.{Onward, position}
use Rattle.kmip_client.specs.Truth.{TrueMessage}
use Rattle.kmip_batch_items.specs.declared.refusal.Refusal.{Refusal}
use Rattle.kmip_batch_items.specs.declared.request.Request.{Request}
use Rattle.kmip_protocol.specs.Calm.{AreTaken, CalmlyExchanged}
use Rattle.kmip_server.specs.declared.effect.Effect.{Effect}
use Rattle.kmip_protocol.specs.declared.link_fault.LinkFault.{LinkFault}
use Rattle.kmip_protocol.specs.Exchanges.{AreGiven, Exchanged, with_asked, with_requests}
use Rattle.kmip_protocol.specs.Machine.{IsMirrored}
use Rattle.kmip_server.specs.Effects.{effect_of}
use Rattle.kmip_protocol.specs.Moves.{Delivered, Joins}
use Rattle.kmip_protocol.specs.Past.{AreAmong, Past, Names, is_planned}
use Rattle.kmip_protocol.specs.Headline.{Safe, step_of_ask}
use Rattle.kmip_protocol.specs.Sound.{AreJustified, HarmlessMessage, IsHarmless, IsOfPlan, IsOutside, NoneIsFurther, Opening}
use Rattle.kmip_protocol.specs.Sound.{Sound}

-- from a sound past, whatever happens, the objects go onward for each key
abbrev pub ObjectsGoOnward : Type 0
ObjectsGoOnward =
    (keys : List Key) (old new : Past) → Sound keys old → Delivered (is_planned keys) old new
    → Onward keys old.objects new.objects

-- from a sound past, whatever happens, the past after it is sound
abbrev pub DeliveriesKeepSound : Type 0
DeliveriesKeepSound =
    (keys : List Key) (old new : Past) → Sound keys old → Delivered (is_planned keys) old new → Sound keys new

-- a past stays sound when requests join those asked, if each of them may be asked or is outside the plan
abbrev pub AskingKeepsSound : Type 0
AskingKeepsSound =
    (keys : List Key) (p : Past) (requests : List Request) → Sound keys p → All (IsHarmless keys p.objects) requests
    → Sound keys (with_requests requests p)

-- an exchange over an honest link keeps a past sound where its requests may be asked, whether it has an
-- answer or not, and the objects go onward in it
abbrev pub ExchangesKeepSound : Type 0
ExchangesKeepSound =
    (keys : List Key) (old new : Past) (sent : List ℕ) (answer : Result (Option (List ℕ)) LinkFault) → Sound keys old
    → HarmlessMessage keys old.objects sent → Exchanged (is_planned keys) old sent answer new
    → Sound keys new × Onward keys old.objects new.objects

-- of a sound past, a message whose replies were all given is true
abbrev pub AnswersAreTrue : Type 0
AnswersAreTrue =
    (keys : List Key) (p : Past) (given : List ℕ) → Sound keys p → AreGiven p given → TrueMessage keys p.objects given

-- where nothing of the plan has happened, the past is sound
abbrev pub NothingDoneIsSound : Type 0
NothingDoneIsSound = (keys : List Key) (p : Past) → Opening keys p → Sound keys p

-- the step is one of those that the key's object has come to
abbrev pub IsReached : List Key → Past → Effect → Type 0
IsReached keys p effect =
    (key : Key) × IsPlanned keys key × (effect.name ≡ key.attrs.name) × (1 ≤ step_place key.target effect.step)
    × (step_place key.target effect.step ≤ position key p.objects)

-- a sound past is safe, where each step that is reported done was reached
abbrev pub SoundIsSafe : Type 0
SoundIsSafe =
    (keys : List Key) (p : Past) (reported : List Effect) → Sound keys p → All (IsReached keys p) reported → Safe keys p reported

-- where nothing of the plan has happened, the past is an image of a run of the plan machine
abbrev pub OpeningIsMirrored : Type 0
OpeningIsMirrored = (keys : List Key) (p : Past) → Opening keys p → IsMirrored keys p

-- an image stays one when the requests of a message join those asked, where each of them may be asked
abbrev pub AskingKeepsTheImage : Type 0
AskingKeepsTheImage =
    (keys : List Key) (p : Past) (sent : List ℕ) → IsMirrored keys p → HarmlessMessage keys p.objects sent
    → IsMirrored keys (with_asked sent p)

-- from a sound past that is an image, whatever happens, the past after it is an image
abbrev pub DeliveriesKeepTheImage : Type 0
DeliveriesKeepTheImage =
    (keys : List Key) (old new : Past) → Sound keys old → IsMirrored keys old → Delivered (is_planned keys) old new
    → IsMirrored keys new

-- an exchange over an honest link keeps a sound past an image, where its requests may be asked
abbrev pub ExchangesKeepTheImage : Type 0
ExchangesKeepTheImage =
    (keys : List Key) (old new : Past) (sent : List ℕ) (answer : Result (Option (List ℕ)) LinkFault) → Sound keys old
    → IsMirrored keys old → HarmlessMessage keys old.objects sent → Exchanged (is_planned keys) old sent answer new
    → IsMirrored keys new

-- what may happen in turn may happen in one
abbrev pub DeliveriesJoin : Type 0
DeliveriesJoin =
    (names : Names) (first second third : Past) → Delivered names first second → Delivered names second third
    → Delivered names first third

-- nothing may happen
abbrev pub NothingIsDelivered : Type 0
NothingIsDelivered = (names : Names) (p : Past) → Delivered names p p

-- The room stays, and nothing is asked, sent or handed over. Replies and effects join at the end, and no
-- reply is lost.
pub record Grows (old new : Past) : Type 0 where
  pub room : new.room ≡ old.room
  pub requests : new.requests ≡ old.requests
  pub sent : new.sent ≡ old.sent
  pub handed : new.handed ≡ old.handed
  pub replies : (more : List Reply) × (new.replies ≡ old.replies ++ more)
  pub effects : (more : List Effect) × (new.effects ≡ old.effects ++ more)
  pub given : (reply : Reply) → Contains old.replies reply → Contains new.replies reply

-- whatever happens, the room and the requests stay, and replies and effects only grow
abbrev pub DeliveriesKeepTheRequests : Type 0
DeliveriesKeepTheRequests = (names : Names) (old new : Past) → Delivered names old new → Grows old new

-- what happens beside these names happens beside fewer
abbrev pub FewerNamesAreDelivered : Type 0
FewerNamesAreDelivered =
    (names fewer : Names) (old new : Past) → AreAmong fewer names → Delivered names old new → Delivered fewer old new

-- the names of a plan are among those of each that prolongs it
abbrev pub NamesOfProlonged : Type 0
NamesOfProlonged = (new old : List Key) → IsLawful new → Prolongs new old → AreAmong (is_planned old) (is_planned new)

-- what is sound for a plan is sound for each that prolongs it, where none of the further names is on an
-- object
abbrev pub SoundOfProlonged : Type 0
SoundOfProlonged =
    (new old : List Key) (p : Past) → IsLawful old → IsLawful new → Prolongs new old → NoneIsFurther new old p.objects → Sound old p
    → Sound new p

-- what is sound for a plan, and for one that prolongs it by way of a third, is sound for the third
abbrev pub SoundBetween : Type 0
SoundBetween =
    (last next keys : List Key) (p : Past) → IsLawful keys → IsLawful next → IsLawful last → Prolongs next keys → Prolongs last next
    → Sound keys p → Sound last p → Sound next p

-- what asks for no step, under an id that no key may have, is outside each plan
abbrev pub StrangeIsOutside : Type 0
StrangeIsOutside =
    (keys : List Key) (request : Request) → IsLawful keys → step_of_ask request.ask ≡ None
    → ((operation : ℕ) (key : Key) → key_fits key ≡ true → request.id ≢ Some (operation ∷ key.attrs.name)) → IsOutside keys request

-- of a sound past, if each request has the id of a key of the plan, each may be asked still
abbrev pub SoundIsJustified : Type 0
SoundIsJustified = (keys : List Key) (p : Past) → Sound keys p → All (IsOfPlan keys) p.requests → AreJustified keys p

-- what a calm link does, an honest one may do
abbrev pub CalmExchangesAreHonest : Type 0
CalmExchangesAreHonest =
    (names : Names) (old new : Past) (sent : List ℕ) (answer : Result (Option (List ℕ)) LinkFault)
    → CalmlyExchanged names old sent answer new → Exchanged names old sent answer new

-- questions that are taken in turn are things that may happen
abbrev pub TakenIsDelivered : Type 0
TakenIsDelivered =
    (names : Names) (stops : Bool) (parts : List (Result Request Refusal)) (replies : List Reply) (old new : Past)
    → AreTaken stops parts replies old new → Delivered names old new

-- what a question that is served does is how the object of each name has changed
abbrev pub WhatIsDoneJoins : Type 0
WhatIsDoneJoins =
    (room : ℕ) (old new : List Object) (ask : Ask) (outcome : Outcome) → DistinctNames old → DistinctUids old
    → ServerStep room old ask outcome new → Joins old new (effect_of old ask outcome)

-- What holds of all that may happen between a client and its server.
pub record ExchangeLaws : Type 0 where
  pub onward : ObjectsGoOnward
  pub deliveries : DeliveriesKeepSound
  pub asking : AskingKeepsSound
  pub exchanges : ExchangesKeepSound
  pub answers : AnswersAreTrue
  pub begins : NothingDoneIsSound
  pub safe : SoundIsSafe
  pub opening : OpeningIsMirrored
  pub image_asked : AskingKeepsTheImage
  pub image_delivered : DeliveriesKeepTheImage
  pub image_exchanged : ExchangesKeepTheImage
  pub join : DeliveriesJoin
  pub nothing : NothingIsDelivered
  pub requests_stay : DeliveriesKeepTheRequests
  pub fewer_names : FewerNamesAreDelivered
  pub names_of_prolonged : NamesOfProlonged
  pub sound_of_prolonged : SoundOfProlonged
  pub sound_between : SoundBetween
  pub outside : StrangeIsOutside
  pub justified : SoundIsJustified
  pub calm_is_honest : CalmExchangesAreHonest
  pub taken : TakenIsDelivered
  pub joins : WhatIsDoneJoins
