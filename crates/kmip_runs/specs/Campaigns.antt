-- Runs on plans of which each prolongs the one before, the plans in turn.
-- Source: own (view); what is own (choice) says so.
use Rattle.std.specs.Prelude.{◌≡◌, ◌≢◌, ◌⊎◌, ◌≤◌, ◌<◌, ⊤, List, [], ◌∷◌, ◌++◌, ◌+◌, drop, filter, flat_map, length, map, take}
use Rattle.std.specs.List.{AllZip}
use Rattle.kmip_objects.specs.Objects.{Object}
use Rattle.kmip_plan.specs.Prolonging.{Prolongs}
use Rattle.kmip_plan.specs.declared.key.Key.{Key}
use Rattle.kmip_progress.specs.Suiting.{nothing_known}
use Rattle.kmip_progress.specs.declared.known.Known.{Known}
use Rattle.kmip_client.specs.Held.{TrueProgress}
use Rattle.kmip_protocol.specs.Past.{Past, is_planned}
use Rattle.kmip_protocol.specs.Seen.{Seen}
use Rattle.kmip_protocol.specs.Sound.{NoneIsFurther, Sound}
use Rattle.kmip_protocol.specs.Needs.{missing}
use Rattle.kmip_runs.specs.Campaign.{IsEnd, Settles, saves}
use Rattle.kmip_runs.specs.Remembering.{AreKnownFrom, Notes, noted_ends, noted_saves}
use Rattle.kmip_runs.specs.TurnedRuns.{AreTurnedFrom}
use Rattle.kmip_runs.specs.declared.run.Run.{Run}

-- each plan prolongs the one before it
abbrev pub AreProlonged : List (List Key) → Type 0
AreProlonged [] = ⊤
AreProlonged (keys ∷ []) = ⊤
AreProlonged (keys ∷ next ∷ plans) = Prolongs next keys × AreProlonged (next ∷ plans)

-- the first of the plans, and none of its keys where there is no plan
abbrev pub first_plan : List (List Key) → List Key
first_plan [] = []
first_plan (keys ∷ plans) = keys

-- the last of the plans, and none of its keys where there is no plan
abbrev pub last_plan : List (List Key) → List Key
last_plan [] = []
last_plan (keys ∷ []) = keys
last_plan (keys ∷ next ∷ plans) = last_plan (next ∷ plans)

-- The link is honest for the names of the last plan, and all that has happened over it is sound for the
-- first. No name that only later plans have is on an object.
pub record GoodStart (plans : List (List Key)) (link : Seen) : Type 0 where
  pub honest_for : link.honest (is_planned (last_plan plans))
  pub sound : Sound (first_plan plans) link.past
  pub none_further : NoneIsFurther (last_plan plans) (first_plan plans) link.past.objects

-- The link is calm for the names of the last plan, and all that has happened over it is sound for the first.
-- No name that only later plans have is on an object, and there is room for the objects that the last plan
-- misses.
pub record CalmStart (plans : List (List Key)) (link : Seen) : Type 0 where
  pub calm_for : link.calm (is_planned (last_plan plans))
  pub sound : Sound (first_plan plans) link.past
  pub none_further : NoneIsFurther (last_plan plans) (first_plan plans) link.past.objects
  pub roomy : length link.past.objects + missing (last_plan plans) link.past.objects ≤ link.past.room

-- what was saved under a plan, as its text is read for one that prolongs it: nothing is known of the further
-- keys. Own (choice).
abbrev pub carried_over : List Key → List Known → List Known
carried_over keys saved = saved ++ map (λ key. nothing_known) (drop (length saved) keys)

-- what was saved, carried over to a plan, is true of that plan
abbrev pub IsTrueFor : List Object → List Key → List Known → Type 0
IsTrueFor objects keys saved = TrueProgress objects keys (carried_over keys saved)

-- what may be premised of the link where the first run begins: that it is honest, and that all is calm
pub record Premises : Type 1 where
  pub honest : Type 0
  pub calm : Type 0

-- what is premised of this link for these plans
abbrev pub premises_of : List (List Key) → Seen → Premises
premises_of plans link = record { honest = link.honest (is_planned (last_plan plans)); calm = CalmStart plans link }

-- These runs were made on a plan, between two pasts, as in a campaign on this plan alone that finds what was
-- carried over to it.
pub record IsPart (keys : List Key) (carried : List (List Known)) (runs : List Run) (part : Notes) (premises : Premises) (whole : Type 0) (old new : Past) : Type 0 where
  pub order : AllZip (IsEnd keys) (take (length part.ends) runs) part.ends
  pub complete : whole → AllZip (IsEnd keys) runs part.ends × (length part.saved ≡ length (filter saves runs))
  pub known : AreKnownFrom keys carried runs part premises.honest whole old new
  -- each end shows what the turns of its run made of the client that it began with
  pub turned : AreTurnedFrom keys carried runs part.ends premises.honest whole old new
  pub settles : premises.calm → whole → AllZip (Settles keys) runs part.ends

-- The lists of runs were made on the plans in turn, the last of them whole or broken off. What was saved so
-- far is carried over to each plan.
abbrev pub AreParts : List (List Key) → List (List Run) → List (List Known) → List Notes → Premises → Type 0 → Past → Past → Type 0
AreParts plans runs saved [] premises whole old new = (whole → plans ≡ []) × (old ≡ new)
AreParts [] runs saved (part ∷ parts) premises whole old new = ⊥
AreParts (keys ∷ plans) [] saved (part ∷ parts) premises whole old new = ⊥
AreParts (keys ∷ plans) (list ∷ runs) saved (part ∷ parts) premises whole old new =
    (between : Past) × IsPart keys (map (carried_over keys) saved) list part premises (whole ⊎ (parts ≢ [])) old between
    × AreParts plans runs (saved ++ part.saved) parts premises whole between new

-- the last of these parts has fewer ends than its list has runs
abbrev pub LastIsShort : List (List Run) → List Notes → Type 0
LastIsShort runs [] = ⊥
LastIsShort [] (part ∷ parts) = ⊥
LastIsShort (list ∷ runs) (part ∷ []) = length part.ends < length list
LastIsShort (list ∷ runs) (part ∷ next ∷ parts) = LastIsShort runs (next ∷ parts)

-- What is noted is what the runs on the plans noted, one plan after the other. Where memory ran out, the last
-- part lacks an end, or there are fewer parts than plans.
pub record AreInTurn (plans : List (List Key)) (runs : List (List Run)) (notes : Notes) (premises : Premises) (whole : Type 0) (old new : Past) : Type 0 where
  pub parts : List Notes
  pub ends_are : notes.ends ≡ flat_map noted_ends parts
  pub saved_are : notes.saved ≡ flat_map noted_saves parts
  pub each : AreParts plans runs [] parts premises whole old new
  pub broken : (whole → ⊥) → (length parts < length plans) ⊎ LastIsShort runs parts
