-- What holds of the knowledge of a client at all times, whatever it hears.
-- Source: own (view, law).
use Rattle.std.specs.Prelude.{◌≡◌, ◌≢◌, ◌≤◌, ℕ, List, Option, Some, None}
use Rattle.kmip_client.specs.declared.knowledge.Knowledge.{Knowledge}
use Rattle.kmip_client.specs.declared.phase.Phase.{Phase}
use Rattle.kmip_client.specs.declared.phase.Phase.TheVariants.{Look, Make, Check, Go}

-- What has to be known in a phase: no identifier where the object is looked for or is to be made, and one
-- where it is checked. Where the next step is due, there is an identifier and a step is done. Own (view).
abbrev pub PhaseSuits : Phase → Option (List ℕ) → ℕ → Type 0
PhaseSuits Look uid done = uid ≡ None
PhaseSuits Make uid done = uid ≡ None
PhaseSuits Check uid done = uid ≢ None
PhaseSuits Go uid done = (uid ≢ None) × (1 ≤ done)

-- The identifier and the count are never taken back. Own (law).
pub record IsKept (old new : Knowledge) : Type 0 where
  pub identifier_kept : (uid : List ℕ) → old.identifier ≡ Some uid → new.identifier ≡ Some uid
  pub done_kept : old.done ≤ new.done
