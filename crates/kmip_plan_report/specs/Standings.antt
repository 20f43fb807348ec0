-- How the keys of a plan stand, by what is known of them and the verdicts on them.
-- Source: own (view).
use Rattle.std.specs.Prelude.{List, [], ◌∷◌}
use Rattle.kmip_plan.specs.declared.key.Key.{Key}
use Rattle.kmip_progress.specs.declared.known.Known.{Known}
use Rattle.kmip_client.specs.declared.verdict.Verdict.{Verdict}
use Rattle.kmip_plan_report.specs.declared.key_standing.KeyStanding.{KeyStanding}

-- How a key of a plan stands.
pub record Standing : Type 0 where
  -- The key.
  pub key : Key
  -- What is known of it.
  pub known : Known
  -- The verdict on it.
  pub verdict : Verdict

-- The standing of these parts.
abbrev pub standing : Key → Known → Verdict → Standing
standing key known verdict = record { key = key; known = known; verdict = verdict }

-- The standing that a program holds by references.
abbrev pub standing_of : KeyStanding → Standing
standing_of held = standing held.key.now held.known.now held.verdict

-- How each key stands, in the order of the plan, up to where one of the three lists ends.
abbrev pub standings : List Key → List Known → List Verdict → List Standing
standings [] knowns verdicts = []
standings (key ∷ keys) [] verdicts = []
standings (key ∷ keys) (known ∷ knowns) [] = []
standings (key ∷ keys) (known ∷ knowns) (verdict ∷ verdicts) = standing key known verdict ∷ standings keys knowns verdicts
