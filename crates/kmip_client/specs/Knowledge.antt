-- What is known of a key, and the verdict on it.
-- Source: own (choice).
use Rattle.std.specs.Prelude.{ℕ, Bool, ◌&&◌, not, nat_lt, nat_le, List, length, Option, Some, None, if◌then◌else◌}
use Rattle.std.specs.Option.{is_some}
use Rattle.kmip_plan.specs.Chains.{chain}
use Rattle.kmip_plan.specs.declared.key.Key.{Key}
use Rattle.kmip_client.specs.declared.clash.Clash.{Clash}
use Rattle.kmip_client.specs.declared.knowledge.Knowledge.{Knowledge}
use Rattle.kmip_client.specs.declared.phase.Phase.{Phase}
use Rattle.kmip_client.specs.declared.phase.Phase.TheVariants as phases
use Rattle.kmip_client.specs.declared.verdict.Verdict.{Verdict}
use Rattle.kmip_client.specs.declared.verdict.Verdict.TheVariants.{Working, Finished, Conflict}

-- How many steps lead to the key's target.
abbrev pub chain_length : Key → ℕ
chain_length key = length (chain key.target)

-- What is known of a key before anything was heard: nothing. It is to be looked for by its name.
abbrev pub fresh_knowledge : Knowledge
fresh_knowledge = record { identifier = None; done = 0; phase = phases.Look; clash = None }

-- How a key is looked at again: by its name, or by its identifier where that is known.
abbrev pub lost_phase : Option (List ℕ) → Phase
lost_phase None = phases.Look
lost_phase (Some uid) = phases.Check

-- What is known of a key once an answer did not come: it is looked at again, and nothing else changes.
abbrev pub lose : Knowledge → Knowledge
lose known = record known { phase = lost_phase known.identifier }

-- More is to be asked about the key: a step is not known to be done, and no clash was found.
abbrev pub is_working : Key → Knowledge → Bool
is_working key known = nat_lt known.done (chain_length key) && not (is_some known.clash)

-- A key that is not finished is in conflict where a clash was found, and else worked on.
abbrev pub clash_verdict : Option Clash → Verdict
clash_verdict None = Working
clash_verdict (Some clash) = Conflict clash

-- The verdict on a key: finished once all its steps are known to be done, else in conflict or worked on.
abbrev pub verdict_of : Key → Knowledge → Verdict
verdict_of key known = if nat_le (chain_length key) known.done then Finished else clash_verdict known.clash
