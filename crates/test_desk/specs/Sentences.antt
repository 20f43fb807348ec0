-- What a run in memory promises that ends with `Done`, and from which progress.
-- Source: own (law).
use Rattle.std.specs.Prelude.{◌≡◌, List, ℕ, Ok, Option}
use Rattle.kmip_choices.specs.declared.trust.Trust.{Trust}
use Rattle.kmip_client.specs.Held.{Held}
use Rattle.kmip_client.specs.Verdicts.{counts_of}
use Rattle.kmip_client.specs.declared.knowledge.Knowledge.{Knowledge}
use Rattle.kmip_plan.specs.Reading.{plan_read}
use Rattle.kmip_plan.specs.declared.key.Key.{Key}
use Rattle.kmip_protocol.specs.Headline.{Safe}
use Rattle.kmip_protocol.specs.Past.{Past}
use Rattle.kmip_protocol.specs.Sound.{Sound}
use Rattle.kmip_run_command.specs.RunEnds.{begin_knowns}
use Rattle.kmip_runs.specs.Driving.{IsBorneOut}
use Rattle.kmip_runs.specs.Headline.{reported_by}
use Rattle.kmip_runs.specs.declared.stop.Stop.TheVariants.{AllFinished}
use Rattle.kmip_desk.specs.Beginnings.{progress_for}

-- What a progress that a run finds says of the plan is true of the server. All that has happened to it is sound for the
-- plan.
pub record IsTrueOf (plan : List ℕ) (trust : Trust) (found : Option (List ℕ)) (past : Past) : Type 0 where
  pub sound : (keys : List Key) → plan_read plan ≡ Ok keys → Sound keys past
  pub held : (keys : List Key) (knowns : List Knowledge) → plan_read plan ≡ Ok keys
      → begin_knowns keys (progress_for trust found) ≡ Ok knowns → Held past.objects keys knowns

-- The sentence holds of all that happened, for the plan that this text is, and each step that is reported done took
-- effect. Every key is finished.
pub record IsDoneSafely (plan : List ℕ) (past : Past) : Type 0 where
  pub keys : List Key
  -- The keys are those of the plan.
  pub plan_is : plan_read plan ≡ Ok keys
  pub knowns : List Knowledge
  -- Each key is finished by what is known of it.
  pub finished : IsBorneOut AllFinished keys knowns
  -- What happened is safe for the steps that are reported done.
  pub safe : Safe keys past (reported_by keys (counts_of knowns))
