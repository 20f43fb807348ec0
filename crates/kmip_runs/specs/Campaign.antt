-- Runs in turn: what their ends report, and what is to hold of each end.
-- Source: own (view); what is own (limit) says so.
use Rattle.std.specs.Prelude.{◌≡◌, ◌≢◌, ◌≤◌, ℕ, ⊤, Bool, List, [], ◌∷◌, ◌+◌, length, string_bytes, IsTrue}
use Rattle.std.specs.List.{All, Contains}
use Rattle.kmip_messages.specs.Members.{may_have}
use Rattle.kmip_plan.specs.Chains.{bound}
use Rattle.kmip_plan.specs.declared.key.Key.{Key}
use Rattle.kmip_client.specs.Knowledge.{chain_length}
use Rattle.kmip_client.specs.declared.clash.Clash.{Clash}
use Rattle.kmip_client.specs.declared.verdict.Verdict.{Verdict}
use Rattle.kmip_client.specs.declared.verdict.Verdict.TheVariants.{Working, Finished, Conflict}
use Rattle.kmip_protocol.specs.Past.{is_planned}
use Rattle.kmip_protocol.specs.Seen.{Seen}
use Rattle.kmip_protocol.specs.Sound.{Sound}
use Rattle.kmip_protocol.specs.Needs.{missing}
use Rattle.kmip_runs.specs.Reporting.{report_text}
use Rattle.kmip_runs.specs.declared.run.Run.{Run}
use Rattle.kmip_runs.specs.declared.run_end.RunEnd.{RunEnd}
use Rattle.kmip_runs.specs.declared.stop.Stop.{Stop}
use Rattle.kmip_runs.specs.declared.stop.Stop.TheVariants as stops

-- the verdict is no conflict
abbrev pub IsNoClash : Verdict → Type 0
IsNoClash verdict = (clash : Clash) → verdict ≢ Conflict clash

-- the run did not stop in conflict, and no key is in conflict at its end
abbrev pub HasNoConflict : RunEnd → Type 0
HasNoConflict end = (end.stop ≢ stops.Conflict) × All IsNoClash end.verdicts.items

-- some key is in conflict
abbrev pub HasClash : RunEnd → Type 0
HasClash end = (clash : Clash) × Contains end.verdicts.items (Conflict clash)

-- how a run stands that stopped for this reason. With `AllFinished` every key is finished. With `Limit` it
-- made as many exchanges as it may, and a key is worked on. With `Conflict` none is worked on, and one is in
-- conflict. No run that has an end stopped for want of memory.
abbrev pub StopsSo : Stop → Run → RunEnd → Type 0
StopsSo stops.AllFinished run end = All (λ verdict. verdict ≡ Finished) end.verdicts.items
StopsSo stops.Limit run end = (end.exchanges ≡ run.limit) × Contains end.verdicts.items Working
StopsSo stops.Conflict run end = All (λ verdict. verdict ≢ Working) end.verdicts.items × HasClash end
StopsSo stops.NoMemory run end = ⊥

-- No more steps are counted than lead to the target, and the key is finished exactly where all are counted.
pub record IsFull (key : Key) (count : ℕ) (verdict : Verdict) : Type 0 where
  pub few : count ≤ chain_length key
  pub done : verdict ≡ Finished → count ≡ chain_length key
  pub finished : count ≡ chain_length key → verdict ≡ Finished

-- the count and the verdict of each key agree, as `IsFull` says
abbrev pub AreFull : List Key → List ℕ → List Verdict → Type 0
AreFull [] [] [] = ⊤
AreFull (key ∷ keys) (count ∷ counts) (verdict ∷ verdicts) = IsFull key count verdict × AreFull keys counts verdicts
AreFull keys counts verdicts = ⊥

-- The end is one of this run. Its report is that of its own counts and verdicts, which agree key by key. It
-- stopped for a reason that they bear out, after no more exchanges than the run may make.
pub record IsEnd (keys : List Key) (run : Run) (end : RunEnd) : Type 0 where
  pub report_is : string_bytes end.report ≡ report_text keys end.counts.items end.verdicts.items
  pub stops : StopsSo end.stop run end
  pub within : end.exchanges ≤ run.limit
  pub full : AreFull keys end.counts.items end.verdicts.items

-- The link is calm for the plan's names, all that has happened over it is sound, and there is room for the
-- objects that are missing.
pub record CalmLink (keys : List Key) (link : Seen) : Type 0 where
  pub calm_for : link.calm (is_planned keys)
  pub sound : Sound keys link.past
  pub roomy : length link.past.objects + missing keys link.past.objects ≤ link.past.room

-- a run that may make as many exchanges as the plan's bound finishes all keys within that bound
abbrev pub Settles : List Key → Run → RunEnd → Type 0
Settles keys run end = bound keys ≤ run.limit → (end.stop ≡ stops.AllFinished) × (end.exchanges ≤ bound keys)

-- each of the runs asks about one to eight keys at once. Own (limit).
abbrev pub MayBatch : List Run → Type 0
MayBatch runs = All (λ (run : Run). IsTrue (may_have run.batch)) runs

-- what is known at the end of the run is saved
abbrev pub saves : Run → Bool
saves run = run.save
