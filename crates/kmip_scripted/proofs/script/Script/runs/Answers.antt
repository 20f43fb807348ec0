-- Word by word.
use Rattle.std.proofs.Common.{◌≡◌, false, subst, sym}
use Rattle.kmip_runs.specs.Campaign.{MayBatch}
use Rattle.kmip_runs.specs.declared.start.Start.TheVariants.{Fresh}
use Rattle.kmip_scripted.specs.Runs.{runs_from}
use Rattle.kmip_scripted.proofs.RunsLemmas.{if_ok, runs_may}
use Rattle.kmip_scripted.proofs.script.Script.runs.Goals as goal

pub returns-clause-batches : goal.returns-clause-batches
returns-clause-batches c =
    if_ok (λ runs. runs.items ≡ runs_from c.bound.result false Fresh c.words.result.now) (λ runs. MayBatch runs.items) c.runs_from.result
    (λ runs is. subst MayBatch (sym is) (runs_may c.bound.result false Fresh c.words.result.now)) c.runs_from.ensures
