-- Without their crashes the runs are those of the script.
use Rattle.std.proofs.Common.{rules, ◌≡◌, false, map, subst, sym}
use Rattle.std.specs.Prelude.{zip}
use Rattle.kmip_plan.specs.Chains.{bound}
use Rattle.kmip_runs.specs.Campaign.{MayBatch}
use Rattle.kmip_runs.specs.declared.start.Start.TheVariants.{Fresh}
use Rattle.kmip_scripted.specs.Runs.{crashes_of, runs_of, with_crash}
use Rattle.kmip_scripted.proofs.CrashLemmas.{same_runs}
use Rattle.kmip_scripted.proofs.RunsLemmas.{if_ok, runs_may}
use Rattle.kmip_scripted.proofs.script.Script.crashing_runs.Goals as goal

pub returns-clause-same : goal.returns-clause-same
returns-clause-same c =
    let keys = c.args.plan.now in
    let words = c.args.self.now in
    let runs = c.as_slice.result.now in
    let crashes = c.as_slice-2.result.now in
    let are : runs ≡ runs_of keys words = search rules in
    let ends : crashes ≡ crashes_of words = search rules in
    if_ok (λ all. all.items ≡ map with_crash (zip runs crashes)) (λ all. map (λ r. r.run) all.items ≡ runs_of keys words) c.with_crashes.result
    (λ all is. same_runs keys words runs crashes all.items are ends is) c.with_crashes.ensures

pub returns-clause-batches : goal.returns-clause-batches
returns-clause-batches c =
    let keys = c.args.plan.now in
    let words = c.args.self.now in
    let runs = c.as_slice.result.now in
    let crashes = c.as_slice-2.result.now in
    let are : runs ≡ runs_of keys words = search rules in
    let ends : crashes ≡ crashes_of words = search rules in
    if_ok (λ all. all.items ≡ map with_crash (zip runs crashes)) (λ all. MayBatch (map (λ r. r.run) all.items)) c.with_crashes.result
    (λ all is. subst MayBatch (sym (same_runs keys words runs crashes all.items are ends is)) (runs_may (bound keys) false Fresh words)) c.with_crashes.ensures
