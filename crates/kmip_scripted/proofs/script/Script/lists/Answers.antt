-- Both lists are of runs that a script makes.
use Rattle.std.proofs.Common.{[], ◌∷◌, false, ap, subst, sym, ◌∙◌, ◌++◌}
use Rattle.std.proofs.lemmas.List.Elements.{All-cons, All-nil}
use Rattle.std.specs.List.{All}
use Rattle.kmip_runs.specs.Campaign.{MayBatch}
use Rattle.kmip_runs.specs.declared.start.Start.TheVariants.{Saved}
use Rattle.kmip_scripted.proofs.RunsLemmas.{before_may, runs_may}
use Rattle.kmip_scripted.proofs.script.Script.lists.Goals as goal

pub returns-clause-batches : goal.returns-clause-batches
returns-clause-batches c =
    let before = c.in_ok-before.before in
    let behind = c.in_ok-behind.behind in
    let both =
    c.in_ok-push-2.ensures.items ∙ ap (λ ls. ls ++ behind ∷ []) (c.in_ok-push.ensures.items ∙ ap (λ ls. ls ++ before ∷ []) c.in_ok-lists.ensures.items) in
    subst (λ ls. All (λ runs. MayBatch runs.items) ls) (sym both)
    (All-cons (λ runs. MayBatch runs.items) before (behind ∷ []) (subst MayBatch (sym c.in_ok-before.ensures) (before_may c.parts.result.0.now))
    (All-cons (λ runs. MayBatch runs.items) behind [] (subst MayBatch (sym c.in_ok-behind.ensures) (runs_may c.bound.result false (Saved c.count_saved.result) c.parts.result.1.now)) (All-nil (λ runs. MayBatch runs.items))))
