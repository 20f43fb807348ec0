-- The words are those of the table.
use Rattle.std.proofs.Common.{ℕ, Bool, List, sym, ap, ◌∙◌}
use Rattle.std.specs.List.{list_all}
use Rattle.std.proofs.lemmas.List.Folds.{list_all-map}
use Rattle.toml.specs.View.{array_view}
use Rattle.kmip_plan.specs.Fields.{is_once}
use Rattle.kmip_plan.proofs.counts.are_once.Goals as goal

pub returns : goal.returns
returns c =
    let once : List ℕ × ℕ → Bool = λ u. is_once u.0 (array_view c.args.array.now) in
    c.all_once.ensures ∙ sym (list_all-map once (λ u. (u.0.now, u.1)) c.usages.result.now) ∙ ap (list_all once) c.usages.ensures
