-- The usages are those of the table.
use Rattle.std.proofs.Common.{◌≡◌, ◌≤◌, ℕ, List, Bor, sym, ap, subst, ◌∙◌, arith}
use Rattle.std.specs.List.{sum_by}
use Rattle.toml.specs.View.{array_view}
use Rattle.kmip_plan.specs.Fields.{bit_of, mask_of}
use Rattle.kmip_plan.proofs.WordLemmas.{sum_by-map}
use Rattle.kmip_plan.proofs.FieldLemmas.{mask_within}
use Rattle.kmip_plan.proofs.counts.mask_of.Goals as goal

abbrev told : Bor (List ℕ) × ℕ → List ℕ × ℕ
told usage = (usage.0.now, usage.1)

pub sum_of-requires : goal.sum_of-requires
sum_of-requires c =
    let bits : List ℕ × ℕ → ℕ = λ u. u.1 in
    subst (λ n. n ≤ 511) (ap (sum_by bits) (sym c.usages.ensures) ∙ sum_by-map bits told c.usages.result.now) (omega arith)

pub returns-clause-mask : goal.returns-clause-mask
returns-clause-mask c =
    let bit : List ℕ × ℕ → ℕ = λ u. bit_of (array_view c.args.array.now) u.0 u.1 in
    c.sum_of.ensures ∙ sym (sum_by-map bit told c.usages.result.now) ∙ ap (sum_by bit) c.usages.ensures

pub returns-clause-small : goal.returns-clause-small
returns-clause-small c =
    let items = array_view c.args.array.now in
    let bit : List ℕ × ℕ → ℕ = λ u. bit_of items u.0 u.1 in
    let is : c.sum_of.result ≡ mask_of items = c.sum_of.ensures ∙ sym (sum_by-map bit told c.usages.result.now) ∙ ap (sum_by bit) c.usages.ensures in
    subst (λ n. n ≤ 511) (sym is) (mask_within items)
