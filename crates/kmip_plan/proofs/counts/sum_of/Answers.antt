-- One usage more.
use Rattle.std.proofs.Common.{◌+◌, ◌≤◌, ℕ, List, Bor, take, sym, ap, ◌∙◌, arith}
use Rattle.std.specs.List.{sum_by}
use Rattle.std.proofs.lemmas.List.Sums.{sum_by_more, sum_by_more_le, sum_by-le-sum_by}
use Rattle.toml.specs.View.{array_view}
use Rattle.kmip_plan.specs.Fields.{bit_of}
use Rattle.kmip_plan.proofs.FieldLemmas.{bit_within}
use Rattle.kmip_plan.proofs.counts.sum_of.Goals as goal

pub overflow_add-mask : goal.overflow_add-mask
overflow_add-mask c =
    let items = array_view c.args.array.now in
    let bit : Bor (List ℕ) × ℕ → ℕ = λ u. bit_of items u.0.now u.1 in
    let sum : c.loop-usage.mask + c.bit_of-mask.result ≤ sum_by bit c.args.usages.now =
    rw (c.loop-usage.invariant, c.bit_of-mask.ensures.bit) (sum_by_more_le bit c.args.usages.now c.loop-usage.usage-index _ c.loop-usage-test.true) in
    let within = sum_by-le-sum_by bit (λ u. u.1) c.args.usages.now (λ u. bit_within items u.0.now u.1) in
    omega (arith, sum, within, c.requires)

pub loop-usage-preserved : goal.loop-usage-preserved
loop-usage-preserved c =
    let bit : Bor (List ℕ) × ℕ → ℕ = λ u. bit_of (array_view c.args.array.now) u.0.now u.1 in
    ap (λ n. n + c.bit_of-mask.result) c.loop-usage.invariant
    ∙ ap (λ n. sum_by bit (take c.loop-usage.usage-index c.args.usages.now) + n) c.bit_of-mask.ensures.bit
    ∙ sym (sum_by_more bit c.args.usages.now c.loop-usage.usage-index _ c.loop-usage-test.true)
