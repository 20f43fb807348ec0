-- Each turn adds the bound of one key more.
use Rattle.std.proofs.Common.{◌≡◌, ◌+◌, ◌∷◌, drop, sym, ap, ◌∙◌, map, arith}
use Rattle.std.proofs.lemmas.List.{drop_more}
use Rattle.std.proofs.lemmas.List.Sums.{sum_by-cons}
use Rattle.kmip_plan.specs.Chains.{bound, key_bound}
use Rattle.kmip_plan.proofs.plan.bound_of.Goals as goal

pub loop-key-preserved : goal.loop-key-preserved
loop-key-preserved c =
    let keys = c.args.keys.now in
    let key = c.key-item.result in
    let left = drop (c.loop-key.key-index + 1) keys in
    let more : bound (key ∷ left) ≡ key_bound key + bound left = sum_by-cons (λ n. n) (key_bound key) (map key_bound left) in
    let here : bound (drop c.loop-key.key-index keys) ≡ key_bound key + bound left =
    ap bound (drop_more keys c.loop-key.key-index key c.loop-key-test.true) ∙ ap (λ k. bound (k ∷ left)) (sym c.key-item.is) ∙ more in
    record {
      summed = omega (arith, here, c.loop-key.invariant.summed, c.chain_length.ensures.steps);
      small = omega (arith, c.loop-key.invariant.small, c.chain_length.ensures.few);
    }
