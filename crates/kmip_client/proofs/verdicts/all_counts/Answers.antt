-- Each turn counts the steps of one key more.
use Rattle.std.proofs.Common.{◌+◌, [], ◌∷◌, ◌++◌, drop, sym, ap, ◌∙◌}
use Rattle.std.proofs.lemmas.List.{append-nil, append_assoc, drop_all, drop_more}
use Rattle.kmip_client.specs.Verdicts.{counts_of}
use Rattle.kmip_client.proofs.verdicts.all_counts.Goals as goal

pub loop-known-preserved : goal.loop-known-preserved
loop-known-preserved c =
    let before = c.loop-known.counts.items in
    let left = counts_of (drop (c.loop-known.known-index + 1) c.args.knowns.now) in
    ap (λ ns. ns ++ left) c.in_ok-push.ensures.items
    ∙ append_assoc before (c.known-item.result.done ∷ []) left ∙ ap (λ known. before ++ known.done ∷ left) c.known-item.is
    ∙ ap (λ knowns. before ++ counts_of knowns) (sym (drop_more c.args.knowns.now c.loop-known.known-index c.known-item.result c.loop-known-test.true))
    ∙ c.loop-known.invariant

pub returns : goal.returns
returns c =
    let counts = c.loop-known.counts.items in
    sym (append-nil counts)
    ∙ ap (λ knowns. counts ++ counts_of knowns) (sym (drop_all c.loop-known.known-index c.args.knowns.now c.loop-known-test.false)) ∙ c.loop-known.invariant
