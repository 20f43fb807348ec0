-- Each turn gives what is known of one key more.
use Rattle.std.proofs.Common.{◌+◌, [], ◌∷◌, ◌++◌, map, drop, sym, ap, ◌∙◌}
use Rattle.std.proofs.lemmas.List.{append-nil, append_assoc, drop_all, drop_more}
use Rattle.kmip_plan.specs.declared.key.Key.{Key}
use Rattle.kmip_client.specs.declared.knowledge.Knowledge.{Knowledge}
use Rattle.kmip_client.specs.Knowledge.{fresh_knowledge}
use Rattle.kmip_client.proofs.client.nothing_known.Goals as goal

abbrev fresh : Key → Knowledge
fresh key = fresh_knowledge

pub loop-key-preserved : goal.loop-key-preserved
loop-key-preserved c =
    let before = c.loop-key.knowns.items in
    let left = map fresh (drop (c.loop-key._key-index + 1) c.args.keys.now) in
    ap (λ ks. ks ++ left) (c.in_ok-push.ensures.items ∙ ap (λ known. before ++ known ∷ []) c.fresh.ensures)
    ∙ append_assoc before (fresh_knowledge ∷ []) left
    ∙ ap (λ keys. before ++ map fresh keys) (sym (drop_more c.args.keys.now c.loop-key._key-index c._key-item.result c.loop-key-test.true))
    ∙ c.loop-key.invariant
