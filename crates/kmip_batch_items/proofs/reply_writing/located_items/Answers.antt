-- Each turn writes the item of one identifier more.
use Rattle.std.proofs.Common.{ℕ, List, ◌+◌, [], ◌∷◌, ◌++◌, map, drop, sym, ap, ◌∙◌}
use Rattle.std.proofs.lemmas.List.{append-nil, append_assoc, drop_all, drop_more}
use Rattle.kmip_ttlv.specs.Node.{Node, node, text_string}
use Rattle.kmip_ttlv.specs.View.{views}
use Rattle.kmip_batch_items.specs.declared.standard.TheConstants.{TAG_UNIQUE_IDENTIFIER}
use Rattle.kmip_batch_items.specs.ReplyFormats.{identifiers_format}
use Rattle.kmip_batch_items.proofs.reply_writing.located_items.Goals as goal

abbrev told : List ℕ → Node
told uid = node TAG_UNIQUE_IDENTIFIER (text_string uid)

pub loop-uid-preserved : goal.loop-uid-preserved
unfolding identifiers_format
loop-uid-preserved c =
    let before = views c.loop-uid.items.items in
    let left = map told (drop (c.loop-uid.uid-index + 1) c.args.uids.now) in
    ap (λ ns. ns ++ left) (c.in_ok-push.ensures ∙ ap (λ n. before ++ n ∷ []) c.in_ok-item.ensures)
    ∙ append_assoc before (told c.uid-item.result ∷ []) left ∙ ap (λ x. before ++ told x ∷ left) c.uid-item.is
    ∙ ap (λ xs. before ++ map told xs) (sym (drop_more c.args.uids.now c.loop-uid.uid-index c.uid-item.result c.loop-uid-test.true))
    ∙ c.loop-uid.invariant

pub returns : goal.returns
unfolding identifiers_format
returns c =
    let items = views c.loop-uid.items.items in
    sym (append-nil items) ∙ ap (λ xs. items ++ map told xs) (sym (drop_all c.loop-uid.uid-index c.args.uids.now c.loop-uid-test.false)) ∙ c.loop-uid.invariant
