-- Each turn writes the item of one reply more, behind the header.
use Rattle.std.proofs.Common.{◌+◌, [], ◌∷◌, ◌++◌, map, drop, sym, ap, ◌∙◌}
use Rattle.std.proofs.lemmas.List.{append-nil, append_assoc, drop_all, drop_more}
use Rattle.std.proofs.Math.Facts.{to_z-of_z}
use Rattle.kmip_ttlv.specs.Node.{node}
use Rattle.kmip_ttlv.specs.View.{view, views}
use Rattle.kmip_batch_items.specs.Formats.{inside}
use Rattle.kmip_batch_items.specs.declared.standard.TheConstants.{TAG_RESPONSE_MESSAGE}
use Rattle.kmip_batch_items.specs.BatchItems.{answer_item}
use Rattle.kmip_messages.specs.Headers.{reply_header_format}
use Rattle.kmip_messages.specs.Written.{replies_item}
use Rattle.kmip_messages.proofs.reply_writing.message_item.Goals as goal

pub loop-reply-init : goal.loop-reply-init
unfolding reply_header_format
loop-reply-init c =
    ap (λ ns. ns ++ map answer_item c.args.replies.now)
    (c.in_ok-push.ensures ∙ ap (λ is. views is ++ view c.in_ok-header.header ∷ []) c.new-items.ensures.items ∙ ap (λ n. n ∷ []) c.in_ok-header.ensures)

pub loop-reply-preserved : goal.loop-reply-preserved
loop-reply-preserved c =
    let before = views c.loop-reply.items.items in
    let left = map answer_item (drop (c.loop-reply.reply-index + 1) c.args.replies.now) in
    ap (λ ns. ns ++ left) (c.in_ok-push-2.ensures ∙ ap (λ n. before ++ n ∷ []) c.in_ok-item.ensures)
    ∙ append_assoc before (answer_item c.reply-item.result ∷ []) left ∙ ap (λ x. before ++ answer_item x ∷ left) c.reply-item.is
    ∙ ap (λ xs. before ++ map answer_item xs) (sym (drop_more c.args.replies.now c.loop-reply.reply-index c.reply-item.result c.loop-reply-test.true))
    ∙ c.loop-reply.invariant

pub returns : goal.returns
returns c =
    let items = views c.loop-reply.items.items in
    let none_left = drop_all c.loop-reply.reply-index c.args.replies.now c.loop-reply-test.false in
    c.structure.ensures ∙ ap (λ tag. node tag (inside items)) c.new.ensures
    ∙ ap (λ ns. node TAG_RESPONSE_MESSAGE (inside ns)) (sym (append-nil items) ∙ ap (λ xs. items ++ map answer_item xs) (sym none_left) ∙ c.loop-reply.invariant)
    ∙ ap (replies_item c.args.replies.now) (to_z-of_z c.ranges.now)
