-- Each turn writes the item of one request more, behind the header.
use Rattle.std.proofs.Common.{◌+◌, [], ◌∷◌, ◌++◌, map, drop, sym, ap, ◌∙◌}
use Rattle.std.proofs.lemmas.List.{append-nil, append_assoc, drop_all, drop_more}
use Rattle.kmip_ttlv.specs.Node.{node}
use Rattle.kmip_ttlv.specs.View.{view, views}
use Rattle.kmip_batch_items.specs.Formats.{inside}
use Rattle.kmip_batch_items.specs.declared.standard.TheConstants.{TAG_REQUEST_MESSAGE}
use Rattle.kmip_batch_items.specs.BatchItems.{question_item}
use Rattle.kmip_messages.specs.Headers.{header_format}
use Rattle.kmip_messages.proofs.request_writing.message_item.Goals as goal

pub loop-request-init : goal.loop-request-init
unfolding header_format
loop-request-init c =
    ap (λ ns. ns ++ map question_item c.args.requests.now)
    (c.in_ok-push.ensures ∙ ap (λ is. views is ++ view c.in_ok-header.header ∷ []) c.new-items.ensures.items ∙ ap (λ n. n ∷ []) c.in_ok-header.ensures)

pub loop-request-preserved : goal.loop-request-preserved
loop-request-preserved c =
    let before = views c.loop-request.items.items in
    let left = map question_item (drop (c.loop-request.request-index + 1) c.args.requests.now) in
    ap (λ ns. ns ++ left) (c.in_ok-push-2.ensures ∙ ap (λ n. before ++ n ∷ []) c.in_ok-item.ensures)
    ∙ append_assoc before (question_item c.request-item.result ∷ []) left ∙ ap (λ x. before ++ question_item x ∷ left) c.request-item.is
    ∙ ap (λ xs. before ++ map question_item xs) (sym (drop_more c.args.requests.now c.loop-request.request-index c.request-item.result c.loop-request-test.true))
    ∙ c.loop-request.invariant

pub returns : goal.returns
returns c =
    let items = views c.loop-request.items.items in
    let none_left = drop_all c.loop-request.request-index c.args.requests.now c.loop-request-test.false in
    c.structure.ensures ∙ ap (λ tag. node tag (inside items)) c.new.ensures
    ∙ ap (λ ns. node TAG_REQUEST_MESSAGE (inside ns)) (sym (append-nil items) ∙ ap (λ xs. items ++ map question_item xs) (sym none_left) ∙ c.loop-request.invariant)
