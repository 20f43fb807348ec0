-- Each turn adds the identifiers that one answer more tells.
use Rattle.std.proofs.Common.{◌+◌, ◌++◌, drop, flat_map, sym, ap, ◌∙◌}
use Rattle.std.proofs.lemmas.List.{append-nil, append_assoc, drop_all, drop_more}
use Rattle.kmip_probe.specs.Answers.{uids_told}
use Rattle.kmip_probe.proofs.judging.uids_told.Goals as goal

pub loop-answer-preserved : goal.loop-answer-preserved
loop-answer-preserved c =
    let before = c.loop-answer.uids.items in
    let left = flat_map uids_told (drop (c.loop-answer.answer-index + 1) c.args.answers.now) in
    ap (λ uids. uids ++ left) (c.in_ok-push_each.ensures ∙ ap (λ uids. before ++ uids) c.uids.ensures)
    ∙ append_assoc before (uids_told c.answer-item.result) left ∙ ap (λ x. before ++ (uids_told x ++ left)) c.answer-item.is
    ∙ ap (λ xs. before ++ flat_map uids_told xs) (sym (drop_more c.args.answers.now c.loop-answer.answer-index c.answer-item.result c.loop-answer-test.true))
    ∙ c.loop-answer.invariant

pub returns : goal.returns
returns c =
    let uids = c.loop-answer.uids.items in
    sym (append-nil uids) ∙ ap (λ xs. uids ++ flat_map uids_told xs) (sym (drop_all c.loop-answer.answer-index c.args.answers.now c.loop-answer-test.false))
    ∙ c.loop-answer.invariant
