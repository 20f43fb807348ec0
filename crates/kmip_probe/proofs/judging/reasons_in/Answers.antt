-- Each turn looks at one answer more.
use Rattle.std.proofs.Common.{◌+◌, ◌∷◌, map, drop, sym, ap, ◌∙◌}
use Rattle.std.proofs.lemmas.List.{drop_all, drop_more}
use Rattle.kmip_probe.specs.Judging.{new_reasons, reason_in}
use Rattle.kmip_probe.proofs.judging.reasons_in.Goals as goal
use Rattle.kmip_probe.proofs.judging.reasons_in.Goals.{in-Some+in_ok-push_new, in_default}

pub loop-answer-preserved : goal.loop-answer-preserved
loop-answer-preserved c =
    let before = c.loop-answer.reasons.items in
    let left = map reason_in (drop (c.loop-answer.answer-index + 1) c.args.answers.now) in
    let here = drop_more c.args.answers.now c.loop-answer.answer-index c.answer-item.result c.loop-answer-test.true in
    let so_far = ap (λ answer. new_reasons before (reason_in answer ∷ left)) c.answer-item.is
    ∙ ap (λ answers. new_reasons before (map reason_in answers)) (sym here) ∙ c.loop-answer.invariant in
    elim c.match-reason_in.branch [
      | in-Some+in_ok-push_new w ↦ ap (λ reasons. new_reasons reasons.items left) w.reasons-is ∙ ap (λ seen. new_reasons seen left) w.in_ok-push_new.ensures
          ∙ ap (λ reason. new_reasons before (reason ∷ left)) (sym w.in-Some.is ∙ c.reason_in.ensures) ∙ so_far
      | in_default w ↦ ap (λ reasons. new_reasons reasons.items left) w.reasons-is
          ∙ ap (λ reason. new_reasons before (reason ∷ left)) (sym w.in_default.is ∙ c.reason_in.ensures) ∙ so_far
    ]

pub returns : goal.returns
returns c =
    let reasons = c.loop-answer.reasons.items in
    ap (λ answers. new_reasons reasons (map reason_in answers)) (sym (drop_all c.loop-answer.answer-index c.args.answers.now c.loop-answer-test.false))
    ∙ c.loop-answer.invariant
