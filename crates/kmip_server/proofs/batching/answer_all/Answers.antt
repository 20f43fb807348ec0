-- What was answered and what is left make up the whole; and where memory runs out some of the first questions were served.
use Rattle.std.proofs.Common.{rules, ◌≡◌, ◌+◌, ◌++◌, ◌<◌, [], ◌∷◌, true, false, length, append-nil, IfOk, refl, sym, ap, subst, ◌∙◌, arith}
use Rattle.std.proofs.Math.Facts.{to_z-of_z}
use Rattle.kmip_server.specs.PrivateAnswering.{Tells}
use Rattle.kmip_server.specs.Batching.{is_last}
use Rattle.kmip_server.specs.Serving.{reply_to}
use Rattle.kmip_server.proofs.BatchLemmas.{AreAnswered, all_left, all_noted, begun_here, begun_so, goes_further, joined_all, none_answered, ok_so, short_more, stopped_behind, stopped_here, stopped_over, told_last, told_over}
use Rattle.kmip_server.proofs.batching.answer_all.Goals as goal

pub loop-question-init : goal.loop-question-init
loop-question-init g c =
    let none : c.new-replies.result.items ≡ [] = search (rules, c.new-replies.ensures) in
    let old = g.S.Records.stock c.args.store.now in (
      [],
      sym (append-nil c.args.effects.now.items),
      subst (λ replies. AreAnswered c.args.stops c.args.questions.now old 0 replies [] old) (sym none)
          (none_answered c.args.stops c.args.questions.now old c.requires.some),
    )

pub returns-then-len-questions-clause-tells : goal.returns-then-len-questions-clause-tells
returns-then-len-questions-clause-tells g c =
    let (joined, is, answered) = c.loop-question.invariant in
    let last : c.loop-question.question-index + 1 ≡ length c.args.questions.now = search (rules, answered.count) in
    let whole = told_last c.args.stops c.args.questions.now _ c.loop-question.question-index c.loop-question.replies.items joined _ c.question-item.result answered c.question-item.is last in
    subst (λ replies. IfOk c.answer_last.result (λ v. Tells v.items replies c.args.now)) whole.told
    (subst (λ z. IfOk c.answer_last.result (λ v. Tells v.items (c.loop-question.replies.items ++ reply_to (g.S.Records.stock c.loop-question.store) c.question-item.result ∷ []) z)) (to_z-of_z c.ranges.now) c.answer_last.ensures.tells)

pub returns-then-len-questions-clause-after : goal.returns-then-len-questions-clause-after
returns-then-len-questions-clause-after g c =
    let (joined, is, answered) = c.loop-question.invariant in
    let last : c.loop-question.question-index + 1 ≡ length c.args.questions.now = search (rules, answered.count) in
    let whole = told_last c.args.stops c.args.questions.now _ c.loop-question.question-index c.loop-question.replies.items joined _ c.question-item.result answered c.question-item.is last in
    all_left c.answer_last.result c.question-item.result _ _ _ _ _ c.answer_last.ensures.done whole.after

pub returns-then-len-questions-clause-effects : goal.returns-then-len-questions-clause-effects
returns-then-len-questions-clause-effects g c =
    let (joined, is, answered) = c.loop-question.invariant in
    let last : c.loop-question.question-index + 1 ≡ length c.args.questions.now = search (rules, answered.count) in
    let whole = told_last c.args.stops c.args.questions.now _ c.loop-question.question-index c.loop-question.replies.items joined _ c.question-item.result answered c.question-item.is last in
    all_noted c.answer_last.result c.question-item.result _ _ _ _ _ c.answer_last.ensures.done
    (joined_all c.args.effects.now.items c.loop-question.effects.items joined _ _ is whole.done)

pub returns-then-len-questions-clause-begun : goal.returns-then-len-questions-clause-begun
returns-then-len-questions-clause-begun g c =
    let (joined, is, answered) = c.loop-question.invariant in
    begun_here c.answer_last.result c.args.stops c.args.questions.now _ _ _ c.args.effects.now.items c.loop-question.effects.items c.answer_last.new.effects.items joined is
    (stopped_here c.args.stops c.args.questions.now _ c.loop-question.question-index c.loop-question.replies.items joined _ c.question-item.result answered c.question-item.is)
    c.answer_last.ensures.same

pub returns-in_err-reply-clause-begun : goal.returns-in_err-reply-clause-begun
returns-in_err-reply-clause-begun g c =
    let (joined, is, answered) = c.loop-question.invariant in
    begun_so c.from_residual.result c.args.stops c.args.questions.now _ _ _ c.args.effects.now.items c.answer_one.new.effects.items joined
    (c.in_err-reply.ensures.same.1 ∙ is) c.in_err-reply.ensures.same.0
    (stopped_here c.args.stops c.args.questions.now _ c.loop-question.question-index c.loop-question.replies.items joined _ c.question-item.result answered c.question-item.is)

pub returns-in_err-push-clause-begun : goal.returns-in_err-push-clause-begun
returns-in_err-push-clause-begun g c =
    let (joined, is, answered) = c.loop-question.invariant in
    let below : c.loop-question.question-index + 1 < length c.args.questions.now = search (rules, arith, answered.count, answered.more) in
    begun_so c.from_residual-in_err-push.result c.args.stops c.args.questions.now _ _ _ c.args.effects.now.items c.answer_one.new.effects.items _
    (c.in_ok-reply.ensures.done.noted ∙ joined_all c.args.effects.now.items c.loop-question.effects.items joined _ _ is refl) c.in_ok-reply.ensures.done.records
    (stopped_behind c.args.stops c.args.questions.now _ c.loop-question.question-index c.loop-question.replies.items joined _ c.question-item.result answered c.question-item.is below)

pub write_all-requires-clause-short : goal.write_all-requires-clause-short
write_all-requires-clause-short g c =
    let (joined, is, answered) = c.loop-question.invariant in
    short_more c.loop-question.replies.items c.as_slice.result.now c.in_ok-reply.reply (c.as_slice.ensures.value ∙ c.in_ok-push.ensures.items) answered.short c.in_ok-reply.ensures.short

pub returns-then-over-clause-tells : goal.returns-then-over-clause-tells
returns-then-over-clause-tells g c =
    let (joined, is, answered) = c.loop-question.invariant in
    let reply_is = c.in_ok-reply.ensures.reply in
    let over = subst (λ r. is_last c.args.stops r ≡ true) reply_is (search (rules, c.is_last-over.ensures, c.if-over.true)) in
    let whole = told_over c.args.stops c.args.questions.now _ c.loop-question.question-index c.loop-question.replies.items joined _ c.question-item.result answered c.question-item.is over in
    subst (λ replies. IfOk c.write_all.result (λ v. Tells v.items replies c.args.now))
    (c.as_slice.ensures.value ∙ c.in_ok-push.ensures.items ∙ ap (λ r. c.loop-question.replies.items ++ r ∷ []) reply_is ∙ whole.told)
    (subst (λ z. IfOk c.write_all.result (λ v. Tells v.items c.as_slice.result.now z)) (to_z-of_z c.ranges.now) c.write_all.ensures)

pub returns-then-over-clause-after : goal.returns-then-over-clause-after
returns-then-over-clause-after g c =
    let (joined, is, answered) = c.loop-question.invariant in
    let over = subst (λ r. is_last c.args.stops r ≡ true) c.in_ok-reply.ensures.reply (search (rules, c.is_last-over.ensures, c.if-over.true)) in
    let whole = told_over c.args.stops c.args.questions.now _ c.loop-question.question-index c.loop-question.replies.items joined _ c.question-item.result answered c.question-item.is over in
    ok_so c.write_all.result _ (c.in_ok-reply.ensures.done.records ∙ whole.after)

pub returns-then-over-clause-effects : goal.returns-then-over-clause-effects
returns-then-over-clause-effects g c =
    let (joined, is, answered) = c.loop-question.invariant in
    let over = subst (λ r. is_last c.args.stops r ≡ true) c.in_ok-reply.ensures.reply (search (rules, c.is_last-over.ensures, c.if-over.true)) in
    let whole = told_over c.args.stops c.args.questions.now _ c.loop-question.question-index c.loop-question.replies.items joined _ c.question-item.result answered c.question-item.is over in
    ok_so c.write_all.result _ (c.in_ok-reply.ensures.done.noted ∙ joined_all c.args.effects.now.items c.loop-question.effects.items joined _ _ is whole.done)

pub returns-then-over-clause-begun : goal.returns-then-over-clause-begun
returns-then-over-clause-begun g c =
    let (joined, is, answered) = c.loop-question.invariant in
    let over = subst (λ r. is_last c.args.stops r ≡ true) c.in_ok-reply.ensures.reply (search (rules, c.is_last-over.ensures, c.if-over.true)) in
    begun_so c.write_all.result c.args.stops c.args.questions.now _ _ _ c.args.effects.now.items c.answer_one.new.effects.items _
    (c.in_ok-reply.ensures.done.noted ∙ joined_all c.args.effects.now.items c.loop-question.effects.items joined _ _ is refl) c.in_ok-reply.ensures.done.records
    (stopped_over c.args.stops c.args.questions.now _ c.loop-question.question-index c.loop-question.replies.items joined _ c.question-item.result answered c.question-item.is over)

pub loop-question-preserved : goal.loop-question-preserved
loop-question-preserved g c =
    let (joined, is, answered) = c.loop-question.invariant in
    let below : c.loop-question.question-index + 1 < length c.args.questions.now = search (rules, arith, answered.count, answered.more) in
    let on = subst (λ r. is_last c.args.stops r ≡ false) c.in_ok-reply.ensures.reply (search (rules, c.is_last-over.ensures, c.if-over.false)) in (
      _,
      c.in_ok-reply.ensures.done.noted ∙ joined_all c.args.effects.now.items c.loop-question.effects.items joined _ _ is refl,
      goes_further c.args.stops c.args.questions.now _ c.loop-question.question-index c.loop-question.replies.items c.push.new.self.items joined _ _ c.question-item.result
          c.in_ok-reply.reply answered c.question-item.is below c.in_ok-push.ensures.items c.in_ok-reply.ensures.reply c.in_ok-reply.ensures.short c.in_ok-reply.ensures.done.records on,
    )

pub unreachable-unreachable : goal.unreachable-unreachable
unreachable-unreachable g c =
    let (joined, is, answered) = c.loop-question.invariant in
    omega (arith, answered.more, c.loop-question-test.false)
