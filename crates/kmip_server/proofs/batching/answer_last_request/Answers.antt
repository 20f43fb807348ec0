-- One more is short, as the others are; the records are as they were until the message is written; a refusal takes the last place.
use Rattle.std.proofs.Common.{◌++◌, [], ◌∷◌, IfOk, refl, ap, subst, ◌∙◌}
use Rattle.std.proofs.Math.Facts.{to_z-of_z}
use Rattle.std.proofs.lemmas.Result.{err_from_is_err_and}
use Rattle.kmip_batch_items.specs.declared.outcome.Outcome.TheVariants.{Failed}
use Rattle.kmip_server.specs.PrivateAnswering.{Tells, reply_with}
use Rattle.kmip_server.proofs.BatchLemmas.{short_more}
use Rattle.kmip_server.proofs.batching.answer_last_request.Goals as goal

pub refuse_last-requires-clause-short : goal.refuse_last-requires-clause-short
refuse_last-requires-clause-short g c =
    short_more c.args.replies.now.items c.write_with.new.replies.items c.in_ok-reply.reply c.in_ok-written.ensures.joined c.requires.short c.in_ok-reply.ensures.short

pub returns-in_err-written-clause-same : goal.returns-in_err-written-clause-same
returns-in_err-written-clause-same g c =
    let fault = err_from_is_err_and c.from_residual-in_err-written.result c.from_residual-in_err-written.ensures.1 in rw fault.1 (refl, refl)

pub returns-in-Err-clause-tells : goal.returns-in-Err-clause-tells
returns-in-Err-clause-tells g c =
    let refused = ap Failed c.store_reason.ensures ∙ (rw c.in-Err.is at c.in_ok-carry_out_noted.ensures.changed.done.outcome) in
    subst (λ outcome. IfOk c.refuse_last.result (λ v. Tells v.items (c.args.replies.now.items ++ reply_with c.args.request.now outcome ∷ []) c.args.now)) refused
    (subst (λ z. IfOk c.refuse_last.result (λ v. Tells v.items (c.args.replies.now.items ++ reply_with c.args.request.now (Failed c.store_reason.result) ∷ []) z))
    (to_z-of_z c.ranges.now) (c.refuse_last.ensures c.args.replies.now.items c.in_ok-reply.reply c.in_ok-written.ensures.joined))
