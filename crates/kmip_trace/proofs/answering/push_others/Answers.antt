-- One reply more is written.
use Rattle.std.proofs.Common.{◌∙◌, ◌++◌, ◌∷◌, [], append_assoc, codes, take, ap, sym}
use Rattle.std.proofs.lemmas.List.{flat_map_more, take_more}
use Rattle.std.specs.List.{flat_map}
use Rattle.kmip_trace.specs.Answers.{answering_text, next_answering_text}
use Rattle.kmip_trace.proofs.answering.push_others.Goals as goal

pub loop-reply-preserved : goal.loop-reply-preserved
loop-reply-preserved c =
    let before = c.args.text.now.items in
    let asked = c.args.asked.now in
    let written = take c.loop-reply.reply-index c.args.others.now in
    let reply = c.reply-item.result in
    let next = take_more c.args.others.now c.loop-reply.reply-index reply c.loop-reply-test.true ∙ ap (λ x. written ++ x ∷ []) (sym c.reply-item.is) in
    c.in_ok-push_answering.ensures ∙ ap (λ text. text ++ answering_text asked reply) c.in_ok-extend_from_slice.ensures.items
    ∙ append_assoc c.loop-reply.text.items (codes "; ") (answering_text asked reply)
    ∙ ap (λ text. text ++ next_answering_text asked reply) c.loop-reply.invariant ∙ flat_map_more (next_answering_text asked) before written reply
    ∙ ap (λ all. before ++ flat_map (next_answering_text asked) all) (sym next)
