-- What stands before the reply is the text that was made.
use Rattle.std.proofs.Common.{◌≡◌, ◌++◌, OnOk, Some, codes, subst, ◌∙◌}
use Rattle.kmip_trace.specs.Answers.{answer_text}
use Rattle.kmip_simulation.specs.Diagram.{drawn_text}
use Rattle.kmip_simulation.proofs.diagram.draw_earlier.Goals as goal

pub returns : goal.returns
returns c =
    let drawn = drawn_text (answer_text c.args.request.now (Some c.args.reply.now)) in
    subst (λ front. OnOk c.draw_reply.result (c.draw_reply.new.text.items ≡ c.args.text.now.items ++ (front ++ drawn ++ codes "\n")))
    (c.as_bytes.ensures.value ∙ c.in_ok-front.ensures.ok) c.draw_reply.ensures
