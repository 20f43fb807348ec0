-- One request more is written.
use Rattle.std.proofs.Common.{◌∙◌, ◌++◌, ◌∷◌, [], take, ap, sym}
use Rattle.std.proofs.lemmas.List.{flat_map_more, take_more}
use Rattle.std.specs.List.{flat_map}
use Rattle.kmip_trace.specs.Questions.{next_request_text}
use Rattle.kmip_trace.proofs.asking.push_others.Goals as goal

pub loop-request-preserved : goal.loop-request-preserved
loop-request-preserved c =
    let before = c.args.text.now.items in
    let written = take c.loop-request.request-index c.args.others.now in
    let request = c.request-item.result in
    let next = take_more c.args.others.now c.loop-request.request-index request c.loop-request-test.true ∙ ap (λ x. written ++ x ∷ []) (sym c.request-item.is) in
    c.in_ok-push_next.ensures ∙ ap (λ text. text ++ next_request_text request) c.loop-request.invariant ∙ flat_map_more next_request_text before written request
    ∙ ap (λ all. before ++ flat_map next_request_text all) (sym next)
