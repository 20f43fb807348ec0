-- One more question, and what was taken over of it.
use Rattle.std.proofs.Common.{[], ◌∷◌, ◌++◌, sym, ap, ◌∙◌}
use Rattle.std.specs.List.{filter_map}
use Rattle.std.specs.Result.{result_ok}
use Rattle.std.proofs.lemmas.List.Elements.{filter_map-append}
use Rattle.kmip_trace.proofs.asking.requests_of.Goals as goal

pub loop-question-preserved : goal.loop-question-preserved
loop-question-preserved c =
    c.in_ok-keep.ensures ∙ ap (λ rs. rs ++ filter_map result_ok (c.in-Some.question ∷ [])) c.loop-question.invariant
    ∙ sym (filter_map-append result_ok c.loop-question.yielded (c.in-Some.question ∷ []))
