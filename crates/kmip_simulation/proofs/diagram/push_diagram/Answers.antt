-- The head, and then the moments.
use Rattle.std.proofs.Common.{◌++◌, ap, ◌∙◌}
use Rattle.kmip_simulation.specs.Diagram.{arrows, diagram_head}
use Rattle.kmip_simulation.specs.Tracing.{told_text}
use Rattle.kmip_simulation.proofs.MomentLemmas.{two_joined}
use Rattle.kmip_simulation.proofs.diagram.push_diagram.Goals as goal

pub returns : goal.returns
returns c =
    let old = c.args.text.now.items in
    two_joined diagram_head (told_text arrows c.args.words.now c.args.link.now) old _ _
    (c.in_ok-extend_from_slice.ensures.items ∙ ap (λ t. old ++ t) c.as_bytes.ensures.value)
    c.in_ok-push_told.ensures
