-- What stands behind the request is the text that was made.
use Rattle.std.proofs.Common.{◌≡◌, ◌++◌, OnOk, codes, subst, ◌∙◌}
use Rattle.kmip_simulation.specs.Diagram.{drawn_request}
use Rattle.kmip_simulation.proofs.diagram.draw_cut_request.Goals as goal

pub returns : goal.returns
returns c =
    let front = codes "    C-xS: " ++ drawn_request c.args.number c.args.request.now in
    subst (λ rest. OnOk c.draw_arrow.result (c.draw_arrow.new.text.items ≡ c.args.text.now.items ++ (front ++ rest)))
    (c.as_bytes.ensures.value ∙ c.in_ok-rest.ensures.ok) c.draw_arrow.ensures
