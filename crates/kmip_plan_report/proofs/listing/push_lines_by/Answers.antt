-- The lines of the keys, and the last line.
use Rattle.std.proofs.Common.{List, ◌++◌, map, ap, ◌∙◌}
use Rattle.kmip_report.specs.Pieces.{report_in}
use Rattle.kmip_report.proofs.ForCallers.{last_line}
use Rattle.kmip_plan_report.specs.Listing.{finished_line, key_line}
use Rattle.kmip_plan_report.specs.Standings.{Standing, standing_of, standings}
use Rattle.kmip_plan_report.proofs.listing.push_lines_by.Goals as goal

pub returns : goal.returns
returns c =
    let all = ap (map standing_of) c.as_slice.ensures.value ∙ c.in_ok-standings.ensures in
    let written =
    c.in_ok-push_keys.ensures
    ∙ ap (λ (held : List Standing). c.args.text.now.items ++ report_in c.args.form (map key_line held)) all in
    last_line c.push_finished.result c.args.form c.args.text.now.items c.push_keys.new.text.items c.push_finished.new.text.items
    (map key_line (standings c.args.keys.now c.args.saved.now c.args.verdicts.now)) (finished_line c.args.keys.now c.args.verdicts.now) written c.push_finished.ensures
