-- Object by object.
use Rattle.std.proofs.Common.{ap, sym, ◌∙◌}
use Rattle.std.specs.List.{slice_get}
use Rattle.kmip_sim_command.proofs.ReportLemmas.{next_listed}
use Rattle.kmip_sim_command.proofs.report.push_objects.Goals as goal

pub loop-place-preserved : goal.loop-place-preserved
loop-place-preserved c =
    next_listed c.args.form c.args.link.now.stock.rows c.loop-place.place c.in-Some.row.now c.args.text.now.items c.loop-place.text.items c.push_object.new.text.items
    (ap (λ rows. slice_get rows c.loop-place.place) (ap (λ s. s.rows) (sym (c.records-records.ensures.records ∙ c.server.ensures))) ∙ sym c.in-Some.ensures) c.loop-place.invariant c.in_ok-push_object.ensures
