-- The report is the line of the fault.
use Rattle.kmip_report.specs.FaultLines.{fault_line}
use Rattle.kmip_report.proofs.ForCallers.{report_of_one}
use Rattle.kmip_run_command.proofs.ending.push_unsaved.Goals as goal

pub returns : goal.returns
unfolding fault_line
returns c = report_of_one c.push_fault.result c.args.form c.args.text.now.items c.push_fault.new.text.items _ c.push_fault.ensures
