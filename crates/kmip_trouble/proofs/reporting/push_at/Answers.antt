-- The line is that of the fault.
use Rattle.kmip_report.specs.FaultLines.{fault_line}
use Rattle.kmip_trouble.proofs.reporting.push_at.Goals as goal

pub returns : goal.returns
unfolding fault_line
returns c = c.push_fault.ensures
