-- A key is worked on where their number is more than none.
use Rattle.kmip_runs.proofs.driving.stop_of.Goals as goal

pub returns-then-working-gt0-clause-stops_for_its_reason : goal.returns-then-working-gt0-clause-stops_for_its_reason
returns-then-working-gt0-clause-stops_for_its_reason c = c.working.ensures.some c.if-working-gt0.true
