-- A probe reads nothing, so no fault of a reader ends it; and the line for running out of memory is after what was told.
use Rattle.kmip_probe_command.proofs.EndLemmas.{ends_without_input}
use Rattle.kmip_probe_command.proofs.MidwayLemmas.{ends_midway}
use Rattle.kmip_probe_command.proofs.running.run_probe.Goals as goal

pub returns-clause-no_input : goal.returns-clause-no_input
returns-clause-no_input g c = ends_without_input _ _ _ _ _ c.print_end.ensures c.probe-ended.ensures.no_input

pub returns-clause-broken : goal.returns-clause-broken
returns-clause-broken g c = ends_midway _ _ _ _ _ _ _ c.print_end.ensures c.probe-ended.ensures.broken c.probe-ended.ensures.no_input
