-- A probe on a writer: its own fault is that of the output.
use Rattle.kmip_probe_command.proofs.MidwayLemmas.{on_writer, without_input}
use Rattle.kmip_probe_command.proofs.running.probe.Goals as goal

pub returns-clause-broken : goal.returns-clause-broken
returns-clause-broken g c = on_writer _ _ _ _ _ _ c.probe_to.ensures.broken

pub returns-clause-no_input : goal.returns-clause-no_input
returns-clause-no_input g c = without_input _ _ _ _ _ _ c.probe_to.ensures.broken
