-- The script is the one that was read.
use Rattle.kmip_sim_command.proofs.SimulatingLemmas.{played_if}
use Rattle.kmip_sim_command.proofs.playing.sim_one_to_end.Goals as goal

pub returns-in-Ok : goal.returns-in-Ok
returns-in-Ok c = played_if c.args.input.now.batch c.args.plan.now c.args.input.now.script.now c.in-Ok.script c.play.result c.in-Ok.ensures.0 c.in-Ok.ensures.1 c.play.ensures
