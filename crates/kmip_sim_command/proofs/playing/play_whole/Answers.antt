-- No word is a crash.
use Rattle.kmip_sim_command.proofs.SimulatingLemmas.{ran_whole}
use Rattle.kmip_sim_command.proofs.playing.play_whole.Goals as goal

pub returns : goal.returns
returns c =
    let s = c.in_ok-simulation.simulation in
    (c.in_ok-simulation.ensures.words, ran_whole c.args.batch c.args.plan.now c.args.script s c.requires.whole c.in_ok-simulation.ensures.simulated)
