-- Some word is a crash, and the disk of a run may refuse it.
use Rattle.std.proofs.Common.{◌≡◌, Err, rules}
use Rattle.kmip_simulation.specs.declared.sim_fault.SimFault.TheVariants.{CrashRefused}
use Rattle.kmip_sim_command.proofs.SimulatingLemmas.{ran_crashed}
use Rattle.kmip_sim_command.proofs.playing.play_crashed.Goals as goal

pub returns-in-Ok : goal.returns-in-Ok
returns-in-Ok c =
    let s = c.in-Ok.simulation in
    (c.in-Ok.ensures.words, ran_crashed c.args.batch c.args.plan.now c.args.script s c.requires.crashed c.in-Ok.ensures.simulated)

pub returns-in-Err-CrashRefused : goal.returns-in-Err-CrashRefused
returns-in-Err-CrashRefused c =
    let so : c.simulate_with_crashes.result ≡ Err (CrashRefused c.in-Err-CrashRefused.number) = search rules in
    c.simulate_with_crashes.ensures.refused c.in-Err-CrashRefused.number so
