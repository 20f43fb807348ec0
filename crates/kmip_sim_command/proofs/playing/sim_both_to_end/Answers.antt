-- The script is the one that was read, and the plans are the two.
use Rattle.std.proofs.Common.{◌≡◌, [], ◌∷◌, rules, sym, ap, subst, ◌∙◌}
use Rattle.kmip_scripted.specs.ScriptTexts.{IsScript}
use Rattle.kmip_scripted.specs.Words.{crashes, prolongings}
use Rattle.kmip_simulation.specs.Simulating.{AreSimulated}
use Rattle.kmip_sim_command.proofs.playing.sim_both_to_end.Goals as goal

pub returns-in-Ok : goal.returns-in-Ok
returns-in-Ok c =
    let s = c.in_ok-simulation-in-Ok.simulation in
    let said = c.in_ok-simulation-in-Ok.ensures in
    let both : c.as_slice.result.now ≡ c.args.plan ∷ c.args.further ∷ [] = search rules in
    let simulated = subst (λ words. AreSimulated c.as_slice.result.now c.args.input.now.batch words s.end s.link) (sym said.words) said.simulated in (
      search rules,
      record {
        is_script = subst (λ words. IsScript c.args.input.now.script.now words) (sym said.words) c.in-Ok.ensures.0;
        as_often = ap prolongings said.words ∙ c.in-Ok.ensures.1;
        no_crash = λ some. ap crashes said.words ∙ c.in-Ok.ensures.2 some;
        simulated = subst (λ plans. AreSimulated plans c.args.input.now.batch s.words s.end s.link) both simulated;
      },
    )
