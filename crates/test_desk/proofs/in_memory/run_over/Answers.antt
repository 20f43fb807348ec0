-- What is true of the server when the run begins is true of it after its looks.
use Rattle.std.proofs.Common.{Ok, ap, subst, sym, ◌≡◌, ◌∙◌}
use Rattle.kmip_run_command.specs.RunEnds.{begin_knowns}
use Rattle.kmip_runs.specs.Driving.{IsGood}
use Rattle.kmip_scripted.specs.Scenes.{seen_in}
use Rattle.test_desk.proofs.in_memory.run_over.Goals as goal

pub returns : goal.returns
returns c = record {
  sentence = λ is true.
      let done = c.run_choice.ensures.done is in
      let start = done.start in
      let first = start.first in
      let knows = start.begun.begins.knows in
      let saved = (start.begun.begins.stood tt).saved_is in
      let good : IsGood first (seen_in c.args.link.now) = record {
        amid_for = tt;
        sound = true.sound first.keys knows.plan_is;
        held = true.held first.keys first.knowns knows.plan_is (ap (begin_knowns first.keys) (sym saved) ∙ knows.knows);
      } in
      let stopped = done.stops.ends in
      record {
        keys = first.keys;
        plan_is = knows.plan_is;
        knowns = done.stops.last.knowns;
        finished = stopped.stands;
        safe = stopped.has_come.safe (start.good good);
      };
}
