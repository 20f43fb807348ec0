-- A progress that is not there says nothing, and nothing has happened to a new server.
use Rattle.std.proofs.Common.{Ok, ap, sym, ◌∙◌}
use Rattle.kmip_run_command.specs.RunEnds.{begin_knowns}
use Rattle.kmip_scripted.specs.Scenes.{past_in}
use Rattle.test_desk.proofs.FreshLemmas as lemmas
use Rattle.test_desk.proofs.in_memory.run_in_memory.Goals as goal

pub returns : goal.returns
returns c = record {
  sentence = λ is none.
      let link = c.new_link-link.result in
      c.run_over-status.ensures.sentence is (record {
        sound = λ keys plan_is. c.the_laws_of_exchanges_hold.ensures.begins keys (past_in link) (c.new_link-link.ensures keys);
        held = λ keys knowns plan_is begins.
            lemmas.held_of_none (past_in link).objects keys knowns c.args.job.now.options.now.trust _ none begins;
      });
}
