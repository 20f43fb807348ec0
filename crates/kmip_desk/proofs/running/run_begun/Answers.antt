-- A run that ended with `Done` stopped as all keys are finished.
use Rattle.kmip_run_command.specs.Runs.{run_change}
use Rattle.kmip_run_command.specs.declared.run_end.RunEnd.TheVariants.{Stopped}
use Rattle.kmip_runs.specs.declared.stop.Stop.TheVariants.{AllFinished}
use Rattle.kmip_desk.specs.DeskRuns.{run_views, state_of}
use Rattle.kmip_desk.proofs.EndLemmas as ends
use Rattle.kmip_desk.proofs.running.run_begun.Goals as goal

pub returns-clause-done : goal.returns-clause-done
returns-clause-done g c = λ is.
    let v = run_views g.L.Link.seen g.K.Keeper.kept g.E.Patience.has_given_up g.E.Patience.asked in
    let done = ends.done c.input_of-input.result c.run.new.client _ _ _ c.run.result c.run.ensures.text is in
    record {
      begun = c.begin.new.self;
      fresh = c.begin.ensures;
      last = c.run.new.client;
      exchanges = done.exchanges;
      ends = ends.at_limit c.args.client.now
          (run_change
          (state_of v c.args.link.now c.args.keeper.now c.begin.new.self)
          (state_of v c.run.new.link c.run.new.keeper c.run.new.patience))
          c.run.new.client (Stopped AllFinished done.exchanges) c.input_of-input.result.limit c.args.job.now.options.now.limit
          c.input_of-input.ensures.limit done.ended;
      prints = record {
        input = c.input_of-input.result;
        form_is = c.input_of-input.ensures.form;
        report_is = c.input_of-input.ensures.report;
        limit_is = c.input_of-input.ensures.limit;
        printed = done.told;
      };
    }
