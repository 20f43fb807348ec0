-- How the exchanges ended is how the run ended.
use Rattle.std.proofs.Common.{rules}
use Rattle.kmip_runs.specs.declared.save_fault.SaveFault.TheVariants as faults
use Rattle.kmip_run_command.proofs.CourseLemmas.{came_stop, came_unsaved, over_broken, over_stop, over_unsaved}
use Rattle.kmip_run_command.proofs.carrying_out.run_to_end.Goals as goal

pub returns-in-Ok : goal.returns-in-Ok
returns-in-Ok g c =
    let carried = c.carry_out-ended.result in
    let done = c.carry_out-ended.ensures in
    record {
      text = record {
        keys_are = done.forgets_nothing.keys_stay;
        has_come = came_stop _ _ _ carried.0 c.in-Ok.stop carried.1 c.in-Ok.is (search rules) done;
        in_memory = search rules;
        stands = search rules;
        within = search rules;
      };
      over = over_stop _ _ _ carried.0 c.in-Ok.stop carried.1 c.in-Ok.is (search rules) done;
    }

pub returns-in-Err-Output : goal.returns-in-Err-Output
returns-in-Err-Output g c =
    let carried = c.carry_out-ended.result in
    let done = c.carry_out-ended.ensures in
    let fault = c.in-Err-Output.field-0 in
    record {
      text = record {
        keys_are = done.forgets_nothing.keys_stay;
        exchanges = carried.1;
        has_come = came_unsaved _ _ _ carried.0 fault faults.Output carried.1 c.in-Err-Output.is (search rules) done;
      };
      over = over_unsaved _ _ _ carried.0 fault carried.1 c.in-Err-Output.is done;
    }

pub returns-in-Ok-NoMemory : goal.returns-in-Ok-NoMemory
returns-in-Ok-NoMemory g c = record {
  text = tt;
  over = over_broken _ _ _ c.carry_out-ended.result.0 c.carry_out-ended.result.1 c.carry_out-ended.ensures;
}

pub returns-in-Ok-NoMemory-2 : goal.returns-in-Ok-NoMemory-2
returns-in-Ok-NoMemory-2 g c = record {
  text = tt;
  over = over_broken _ _ _ c.carry_out-ended.result.0 c.carry_out-ended.result.1 c.carry_out-ended.ensures;
}
