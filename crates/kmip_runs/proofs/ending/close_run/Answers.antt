-- Where the run ended over the link, it is noted.
use Rattle.std.proofs.Common.{rules}
use Rattle.kmip_runs.proofs.ending.close_run.Goals as goal

pub returns-in-Ok : goal.returns-in-Ok
returns-in-Ok g c = record {
  honestly = λ names honest. record {
    honest = search rules;
    undisturbed = search rules;
    ended = search rules;
    unended = search rules;
  };
  amid = search rules;
  calm = search rules;
  followed = search rules;
  wanting = search rules;
}
