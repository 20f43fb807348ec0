-- What a run ended with is what the client tells of it.
use Rattle.std.proofs.Common.{refl, rules}
use Rattle.kmip_runs.proofs.ending.end_of.Goals as goal

pub returns : goal.returns
returns c = record {
  stop_is = search rules;
  exchanges_is = refl;
  counts_are = search rules;
  verdicts_are = c.in_ok-verdicts.ensures;
  few = c.in_ok-counts.ensures.within;
  report_is = rw (c.in_ok-report.ensures, c.keys-keys.ensures.value, c.plan.ensures.value, c.as_slice.ensures.value, c.as_slice-2.ensures.value) refl;
  in_memory = c.if-is_no_memory.ensures.not refl;
}
