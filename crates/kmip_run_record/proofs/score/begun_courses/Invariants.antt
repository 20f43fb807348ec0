-- What is pushed, and then what is left, are the courses of all.
use Rattle.std.proofs.Common.{◌≡◌, ◌++◌, map, drop}
use Rattle.kmip_run_record.specs.Scores.{begun_course}
use Rattle.kmip_run_record.proofs.score.begun_courses.Given as goal

abbrev pub invariant-loop-count : goal.invariant-loop-count
invariant-loop-count l = l.courses.items ++ map begun_course (drop l.count-index l.count-items) ≡ map begun_course l.count-items
