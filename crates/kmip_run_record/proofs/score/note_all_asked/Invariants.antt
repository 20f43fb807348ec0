-- What is noted, and then what is left to note, is all.
use Rattle.std.proofs.Common.{◌≡◌, drop}
use Rattle.std.specs.List.{fold}
use Rattle.kmip_run_record.specs.Scores.{courses_after}
use Rattle.kmip_run_record.proofs.score.note_all_asked.Given as goal

abbrev pub invariant-loop-part : goal.invariant-loop-part
invariant-loop-part l = fold courses_after l.courses (drop l.part-index l.asked) ≡ fold courses_after l.fn.courses l.asked
