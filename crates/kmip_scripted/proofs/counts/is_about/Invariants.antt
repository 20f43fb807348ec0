-- One of the questions that are left is about the key where one of all is.
use Rattle.std.proofs.Common.{◌≡◌, drop}
use Rattle.std.specs.List.{filter_map, list_any}
use Rattle.std.specs.Result.{result_ok}
use Rattle.kmip_protocol.specs.Clean.{is_name_of}
use Rattle.kmip_scripted.proofs.counts.is_about.Given as goal

abbrev pub invariant-loop-question : goal.invariant-loop-question
invariant-loop-question l =
    list_any (is_name_of l.name) (filter_map result_ok (drop l.question-index l.questions))
    ≡ list_any (is_name_of l.name) (filter_map result_ok l.questions)
