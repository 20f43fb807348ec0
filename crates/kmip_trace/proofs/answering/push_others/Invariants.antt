-- The replies so far are written.
use Rattle.std.proofs.Common.{◌≡◌, ◌++◌, take}
use Rattle.std.specs.List.{flat_map}
use Rattle.kmip_trace.specs.Answers.{next_answering_text}
use Rattle.kmip_trace.proofs.answering.push_others.Given as goal

abbrev pub invariant-loop-reply : goal.invariant-loop-reply
invariant-loop-reply l =
    l.text.items ≡ l.fn.text.items ++ flat_map (next_answering_text l.asked) (take l.reply-index l.others)
