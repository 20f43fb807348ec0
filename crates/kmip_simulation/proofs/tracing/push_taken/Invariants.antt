-- The words so far are written.
use Rattle.std.proofs.Common.{◌≡◌, ◌++◌, take}
use Rattle.std.specs.List.{flat_map}
use Rattle.kmip_simulation.specs.Tracing.{taken_text}
use Rattle.kmip_simulation.proofs.tracing.push_taken.Given as goal

abbrev pub invariant-loop-word : goal.invariant-loop-word
invariant-loop-word l = l.text.items ≡ l.fn.text.items ++ flat_map taken_text (take l.word-index l.words)
