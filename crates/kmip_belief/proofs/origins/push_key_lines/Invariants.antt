-- What is appended so far, and then the lines that are left, is the text of all of them.
use Rattle.std.proofs.Common.{◌≡◌, ◌++◌, drop}
use Rattle.kmip_belief.specs.Origins.{key_lines}
use Rattle.kmip_belief.proofs.origins.push_key_lines.Given as goal

abbrev pub invariant-loop-key : goal.invariant-loop-key
invariant-loop-key l =
    l.text.items ++ key_lines (drop l.key-index l.keys) ≡ l.initial.text.items ++ key_lines l.keys
