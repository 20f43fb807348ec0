-- The texts so far, and then those that are left.
use Rattle.std.proofs.Common.{◌≡◌, ◌++◌, take}
use Rattle.kmip_probe.proofs.judging.push_each.Given as goal

abbrev pub invariant-loop-text : goal.invariant-loop-text
invariant-loop-text l = l.texts.items ≡ l.initial.texts.items ++ take l.text-index l.more
