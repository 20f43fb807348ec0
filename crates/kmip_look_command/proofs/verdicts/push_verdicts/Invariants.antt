-- What was appended, and then that of the keys that are left, is all of it.
use Rattle.std.proofs.Common.{◌≡◌, ◌++◌, drop}
use Rattle.kmip_look_command.specs.LookReport.{verdicts_on}
use Rattle.kmip_look_command.proofs.verdicts.push_verdicts.Given as goal

abbrev pub invariant-loop-key : goal.invariant-loop-key
invariant-loop-key l = l.verdicts.items ++ verdicts_on (drop l.key-index l.keys) l.left ≡ l.fn.verdicts.items ++ verdicts_on l.keys l.lookeds
