-- The standings so far, and then those of the keys that are left, are all of them.
use Rattle.std.proofs.Common.{◌≡◌, ◌++◌, drop, map}
use Rattle.kmip_plan_report.specs.Standings.{standing_of, standings}
use Rattle.kmip_plan_report.proofs.key_standing.standings.Given as goal

abbrev pub invariant-loop-key : goal.invariant-loop-key
invariant-loop-key l =
    map standing_of l.made.items ++ standings (drop l.key-index l.keys) l.knowns_left l.verdicts_left
    ≡ standings l.keys l.knowns l.verdicts
