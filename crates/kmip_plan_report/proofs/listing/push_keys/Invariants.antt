-- The lines so far, and then those of the keys that are left, are all of them.
use Rattle.std.proofs.Common.{◌≡◌, ◌++◌, drop, map}
use Rattle.kmip_report.specs.Pieces.{report_in}
use Rattle.kmip_plan_report.specs.Listing.{key_line}
use Rattle.kmip_plan_report.specs.Standings.{standing_of}
use Rattle.kmip_plan_report.proofs.listing.push_keys.Given as goal

abbrev pub invariant-loop-standing : goal.invariant-loop-standing
invariant-loop-standing l =
    l.text.items ++ report_in l.form (map key_line (map standing_of (drop l.standing-index l.standings)))
    ≡ l.initial.text.items ++ report_in l.form (map key_line (map standing_of l.standings))
