-- So many exchanges were made, one a turn, and are paid for; what was good still is, and no run was ended.
use Rattle.std.proofs.Common.{◌≡◌}
use Rattle.kmip_protocol.specs.Clean.{AreNoFewer}
use Rattle.kmip_protocol.specs.Past.{Names, is_planned}
use Rattle.kmip_runs.specs.Driving.{IsGood}
use Rattle.kmip_runs.specs.Losing.{ArePaid, left_for}
use Rattle.kmip_runs.proofs.DriveLemmas.{Driven}
use Rattle.kmip_runs.proofs.TurnLemmas.{HasTurned}
use Rattle.kmip_runs.proofs.driving.drive.Given as goal

abbrev pub invariant-loop-made : goal.invariant-loop-made
invariant-loop-made g l = record {
  driven : Driven l.fn.client l.client (g.L.Link.seen l.fn.link) (g.L.Link.seen l.link) l.made;
  counts : (names : Names) → (g.L.Link.seen l.fn.link).honest names → AreNoFewer (g.L.Link.seen l.fn.link).disturbances (g.L.Link.seen l.link).disturbances;
  ended : (names : Names) → (g.L.Link.seen l.fn.link).honest names → (g.L.Link.seen l.link).ended ≡ (g.L.Link.seen l.fn.link).ended;
  paid : IsGood l.fn.client (g.L.Link.seen l.fn.link) → (g.L.Link.seen l.fn.link).honest (is_planned l.fn.client.keys)
      → ArePaid l.made (left_for l.fn.client (g.L.Link.seen l.fn.link).past) (left_for l.client (g.L.Link.seen l.link).past) (g.L.Link.seen l.fn.link).disturbances (g.L.Link.seen l.link).disturbances;
  turned : HasTurned ((g.L.Link.seen l.fn.link).honest (is_planned l.fn.client.keys)) l.made l.fn.client l.client (g.L.Link.seen l.fn.link).past (g.L.Link.seen l.link).past;
  followed : g.L.Link.follows l.fn.link l.link;
}
