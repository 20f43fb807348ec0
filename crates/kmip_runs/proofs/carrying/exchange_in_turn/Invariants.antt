-- So many exchanges were made, and are paid for, and what was known after each is saved; no run was ended. It was not given up meanwhile.
use Rattle.std.proofs.Common.{◌-◌, ◌≡◌, ◌≤◌, Ok, length, min}
use Rattle.kmip_client.specs.KeepingUp.{IsTextOf}
use Rattle.kmip_disk.specs.Calls.{HasRisenBy}
use Rattle.kmip_protocol.specs.Past.{is_planned}
use Rattle.kmip_runs.specs.Driving.{IsGood}
use Rattle.kmip_runs.specs.Losing.{ArePaid, left_for}
use Rattle.kmip_runs.specs.PrivateCarried.{Carried}
use Rattle.kmip_runs.specs.Turning.{IsTurned}
use Rattle.kmip_runs.specs.declared.stop.Stop.TheVariants as stops
use Rattle.kmip_runs.proofs.carrying.exchange_in_turn.Given as goal

abbrev pub invariant-loop-made : goal.invariant-loop-made
invariant-loop-made g l = record {
  carried : Carried (record { client = l.fn.client; link = g.L.Link.seen l.fn.link; keeper = g.K.Keeper.kept l.fn.keeper })
      (record { client = l.client; link = g.L.Link.seen l.link; keeper = g.K.Keeper.kept l.keeper }) (Ok stops.Limit) l.made;
  text : IsTextOf l.client l.text;
  as_many : length l.sights.items.items ≡ length l.client.keys;
  patient : g.P.Patience.has_given_up l.patience ≡ g.P.Patience.has_given_up l.fn.patience;
  asked : HasRisenBy (min l.made (l.limit - 1)) (g.P.Patience.asked l.fn.patience) (g.P.Patience.asked l.patience);
  turned : IsTurned ((g.L.Link.seen l.fn.link).honest (is_planned l.fn.client.keys)) stops.Limit l.made l.fn.client l.client (g.L.Link.seen l.fn.link).past (g.L.Link.seen l.link).past;
  counted : (g.K.Keeper.kept l.fn.keeper).refusals ≤ (g.K.Keeper.kept l.keeper).refusals;
  ended : (g.L.Link.seen l.fn.link).honest (is_planned l.fn.client.keys) → (g.L.Link.seen l.link).ended ≡ (g.L.Link.seen l.fn.link).ended;
  followed : g.L.Link.follows l.fn.link l.link;
  paid : IsGood l.fn.client (g.L.Link.seen l.fn.link) → (g.L.Link.seen l.fn.link).honest (is_planned l.fn.client.keys)
      → ArePaid l.made (left_for l.fn.client (g.L.Link.seen l.fn.link).past) (left_for l.client (g.L.Link.seen l.link).past) (g.L.Link.seen l.fn.link).disturbances (g.L.Link.seen l.link).disturbances;
}
