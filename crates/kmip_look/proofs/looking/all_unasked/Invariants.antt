-- As many as turns, each of them unasked.
use Rattle.std.proofs.Common.{◌≡◌, length}
use Rattle.std.specs.List.{All}
use Rattle.kmip_look.specs.PrivateKeeping.{unasked}
use Rattle.kmip_look.proofs.looking.all_unasked.Given as goal

abbrev pub invariant-loop : goal.invariant-loop
invariant-loop l = record {
  count : length l.lookeds.items ≡ l.counter;
  each : All (λ looked. looked ≡ unasked) l.lookeds.items;
}
