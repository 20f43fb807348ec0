-- What was noted and what is left up to the end, cut at the most, is the whole, cut there.
use Rattle.std.proofs.Common.{◌≡◌, ◌≤◌, ◌++◌, length, take, drop}
use Rattle.kmip_client.specs.Asking.{all_working_from}
use Rattle.kmip_client.proofs.batching.push_working.Given as goal

abbrev pub invariant-loop-place : goal.invariant-loop-place
invariant-loop-place l =
    (length l.places.items ≤ l.most)
    × (take l.most (l.places.items ++ all_working_from l.place (drop l.place l.keys) (drop l.place l.knowns))
    ≡ take l.most (l.fn.places.items ++ all_working_from l.from (drop l.from l.keys) (drop l.from l.knowns)))
