-- What was heard of the first keys, and what will be heard of the others, is what is heard of all.
use Rattle.std.proofs.Common.{◌≡◌, ◌++◌, drop, take, length}
use Rattle.kmip_look.specs.PrivateHearing.{heard_each}
use Rattle.kmip_look.proofs.hearing.hear_each.Given as goal

abbrev pub invariant-loop-place : goal.invariant-loop-place
invariant-loop-place l = record {
  as_many : length l.lookeds.items ≡ length l.keys;
  heard : take l.place l.lookeds.items
      ++ heard_each l.part l.mark l.heard.why l.heard.replies.items (drop l.place l.keys) (drop l.place l.lookeds.items)
      ≡ heard_each l.part l.mark l.heard.why l.heard.replies.items l.keys l.initial.lookeds.items;
}
