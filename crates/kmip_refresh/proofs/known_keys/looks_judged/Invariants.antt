-- What was judged, and then what is left, is all; there is an answer for each key that is left.
use Rattle.std.proofs.Common.{◌≡◌, ◌++◌, drop, length}
use Rattle.kmip_refresh.specs.KnownKeys.{known_from, known_keys, looks_judged}
use Rattle.kmip_refresh.proofs.known_keys.looks_judged.Given as goal

abbrev pub invariant-loop-place : goal.invariant-loop-place
invariant-loop-place l = record {
  answered : length l.rest.items ≡ length (known_from l.place (drop l.place l.keys) (drop l.place l.known));
  judged : l.looks.items ++ looks_judged (known_from l.place (drop l.place l.keys) (drop l.place l.known)) l.rest.items
      ≡ looks_judged (known_keys l.keys l.known) l.fn.lookeds.items;
}
