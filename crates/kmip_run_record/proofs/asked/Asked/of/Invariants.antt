-- The questions so far are kept.
use Rattle.std.proofs.Common.{◌≡◌, length, take}
use Rattle.kmip_run_record.proofs.asked.Asked.of.Given as goal

abbrev pub invariant-loop-place : goal.invariant-loop-place
invariant-loop-place l = record {
  kept : take l.place l.asked.parts ≡ take l.place l.parts;
  long : length l.asked.parts ≡ 8;
}
