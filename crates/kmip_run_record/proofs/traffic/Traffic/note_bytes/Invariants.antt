-- No failure is noted.
use Rattle.std.proofs.Common.{◌≡◌}
use Rattle.kmip_run_record.proofs.traffic.Traffic.note_bytes.Given as goal

abbrev pub invariant-loop-byte : goal.invariant-loop-byte
invariant-loop-byte l = l.self.failure ≡ l.fn.self.failure
