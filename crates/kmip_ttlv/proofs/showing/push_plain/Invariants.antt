-- The bytes so far are shown.
use Rattle.std.proofs.Common.{◌≡◌, ◌++◌, string_bytes, take}
use Rattle.kmip_ttlv.specs.Showing.{plain_text}
use Rattle.kmip_ttlv.proofs.showing.push_plain.Given as goal

abbrev pub invariant-loop-byte : goal.invariant-loop-byte
invariant-loop-byte l = string_bytes l.out ≡ string_bytes l.fn.out ++ plain_text (take l.byte-index l.byte-items)
