-- The bytes so far are drawn.
use Rattle.std.proofs.Common.{◌≡◌, ◌++◌, take}
use Rattle.std.specs.List.{flat_map}
use Rattle.kmip_simulation.specs.Diagram.{drawn_byte}
use Rattle.kmip_simulation.proofs.diagram.draw_text.Given as goal

abbrev pub invariant-loop-byte : goal.invariant-loop-byte
invariant-loop-byte l = l.text.items ≡ l.fn.text.items ++ flat_map drawn_byte (take l.byte-index l.told)
