-- No reply has come to any of the messages that were sent so far; over a calm link none was sent yet.
use Rattle.std.proofs.Common.{◌≡◌}
use Rattle.kmip_protocol.specs.Past.{Names}
use Rattle.kmip_probe.specs.Private.{HasLost}
use Rattle.kmip_probe.proofs.probing.send_up_to.Given as goal

abbrev pub invariant-loop-turn : goal.invariant-loop-turn
invariant-loop-turn g l = record {
  honestly : (names : Names) → (g.L.Link.seen l.initial.link).honest names
      → (g.L.Link.seen l.link).honest names × HasLost l.message l._turn (g.L.Link.seen l.initial.link).past (g.L.Link.seen l.link).past;
  calmly : (names : Names) → (g.L.Link.seen l.initial.link).calm names
      → (g.L.Link.seen l.link).calm names × (l._turn ≡ 0) × ((g.L.Link.seen l.link).past ≡ (g.L.Link.seen l.initial.link).past);
}
