-- What was sent and told until now, and how the keys stand over a calm link.
use Rattle.kmip_protocol.specs.Past.{Names, Past}
use Rattle.std.specs.List.{AllZip}
use Rattle.kmip_look.specs.Looks.{KeepsSound}
use Rattle.kmip_look.specs.PrivateTrying.{IsTriedAt}
use Rattle.kmip_look.specs.PrivateKeeping.{AreShaped, Goes, SendsLooks}
use Rattle.kmip_look.proofs.PastLemmas.{Tried}
use Rattle.kmip_look.proofs.looking.ask_part.Given as goal

abbrev pub invariant-loop-tried : goal.invariant-loop-tried
invariant-loop-tried g l = record {
  shaped : AreShaped l.keys l.lookeds.items;
  honest : (names : Names) → (g.L.Link.seen l.initial.link).honest names → (g.L.Link.seen l.link).honest names
      × SendsLooks l.keys l.mark l.tried (g.L.Link.seen l.initial.link).past (g.L.Link.seen l.link).past
      × Goes names l.mark l.keys l.initial.lookeds.items l.lookeds.items (g.L.Link.seen l.initial.link).past (g.L.Link.seen l.link).past;
  calm : (names : Names) → (g.L.Link.seen l.initial.link).calm names → (g.L.Link.seen l.link).calm names
      × Tried l.part l.tried l.keys l.initial.lookeds.items l.lookeds.items (g.L.Link.seen l.initial.link).past (g.L.Link.seen l.link).past;
  sound : KeepsSound l.mark (g.L.Link.seen l.initial.link) (g.L.Link.seen l.link);
  tried : (names : Names) → (g.L.Link.seen l.initial.link).honest names → (start : Past)
      → AllZip (IsTriedAt l.part 0 l.mark start (g.L.Link.seen l.initial.link).past) l.keys l.initial.lookeds.items
      → AllZip (IsTriedAt l.part l.tried l.mark start (g.L.Link.seen l.link).past) l.keys l.lookeds.items;
}
