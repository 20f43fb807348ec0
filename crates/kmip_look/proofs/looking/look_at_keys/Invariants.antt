-- What holds of the groups that were looked at, and of the keys that are left.
use Rattle.std.proofs.Common.{◌≡◌, ◌+◌, ◌++◌, List, true, false, length}
use Rattle.kmip_protocol.specs.Past.{Names}
use Rattle.std.specs.List.{AllZip}
use Rattle.kmip_plan.specs.declared.key.Key.{Key}
use Rattle.kmip_look.specs.Looks.{KeepsSound}
use Rattle.kmip_look.specs.PrivateKeeping.{AreFit}
use Rattle.kmip_look.specs.PrivateTrying.{IsTriedAt}
use Rattle.kmip_look.specs.declared.looking.TheConstants.{MOST_TRIES}
use Rattle.kmip_look.specs.declared.part.Part.TheVariants.{Tell}
use Rattle.kmip_look.proofs.GroupLemmas.{CalmSoFar, SoFar}
use Rattle.kmip_look.proofs.looking.look_at_keys.Given as goal

abbrev pub invariant-loop-rest : goal.invariant-loop-rest
invariant-loop-rest g l = record {
  fit : AreFit l.rest;
  many : length l.lookeds.items + length l.rest ≡ length l.keys;
  honest : (names : Names) → (g.L.Link.seen l.initial.link).honest names → (g.L.Link.seen l.link).honest names
      × SoFar names l.mark l.keys l.rest l.lookeds.items (g.L.Link.seen l.initial.link).past (g.L.Link.seen l.link).past;
  calm : (names : Names) → (g.L.Link.seen l.initial.link).calm names → (g.L.Link.seen l.link).calm names
      × CalmSoFar l.keys l.rest l.lookeds.items l.goes_on (g.L.Link.seen l.initial.link).past (g.L.Link.seen l.link).past;
  tried : (names : Names) → (g.L.Link.seen l.initial.link).honest names → l.goes_on ≡ true → (front : List Key) × (front ++ l.rest ≡ l.keys)
      × AllZip (IsTriedAt Tell MOST_TRIES l.mark (g.L.Link.seen l.initial.link).past (g.L.Link.seen l.link).past) front l.lookeds.items;
  sound : KeepsSound l.mark (g.L.Link.seen l.initial.link) (g.L.Link.seen l.link);
  stops : l.goes_on ≡ false → g.P.Pause.has_given_up l.pause ≡ true;
}

abbrev pub decreases-loop-rest : goal.decreases-loop-rest
decreases-loop-rest g l = length l.rest
