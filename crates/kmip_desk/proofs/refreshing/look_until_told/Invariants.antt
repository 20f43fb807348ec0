-- The last look so far, after others.
use Rattle.kmip_refresh.specs.KnownKeys.{keys_of}
use Rattle.kmip_desk.specs.DeskRuns.{LastLook, known_of}
use Rattle.kmip_desk.proofs.refreshing.look_until_told.Given as goal

abbrev pub invariant-loop : goal.invariant-loop
invariant-loop g l = LastLook (λ link. g.L.Link.seen link) l.client l.fn.link l.looks.items l.link
