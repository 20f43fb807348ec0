-- As many runs have their ends as were begun, and all is good between two of them. The link follows the first.
use Rattle.kmip_runs.specs.PrivateCrashes.{AreCrashing}
use Rattle.kmip_runs.proofs.crashing.crash_each.Given as goal

abbrev pub invariant-loop-place : goal.invariant-loop-place
invariant-loop-place g l =
    AreCrashing l.fn.plan l.runs l.place (g.L.Link.seen l.fn.link) (record { client = l.client; link = g.L.Link.seen l.link; end = l.end }) × g.L.Link.follows l.fn.link l.link
