-- As many runs have ended as were begun, and all is good between two of them; each was ended over the link, and outlasts what it loses.
use Rattle.std.proofs.Common.{[], length, take}
use Rattle.std.specs.List.{All}
use Rattle.std.specs.Prelude.{⊤}
use Rattle.kmip_client.specs.Held.{TrueProgress}
use Rattle.kmip_protocol.specs.Past.{is_planned}
use Rattle.kmip_runs.specs.Headline.{GoodLink}
use Rattle.kmip_runs.specs.Remembering.{notes_of}
use Rattle.kmip_runs.specs.Private.{EndsJoin}
use Rattle.kmip_runs.specs.Losing.{AllOutlast}
use Rattle.kmip_runs.proofs.RunLemmas.{Running}
use Rattle.kmip_runs.proofs.TurnedRunLemmas.{TurnedSoFar}
use Rattle.kmip_runs.proofs.campaigning.run_each.Given as goal

abbrev pub invariant-loop-place : goal.invariant-loop-place
invariant-loop-place g l = record {
  running : Running l.fn.plan l.fn.carried l.client (g.L.Link.seen l.fn.link) (g.L.Link.seen l.link) l.runs (notes_of l.end) l.place;
  ended : (g.L.Link.seen l.fn.link).honest (is_planned l.fn.plan)
      → EndsJoin [] l.end.runs.items ⊤ (length (g.L.Link.seen l.fn.link).past.sent) (length (g.L.Link.seen l.link).past.sent) (g.L.Link.seen l.fn.link).ended (g.L.Link.seen l.link).ended;
  outlasted : GoodLink l.fn.plan (g.L.Link.seen l.fn.link) → All (TrueProgress (g.L.Link.seen l.fn.link).past.objects l.fn.plan) l.fn.carried
      → (g.L.Link.seen l.fn.link).honest (is_planned l.fn.plan)
      → AllOutlast l.fn.plan (take l.place l.runs) l.end.runs.items (g.L.Link.seen l.fn.link).disturbances (g.L.Link.seen l.link).disturbances;
  followed : g.L.Link.follows l.fn.link l.link;
  turned : TurnedSoFar l.fn.plan l.fn.carried l.runs l.client ((g.L.Link.seen l.fn.link).honest (is_planned l.fn.plan)) (g.L.Link.seen l.fn.link).past (g.L.Link.seen l.link).past
      l.end.runs.items l.end.saved.items;
}
