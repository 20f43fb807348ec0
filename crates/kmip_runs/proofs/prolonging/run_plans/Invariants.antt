-- The runs on the first plans were made, and all is as it is to be before the next; each was ended over the link.
use Rattle.std.specs.Prelude.{⊤, [], length, map}
use Rattle.kmip_protocol.specs.Past.{is_planned}
use Rattle.kmip_runs.specs.Campaigns.{last_plan}
use Rattle.kmip_runs.specs.Private.{EndsJoin}
use Rattle.kmip_runs.proofs.PlanLemmas.{Turning}
use Rattle.kmip_runs.proofs.prolonging.run_plans.Given as goal

abbrev pub invariant-loop-place : goal.invariant-loop-place
invariant-loop-place g l = record {
  turning : Turning l.plans (map (λ list. list.items) l.runs) (g.L.Link.seen l.fn.link) (g.L.Link.seen l.link) l.place l.end l.carried.items;
  ended : (g.L.Link.seen l.fn.link).honest (is_planned (last_plan l.plans))
      → EndsJoin [] l.end.runs.items ⊤ (length (g.L.Link.seen l.fn.link).past.sent) (length (g.L.Link.seen l.link).past.sent) (g.L.Link.seen l.fn.link).ended (g.L.Link.seen l.link).ended;
  followed : g.L.Link.follows l.fn.link l.link;
}
