-- The text is that of the plan's keys.
use Rattle.std.proofs.Common.{Ok, Some, ap, sym, ◌∙◌, ◌++◌}
use Rattle.std.specs.Fmt.{decimal}
use Rattle.kmip_belief.specs.Origins.{origin_text}
use Rattle.kmip_desk.proofs.noting.origin_of.Goals as goal

pub returns : goal.returns
returns c = record {
  keys = c.keys.result.now;
  plan_is = c.plan.ensures ∙ ap Ok (sym c.keys.ensures.value);
  kept = decimal c.args.seconds;
  origin_is = ap Some (c.in_ok-push_origin.ensures ∙ ap (λ bytes. bytes ++ origin_text c.args.job.now.server.now (decimal c.args.seconds) c.keys.result.now) c.new-text.ensures.items);
}
