-- One verdict more, until a list ends.
use Rattle.std.proofs.Common.{◌∙◌}
use Rattle.kmip_look_command.proofs.LineLemmas.{no_verdict, nothing_left, verdict_more}
use Rattle.kmip_look_command.proofs.verdicts.push_verdicts.Goals as goal

pub loop-key-preserved : goal.loop-key-preserved
loop-key-preserved c =
    verdict_more c.loop-key.verdicts.items c.push.new.self.items c.args.keys.now c.loop-key.key-index c.key-item.result c.in-Some.looked.now c.loop-key.left.now
    c.in-Some.behind.now c.verdict.result c.loop-key-test.true c.key-item.is c.in-Some.ensures.cases.0 c.verdict.ensures c.in_ok-push.ensures.items
    ∙ c.loop-key.invariant

pub returns-in_default : goal.returns-in_default
returns-in_default c = nothing_left _ _ _ (no_verdict _ _ c.in_default.ensures.cases) c.loop-key.invariant
