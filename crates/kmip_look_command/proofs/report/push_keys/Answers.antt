-- One line more, until a list ends.
use Rattle.std.proofs.Common.{◌∙◌}
use Rattle.kmip_look_command.proofs.LineLemmas.{line_more, no_line, nothing_left}
use Rattle.kmip_look_command.proofs.report.push_keys.Goals as goal

pub loop-key-preserved : goal.loop-key-preserved
loop-key-preserved c =
    line_more c.args.form c.loop-key.text.items c.push_key.new.text.items c.args.keys.now c.loop-key.key-index c.key-item.result c.in-Some.looked.now c.loop-key.left.now
    c.in-Some.behind.now c.loop-key-test.true c.key-item.is c.in-Some.ensures.cases.0 c.in_ok-push_key.ensures
    ∙ c.loop-key.invariant

pub returns-in_default : goal.returns-in_default
returns-in_default c = nothing_left _ _ _ (no_line c.args.form _ _ c.in_default.ensures.cases) c.loop-key.invariant
