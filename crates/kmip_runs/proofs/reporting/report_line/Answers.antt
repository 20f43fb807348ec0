-- The line is made of its parts.
use Rattle.std.proofs.Common.{◌∙◌}
use Rattle.kmip_runs.proofs.ReportLemmas.{line_is}
use Rattle.kmip_runs.proofs.reporting.report_line.Goals as goal

pub returns : goal.returns
returns c =
    c.in_ok-line.ensures.ok
    ∙ line_is c.args.key.now c.args.done _ c.args.verdict _ _ _ c.as_str-name.ensures c.word-target.ensures c.chain_length-steps.ensures.steps c.word-word.ensures
