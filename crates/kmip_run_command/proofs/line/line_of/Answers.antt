-- The line is as narrow as the stated text.
use Rattle.std.proofs.Common.{rules, ◌≡◌, string_bytes}
use Rattle.kmip_run_command.specs.ProgressLineText.{standing_text}
use Rattle.kmip_run_command.proofs.ProgressLineLemmas.{standing_narrow}
use Rattle.kmip_run_command.proofs.line.line_of.Goals as goal

pub returns-clause-narrow : goal.returns-clause-narrow
returns-clause-narrow c =
    let told : string_bytes c.push_count-2.new.line ≡ standing_text c.args.done c.args.steps c.args.spent c.args.most = search rules in
    rw told (standing_narrow c.args.done c.args.steps c.args.spent c.args.most)
