-- The comma and the member come before the members that follow.
use Rattle.kmip_report.proofs.LineLemmas.{member_after}
use Rattle.kmip_report.proofs.line.push_next.Goals as goal

pub returns : goal.returns
returns c =
    member_after c.push_member.result c.args.text.now.items c.push_text.new.text.items c.push_member.new.text.items c.args.member.now c.in_ok-push_text.ensures.ok c.push_member.ensures
