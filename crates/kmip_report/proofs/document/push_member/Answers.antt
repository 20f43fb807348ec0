-- The name, the colon and the value are the member.
use Rattle.kmip_report.proofs.DocumentLemmas.{member_is}
use Rattle.kmip_report.proofs.document.push_member.Goals as goal

pub returns : goal.returns
returns c =
    member_is c.push_datum.result c.args.text.now.items c.push_string.new.text.items c.push_text.new.text.items c.push_datum.new.text.items c.args.member.now c.in_ok-push_string.ensures
    c.in_ok-push_text.ensures.ok c.push_datum.ensures
