-- No byte of a text is a line feed.
use Rattle.kmip_report.proofs.OneLineLemmas.{one_line}
use Rattle.kmip_report.proofs.laws.documents_are_lines.Goals as goal

pub returns : goal.returns
returns c = one_line
