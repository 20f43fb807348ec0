-- Each value is read back.
use Rattle.kmip_report.proofs.ReadingLemmas.{read_back}
use Rattle.kmip_report.proofs.laws.documents_read_back.Goals as goal

pub returns : goal.returns
returns c = read_back
