-- The question is asked where both names are free, as far as that is known.
use Rattle.std.proofs.Common.{rules}
use Rattle.kmip_probe.proofs.probing.next_inquiry.Goals as goal

pub returns : goal.returns
returns c = search (rules, c.is_free_at.ensures, c.inquiry_at.ensures)
