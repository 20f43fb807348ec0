-- By what was learnt.
use Rattle.std.proofs.Common.{refl}
use Rattle.kmip_client.proofs.hearing.teach_working.Goals as goal

pub returns-in-Ok-clause-ok : goal.returns-in-Ok-clause-ok
returns-in-Ok-clause-ok c =
    rw (c.in-Ok.ensures.ok, c.news_of.ensures, c.has_failed-failed.ensures, c.is_some-had_identifier.ensures) refl
