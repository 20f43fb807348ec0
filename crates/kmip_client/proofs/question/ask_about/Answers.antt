-- Each phase asks what is said of it.
use Rattle.std.proofs.Common.{refl}
use Rattle.kmip_client.proofs.question.ask_about.Goals as goal

pub returns-in_ok-copied-in-Look : goal.returns-in_ok-copied-in-Look
returns-in_ok-copied-in-Look c = rw (c.by_name.ensures, c.in_ok-copied-in-Look.ensures, c.as_str.ensures, c.in-Look.is) refl

pub returns-in_ok-copied-in-Make : goal.returns-in_ok-copied-in-Make
returns-in_ok-copied-in-Make c = rw (c.in_ok-copied-in-Make.ensures, c.in-Make.is) refl

pub returns-in_ok-copied-in-Check : goal.returns-in_ok-copied-in-Check
returns-in_ok-copied-in-Check c = rw (c.in_ok-copied-in-Check.ensures, c.uid_of-uid.ensures, c.in-Check.is) refl
