-- A row that is searched is wanted for what it has.
use Rattle.kmip_store.proofs.matching.is_wanted.Goals as goal

pub returns-then-is_searched : goal.returns-then-is_searched
returns-then-is_searched c = rw (← c.is_searched.ensures, c.if-is_searched.true) c.has_given.ensures
