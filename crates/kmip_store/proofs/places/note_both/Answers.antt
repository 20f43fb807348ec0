-- The name's entry was taken back, and the identifier's was never there.
use Rattle.std.proofs.Common.{rules}
use Rattle.kmip_store.proofs.IndexingLemmas.{before_last}
use Rattle.kmip_store.proofs.places.note_both.Goals as goal

pub returns-then-is_err-clause-err : goal.returns-then-is_err-clause-err
returns-then-is_err-clause-err c = search (rules, before_last c.args.names.now.entries (c.args.name, c.args.place))
