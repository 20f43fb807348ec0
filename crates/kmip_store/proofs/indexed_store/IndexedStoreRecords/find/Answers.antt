-- The row that is found is lawful.
use Rattle.std.proofs.Common.{nat_eq, ◌∙◌, ap}
use Rattle.std.specs.Cmp.Lexicographic.{pointwise}
use Rattle.kmip_store.proofs.KeptLemmas.{kept_fits}
use Rattle.kmip_store.proofs.indexed_store.IndexedStoreRecords.find.Goals as goal
use Rattle.kmip_store.specs.Stepping.{row_with}

pub returns-clause-fits : goal.returns-clause-fits
returns-clause-fits c =
    kept_fits (λ r. pointwise nat_eq c.args.uid.now r.uid) c.self.inside.rows.items c.self.inside.room c.row_by_index.result c.self.invariant.0
    (c.row_by_index.ensures ∙ ap (row_with c.args.uid.now) c.as_slice.ensures.value)
