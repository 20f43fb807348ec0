-- The row that is found is lawful.
use Rattle.std.proofs.Common.{nat_eq, ◌∙◌, ap}
use Rattle.std.specs.Cmp.Lexicographic.{pointwise}
use Rattle.kmip_store.proofs.KeptLemmas.{kept_fits}
use Rattle.kmip_store.proofs.list_store.ListStoreRecords.find.Goals as goal
use Rattle.kmip_store.specs.Stepping.{row_with}

pub returns-clause-fits : goal.returns-clause-fits
returns-clause-fits c =
    kept_fits (λ r. pointwise nat_eq c.args.uid.now r.uid) c.self.inside.rows.items c.self.inside.room c.row_with.result c.self.invariant
    (c.row_with.ensures ∙ ap (row_with c.args.uid.now) c.as_slice.ensures.value)
