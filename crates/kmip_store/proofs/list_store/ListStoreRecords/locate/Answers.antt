-- The first row that is wanted is the only one.
use Rattle.std.proofs.Common.{ap, ◌∙◌}
use Rattle.std.specs.List.{find}
use Rattle.kmip_store.proofs.LocatingLemmas.{wants, located}
use Rattle.kmip_store.proofs.list_store.ListStoreRecords.locate.Goals as goal

pub returns-clause-found : goal.returns-clause-found
returns-clause-found c =
    let first = c.first_wanted-row.ensures ∙ ap (find (wants c.args.mask c.args.filter.now)) c.as_slice.ensures.value in
    rw (← c.self.view_is)
    (located c.args.mask c.args.filter.now c.self.inside.rows.items c.self.inside.room c.first_wanted-row.result c.in_ok-uid.uid c.requires c.self.invariant first c.in_ok-uid.ensures).0

pub returns-clause-uid : goal.returns-clause-uid
returns-clause-uid c =
    let first = c.first_wanted-row.ensures ∙ ap (find (wants c.args.mask c.args.filter.now)) c.as_slice.ensures.value in
    (located c.args.mask c.args.filter.now c.self.inside.rows.items c.self.inside.room c.first_wanted-row.result c.in_ok-uid.uid c.requires c.self.invariant first c.in_ok-uid.ensures).1
