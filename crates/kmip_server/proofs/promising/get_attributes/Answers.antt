-- By the row with the identifier.
use Rattle.kmip_store.specs.Stock.{object_of}
use Rattle.kmip_server.proofs.PromiseLemmas.{attributes_fit, told_outcome}
use Rattle.kmip_server.proofs.promising.get_attributes.Goals as goal

pub returns-clause-outcome : goal.returns-clause-outcome
returns-clause-outcome g c =
    told_outcome c.in_ok-uid.uid c.args.uid.now c.in_ok-attrs.attrs c.in-Some.row.now (g.S.Records.stock c.args.store.now).rows c.in_ok-uid.ensures
    (c.in_ok-attrs.ensures c.in-Some.row.now.uid) c.in-Some.ensures.value

pub returns-clause-brief : goal.returns-clause-brief
returns-clause-brief g c =
    (attributes_fit c.in_ok-uid.uid c.in_ok-attrs.attrs c.args.uid.now (object_of c.in-Some.row.now) c.in_ok-uid.ensures
    (c.in_ok-attrs.ensures c.in-Some.row.now.uid) c.requires c.in-Some.ensures.fits.1).1
