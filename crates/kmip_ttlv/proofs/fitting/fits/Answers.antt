-- The limits of the outermost item are those of a written form.
use Rattle.std.proofs.Common.{Bool, IsTrue, ◌↔◌, subst, sym}
use Rattle.kmip_ttlv.specs.View.{view}
use Rattle.kmip_ttlv.specs.Sizes.{Fits, IsWritable}
use Rattle.kmip_ttlv.proofs.Within.{fits_where_some, writable_where_some}
use Rattle.kmip_ttlv.proofs.fitting.fits.Goals as goal

pub returns-clause-in_range : goal.returns-clause-in_range
returns-clause-in_range c =
    subst (λ (b : Bool). (IsTrue b) ↔ Fits (view c.args.item.now)) (sym c.is_some.ensures)
    (fits_where_some c.size_within.result (view c.args.item.now) c.size_within.ensures)

pub returns-clause-writable : goal.returns-clause-writable
returns-clause-writable c =
    subst (λ (b : Bool). (IsTrue b) ↔ IsWritable (view c.args.item.now)) (sym c.is_some.ensures)
    (writable_where_some c.size_within.result (view c.args.item.now) c.size_within.ensures)
