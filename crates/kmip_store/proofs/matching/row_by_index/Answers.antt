-- The row at the place that the map leads to.
use Rattle.std.proofs.Common.{nat_eq, ap, sym, ◌∙◌}
use Rattle.std.specs.Cmp.Lexicographic.{pointwise}
use Rattle.std.specs.Option.{option_copied}
use Rattle.kmip_store.proofs.PlaceLemmas.{find_none, find_some, position_map}
use Rattle.kmip_store.proofs.SteppingLemmas.{has_uid}
use Rattle.kmip_store.proofs.matching.row_by_index.Goals as goal

pub returns-in_err-place_of : goal.returns-in_err-place_of
returns-in_err-place_of c =
    let rows = c.args.rows.now in
    let uid = c.args.uid.now in
    let here = c.place_of.ensures ∙ c.requires uid ∙ position_map (λ r. r.uid) (pointwise nat_eq uid) rows in
    ap option_copied c.from_residual.ensures ∙ sym (find_none (has_uid uid) rows (sym here ∙ c.in_err-place_of.was))

pub returns : goal.returns
returns c =
    let rows = c.args.rows.now in
    let uid = c.args.uid.now in
    let here = c.place_of.ensures ∙ c.requires uid ∙ position_map (λ r. r.uid) (pointwise nat_eq uid) rows in
    c.row_at.ensures ∙ sym (find_some (has_uid uid) rows c.in_ok-place_of.field-0 (sym here ∙ c.in_ok-place_of.was))
