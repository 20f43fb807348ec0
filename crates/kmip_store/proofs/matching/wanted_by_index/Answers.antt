-- The row at the place that the map leads to is the only one that may be wanted.
use Rattle.std.proofs.Common.{◌≡◌, nat_eq, Some, None, if◌then◌else◌, rules, ap, sym, ◌∙◌}
use Rattle.std.specs.Cmp.Lexicographic.{pointwise}
use Rattle.std.specs.Option.{option_copied}
use Rattle.kmip_store.proofs.LocatingLemmas.{has_name, named_wanted, unnamed_unwanted}
use Rattle.kmip_store.proofs.PlaceLemmas.{find_some, position_map}
use Rattle.kmip_store.proofs.matching.wanted_by_index.Goals as goal

pub returns-in_err-place_of : goal.returns-in_err-place_of
returns-in_err-place_of c =
    let rows = c.args.rows.now in
    let name = c.as_str.result.now in
    let given : c.args.filter.now.name ≡ Some name = search rules in
    let here = c.place_of.ensures ∙ c.requires.names name ∙ position_map (λ r. r.attrs.name) (pointwise nat_eq name) rows in
    ap option_copied c.from_residual-in_err-place_of.ensures
    ∙ sym (unnamed_unwanted c.args.mask c.args.filter.now name rows given (sym here ∙ c.in_err-place_of.was))

pub returns-then-is_wanted : goal.returns-then-is_wanted
returns-then-is_wanted c =
    let rows = c.args.rows.now in
    let row = c.in_ok-row.row.now in
    let name = c.as_str.result.now in
    let given : c.args.filter.now.name ≡ Some name = search rules in
    let here = c.place_of.ensures ∙ c.requires.names name ∙ position_map (λ r. r.attrs.name) (pointwise nat_eq name) rows in
    let got = sym c.row_at.ensures ∙ ap option_copied c.in_ok-row.was in
    let found = find_some (has_name name) rows c.in_ok-place_of.field-0 (sym here ∙ c.in_ok-place_of.was) ∙ got in
    let wanted = sym c.is_wanted.ensures ∙ c.if-is_wanted.true in
    sym (named_wanted c.args.mask c.args.filter.now name rows row given c.requires.own found ∙ ap (λ b. if b then Some row else None) wanted)

pub returns-else-is_wanted : goal.returns-else-is_wanted
returns-else-is_wanted c =
    let rows = c.args.rows.now in
    let row = c.in_ok-row.row.now in
    let name = c.as_str.result.now in
    let given : c.args.filter.now.name ≡ Some name = search rules in
    let here = c.place_of.ensures ∙ c.requires.names name ∙ position_map (λ r. r.attrs.name) (pointwise nat_eq name) rows in
    let got = sym c.row_at.ensures ∙ ap option_copied c.in_ok-row.was in
    let found = find_some (has_name name) rows c.in_ok-place_of.field-0 (sym here ∙ c.in_ok-place_of.was) ∙ got in
    let wanted = sym c.is_wanted.ensures ∙ c.if-is_wanted.false in
    sym (named_wanted c.args.mask c.args.filter.now name rows row given c.requires.own found ∙ ap (λ b. if b then Some row else None) wanted)
