-- One row is in another state, or none.
use Rattle.std.proofs.Common.{◌<◌, set, length, Some, Ok, IfSome, refl, sym, ap, subst, ◌∙◌}
use Rattle.std.proofs.lemmas.Option.{slice_get-get_or}
use Rattle.kmip_store.specs.Stock.{Stock, IsKept}
use Rattle.kmip_store.specs.PrivateIndexing.{names_of, uids_of}
use Rattle.kmip_store.specs.Stepping.{enter_state, rows_in_state, take_step_from}
use Rattle.kmip_store.proofs.KeptLemmas.{kept_moved}
use Rattle.kmip_store.proofs.PlaceLemmas.{find_none}
use Rattle.kmip_store.proofs.SteppingLemmas.{has_uid, found_row, own_uid, step_found, stepped_is, names_moved, uids_moved}
use Rattle.kmip_store.proofs.stepping.step_at.Goals as goal

pub returns-in_default-clause-step : goal.returns-in_default-clause-step
returns-in_default-clause-step c = λ uid room stream place.
    let rows = c.args.rows.now.items in
    let s : Stock = record { rows = rows; room = room; stream = stream } in
    (ap (take_step_from c.args.step uid s) (find_none (has_uid uid) rows (sym place ∙ c.in_default.is)), refl)

pub returns-in_default-after-clause-step : goal.returns-in_default-after-clause-step
returns-in_default-after-clause-step c = λ uid room stream place.
    let rows = c.args.rows.now.items in
    let row = c.index.result.now in
    let found = found_row (has_uid uid) rows c.in-Some.place row (sym place ∙ c.in-Some.is) c.index.ensures in
    let s : Stock = record { rows = rows; room = room; stream = stream } in
    (step_found c.args.step uid s row c.after.result found c.after.ensures ∙ ap (enter_state uid s) c.in_default-after.is, refl)

pub returns-clause-step : goal.returns-clause-step
returns-clause-step c = λ uid room stream is.
    let rows = c.args.rows.now.items in
    let place = c.in-Some.place in
    let row = c.index.result.now in
    let state = c.in-Some-after.state in
    let moved = c.index_mut.result.now in
    let here = sym is ∙ c.in-Some.is in
    let within : place < length rows = subst (λ o. IfSome o (λ p. p < length rows)) c.in-Some.is c.requires.within in
    let at = slice_get-get_or rows place moved within ∙ ap Some (sym c.index_mut.ensures.value) in
    let stepped = stepped_is rows (set rows place c.enter.new.row) state place moved c.requires.numbered.0 c.requires.numbered.1 at (ap (set rows place) c.enter.ensures) in
    let own = own_uid rows uid place moved here c.index_mut.ensures.value in
    let found = found_row (has_uid uid) rows place row here c.index.ensures in
    let s : Stock = record { rows = rows; room = room; stream = stream } in
    step_found c.args.step uid s row c.after.result found c.after.ensures
    ∙ ap (enter_state uid s) c.in-Some-after.is
    ∙ ap (λ rs. Ok (record { rows = rs; room = room; stream = stream })) (ap (λ u. rows_in_state u state rows) own ∙ sym stepped)

pub returns-clause-kept : goal.returns-clause-kept
returns-clause-kept c = λ room kept.
    let rows = c.args.rows.now.items in
    let place = c.in-Some.place in
    let state = c.in-Some-after.state in
    let moved = c.index_mut.result.now in
    let within : place < length rows = subst (λ o. IfSome o (λ p. p < length rows)) c.in-Some.is c.requires.within in
    let at = slice_get-get_or rows place moved within ∙ ap Some (sym c.index_mut.ensures.value) in
    let stepped = stepped_is rows (set rows place c.enter.new.row) state place moved c.requires.numbered.0 c.requires.numbered.1 at (ap (set rows place) c.enter.ensures) in
    subst (λ rs. IsKept rs room) (sym stepped) (kept_moved moved.uid state rows room kept)

pub returns-clause-names : goal.returns-clause-names
returns-clause-names c =
    let rows = c.args.rows.now.items in
    let place = c.in-Some.place in
    let state = c.in-Some-after.state in
    let moved = c.index_mut.result.now in
    let within : place < length rows = subst (λ o. IfSome o (λ p. p < length rows)) c.in-Some.is c.requires.within in
    let at = slice_get-get_or rows place moved within ∙ ap Some (sym c.index_mut.ensures.value) in
    let stepped = stepped_is rows (set rows place c.enter.new.row) state place moved c.requires.numbered.0 c.requires.numbered.1 at (ap (set rows place) c.enter.ensures) in
    ap names_of stepped ∙ names_moved moved.uid state rows

pub returns-clause-uids : goal.returns-clause-uids
returns-clause-uids c =
    let rows = c.args.rows.now.items in
    let place = c.in-Some.place in
    let state = c.in-Some-after.state in
    let moved = c.index_mut.result.now in
    let within : place < length rows = subst (λ o. IfSome o (λ p. p < length rows)) c.in-Some.is c.requires.within in
    let at = slice_get-get_or rows place moved within ∙ ap Some (sym c.index_mut.ensures.value) in
    let stepped = stepped_is rows (set rows place c.enter.new.row) state place moved c.requires.numbered.0 c.requires.numbered.1 at (ap (set rows place) c.enter.ensures) in
    ap uids_of stepped ∙ uids_moved moved.uid state rows
