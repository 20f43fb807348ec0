-- There is room for the row, its name and its identifier are new, and rows and maps have one more.
use Rattle.std.proofs.Common.{◌≡◌, ℕ, ◌<◌, ◌≤◌, Bool, true, false, List, ◌++◌, [], ◌∷◌, length, string_bytes, is_some, refl, sym, ap, subst, ◌∙◌}
use Rattle.std.specs.declared.string.String.{String}
use Rattle.std.proofs.lemmas.Result.{err_from_is_err_and}
use Rattle.rand_chacha.specs.ChaCha.{ChaCha}
use Rattle.indexmap.specs.IndexMap.{IndexMap, get_by_text}
use Rattle.kmip_objects.specs.declared.key_attrs.KeyAttrs.{KeyAttrs}
use Rattle.kmip_store.specs.declared.row.Row.{Row}
use Rattle.kmip_store.specs.Stock.{Stock, draw, has_row_named, identifier_at, material_size, new_row, stock_with}
use Rattle.kmip_store.proofs.IndexingLemmas.{free_uid, leads_nowhere, leads_row}
use Rattle.kmip_store.proofs.LocatingLemmas.{has_named}
use Rattle.kmip_store.specs.PrivateIndexing.{LeadsTo, names_of}
use Rattle.kmip_store.proofs.KeptLemmas.{kept_more}
use Rattle.kmip_store.proofs.indexed_store.IndexedStoreRecords.create.Goals as goal

-- the rows with the one more, and the stream behind its material, are what a Create makes of the records
made_stock : (attrs : KeyAttrs) (rows more : List Row) (room : ℕ) (stream after : ChaCha) (made row : Row) → made ≡ new_row (length rows) attrs made.material
    → length made.material ≡ material_size attrs.length → row ≡ record made { material = (draw (length made.material) stream).0 }
    → after ≡ (draw (length made.material) stream).1 → more ≡ rows ++ row ∷ []
    → (let new : Stock = record { rows = more; room = room; stream = after } in new) ≡ stock_with attrs (record { rows = rows; room = room; stream = stream })
made_stock attrs rows more room stream after made row is size drawn on pushed =
    let row_is : row ≡ new_row (length rows) attrs (draw (material_size attrs.length) stream).0 =
    drawn ∙ ap (λ (r : Row). record r { material = (draw (length made.material) stream).0 }) is
    ∙ ap (λ n. new_row (length rows) attrs (draw n stream).0) size in
    rw (pushed, row_is, on, size) refl

-- whether the map has the name is whether a row has it
named : {A S : Type 0} (rows : List Row) (names : IndexMap (String A) ℕ S) (name asked : List ℕ) (there : Bool) → LeadsTo names (names_of rows)
    → asked ≡ name → there ≡ is_some (get_by_text names asked) → there ≡ has_row_named name rows
named rows names name asked there leads same is = is ∙ ap (λ n. is_some (get_by_text names n)) same ∙ has_named rows names name leads

-- the row that was drawn is that of a new object
drawn_row : (attrs : KeyAttrs) (place size : ℕ) (stream : ChaCha) (made row : Row) → made ≡ new_row place attrs made.material
    → row ≡ record made { material = (draw size stream).0 } → row ≡ new_row place attrs (draw size stream).0
drawn_row attrs place size stream made row is drawn = drawn ∙ ap (λ (r : Row). record r { material = (draw size stream).0 }) is

pub note_both-requires-clause-uid : goal.note_both-requires-clause-uid
note_both-requires-clause-uid c =
    let inside = c.self.inside in
    let rows = inside.rows.items in
    let made = c.in_ok-made.made in
    let place : c.len-place.result ≡ length rows = c.len-place.ensures ∙ c.reserve.new.self.ok.0 ∙ ap length c.in_ok-reserve.ensures.items in
    let room : length rows < inside.room = subst (λ n. n < inside.room) (c.len.ensures ∙ inside.rows.ok.0) c.if-len-self.false in
    let uid : string_bytes made.uid_key ≡ identifier_at (length rows) =
    c.in_ok-made.ensures.uid_key ∙ ap (λ (r : Row). r.uid) c.in_ok-made.ensures.row ∙ ap identifier_at place in
    leads_nowhere (λ r. r.uid) inside.uids rows (string_bytes made.uid_key) c.self.invariant.2 (free_uid rows (string_bytes made.uid_key) inside.room c.self.invariant.0 room uid)

pub invariant_of-self-2 : goal.invariant_of-self-2
invariant_of-self-2 c =
    let inside = c.self.inside in
    let rows = inside.rows.items in
    let attrs = c.args.attrs.now in
    let made = c.in_ok-made.made in
    let row = c.draw-row.result in
    let more = c.push_reserved.new.self.items in
    let place : c.len-place.result ≡ length rows = c.len-place.ensures ∙ c.reserve.new.self.ok.0 ∙ ap length c.in_ok-reserve.ensures.items in
    let room : length rows < inside.room = subst (λ n. n < inside.room) (c.len.ensures ∙ inside.rows.ok.0) c.if-len-self.false in
    let free : has_row_named attrs.name rows ≡ false =
    sym (named rows inside.names attrs.name c.as_str.result.now c.has_text.result c.self.invariant.1 c.as_str.ensures c.has_text.ensures) ∙ c.if-has_text.false in
    let is : made.row ≡ new_row (length rows) attrs made.row.material = c.in_ok-made.ensures.row ∙ ap (λ n. new_row n attrs made.row.material) place in
    let drawn = drawn_row attrs (length rows) (length made.row.material) inside.stream made.row row is c.draw-row.ensures.row in
    let pushed = c.push_reserved.ensures.items ∙ ap (λ (rs : List Row). rs ++ row ∷ []) c.in_ok-reserve.ensures.items in
    let kept = kept_more rows inside.room attrs row (draw (length made.row.material) inside.stream).0 c.self.invariant.0 room free c.requires drawn in
    let uid : string_bytes made.uid_key ≡ identifier_at (length rows) = c.in_ok-made.ensures.uid_key ∙ ap (λ (r : Row). r.uid) is in (
      rw pushed kept,
      leads_row (λ r. r.attrs.name) inside.names c.note_both.new.names rows more row (string_bytes made.name_key) c.len-place.result c.self.invariant.1
          (ap (λ n. has_row_named n rows) c.in_ok-made.ensures.name_key ∙ free) place c.in_ok-note_both.ensures.names
          (c.in_ok-made.ensures.name_key ∙ ap (λ (r : Row). r.attrs.name) (sym drawn)) pushed,
      leads_row (λ r. r.uid) inside.uids c.note_both.new.uids rows more row (string_bytes made.uid_key) c.len-place.result c.self.invariant.2
          (free_uid rows (string_bytes made.uid_key) inside.room c.self.invariant.0 room uid) place c.in_ok-note_both.ensures.uids
          (uid ∙ ap (λ (r : Row). r.uid) (sym drawn)) pushed,
    )

pub returns : goal.returns
returns c =
    let inside = c.self.inside in
    let rows = inside.rows.items in
    let attrs = c.args.attrs.now in
    let row = c.in_ok-made.made.row in
    let place : c.len-place.result ≡ length rows = c.len-place.ensures ∙ c.reserve.new.self.ok.0 ∙ ap length c.in_ok-reserve.ensures.items in
    let made : row ≡ new_row (length rows) attrs row.material = c.in_ok-made.ensures.row ∙ ap (λ n. new_row n attrs row.material) place in
    let free : has_row_named attrs.name rows ≡ false =
    sym (named rows inside.names attrs.name c.as_str.result.now c.has_text.result c.self.invariant.1 c.as_str.ensures c.has_text.ensures) ∙ c.if-has_text.false in
    let room : length rows < inside.room = subst (λ n. n < inside.room) (c.len.ensures ∙ inside.rows.ok.0) c.if-len-self.false in
    let more = c.push_reserved.ensures.items ∙ ap (λ (rs : List Row). rs ++ c.draw-row.result ∷ []) c.in_ok-reserve.ensures.items in
    let new : Stock = record { rows = c.push_reserved.new.self.items; room = inside.room; stream = c.draw-row.new.stream } in
    record {
      ok = subst (λ (s : Stock). (c.in_ok-made.made.uid ≡ identifier_at (length s.rows)) × (new ≡ stock_with attrs s)) c.self.view_is (
        c.in_ok-made.ensures.uid ∙ ap (λ (r : Row). r.uid) made,
        made_stock attrs rows c.push_reserved.new.self.items inside.room inside.stream c.draw-row.new.stream row c.draw-row.result made
            c.in_ok-made.ensures.size c.draw-row.ensures.row c.draw-row.ensures.stream more,
      );
      fault = subst (λ (s : Stock). (has_row_named attrs.name s.rows ≡ false) × (length s.rows < s.room)) c.self.view_is (free, room);
      err = tt;
    }

pub returns-then-has_text : goal.returns-then-has_text
returns-then-has_text c =
    let inside = c.self.inside in
    let name = c.args.attrs.now.name in
    let used : has_row_named name inside.rows.items ≡ true =
    sym (named inside.rows.items inside.names name c.as_str.result.now c.has_text.result c.self.invariant.1 c.as_str.ensures c.has_text.ensures) ∙ c.if-has_text.true in
    record { ok = tt; fault = subst (λ (s : Stock). has_row_named name s.rows ≡ true) c.self.view_is used; err = refl }

pub returns-then-len-self : goal.returns-then-len-self
returns-then-len-self c =
    let inside = c.self.inside in
    let name = c.args.attrs.now.name in
    let free : has_row_named name inside.rows.items ≡ false =
    sym (named inside.rows.items inside.names name c.as_str.result.now c.has_text.result c.self.invariant.1 c.as_str.ensures c.has_text.ensures) ∙ c.if-has_text.false in
    let full : inside.room ≤ length inside.rows.items = subst (λ n. inside.room ≤ n) (c.len.ensures ∙ inside.rows.ok.0) c.if-len-self.true in
    record { ok = tt; fault = subst (λ (s : Stock). (has_row_named name s.rows ≡ false) × (s.room ≤ length s.rows)) c.self.view_is (free, full); err = refl }

pub returns-in_err-reserve : goal.returns-in_err-reserve
returns-in_err-reserve c =
    let inside = c.self.inside in
    let name = c.args.attrs.now.name in
    let free : has_row_named name inside.rows.items ≡ false =
    sym (named inside.rows.items inside.names name c.as_str.result.now c.has_text.result c.self.invariant.1 c.as_str.ensures c.has_text.ensures) ∙ c.if-has_text.false in
    let room : length inside.rows.items < inside.room = subst (λ n. n < inside.room) (c.len.ensures ∙ inside.rows.ok.0) c.if-len-self.false in
    let fault = err_from_is_err_and c.from_residual.result c.from_residual.ensures.1 in
    rw (fault.1, fault.2)
    (record {
      ok = tt;
      fault = subst (λ (s : Stock). (has_row_named name s.rows ≡ false) × (length s.rows < s.room)) c.self.view_is (free, room);
      err = rw c.in_err-reserve.ensures.items c.self.view_is;
    })

pub returns-in_err-made : goal.returns-in_err-made
returns-in_err-made c =
    let inside = c.self.inside in
    let name = c.args.attrs.now.name in
    let free : has_row_named name inside.rows.items ≡ false =
    sym (named inside.rows.items inside.names name c.as_str.result.now c.has_text.result c.self.invariant.1 c.as_str.ensures c.has_text.ensures) ∙ c.if-has_text.false in
    let room : length inside.rows.items < inside.room = subst (λ n. n < inside.room) (c.len.ensures ∙ inside.rows.ok.0) c.if-len-self.false in
    let fault = err_from_is_err_and c.from_residual-in_err-made.result c.from_residual-in_err-made.ensures.1 in
    rw (fault.1, fault.2)
    (record {
      ok = tt;
      fault = subst (λ (s : Stock). (has_row_named name s.rows ≡ false) × (length s.rows < s.room)) c.self.view_is (free, room);
      err = rw c.in_ok-reserve.ensures.items c.self.view_is;
    })

pub returns-in_err-note_both : goal.returns-in_err-note_both
returns-in_err-note_both c =
    let inside = c.self.inside in
    let name = c.args.attrs.now.name in
    let free : has_row_named name inside.rows.items ≡ false =
    sym (named inside.rows.items inside.names name c.as_str.result.now c.has_text.result c.self.invariant.1 c.as_str.ensures c.has_text.ensures) ∙ c.if-has_text.false in
    let room : length inside.rows.items < inside.room = subst (λ n. n < inside.room) (c.len.ensures ∙ inside.rows.ok.0) c.if-len-self.false in
    let fault = err_from_is_err_and c.from_residual-in_err-note_both.result c.from_residual-in_err-note_both.ensures.1 in
    rw (fault.1, fault.2)
    (record {
      ok = tt;
      fault = subst (λ (s : Stock). (has_row_named name s.rows ≡ false) × (length s.rows < s.room)) c.self.view_is (free, room);
      err = rw c.in_ok-reserve.ensures.items c.self.view_is;
    })
