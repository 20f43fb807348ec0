-- There is room for the row, and its name is new.
use Rattle.std.proofs.Common.{◌≡◌, ◌<◌, false, length, subst, rules, arith}
use Rattle.std.proofs.lemmas.Result.{err_from_is_err_and}
use Rattle.kmip_store.specs.Stock.{Stock, has_row_named}
use Rattle.kmip_store.proofs.KeptLemmas.{kept_more}
use Rattle.kmip_store.proofs.list_store.ListStoreRecords.create.Goals as goal

pub invariant_of-self-2 : goal.invariant_of-self-2
invariant_of-self-2 c =
    let rows = c.self.inside.rows.items in
    let free : length rows < c.self.inside.room = omega (arith, c.self.inside.rows.ok.0) in
    rw c.push_reserved.ensures.items
    (rw c.reserve.ensures.items
    (kept_more rows c.self.inside.room c.args.attrs.now c.draw-row.result c.draw-row.result.material c.self.invariant free (search rules) c.requires (search rules)))

pub returns-in_err-reserve : goal.returns-in_err-reserve
returns-in_err-reserve c =
    let rows = c.self.inside.rows.items in
    let free : has_row_named c.args.attrs.now.name rows ≡ false = search rules in
    let room : length rows < c.self.inside.room = omega (arith, c.self.inside.rows.ok.0) in
    let fault = err_from_is_err_and c.from_residual.result c.from_residual.ensures.1 in
    rw (fault.1, fault.2)
    (record {
      ok = tt;
      fault = subst (λ (s : Stock). (has_row_named c.args.attrs.now.name s.rows ≡ false) × (length s.rows < s.room)) c.self.view_is (free, room);
      err = rw c.in_err-reserve.ensures.items c.self.view_is;
    })

pub returns-in_err-row : goal.returns-in_err-row
returns-in_err-row c =
    let rows = c.self.inside.rows.items in
    let free : has_row_named c.args.attrs.now.name rows ≡ false = search rules in
    let room : length rows < c.self.inside.room = omega (arith, c.self.inside.rows.ok.0) in
    let fault = err_from_is_err_and c.from_residual-in_err-row.result c.from_residual-in_err-row.ensures.1 in
    rw (fault.1, fault.2)
    (record {
      ok = tt;
      fault = subst (λ (s : Stock). (has_row_named c.args.attrs.now.name s.rows ≡ false) × (length s.rows < s.room)) c.self.view_is (free, room);
      err = rw c.in_ok-reserve.ensures.items c.self.view_is;
    })

pub returns-in_err-uid : goal.returns-in_err-uid
returns-in_err-uid c =
    let rows = c.self.inside.rows.items in
    let free : has_row_named c.args.attrs.now.name rows ≡ false = search rules in
    let room : length rows < c.self.inside.room = omega (arith, c.self.inside.rows.ok.0) in
    let fault = err_from_is_err_and c.from_residual-in_err-uid.result c.from_residual-in_err-uid.ensures.1 in
    rw (fault.1, fault.2)
    (record {
      ok = tt;
      fault = subst (λ (s : Stock). (has_row_named c.args.attrs.now.name s.rows ≡ false) × (length s.rows < s.room)) c.self.view_is (free, room);
      err = rw c.in_ok-reserve.ensures.items c.self.view_is;
    })
