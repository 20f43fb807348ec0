-- Each change of the records keeps what holds of them at all times.
use Rattle.std.proofs.Common.{◌≡◌, ℕ, Bool, true, false, List, length, Option, Some, None, Result, Ok, Err, nat_lt, if◌then◌else◌, subst, refl}
use Rattle.std.proofs.lemmas.Bool.{ltb-true}
use Rattle.kmip_objects.specs.Lifecycle.{after}
use Rattle.kmip_objects.specs.Ranges.{attrs_fit}
use Rattle.kmip_objects.specs.declared.key_attrs.KeyAttrs.{KeyAttrs}
use Rattle.kmip_objects.specs.declared.key_state.KeyState.{KeyState}
use Rattle.kmip_objects.specs.declared.step.Step.{Step}
use Rattle.kmip_store.specs.declared.store_fault.StoreFault.{StoreFault}
use Rattle.kmip_store.specs.declared.store_fault.StoreFault.TheVariants.{SameName, Full}
use Rattle.kmip_store.specs.declared.row.Row.{Row}
use Rattle.kmip_store.specs.Stepping.{enter_state, row_with, take_step, take_step_from}
use Rattle.kmip_store.specs.Stock.{IsKept, Stock, create, draw, has_row_named, material_size, stock_with}
use Rattle.kmip_store.proofs.KeptLemmas.{kept_more, kept_moved}

abbrev made : Stock → Result Stock StoreFault
made s = Ok s

same_stock : (s t : Stock) → made s ≡ made t → s ≡ t
same_stock s t e = cc

not_made : {X : Type 0} (fault : StoreFault) (s : Stock) → Err fault ≡ made s → X
not_made fault s e = absurd cc

-- the records of a stock are kept
abbrev Kept : Stock → Type 0
Kept s = IsKept s.rows s.room

created_keeps : (s new : Stock) (attrs : KeyAttrs) (used roomy : Bool) → has_row_named attrs.name s.rows ≡ used
    → nat_lt (length s.rows) s.room ≡ roomy → Kept s → attrs_fit attrs ≡ true
    → (if used then Err SameName else (if roomy then Ok (stock_with attrs s) else Err Full)) ≡ Ok new → Kept new
created_keeps s new attrs true roomy taken there kept fits is = not_made SameName new is
created_keeps s new attrs false false free full kept fits is = not_made Full new is
created_keeps s new attrs false true free there kept fits is =
    let drawn = (draw (material_size attrs.length) s.stream).0 in
    subst Kept (same_stock (stock_with attrs s) new is)
    (kept_more s.rows s.room attrs _ drawn kept (ltb-true (length s.rows) s.room there) free fits refl)

pub create_keeps : (s new : Stock) (attrs : KeyAttrs) → Kept s → attrs_fit attrs ≡ true → create attrs s ≡ Ok new → Kept new
create_keeps s new attrs kept fits is =
    created_keeps s new attrs (has_row_named attrs.name s.rows) (nat_lt (length s.rows) s.room) refl refl kept fits is

moved_keeps : (s new : Stock) (uid : List ℕ) (next : Option KeyState) → Kept s → enter_state uid s next ≡ Ok new → Kept new
moved_keeps s new uid None kept is = not_made _ new is
moved_keeps s new uid (Some state) kept is = subst Kept (same_stock _ new is) (kept_moved uid state s.rows s.room kept)

stepped_keeps : (s new : Stock) (step : Step) (uid : List ℕ) (found : Option Row) → Kept s → take_step_from step uid s found ≡ Ok new → Kept new
stepped_keeps s new step uid None kept is = not_made _ new is
stepped_keeps s new step uid (Some row) kept is = moved_keeps s new uid (after row.state step) kept is

pub step_keeps : (s new : Stock) (step : Step) (uid : List ℕ) → Kept s → take_step step uid s ≡ Ok new → Kept new
step_keeps s new step uid kept is = stepped_keeps s new step uid (row_with uid s.rows) kept is
