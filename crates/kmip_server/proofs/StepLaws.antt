-- What the server answers, and what it leaves, is a step of the server.
use Rattle.std.proofs.Common.{◌≡◌, ℕ, ◌<◌, ◌≤◌, true, false, List, length, Option, Some, None, nat_lt, refl, sym, subst, ap, ◌∙◌, inl, inr, arith}
use Rattle.std.specs.Option.{option_map}
use Rattle.std.proofs.lemmas.Bool.{cases_Bool, ltb-true, ltb-false}
use Rattle.std.proofs.lemmas.List.{length-map, map-append}
use Rattle.kmip_objects.specs.Lifecycle.{after}
use Rattle.kmip_objects.specs.Objects.{object_with}
use Rattle.kmip_batch_items.specs.declared.outcome.Outcome.{Outcome}
use Rattle.kmip_batch_items.specs.declared.outcome.Outcome.TheVariants.{Created}
use Rattle.kmip_batch_items.specs.declared.ask.Ask.{Ask}
use Rattle.kmip_batch_items.specs.declared.ask.Ask.TheVariants.{Create, Locate, GetAttributes, Activate, Revoke, Destroy}
use Rattle.kmip_objects.specs.declared.key_attrs.KeyAttrs.{KeyAttrs}
use Rattle.kmip_objects.specs.declared.key_state.KeyState.{KeyState}
use Rattle.kmip_objects.specs.declared.step.Step.{Step}
use Rattle.kmip_objects.specs.declared.step.Step.TheVariants as steps
use Rattle.kmip_store.specs.declared.row.Row.{Row}
use Rattle.kmip_store.specs.Stepping.{enter_state, row_with, take_step_from}
use Rattle.kmip_store.specs.Stock.{IsKept, Stock, identifier_at, stock_with, has_row_named, object_of, objects_of}
use Rattle.kmip_store.specs.Laws.{NextIdentifierIsFree}
use Rattle.kmip_server.specs.Serving.{answer, outcome_of_change, attributes_outcome}
use Rattle.kmip_objects.specs.Ranges.{is_compromise}
use Rattle.kmip_server.specs.ServerStep as rules_of
use Rattle.kmip_server.specs.ServerStep.{ServerStep, step_asked, success_of}
use Rattle.kmip_server.proofs.ObjectLemmas.{none_named, object_of_row, objects_moved, some_named}

-- this outcome and these records are a step
abbrev pub IsStep : Stock → Ask → Outcome × Stock → Type 0
IsStep s ask next = ServerStep s.room (objects_of s.rows) ask next.0 (objects_of next.1.rows)

-- no object has the identifier where no row has it
no_object : (uid : List ℕ) (rows : List Row) → row_with uid rows ≡ None → object_with uid (objects_of rows) ≡ None
no_object uid rows none = object_of_row uid rows ∙ ap (option_map object_of) none

-- what the row with it shows, where a row has it
the_object : (uid : List ℕ) (rows : List Row) (row : Row) → row_with uid rows ≡ Some row
    → object_with uid (objects_of rows) ≡ Some (object_of row)
the_object uid rows row found = object_of_row uid rows ∙ ap (option_map object_of) found

added_step : NextIdentifierIsFree → (s : Stock) (attrs : KeyAttrs) → IsKept s.rows s.room → has_row_named attrs.name s.rows ≡ false
    → nat_lt (length s.rows) s.room ≡ true → IsStep s (Create attrs) (Created (identifier_at (length s.rows)), stock_with attrs s)
added_step next s attrs kept free roomy =
    let inside : length s.rows < s.room = ltb-true _ _ roomy in
    let room : length (objects_of s.rows) < s.room = omega (arith, length-map s.rows object_of, inside) in
    let identifier = next s kept inside in
    subst (λ objects. ServerStep s.room (objects_of s.rows) (Create attrs) (Created (identifier_at (length s.rows))) objects)
    (sym (map-append object_of s.rows _))
    (rules_of.created (none_named attrs.name s.rows free) room (no_object (identifier_at (length s.rows)) s.rows identifier.1) identifier.0)

create_step : NextIdentifierIsFree → (s : Stock) (attrs : KeyAttrs) → IsKept s.rows s.room → IsStep s (Create attrs) (answer s (Create attrs))
create_step next s attrs kept = elim (cases_Bool (has_row_named attrs.name s.rows)) [
  | inl taken ↦ rw taken (rules_of.name_taken (some_named attrs.name s.rows ∙ taken))
  | inr free ↦ elim (cases_Bool (nat_lt (length s.rows) s.room)) [
    | inl roomy ↦ rw (free, roomy) (added_step next s attrs kept free roomy)
    | inr over ↦
        let within : s.room ≤ length (objects_of s.rows) = omega (arith, length-map s.rows object_of, ltb-false _ _ over) in
        rw (free, over) (rules_of.full (none_named attrs.name s.rows free) within)
  ]
]

told_step : (s : Stock) (uid : List ℕ) (found : Option Row) → row_with uid s.rows ≡ found
    → IsStep s (GetAttributes uid) (attributes_outcome uid found, s)
told_step s uid None is = rules_of.unknown (no_object uid s.rows is)
told_step s uid (Some row) is = rules_of.told (the_object uid s.rows row is)

moved_step : (s : Stock) (ask : Ask) (step : Step) (uid : List ℕ) (row : Row) (next : Option KeyState)
    → step_asked ask ≡ Some (step, uid) → row_with uid s.rows ≡ Some row → after row.state step ≡ next
    → IsStep s ask (outcome_of_change (success_of step uid) s (enter_state uid s next))
moved_step s ask step uid row None asked found is = rules_of.wrong_state asked (the_object uid s.rows row found) is
moved_step s ask step uid row (Some state) asked found is =
    subst (λ objects. ServerStep s.room (objects_of s.rows) ask (success_of step uid) objects)
    (sym (objects_moved uid state s.rows))
    (rules_of.done asked (the_object uid s.rows row found) is)

stepped_step : (s : Stock) (ask : Ask) (step : Step) (uid : List ℕ) (found : Option Row) → step_asked ask ≡ Some (step, uid)
    → row_with uid s.rows ≡ found → IsStep s ask (outcome_of_change (success_of step uid) s (take_step_from step uid s found))
stepped_step s ask step uid None asked is = rules_of.not_found asked (no_object uid s.rows is)
stepped_step s ask step uid (Some row) asked is = moved_step s ask step uid row (after row.state step) asked is refl

revoke_step : (s : Stock) (uid : List ℕ) (code : ℕ) → IsStep s (Revoke uid code) (answer s (Revoke uid code))
revoke_step s uid code = elim (cases_Bool (is_compromise code)) [
  | inl known ↦ rw known (rules_of.compromised known)
  | inr plain ↦
      let asked : step_asked (Revoke uid code) ≡ Some (steps.Revoke, uid) = rw plain refl in
      rw plain (stepped_step s (Revoke uid code) steps.Revoke uid (row_with uid s.rows) asked refl)
]

pub serving_step : NextIdentifierIsFree → (s : Stock) (ask : Ask) → IsKept s.rows s.room → IsStep s ask (answer s ask)
serving_step next s (Create attrs) kept = create_step next s attrs kept
serving_step next s (Locate mask given) kept = rules_of.searched
serving_step next s (GetAttributes uid) kept = told_step s uid (row_with uid s.rows) refl
serving_step next s (Activate uid) kept = stepped_step s (Activate uid) steps.Activate uid (row_with uid s.rows) refl refl
serving_step next s (Revoke uid code) kept = revoke_step s uid code
serving_step next s (Destroy uid) kept = stepped_step s (Destroy uid) steps.Destroy uid (row_with uid s.rows) refl refl
