-- An operation that took effect is refused whenever it is asked again.
use Rattle.std.proofs.Common.{◌≡◌, ℕ, Bool, true, false, nat_eq, List, [], ◌∷◌, ◌++◌, length, Option, Some, None, nat_lt, refl, sym, ap, ◌∙◌, inl, inr}
use Rattle.std.specs.Cmp.Lexicographic.{pointwise}
use Rattle.std.specs.Option.{option_map, option_map_or, option_or}
use Rattle.std.proofs.lemmas.Bool.{cases_Bool, cond-true, cond-false, or_left, or_right}
use Rattle.std.proofs.lemmas.List.Folds.{find-append, list_any-append}
use Rattle.std.proofs.lemmas.Option.{none-some, same_Some}
use Rattle.std.proofs.lemmas.Slice.Eq.{bytes_eq-Decides}
use Rattle.kmip_objects.specs.Lifecycle.{after}
use Rattle.kmip_batch_items.specs.declared.outcome.Outcome.{Outcome}
use Rattle.kmip_batch_items.specs.declared.outcome.Outcome.TheVariants.{Activated, Revoked, Destroyed}
use Rattle.kmip_batch_items.specs.declared.ask.Ask.{Ask}
use Rattle.kmip_batch_items.specs.declared.ask.Ask.TheVariants.{Create, Locate, GetAttributes, Activate, Revoke, Destroy}
use Rattle.kmip_objects.specs.declared.key_attrs.KeyAttrs.{KeyAttrs}
use Rattle.kmip_objects.specs.declared.key_state.KeyState.{KeyState}
use Rattle.kmip_objects.specs.declared.key_state.KeyState.TheVariants as states
use Rattle.kmip_objects.specs.declared.step.Step.{Step}
use Rattle.kmip_objects.specs.declared.step.Step.TheVariants as steps
use Rattle.kmip_store.specs.declared.row.Row.{Row}
use Rattle.kmip_store.specs.Stepping.{enter, enter_state, row_in_state, row_with, rows_in_state, take_step_from}
use Rattle.kmip_store.specs.Stock.{Stock, has_row_named}
use Rattle.kmip_store.proofs.ForCallers.{has_name_moved, moved_uid}
use Rattle.kmip_server.specs.Again.{stock_after_asks, changes, has_failed}
use Rattle.kmip_server.specs.Serving.{answer, outcome_of_change}
use Rattle.kmip_objects.specs.Ranges.{is_compromise}
use Rattle.kmip_server.proofs.ChangeLemmas.{Follows, follows, more, moves, stays}

-- an object in the state never comes to a state that the step leads out of
abbrev pub is_past : Step → KeyState → Bool
is_past steps.Activate states.PreActive = false
is_past steps.Revoke states.PreActive = false
is_past steps.Revoke states.Active = false
is_past steps.Destroy states.PreActive = false
is_past steps.Destroy states.Active = false
is_past steps.Destroy states.Deactivated = false
is_past step state = true

past_stuck : (step : Step) (state : KeyState) → is_past step state ≡ true → after state step ≡ None
past_stuck steps.Create states.PreActive past = refl
past_stuck steps.Activate states.PreActive past = cc
past_stuck steps.Revoke states.Active past = cc
past_stuck steps.Destroy states.PreActive past = cc
past_stuck steps.Destroy states.Deactivated past = cc
past_stuck _ _ past = refl

-- a test passes at what a step leads to
at_next : (test : KeyState → Bool) (next : Option KeyState) (new : KeyState) → option_map_or test next true ≡ true → next ≡ Some new
    → test new ≡ true
at_next test next new all is = sym (ap (λ o. option_map_or test o true) is) ∙ all

there : (old : KeyState) (step : Step) → option_map_or (is_past step) (after old step) true ≡ true
there states.PreActive steps.Activate = refl
there states.Active steps.Revoke = refl
there states.Deactivated steps.Destroy = refl
there _ _ = refl

-- a step leads to a state past it
past_there : (step : Step) (old new : KeyState) → after old step ≡ Some new → is_past step new ≡ true
past_there step old new is = at_next (is_past step) (after old step) new (there old step) is

onward : (old : KeyState) (moved step : Step) → is_past step old ≡ true → option_map_or (is_past step) (after old moved) true ≡ true
onward states.PreActive steps.Activate steps.Activate past = cc
onward states.PreActive steps.Activate steps.Revoke past = cc
onward states.PreActive steps.Activate steps.Destroy past = cc
onward states.PreActive steps.Destroy steps.Create past = refl
onward states.Active steps.Revoke steps.Revoke past = cc
onward states.Active steps.Revoke steps.Destroy past = cc
onward states.Deactivated steps.Destroy steps.Create past = refl
onward _ _ _ past = refl

-- no step leads back
past_goes_on : (step moved : Step) (old new : KeyState) → after old moved ≡ Some new → is_past step old ≡ true → is_past step new ≡ true
past_goes_on step moved old new is past = at_next (is_past step) (after old moved) new (onward old moved step past) is

-- a row has the identifier, and its state is past the step
abbrev pub has_past : Step → List ℕ → List Row → Bool
has_past step uid rows = option_map_or (λ r. is_past step r.state) (row_with uid rows) false

past_of_more : {A : Type 0} (f : A → Bool) (o p : Option A) → option_map_or f o false ≡ true → option_map_or f (option_or o p) false ≡ true
past_of_more f None p past = cc
past_of_more f (Some a) p past = past

has_past_more : (step : Step) (uid : List ℕ) (rows others : List Row) → has_past step uid rows ≡ true → has_past step uid (rows ++ others) ≡ true
has_past_more step uid rows others past =
    ap (λ o. option_map_or (λ r. is_past step r.state) o false) (find-append (λ r. pointwise nat_eq uid r.uid) rows others)
    ∙ past_of_more (λ r. is_past step r.state) (row_with uid rows) (row_with uid others) past

-- the row that is found by an identifier has it
found_own : (uid : List ℕ) (rows : List Row) (row : Row) → row_with uid rows ≡ Some row → uid ≡ row.uid
found_own uid [] row is = absurd (none-some row is)
found_own uid (r ∷ rows) row is = elim (cases_Bool (pointwise nat_eq uid r.uid)) [
  | inl same ↦
      (bytes_eq-Decides uid r.uid).0 same ∙ ap (λ x. x.uid) (same_Some r row (sym (cond-true _ (Some r) (row_with uid rows) same) ∙ is))
  | inr other ↦ found_own uid rows row (sym (cond-false _ (Some r) (row_with uid rows) other) ∙ is)
]

found_moved : (uid own : List ℕ) (state : KeyState) (rows : List Row)
    → row_with uid (rows_in_state own state rows) ≡ option_map (row_in_state own state) (row_with uid rows)
found_moved uid own state [] = refl
found_moved uid own state (r ∷ rows) = elim (cases_Bool (pointwise nat_eq uid r.uid)) [
  | inl same ↦
      cond-true _ (Some (row_in_state own state r)) (row_with uid (rows_in_state own state rows)) (ap (pointwise nat_eq uid) (moved_uid own state r) ∙ same)
      ∙ sym (ap (option_map (row_in_state own state)) (cond-true _ (Some r) (row_with uid rows) same))
  | inr other ↦
      cond-false _ (Some (row_in_state own state r)) (row_with uid (rows_in_state own state rows)) (ap (pointwise nat_eq uid) (moved_uid own state r) ∙ other)
      ∙ found_moved uid own state rows
      ∙ sym (ap (option_map (row_in_state own state)) (cond-false _ (Some r) (row_with uid rows) other))
]

-- the row that is moved is in the new state
state_moved : (uid : List ℕ) (state : KeyState) (r : Row) → uid ≡ r.uid → (row_in_state uid state r).state ≡ state
state_moved uid state r own = ap (λ x. x.state) (cond-true (pointwise nat_eq uid r.uid) (enter state r) r ((bytes_eq-Decides uid r.uid).1 own))

row_stays_past : (step moved : Step) (uid own : List ℕ) (state : KeyState) (rows : List Row) (r row : Row) → row_with uid rows ≡ Some r
    → row_with own rows ≡ Some row → after row.state moved ≡ Some state → is_past step r.state ≡ true
    → is_past step (row_in_state own state r).state ≡ true
row_stays_past step moved uid own state rows r row found other is past = elim (cases_Bool (pointwise nat_eq own r.uid)) [
  | inl same ↦
      let equal : own ≡ uid = (bytes_eq-Decides own r.uid).0 same ∙ sym (found_own uid rows r found) in
      let one : row ≡ r = same_Some row r (sym other ∙ ap (λ u. row_with u rows) equal ∙ found) in
      ap (λ x. is_past step x.state) (cond-true _ (enter state r) r same)
      ∙ past_goes_on step moved r.state state (ap (λ x. after x.state moved) (sym one) ∙ is) past
  | inr apart ↦ ap (λ x. is_past step x.state) (cond-false _ (enter state r) r apart) ∙ past
]

found_stays_past : (step moved : Step) (uid own : List ℕ) (state : KeyState) (rows : List Row) (row : Row) (found : Option Row)
    → row_with uid rows ≡ found → row_with own rows ≡ Some row → after row.state moved ≡ Some state
    → option_map_or (λ r. is_past step r.state) found false ≡ true
    → option_map_or (λ r. is_past step r.state) (option_map (row_in_state own state) found) false ≡ true
found_stays_past step moved uid own state rows row None found other is past = cc
found_stays_past step moved uid own state rows row (Some r) found other is past = row_stays_past step moved uid own state rows r row found other is past

has_past_moved : (step moved : Step) (uid own : List ℕ) (state : KeyState) (rows : List Row) (row : Row) → row_with own rows ≡ Some row
    → after row.state moved ≡ Some state → has_past step uid rows ≡ true → has_past step uid (rows_in_state own state rows) ≡ true
has_past_moved step moved uid own state rows row other is past =
    ap (λ o. option_map_or (λ r. is_past step r.state) o false) (found_moved uid own state rows)
    ∙ found_stays_past step moved uid own state rows row (row_with uid rows) refl other is past

has_name_more : (name : List ℕ) (rows others : List Row) → has_row_named name rows ≡ true → has_row_named name (rows ++ others) ≡ true
has_name_more name rows others taken =
    list_any-append (λ r. pointwise nat_eq name r.attrs.name) rows others ∙ or_left (has_row_named name rows) (has_row_named name others) taken

has_name_last : (name : List ℕ) (rows : List Row) (row : Row) → name ≡ row.attrs.name → has_row_named name (rows ++ row ∷ []) ≡ true
has_name_last name rows row own =
    list_any-append (λ r. pointwise nat_eq name r.attrs.name) rows (row ∷ [])
    ∙ or_right (has_row_named name rows) _ (or_left (pointwise nat_eq name row.attrs.name) false ((bytes_eq-Decides name row.attrs.name).1 own))

-- what the rows show once the question took effect
abbrev pub is_spent : Ask → List Row → Bool
is_spent (Create attrs) rows = has_row_named attrs.name rows
is_spent (Activate uid) rows = has_past steps.Activate uid rows
is_spent (Revoke uid code) rows = has_past steps.Revoke uid rows
is_spent (Destroy uid) rows = has_past steps.Destroy uid rows
is_spent ask rows = false

-- a test of the rows that goes on through each question
pub record GoesOn (test : List Row → Bool) : Type 0 where
  pub grown : (rows others : List Row) → test rows ≡ true → test (rows ++ others) ≡ true
  pub moved : (uid : List ℕ) (step : Step) (state : KeyState) (rows : List Row) (row : Row) → row_with uid rows ≡ Some row
      → after row.state step ≡ Some state → test rows ≡ true → test (rows_in_state uid state rows) ≡ true

name_goes_on : (name : List ℕ) → GoesOn (has_row_named name)
name_goes_on name = record {
  grown = λ rows others taken. has_name_more name rows others taken;
  moved = λ uid step state rows row found is taken. has_name_moved uid state name rows ∙ taken;
}

step_goes_on : (step : Step) (uid : List ℕ) → GoesOn (has_past step uid)
step_goes_on step uid = record {
  grown = λ rows others past. has_past_more step uid rows others past;
  moved = λ own moved state rows row found is past. has_past_moved step moved uid own state rows row found is past;
}

never_goes_on : GoesOn (λ rows. false)
never_goes_on = record { grown = λ rows others never. never; moved = λ own moved state rows row found is never. never }

spent_goes_on : (ask : Ask) → GoesOn (is_spent ask)
spent_goes_on (Create attrs) = name_goes_on attrs.name
spent_goes_on (Activate uid) = step_goes_on steps.Activate uid
spent_goes_on (Revoke uid code) = step_goes_on steps.Revoke uid
spent_goes_on (Destroy uid) = step_goes_on steps.Destroy uid
spent_goes_on (Locate mask given) = never_goes_on
spent_goes_on (GetAttributes uid) = never_goes_on

test_after : (test : List Row → Bool) (s : Stock) (ask : Ask) (next : Stock) → GoesOn test → Follows s ask next → test s.rows ≡ true
    → test next.rows ≡ true
test_after test s ask next on stays holds = holds
test_after test s ask next on (more is free room) holds = on.grown s.rows _ holds
test_after test s ask next on (moves uid step {row = row} {state = state} found is) holds = on.moved uid step state s.rows row found is holds

spent_after_all : (ask : Ask) (between : List Ask) (s : Stock) → is_spent ask s.rows ≡ true → is_spent ask (stock_after_asks between s).rows ≡ true
spent_after_all ask [] s spent = spent
spent_after_all ask (other ∷ between) s spent =
    spent_after_all ask between (answer s other).1
    (test_after (is_spent ask) s other (answer s other).1 (spent_goes_on ask) (follows s other) spent)

-- where it did not fail, the rows after it pass the test
abbrev pub Spends : (List Row → Bool) → Outcome × Stock → Type 0
Spends test next = has_failed next.0 ≡ false → test next.1.rows ≡ true

create_spends : (s : Stock) (attrs : KeyAttrs) → Spends (has_row_named attrs.name) (answer s (Create attrs))
create_spends s attrs = elim (cases_Bool (has_row_named attrs.name s.rows)) [
  | inl taken ↦ rw taken (λ done. cc)
  | inr free ↦ elim (cases_Bool (nat_lt (length s.rows) s.room)) [
    | inl roomy ↦ rw (free, roomy) (λ done. has_name_last attrs.name s.rows _ refl)
    | inr full ↦ rw (free, full) (λ done. cc)
  ]
]

moved_spends : (s : Stock) (success : Outcome) (step : Step) (uid : List ℕ) (row : Row) (next : Option KeyState) → row_with uid s.rows ≡ Some row
    → after row.state step ≡ next → Spends (has_past step uid) (outcome_of_change success s (enter_state uid s next))
moved_spends s success step uid row None found is done = cc
moved_spends s success step uid row (Some state) found is done =
    ap (λ o. option_map_or (λ r. is_past step r.state) o false) (found_moved uid uid state s.rows ∙ ap (option_map (row_in_state uid state)) found)
    ∙ ap (is_past step) (state_moved uid state row (found_own uid s.rows row found))
    ∙ past_there step row.state state is

stepped_spends : (s : Stock) (success : Outcome) (step : Step) (uid : List ℕ) (found : Option Row) → row_with uid s.rows ≡ found
    → Spends (has_past step uid) (outcome_of_change success s (take_step_from step uid s found))
stepped_spends s success step uid None is done = cc
stepped_spends s success step uid (Some row) is done = moved_spends s success step uid row (after row.state step) is refl done

revoke_spends : (s : Stock) (uid : List ℕ) (code : ℕ) → Spends (has_past steps.Revoke uid) (answer s (Revoke uid code))
revoke_spends s uid code = elim (cases_Bool (is_compromise code)) [
  | inl known ↦ rw known (λ done. cc)
  | inr plain ↦ rw plain (stepped_spends s (Revoked uid) steps.Revoke uid (row_with uid s.rows) refl)
]

spends : (s : Stock) (ask : Ask) → changes ask ≡ true → Spends (is_spent ask) (answer s ask)
spends s (Create attrs) changing = create_spends s attrs
spends s (Activate uid) changing = stepped_spends s (Activated uid) steps.Activate uid (row_with uid s.rows) refl
spends s (Revoke uid code) changing = revoke_spends s uid code
spends s (Destroy uid) changing = stepped_spends s (Destroyed uid) steps.Destroy uid (row_with uid s.rows) refl
spends s ask changing = absurd (cc)

-- it is refused, and leaves the records as they are
abbrev pub IsRefused : Stock → Outcome × Stock → Type 0
IsRefused s next = (has_failed next.0 ≡ true) × (next.1 ≡ s)

past_refused : (s : Stock) (success : Outcome) (step : Step) (uid : List ℕ) (found : Option Row)
    → option_map_or (λ r. is_past step r.state) found false ≡ true → IsRefused s (outcome_of_change success s (take_step_from step uid s found))
past_refused s success step uid None past = (refl, refl)
past_refused s success step uid (Some row) past = rw (past_stuck step row.state past) (refl, refl)

revoke_refused : (s : Stock) (uid : List ℕ) (code : ℕ) → has_past steps.Revoke uid s.rows ≡ true → IsRefused s (answer s (Revoke uid code))
revoke_refused s uid code past = elim (cases_Bool (is_compromise code)) [
  | inl known ↦ rw known (refl, refl)
  | inr plain ↦ rw plain (past_refused s (Revoked uid) steps.Revoke uid (row_with uid s.rows) past)
]

spent_refused : (s : Stock) (ask : Ask) → is_spent ask s.rows ≡ true → IsRefused s (answer s ask)
spent_refused s (Create attrs) taken = rw taken (refl, refl)
spent_refused s (Activate uid) past = past_refused s (Activated uid) steps.Activate uid (row_with uid s.rows) past
spent_refused s (Revoke uid code) past = revoke_refused s uid code past
spent_refused s (Destroy uid) past = past_refused s (Destroyed uid) steps.Destroy uid (row_with uid s.rows) past
spent_refused s ask past = absurd (cc)

pub again_refused : (s : Stock) (ask : Ask) (between : List Ask) → changes ask ≡ true → has_failed (answer s ask).0 ≡ false
    → IsRefused (stock_after_asks between (answer s ask).1) (answer (stock_after_asks between (answer s ask).1) ask)
again_refused s ask between changing done =
    spent_refused (stock_after_asks between (answer s ask).1) ask (spent_after_all ask between (answer s ask).1 (spends s ask changing done))
