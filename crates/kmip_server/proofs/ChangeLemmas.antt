-- The records after a question: as they were, with one row more, or with a row in the state that a step of it leads to.
use Rattle.std.proofs.Common.{◌≡◌, ℕ, ◌<◌, true, false, List, length, Option, Some, None, Result, Ok, Err, nat_lt, refl, inl, inr}
use Rattle.std.proofs.lemmas.Bool.{cases_Bool, ltb-true}
use Rattle.kmip_objects.specs.Lifecycle.{after}
use Rattle.kmip_batch_items.specs.RequestFits.{ask_fits}
use Rattle.kmip_batch_items.specs.declared.outcome.Outcome.{Outcome}
use Rattle.kmip_batch_items.specs.declared.outcome.Outcome.TheVariants.{Activated, Revoked, Destroyed}
use Rattle.kmip_batch_items.specs.declared.ask.Ask.{Ask}
use Rattle.kmip_batch_items.specs.declared.ask.Ask.TheVariants.{Create, Locate, GetAttributes, Activate, Revoke, Destroy}
use Rattle.kmip_objects.specs.declared.key_attrs.KeyAttrs.{KeyAttrs}
use Rattle.kmip_objects.specs.declared.key_state.KeyState.{KeyState}
use Rattle.kmip_objects.specs.declared.step.Step.{Step}
use Rattle.kmip_objects.specs.declared.step.Step.TheVariants as steps
use Rattle.kmip_store.specs.declared.row.Row.{Row}
use Rattle.kmip_store.specs.Stepping.{enter_state, row_with, rows_in_state, take_step, take_step_from}
use Rattle.kmip_store.specs.Laws.{CreateKeeps, StepsKeep}
use Rattle.kmip_store.specs.Stock.{IsKept, Stock, create, stock_with, has_row_named}
use Rattle.kmip_store.specs.declared.store_fault.StoreFault.{StoreFault}
use Rattle.kmip_server.specs.Serving.{answer, outcome_of_change}
use Rattle.kmip_objects.specs.Ranges.{is_compromise}

pub data Follows (s : Stock) (ask : Ask) : Stock → Type 0 where
  stays : Follows s ask s
  more : {attrs : KeyAttrs} → ask ≡ Create attrs → has_row_named attrs.name s.rows ≡ false → length s.rows < s.room
      → Follows s ask (stock_with attrs s)
  moves : (uid : List ℕ) (step : Step) {row : Row} {state : KeyState} → row_with uid s.rows ≡ Some row
      → after row.state step ≡ Some state
      → Follows s ask (record s { rows = rows_in_state uid state s.rows })

follows_create : (s : Stock) (attrs : KeyAttrs) → Follows s (Create attrs) (answer s (Create attrs)).1
follows_create s attrs = elim (cases_Bool (has_row_named attrs.name s.rows)) [
  | inl taken ↦ rw taken stays
  | inr free ↦ elim (cases_Bool (nat_lt (length s.rows) s.room)) [
    | inl roomy ↦ rw (free, roomy) (more refl free (ltb-true (length s.rows) s.room roomy))
    | inr full ↦ rw (free, full) stays
  ]
]

follows_moved : (s : Stock) (ask : Ask) (success : Outcome) (step : Step) (uid : List ℕ) (row : Row) (next : Option KeyState)
    → row_with uid s.rows ≡ Some row → after row.state step ≡ next → Follows s ask (outcome_of_change success s (enter_state uid s next)).1
follows_moved s ask success step uid row None found is = stays
follows_moved s ask success step uid row (Some state) found is = moves uid step found is

follows_stepped : (s : Stock) (ask : Ask) (success : Outcome) (step : Step) (uid : List ℕ) (found : Option Row) → row_with uid s.rows ≡ found
    → Follows s ask (outcome_of_change success s (take_step_from step uid s found)).1
follows_stepped s ask success step uid None is = stays
follows_stepped s ask success step uid (Some row) is = follows_moved s ask success step uid row (after row.state step) is refl

follows_revoke : (s : Stock) (uid : List ℕ) (code : ℕ) → Follows s (Revoke uid code) (answer s (Revoke uid code)).1
follows_revoke s uid code = elim (cases_Bool (is_compromise code)) [
  | inl known ↦ rw known stays
  | inr plain ↦ rw plain (follows_stepped s (Revoke uid code) (Revoked uid) steps.Revoke uid (row_with uid s.rows) refl)
]

pub follows : (s : Stock) (ask : Ask) → Follows s ask (answer s ask).1
follows s (Create attrs) = follows_create s attrs
follows s (Locate mask given) = stays
follows s (GetAttributes uid) = stays
follows s (Activate uid) = follows_stepped s (Activate uid) (Activated uid) steps.Activate uid (row_with uid s.rows) refl
follows s (Revoke uid code) = follows_revoke s uid code
follows s (Destroy uid) = follows_stepped s (Destroy uid) (Destroyed uid) steps.Destroy uid (row_with uid s.rows) refl

-- The room is the same after each question.
pub room_stays : (s : Stock) (ask : Ask) (next : Stock) → Follows s ask next → next.room ≡ s.room
room_stays s ask next stays = refl
room_stays s ask next (more is free room) = refl
room_stays s ask next (moves uid step found is) = refl

-- What holds of the records at all times, by the laws of the store.
kept_change : (success : Outcome) (s : Stock) (made : Result Stock StoreFault) → IsKept s.rows s.room
    → ((new : Stock) → made ≡ Ok new → IsKept new.rows new.room)
    → IsKept (outcome_of_change success s made).1.rows (outcome_of_change success s made).1.room
kept_change success s (Ok new) kept keeps = keeps new refl
kept_change success s (Err fault) kept keeps = kept

kept_step : StepsKeep → (success : Outcome) (s : Stock) (step : Step) (uid : List ℕ) → IsKept s.rows s.room
    → IsKept (outcome_of_change success s (take_step step uid s)).1.rows (outcome_of_change success s (take_step step uid s)).1.room
kept_step keeps success s step uid kept = kept_change success s (take_step step uid s) kept (λ new is. keeps s new step uid kept is)

pub kept_after : CreateKeeps → StepsKeep → (s : Stock) (ask : Ask) → ask_fits ask ≡ true → IsKept s.rows s.room
    → IsKept (answer s ask).1.rows (answer s ask).1.room
kept_after creates keeps s (Create attrs) fits kept = kept_change _ s (create attrs s) kept (λ new is. creates s new attrs kept fits is)
kept_after creates keeps s (Locate mask given) fits kept = kept
kept_after creates keeps s (GetAttributes uid) fits kept = kept
kept_after creates keeps s (Activate uid) fits kept = kept_step keeps _ s steps.Activate uid kept
kept_after creates keeps s (Revoke uid code) fits kept = elim (cases_Bool (is_compromise code)) [
  | inl known ↦ rw known kept
  | inr plain ↦ rw plain (kept_step keeps _ s steps.Revoke uid kept)
]
kept_after creates keeps s (Destroy uid) fits kept = kept_step keeps _ s steps.Destroy uid kept
