-- What a list of calls answers, and what the records hold after it: both follow from the records before it,
-- whatever keeps them.
-- Source: own (law): what is proved of any two stores.
use Rattle.std.specs.Prelude.{◌≡◌, ℕ, Bool, true, List, [], ◌∷◌, length, take, Result, Ok, Err}
use Rattle.std.specs.List.{slice_get}
use Rattle.std.specs.Option.{is_some}
use Rattle.kmip_objects.specs.Ranges.{attrs_fit}
use Rattle.kmip_objects.specs.declared.step.Step.TheVariants as steps
use Rattle.kmip_store.specs.declared.answer.Answer.{Answer}
use Rattle.kmip_store.specs.declared.answer.Answer.TheVariants as answers
use Rattle.kmip_store.specs.declared.call.Call.{Call}
use Rattle.kmip_store.specs.declared.call.Call.TheVariants.{Create, Locate, Find, Activate, Revoke, Destroy, Count, At}
use Rattle.kmip_store.specs.declared.store_fault.StoreFault.{StoreFault}
use Rattle.kmip_store.specs.Stock.{Stock, create, identifier_at, objects_of}
use Rattle.kmip_store.specs.Stepping.{row_with, take_step}
use Rattle.kmip_store.specs.Locating.{locate}

-- The call may be made: the attributes of a Create are in their ranges, and a Locate gives a name.
abbrev pub may_call : Call → Bool
may_call (Create attrs) = attrs_fit attrs
may_call (Locate mask filter) = is_some filter.name
may_call call = true

-- The answer to a change of the records that was made or refused.
abbrev pub answer_of : Answer → Result Stock StoreFault → Answer
answer_of done (Ok after) = done
answer_of done (Err fault) = answers.Refused fault

-- The records after a change that was made or refused.
abbrev pub stock_of : Stock → Result Stock StoreFault → Stock
stock_of before (Ok after) = after
stock_of before (Err fault) = before

-- What a call answers.
abbrev pub answer_to : Call → Stock → Answer
answer_to (Create attrs) s = answer_of (answers.Created (identifier_at (length s.rows))) (create attrs s)
answer_to (Locate mask filter) s = answers.Located (slice_get (locate mask filter (objects_of s.rows)) 0)
answer_to (Find uid) s = answers.Found (row_with uid s.rows)
answer_to (Activate uid) s = answer_of answers.Moved (take_step steps.Activate uid s)
answer_to (Revoke uid) s = answer_of answers.Moved (take_step steps.Revoke uid s)
answer_to (Destroy uid) s = answer_of answers.Moved (take_step steps.Destroy uid s)
answer_to Count s = answers.Counted (length s.rows)
answer_to (At place) s = answers.Found (slice_get s.rows place)

-- The records after a call.
abbrev pub stock_after_call : Call → Stock → Stock
stock_after_call (Create attrs) s = stock_of s (create attrs s)
stock_after_call (Activate uid) s = stock_of s (take_step steps.Activate uid s)
stock_after_call (Revoke uid) s = stock_of s (take_step steps.Revoke uid s)
stock_after_call (Destroy uid) s = stock_of s (take_step steps.Destroy uid s)
stock_after_call call s = s

-- What the calls answer, one after the other.
abbrev pub answers_to : List Call → Stock → List Answer
answers_to [] s = []
answers_to (call ∷ calls) s = answer_to call s ∷ answers_to calls (stock_after_call call s)

-- The records after the calls.
abbrev pub stock_after_calls : List Call → Stock → Stock
stock_after_calls [] s = s
stock_after_calls (call ∷ calls) s = stock_after_calls calls (stock_after_call call s)

-- The records are those after some of the calls, from the first on.
abbrev pub IsAfterSome : List Call → Stock → Stock → Type 0
IsAfterSome calls old new = (done : ℕ) × (new ≡ stock_after_calls (take done calls) old)
