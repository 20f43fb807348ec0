-- One exchange of a run: what was asked about keys of a plan, and what came of it.
-- Source: own (view); the id of a question is own (choice).
use Rattle.std.specs.Prelude.{ℕ, ◌+◌, ◌==◌, ◌&&◌, Bool, true, false, not, List, [], ◌∷◌, find, slice_get, take, Option, Some, None, option_map, unwrap_or}
use Rattle.std.specs.List.{list_any}
use Rattle.std.specs.Option.{option_and_then, option_map_or}
use Rattle.kmip_batch_items.specs.declared.outcome.Outcome.{Outcome}
use Rattle.kmip_batch_items.specs.declared.outcome.Outcome.TheVariants.{Failed}
use Rattle.kmip_batch_items.specs.declared.reply.Reply.{Reply}
use Rattle.kmip_client.specs.Clients.{one_if}
use Rattle.kmip_client.specs.declared.part.Part.{Part}
use Rattle.kmip_plan.specs.TargetWords.{is_text}
use Rattle.kmip_plan.specs.declared.key.Key.{Key}
use Rattle.kmip_run_record.specs.declared.asked.Asked.{Asked}

-- The questions that are kept of one message.
abbrev pub parts_of : Asked → List Part
parts_of asked = take asked.count asked.parts

-- The id is the operation's number in one byte, and then the name.
abbrev pub is_id_of : ℕ → List ℕ → List ℕ → Bool
is_id_of operation name [] = false
is_id_of operation name (first ∷ rest) = first == operation && is_text rest name

-- The reply is to this question about this key, by its id.
abbrev pub is_about : Part → Key → Reply → Bool
is_about part key reply = is_id_of part.operation key.attrs.name (unwrap_or reply.id [])

-- The first reply to a question about this key.
abbrev pub outcome_about : List Reply → Part → Key → Option Outcome
outcome_about replies part key = option_map (λ reply. reply.outcome) (find (is_about part key) replies)

-- The answer to a question: what the first reply to it says.
abbrev pub answer_to : List Key → List Reply → Part → Option Outcome
answer_to keys replies part = option_and_then (outcome_about replies part) (slice_get keys part.key)

-- The reply is to this question about a key of the plan.
abbrev pub is_to : List Key → Reply → Part → Bool
is_to keys reply part = option_map_or (λ key. is_about part key reply) (slice_get keys part.key) false

-- Some reply is to none of the questions.
abbrev pub has_stranger : List Key → List Part → List Reply → Bool
has_stranger keys asked replies = list_any (λ reply. not (list_any (is_to keys reply) asked)) replies

-- The operation was refused, or failed.
abbrev pub is_refusal : Outcome → Bool
is_refusal (Failed reason) = true
is_refusal outcome = false

-- How many of some replies are refusals.
abbrev pub refusals_in : List Reply → ℕ
refusals_in [] = 0
refusals_in (reply ∷ replies) = one_if (is_refusal reply.outcome) + refusals_in replies
