-- What is learnt from bytes: of each reply for itself, by its id, whatever was asked last.
-- Source: KMIP 2.1, Message Structure (Unique Batch Item ID) and Operations; the id is own (choice). That
-- each reply is judged for itself, in this order of the checks, is own (order, choice).
use Rattle.std.specs.Prelude.{◌≡◌, ℕ, Bool, true, false, not, ◌&&◌, ◌||◌, ◌==◌, nat_le, nat_lt, List, [], ◌∷◌, Option, Some, None, Result, Ok, Err, slice_get, slice_set, if◌then◌else◌}
use Rattle.std.specs.List.{position}
use Rattle.std.specs.Option.{is_some, option_map_or, option_and_then}
use Rattle.kmip_batch_items.specs.Operations.{operation_with}
use Rattle.kmip_messages.specs.Batches.{replies_read}
use Rattle.kmip_batch_items.specs.declared.message_fault.MessageFault.{MessageFault}
use Rattle.kmip_batch_items.specs.declared.operation.Operation.{Operation}
use Rattle.kmip_batch_items.specs.declared.operation.Operation.TheVariants as operations
use Rattle.kmip_batch_items.specs.declared.outcome.Outcome.{Outcome}
use Rattle.kmip_batch_items.specs.declared.outcome.Outcome.TheVariants.{Failed}
use Rattle.kmip_batch_items.specs.declared.reply.Reply.{Reply}
use Rattle.kmip_objects.specs.declared.step.Step.{Step}
use Rattle.kmip_objects.specs.declared.step.Step.TheVariants.{Create, Activate, Revoke, Destroy}
use Rattle.kmip_plan.specs.Chains.{step_place}
use Rattle.kmip_plan.specs.TargetWords.{is_text}
use Rattle.kmip_plan.specs.declared.key.Key.{Key}
use Rattle.kmip_client.specs.declared.hear_fault.HearFault.{HearFault}
use Rattle.kmip_client.specs.declared.hear_fault.HearFault.TheVariants as faults
use Rattle.kmip_client.specs.declared.heard.Heard.{Heard}
use Rattle.kmip_client.specs.declared.news.News.{News}
use Rattle.kmip_client.specs.declared.news.News.TheVariants as news
use Rattle.kmip_client.specs.declared.knowledge.Knowledge.{Knowledge}
use Rattle.kmip_client.specs.declared.subject.Subject.{Subject}
use Rattle.kmip_client.specs.Knowledge.{is_working}
use Rattle.kmip_client.specs.Learning.{learn}

-- ---- whom a reply is about

-- The operation is a look: it changes nothing.
abbrev pub is_look : Operation → Bool
is_look operations.Create = false
is_look operations.Locate = true
is_look operations.GetAttributes = true
is_look operations.Activate = false
is_look operations.Revoke = false
is_look operations.Destroy = false

-- The step that an operation is; a look is none.
abbrev pub operation_step : Operation → Option Step
operation_step operations.Create = Some Create
operation_step operations.Locate = None
operation_step operations.GetAttributes = None
operation_step operations.Activate = Some Activate
operation_step operations.Revoke = Some Revoke
operation_step operations.Destroy = Some Destroy

-- The step that the operation of a number is.
abbrev pub step_of : ℕ → Option Step
step_of number = option_and_then operation_step (operation_with number)

-- The operation of a number is asked about the key: a look, or a step of its chain.
abbrev pub is_asked_of : Key → ℕ → Bool
is_asked_of key number =
    option_map_or is_look (operation_with number) false
    || option_map_or (λ step. nat_le 1 (step_place key.target step)) (step_of number) false

-- The place of the first key with the name.
abbrev pub place_named : List ℕ → List Key → Option ℕ
place_named name keys = position (λ key. is_text name key.attrs.name) keys

-- The key at a place and an operation, where that operation is asked about the key.
abbrev pub subject_at : List Key → ℕ → ℕ → Option Subject
subject_at keys operation place =
    if option_map_or (λ key. is_asked_of key operation) (slice_get keys place) false
    then Some (record { key = place; operation = operation })
    else None

-- Whom an id names: an operation in one byte, and the name of a key.
abbrev pub subject_in : List Key → List ℕ → Option Subject
subject_in keys [] = None
subject_in keys (operation ∷ name) = option_and_then (λ place. subject_at keys operation place) (place_named name keys)

-- The key and the operation that an id names; none where there is no id.
abbrev pub subject_of : List Key → Option (List ℕ) → Option Subject
subject_of keys id = option_and_then (subject_in keys) id

-- The reply names another operation than its id.
abbrev pub is_other_operation : Option ℕ → ℕ → Bool
is_other_operation told operation = option_map_or (λ o. not (o == operation)) told false

-- ---- what it teaches

-- The outcome is a failure.
abbrev pub has_failed : Outcome → Bool
has_failed (Failed reason) = true
has_failed outcome = false

-- An identifier is known that was not, or more steps are.
abbrev pub has_grown : Bool → ℕ → Knowledge → Bool
has_grown had_identifier done new = (not had_identifier && is_some new.identifier) || nat_lt done new.done

-- What is new: first that the server has not done it, then that the key is in conflict, then that something
-- is known that was not.
abbrev pub news_of : Bool → Bool → ℕ → Knowledge → News
news_of failed had_identifier done new =
    if failed then news.Refused
    else if is_some new.clash then news.Clash
    else if has_grown had_identifier done new then news.Grew
    else news.Same

-- What was learnt, with what is new of it; or why it was refused.
abbrev pub with_news : Bool → Knowledge → Result Knowledge HearFault → Result (News × Knowledge) HearFault
with_news failed old (Ok new) = Ok (news_of failed (is_some old.identifier) old.done new, new)
with_news failed old (Err fault) = Err fault

-- What a key learns from an outcome. A key that is not worked on learns nothing more.
abbrev pub teach : Key → Outcome → Knowledge → Result (News × Knowledge) HearFault
teach key outcome known =
    if is_working key known then with_news (has_failed outcome) known (learn key outcome known) else Ok (news.Same, known)

-- What was heard about the key at a place, and what is known of all keys after it; or why it was refused.
abbrev pub with_heard : Subject → List Knowledge → Result (News × Knowledge) HearFault → Result (Heard × List Knowledge) HearFault
with_heard subject knowns (Ok lesson) =
    Ok (record { key = subject.key; operation = subject.operation; news = lesson.0 }, slice_set knowns subject.key lesson.1)
with_heard subject knowns (Err fault) = Err fault

-- What is heard of an outcome about a key and what is known of it; refused where there is no such key.
abbrev pub heard_by : Subject → Outcome → List Knowledge → Option Key → Option Knowledge → Result (Heard × List Knowledge) HearFault
heard_by subject outcome knowns (Some key) (Some known) = with_heard subject knowns (teach key outcome known)
heard_by subject outcome knowns key known = Err faults.StrangerId

-- What is heard of an outcome about the key that an id names.
abbrev pub heard_at : List Key → Subject → Outcome → List Knowledge → Result (Heard × List Knowledge) HearFault
heard_at keys subject outcome knowns = heard_by subject outcome knowns (slice_get keys subject.key) (slice_get knowns subject.key)

-- What is heard of a reply: first its id has to name a key, then it may name no other operation than its id,
-- then its outcome is heard.
abbrev pub heard_about : List Key → Reply → Option Subject → List Knowledge → Result (Heard × List Knowledge) HearFault
heard_about keys reply None knowns = Err faults.StrangerId
heard_about keys reply (Some subject) knowns =
    if is_other_operation reply.operation subject.operation then Err faults.WrongOperation else heard_at keys subject reply.outcome knowns

-- What is heard of a reply, about the key that its id names.
abbrev pub heard_in : List Key → Reply → List Knowledge → Result (Heard × List Knowledge) HearFault
heard_in keys reply knowns = heard_about keys reply (subject_of keys reply.id) knowns

-- ---- several replies

-- What is known after a reply; one that is refused teaches nothing.
abbrev pub known_after_reply : Result (Heard × List Knowledge) HearFault → List Knowledge → List Knowledge
known_after_reply (Ok heard) knowns = heard.1
known_after_reply (Err fault) knowns = knowns

-- What was heard of a reply, without what is known after it.
abbrev pub heard_of : Result (Heard × List Knowledge) HearFault → Result Heard HearFault
heard_of (Ok heard) = Ok heard.0
heard_of (Err fault) = Err fault

-- What is heard of each reply, one after the other.
abbrev pub hear_each : List Key → List Reply → List Knowledge → List (Result Heard HearFault)
hear_each keys [] knowns = []
hear_each keys (reply ∷ replies) knowns =
    heard_of (heard_in keys reply knowns) ∷ hear_each keys replies (known_after_reply (heard_in keys reply knowns) knowns)

-- What is known after the replies, heard one after the other.
abbrev pub known_after_each : List Key → List Reply → List Knowledge → List Knowledge
known_after_each keys [] knowns = knowns
known_after_each keys (reply ∷ replies) knowns = known_after_each keys replies (known_after_reply (heard_in keys reply knowns) knowns)

-- ---- bytes

-- What a client hears in the replies of a message, and what it knows after them; bytes that are no message
-- teach nothing.
abbrev pub hear_all : List Key → List Knowledge → Result (List Reply) MessageFault → Result (List (Result Heard HearFault) × List Knowledge) HearFault
hear_all keys knowns (Ok replies) = Ok (hear_each keys replies knowns, known_after_each keys replies knowns)
hear_all keys knowns (Err fault) = Err (faults.Unreadable fault)

-- What a client hears in bytes: the replies of a message, or the first fault of reading them.
abbrev pub hear : List Key → List Knowledge → List ℕ → Result (List (Result Heard HearFault) × List Knowledge) HearFault
hear keys knowns bytes = hear_all keys knowns (replies_read bytes)

-- A message is refused for the fault of reading it; of want of memory this says nothing.
abbrev pub Refuses : HearFault → Result (List (Result Heard HearFault) × List Knowledge) HearFault → Type 0
Refuses faults.NoMemory heard = Unit {0}
Refuses fault heard = heard ≡ Err fault
