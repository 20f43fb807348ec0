-- What came back for a question, in words. Whatever a reply names is written in plain characters, so that it forges no line.
-- Source: own: what the program prints.
use Rattle.std.specs.Prelude.{ℕ, nat_eq, Bool, true, false, List, [], ◌∷◌, ◌++◌, codes, Option, Some, None, option_and_then, if◌then◌else◌}
use Rattle.std.specs.Cmp.Lexicographic.{pointwise}
use Rattle.std.specs.Fmt.{decimal}
use Rattle.std.specs.List.{flat_map, list_all}
use Rattle.kmip_ttlv.specs.Showing.{plain_text}
use Rattle.kmip_messages.specs.Items.{replies_in, requests_in}
use Rattle.kmip_objects.specs.Ranges.{is_name_byte}
use Rattle.kmip_batch_items.specs.declared.outcome.Outcome.{Outcome}
use Rattle.kmip_batch_items.specs.declared.outcome.Outcome.TheVariants.{Created, Located, Attributes, Activated, Revoked, Destroyed, Failed}
use Rattle.kmip_batch_items.specs.declared.reply.Reply.{Reply}
use Rattle.kmip_batch_items.specs.declared.request.Request.{Request}
use Rattle.kmip_objects.specs.declared.key_state.KeyState.{KeyState}
use Rattle.kmip_trace.specs.Names.{number_word, state_of, state_word}
use Rattle.kmip_trace.specs.Questions.{id_name}

-- a space and an identifier
abbrev pub spaced_text : List ℕ → List ℕ
spaced_text uid = codes " " ++ plain_text uid

-- the objects that were found
abbrev pub found_text : List (List ℕ) → List ℕ
found_text [] = codes "found none"
found_text (uid ∷ uids) = codes "found" ++ flat_map spaced_text (uid ∷ uids)

-- an object is in a state, where the reply tells one
abbrev pub told_text : List ℕ → Option KeyState → List ℕ
told_text uid None = plain_text uid ++ codes " told"
told_text uid (Some state) = plain_text uid ++ codes " is " ++ state_word state

-- a failure, with the number of its Result Reason where there is one
abbrev pub failure_text : Option ℕ → List ℕ
failure_text None = codes "refused"
failure_text (Some reason) = codes "refused, reason " ++ decimal reason

-- how an operation went
abbrev pub outcome_text : Outcome → List ℕ
outcome_text (Created uid) = codes "created as " ++ plain_text uid
outcome_text (Located uids) = found_text uids
outcome_text (Attributes uid attrs) = told_text uid (option_and_then state_of attrs.state)
outcome_text (Activated uid) = codes "activated " ++ plain_text uid
outcome_text (Revoked uid) = codes "revoked " ++ plain_text uid
outcome_text (Destroyed uid) = codes "destroyed " ++ plain_text uid
outcome_text (Failed reason) = failure_text reason

-- an operation and a name, where there is such an operation
abbrev pub named_text : Option (List ℕ) → List ℕ → List ℕ
named_text None name = codes "no question"
named_text (Some word) name = word ++ codes " " ++ name

-- the question that an id names: an operation in one byte, and a name of plain characters
abbrev pub id_text : Option (List ℕ) → List ℕ
id_text None = codes "no question"
id_text (Some []) = codes "no question"
id_text (Some (number ∷ name)) = if list_all is_name_byte name then named_text (number_word number) name else codes "no question"

-- the two ids are one, or there is neither
abbrev pub is_same_id : Option (List ℕ) → Option (List ℕ) → Bool
is_same_id None None = true
is_same_id (Some id) (Some other) = pointwise nat_eq id other
is_same_id id other = false

-- which question a reply with this id answers goes without saying: one was asked, with this id, or none was and there is no id
abbrev pub is_only_asked : List Request → Option (List ℕ) → Bool
is_only_asked [] id = is_same_id None id
is_only_asked (request ∷ []) id = is_same_id request.id id
is_only_asked (request ∷ other ∷ others) id = false

-- which question a reply answers, where that does not go without saying
abbrev pub whose_text : List Request → Option (List ℕ) → List ℕ
whose_text asked id = if is_only_asked asked id then [] else codes "answers " ++ id_text id ++ codes ", "

-- which name is told of an object, where it is not the one that was asked about
abbrev pub other_name_text : List ℕ → Option (List ℕ) → List ℕ
other_name_text asked None = codes "unnamed, "
other_name_text asked (Some name) = if pointwise nat_eq name asked then [] else codes "named " ++ plain_text name ++ codes ", "

-- the same of what an operation told: attributes alone tell a name
abbrev pub naming_text : List ℕ → Outcome → List ℕ
naming_text asked (Attributes uid attrs) = other_name_text asked attrs.name
naming_text asked outcome = []

-- a reply in words, behind the question that it answers: its name is the one in the reply's own id
abbrev pub reply_text : Reply → List ℕ
reply_text reply = naming_text (id_name reply.id) reply.outcome ++ outcome_text reply.outcome

-- a reply to what was asked, with the question that it answers
abbrev pub answering_text : List Request → Reply → List ℕ
answering_text asked reply = whose_text asked reply.id ++ reply_text reply

-- the same of one more reply, behind others
abbrev pub next_answering_text : List Request → Reply → List ℕ
next_answering_text asked reply = codes "; " ++ answering_text asked reply

-- the replies to what was asked, in their order
abbrev pub replies_text : List Request → List Reply → List ℕ
replies_text asked [] = codes "an unreadable reply"
replies_text asked (reply ∷ others) = answering_text asked reply ++ flat_map (next_answering_text asked) others

-- what came back for what some bytes ask: other bytes, or nothing
abbrev pub answer_text : List ℕ → Option (List ℕ) → List ℕ
answer_text request None = codes "no reply"
answer_text request (Some reply) = replies_text (requests_in request) (replies_in reply)
