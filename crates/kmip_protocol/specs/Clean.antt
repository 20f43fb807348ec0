-- Exchanges over an honest link that go as they should, whatever arrives late beside them; and what a link
-- counts of the others.
-- Source: own (choice, view), over KMIP 2.1, Message Structure (Unique Batch Item ID).
use Rattle.std.specs.Prelude.{◌≡◌, ◌≢◌, ◌⊎◌, ◌≤◌, ◌+◌, ℕ, Bool, false, not, ◌&&◌, nat_eq, List, [], ◌∷◌, length, filter, Option, Some, None, Result, Ok, Err}
use Rattle.std.specs.Cmp.Lexicographic.{pointwise}
use Rattle.std.specs.List.{All, list_any}
use Rattle.std.specs.Option.{option_map_or}
use Rattle.kmip_messages.specs.Items.{parts_in, replies_in, requests_in, stops_in}
use Rattle.kmip_batch_items.specs.declared.outcome.Outcome.TheVariants.{Failed}
use Rattle.kmip_batch_items.specs.declared.reply.Reply.{Reply}
use Rattle.kmip_batch_items.specs.declared.request.Request.{Request}
use Rattle.kmip_batch_items.specs.declared.standard.TheConstants.{REASON_SERVER_FULL}
use Rattle.kmip_protocol.specs.declared.link_fault.LinkFault.{LinkFault}
use Rattle.kmip_protocol.specs.declared.link_fault.LinkFault.TheVariants.{Io, Frame, NoMemory}
use Rattle.kmip_protocol.specs.Calm.{AreTaken}
use Rattle.kmip_protocol.specs.Exchanges.{with_asked, with_exchange}
use Rattle.kmip_protocol.specs.Moves.{Delivered}
use Rattle.kmip_protocol.specs.Past.{Names, Past}

-- the reply does not say that the server has no room
abbrev pub HasRoom : Reply → Type 0
HasRoom reply = reply.outcome ≢ Failed (Some REASON_SERVER_FULL)

-- What was asked before may arrive. Then the requests of a message join those asked, and it is served once,
-- and not refused for want of room. Again what was asked may arrive, and the reply to this message is handed
-- over. Own (choice).
pub record IsClean (names : Names) (old : Past) (sent : List ℕ) (answer : Option (List ℕ)) (new : Past) : Type 0 where
  pub given : List ℕ
  pub before : Past
  pub served : Past
  pub after : Past
  pub early : Delivered names old before
  pub taken : AreTaken (stops_in sent) (parts_in sent) (replies_in given) (with_asked sent before) served
  pub roomy : All HasRoom (replies_in given)
  pub late : Delivered names served after
  pub answer_is : answer ≡ Some given
  pub is : new ≡ with_exchange sent answer after

-- the id names a key of these names: an operation in one byte, and then the name
abbrev pub names_one : Names → Option (List ℕ) → Bool
names_one names None = false
names_one names (Some []) = false
names_one names (Some (operation ∷ name)) = names name

-- the name is that in the id of a request
abbrev pub is_name_of : List ℕ → Request → Bool
is_name_of name request = names_one (pointwise nat_eq name) request.id

-- the names, without those of the requests
abbrev pub but_of : List Request → Names → Names
but_of requests names = λ name. names name && not (list_any (is_name_of name) requests)

-- how many replies of a message are about a key of these names that none of the requests that were sent is
-- about
abbrev pub strange_replies : Names → List ℕ → List ℕ → ℕ
strange_replies names sent given = length (filter (λ reply. names_one (but_of (requests_in sent) names) reply.id) (replies_in given))

-- how many such replies are in what was handed over
abbrev pub strange_handed : Names → List ℕ → Option (List ℕ) → ℕ
strange_handed names sent answer = option_map_or (strange_replies names sent) answer 0

-- How many exchanges over a link were disturbed, how many requests these sent, and how many replies about
-- other keys they handed over.
pub record Disturbances : Type 0 where
  pub disturbed : ℕ
  pub requests : ℕ
  pub strange : ℕ

-- the counts after one more disturbed exchange, with its requests and its replies about other keys
abbrev pub one_disturbed : ℕ → ℕ → Disturbances → Disturbances
one_disturbed requests strange d = record { disturbed = d.disturbed + 1; requests = d.requests + requests; strange = d.strange + strange }

-- An exchange is clean and no count changes, or it is counted: with its requests, and with at least as many
-- strange replies as it hands over about keys of these names.
abbrev pub IsCounted : Names → Past → List ℕ → Option (List ℕ) → Past → Disturbances → Disturbances → Type 0
IsCounted names old sent answer new before after =
    (IsClean names old sent answer new × (after ≡ before))
    ⊎ ((strange : ℕ) × (strange_handed names sent answer ≤ strange) × (after ≡ one_disturbed (length (requests_in sent)) strange before))

-- no count has fallen
abbrev pub AreNoFewer : Disturbances → Disturbances → Type 0
AreNoFewer before after =
    (before.disturbed ≤ after.disturbed) × (before.requests ≤ after.requests) × (before.strange ≤ after.strange)

-- an exchange is clean or is counted, by what the call returned. A failure of the network hands nothing over.
-- Where memory ran out, no count falls.
abbrev pub Counted : Names → Past → List ℕ → Result (Option (List ℕ)) LinkFault → Past → Disturbances → Disturbances → Type 0
Counted names old sent (Ok answer) new before after = IsCounted names old sent answer new before after
Counted names old sent (Err Io) new before after = IsCounted names old sent None new before after
Counted names old sent (Err Frame) new before after = IsCounted names old sent None new before after
Counted names old sent (Err NoMemory) new before after = AreNoFewer before after

-- a message was handed over, and none of its replies says that the server has no room
abbrev pub IsRoomy : Result (Option (List ℕ)) LinkFault → Type 0
IsRoomy (Ok (Some given)) = All HasRoom (replies_in given)
IsRoomy (Ok None) = ⊥
IsRoomy (Err fault) = ⊥
