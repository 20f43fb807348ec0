-- Which exchanges are counted as disturbed, and how the counts rise.
-- Source: KMIP 2.1, Message Structure (Unique Batch Item ID), and Message Data, Result Reason; what is
-- counted is own (choice).
use Rattle.std.specs.Prelude.{◌==◌, ℕ, Bool, true, false, ◌||◌, List, Option, Some, None, if◌then◌else◌}
use Rattle.std.specs.List.{list_any}
use Rattle.kmip_messages.specs.Items.{replies_in}
use Rattle.kmip_batch_items.specs.declared.outcome.Outcome.{Outcome}
use Rattle.kmip_batch_items.specs.declared.outcome.Outcome.TheVariants.{Failed}
use Rattle.kmip_batch_items.specs.declared.reply.Reply.{Reply}
use Rattle.kmip_batch_items.specs.declared.standard.TheConstants.{REASON_SERVER_FULL}
use Rattle.kmip_protocol.specs.Clean.{Disturbances, one_disturbed}
use Rattle.kmip_protocol.specs.Past.{Names}

-- The outcome is a failure because the server has no room.
abbrev pub is_full_outcome : Outcome → Bool
is_full_outcome (Failed (Some reason)) = reason == REASON_SERVER_FULL
is_full_outcome outcome = false

-- The reply says that the server has no room.
abbrev pub is_full : Reply → Bool
is_full reply = is_full_outcome reply.outcome

-- A reply of the message handed over says that the server has no room.
abbrev pub lacks_room : List ℕ → Bool
lacks_room given = list_any is_full (replies_in given)

-- An exchange is disturbed where it went amiss before its reply came, where nothing is handed over, or where
-- the server has no room.
abbrev pub is_disturbed : Bool → Option (List ℕ) → Bool
is_disturbed amiss None = true
is_disturbed amiss (Some given) = amiss || lacks_room given

-- Each name is one of these: a reply about any other key than those of the message is strange, planned or
-- not.
abbrev pub every_name : Names
every_name name = true

-- The counts after an exchange that sent this number of requests, and handed over this number of strange
-- replies. A disturbed one is counted, with both; any other leaves the counts as they were.
abbrev pub counted : Bool → ℕ → ℕ → Disturbances → Disturbances
counted disturbed requests strange before = if disturbed then one_disturbed requests strange before else before
