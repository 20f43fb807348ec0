-- Private: what is learnt of the replies that come.
-- Source: own (choice), over KMIP 2.1, Message Structure, Unique Batch Item ID.
use Rattle.std.specs.Prelude.{ℕ, Bool, true, false, ◌&&◌, ◌==◌, nat_eq, List, [], ◌∷◌, Option, Some, None, Result, Ok, Err, find, if◌then◌else◌}
use Rattle.std.specs.Cmp.Lexicographic.{pointwise}
use Rattle.std.specs.Option.{option_map_or}
use Rattle.kmip_batch_items.specs.declared.outcome.Outcome.{Outcome}
use Rattle.kmip_batch_items.specs.declared.outcome.Outcome.TheVariants.{Attributes, Failed, Located}
use Rattle.kmip_batch_items.specs.declared.reply.Reply.{Reply}
use Rattle.kmip_plan.specs.declared.key.Key.{Key}
use Rattle.kmip_client.specs.Learning.{learn}
use Rattle.kmip_client.specs.declared.hear_fault.HearFault.{HearFault}
use Rattle.kmip_client.specs.declared.knowledge.Knowledge.{Knowledge}
use Rattle.kmip_look.specs.PrivateAsking.{id_of, is_asked, part_number}
use Rattle.kmip_look.specs.Standings.{shown_of}
use Rattle.kmip_look.specs.declared.looked.Looked.{Looked}
use Rattle.kmip_look.specs.declared.part.Part.{Part}
use Rattle.kmip_look.specs.declared.part.Part.TheVariants.{Find, Tell}
use Rattle.kmip_look.specs.declared.shown.Shown.{Shown}
use Rattle.kmip_look.specs.declared.why.Why.{Why}
use Rattle.kmip_look.specs.declared.why.Why.TheVariants.{Refused, Unreadable}

-- The reply has just this id, and no other operation than this
abbrev pub is_answer : ℕ → List ℕ → Reply → Bool
is_answer number id reply =
    option_map_or (λ other. pointwise nat_eq id other) reply.id false && option_map_or (λ n. n == number) reply.operation true

-- What is said of a key once something was learnt of it, or why it was not
abbrev pub learnt_by : Result Knowledge HearFault → Option Shown → Looked → Looked
learnt_by (Ok known) shown looked = record looked { known = known; shown = shown }
learnt_by (Err fault) shown looked = record looked { why = Unreadable }

-- What is said of a key after the outcome of a Locate
abbrev pub heard_found : Key → Outcome → Looked → Looked
heard_found key (Failed reason) looked = record looked { why = Refused reason }
heard_found key (Located uids) looked = learnt_by (learn key (Located uids) looked.known) None looked
heard_found key outcome looked = record looked { why = Unreadable }

-- What is said of a key after the outcome of a Get Attributes
abbrev pub heard_told : Key → Outcome → Looked → Looked
heard_told key (Failed reason) looked = record looked { why = Refused reason }
heard_told key (Attributes uid told) looked = learnt_by (learn key (Attributes uid told) looked.known) (Some (shown_of told)) looked
heard_told key outcome looked = record looked { why = Unreadable }

-- What is said of a key after the outcome of a question of a part
abbrev pub heard : Part → Key → Outcome → Looked → Looked
heard Find key outcome looked = heard_found key outcome looked
heard Tell key outcome looked = heard_told key outcome looked

-- What is said of a key after its answer, or this where there is none
abbrev pub heard_from : Part → Key → Why → Option Reply → Looked → Looked
heard_from part key why None looked = record looked { why = why }
heard_from part key why (Some reply) looked = heard part key reply.outcome looked

-- What is said of a key after some replies, where the part asked about it
abbrev pub heard_key : Part → List ℕ → Why → List Reply → Key → Looked → Looked
heard_key part mark why replies key looked =
    if is_asked part looked then heard_from part key why (find (is_answer (part_number part) (id_of part mark key)) replies) looked else looked

-- What is said of each key after some replies
abbrev pub heard_each : Part → List ℕ → Why → List Reply → List Key → List Looked → List Looked
heard_each part mark why replies [] lookeds = lookeds
heard_each part mark why replies (key ∷ keys) [] = []
heard_each part mark why replies (key ∷ keys) (looked ∷ lookeds) =
    heard_key part mark why replies key looked ∷ heard_each part mark why replies keys lookeds
