-- What is written of requests and replies: how deep and how long at most. That it is so deep and so long at all is a law of its format.
use Rattle.std.proofs.Common.{◌≡◌, ℕ, ◌+◌, ◌*◌, ◌≤◌, true, false, List, [], ◌∷◌, length, Option, Some, None, arith}
use Rattle.std.proofs.lemmas.Bool.{and_parts, leb-true}
use Rattle.std.specs.List.{list_all}
use Rattle.std.specs.Option.{option_map_or}
use Rattle.kmip_batch_items.specs.Formats.{Extent, extent_if_any}
use Rattle.kmip_objects.specs.Ranges.{is_name, is_identifier}
use Rattle.kmip_objects.proofs.ForCallers.{name_length, uid_length}
use Rattle.kmip_batch_items.specs.declared.ask.Ask.{Ask}
use Rattle.kmip_batch_items.specs.declared.ask.Ask.TheVariants.{Create, Locate, GetAttributes, Activate, Revoke, Destroy}
use Rattle.kmip_batch_items.specs.declared.outcome.Outcome.{Outcome}
use Rattle.kmip_batch_items.specs.declared.outcome.Outcome.TheVariants.{Created, Located, Attributes, Activated, Revoked, Destroyed, Failed}
use Rattle.kmip_batch_items.specs.Fits.{outcome_fits}
use Rattle.kmip_batch_items.specs.Private.{IsBrief, number_size, text_size}
use Rattle.kmip_batch_items.specs.Operations.{ask_operation}
use Rattle.kmip_batch_items.specs.Parts.{id_format, identifier_format}
use Rattle.kmip_batch_items.specs.Ranges.{is_batch_id}
use Rattle.kmip_batch_items.specs.ReplyFormats.{any_name_parts_format, attrs_format, created_format, identifiers_format, object_format, named_format, answer_format, located_format, success_of_format, success_format, failed_format, outcome_format}
use Rattle.kmip_batch_items.specs.RequestFits.{ask_fits}
use Rattle.kmip_batch_items.specs.RequestFormats.{name_parts_format, name_format, key_attrs_format, filter_format, create_format, locate_format, reason_format, revoke_format, payload_format}

-- so many bytes and levels at most
abbrev pub IsWithin : ℕ → ℕ → Extent → Type 0
IsWithin bytes levels e = (e.size ≤ bytes) × (e.depth ≤ levels)

text_bound : (s : List ℕ) (most : ℕ) → length s ≤ most → text_size s ≤ most + 15
text_bound s most h = omega (arith, h)

uid_bound : (s : List ℕ) → is_identifier s ≡ true → text_size s ≤ 79
uid_bound s h = text_bound s 64 (uid_length s h)

at_most : {A : Type 0} (n : ℕ) (o : Option A) → option_map_or (λ _. n) o 0 ≤ n
at_most n None = omega arith
at_most n (Some a) = omega arith

pub number_bound : {A : Type 0} (o : Option A) → number_size o ≤ 16
number_bound o = at_most 16 o

pub id_bound : (o : Option (List ℕ)) → option_map_or is_batch_id o true ≡ true → (id_format.extent o).size ≤ 143
unfolding id_format
id_bound None h = omega arith
id_bound (Some s) h = text_bound s 128 (leb-true _ _ h)

name_within : (o : Option (List ℕ)) → option_map_or is_name o false ≡ true → IsWithin 103 2 (extent_if_any name_format.extent o)
unfolding name_parts_format
name_within None h = omega arith
name_within (Some s) h = omega (arith, text_bound s 64 (name_length s h))

-- ---- requests

pub ask_within : (a : Ask) → ask_fits a ≡ true → IsWithin 400 4 ((payload_format (ask_operation a)).extent a)
unfolding payload_format create_format key_attrs_format name_parts_format locate_format filter_format revoke_format reason_format identifier_format
ask_within (Create k) h = omega (arith, text_bound k.name 64 (name_length k.name (and_parts _ _ (and_parts _ _ (and_parts _ _ h).0).0).0))
ask_within (Locate storage filter) h = omega (arith, name_within filter.name h, number_bound)
ask_within (GetAttributes uid) h = omega (arith, uid_bound uid h)
ask_within (Activate uid) h = omega (arith, uid_bound uid h)
ask_within (Revoke uid code) h = omega (arith, uid_bound uid (and_parts _ _ h).0)
ask_within (Destroy uid) h = omega (arith, uid_bound uid h)

-- ---- replies

pub outcome_depth : (asked : Option ℕ) (o : Outcome) → ((outcome_format asked).extent o).depth ≤ 4
unfolding outcome_format success_format success_of_format answer_format named_format created_format object_format located_format identifiers_format identifier_format attrs_format any_name_parts_format failed_format
outcome_depth asked (Attributes uid attrs) = omega (arith, at_most 2 attrs.name)
outcome_depth asked o = omega arith

uids_bound : (uids : List (List ℕ)) → list_all is_identifier uids ≡ true → (identifiers_format.extent uids).size ≤ 79 * length uids
unfolding identifiers_format
uids_bound [] h = omega arith
uids_bound (uid ∷ uids) h =
    let parts = and_parts (is_identifier uid) (list_all is_identifier uids) h in
    omega (arith, uid_bound uid parts.0, uids_bound uids parts.1)

pub brief_bound : (asked : Option ℕ) (o : Outcome) → outcome_fits asked o ≡ true → IsBrief o → ((outcome_format asked).extent o).size ≤ 400
unfolding outcome_format success_format success_of_format answer_format named_format created_format object_format located_format identifier_format attrs_format any_name_parts_format name_parts_format failed_format
brief_bound asked (Created uid) fits brief = omega (arith, uid_bound uid (and_parts _ _ fits).1)
brief_bound asked (Located uids) fits brief = omega (arith, uids_bound uids (and_parts _ _ fits).1, brief)
brief_bound asked (Attributes uid attrs) fits brief =
    omega (arith, uid_bound uid (and_parts _ _ fits).1, name_within attrs.name brief, number_bound)
brief_bound asked (Activated uid) fits brief = omega (arith, uid_bound uid (and_parts _ _ fits).1)
brief_bound asked (Revoked uid) fits brief = omega (arith, uid_bound uid (and_parts _ _ fits).1)
brief_bound asked (Destroyed uid) fits brief = omega (arith, uid_bound uid (and_parts _ _ fits).1)
brief_bound asked (Failed reason) fits brief = omega (arith, number_bound reason)
