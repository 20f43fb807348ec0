-- The value of each field of a key, where it is a lawful one.
-- Source: own (choice): which values are lawful.
use Rattle.std.specs.Prelude.{ℕ, ℤ, pos, Bool, true, false, ◌&&◌, ◌==◌, nat_le, List, codes, Option, Some, None, option_and_then, if◌then◌else◌}
use Rattle.std.specs.List.{list_all, sum_by}
use Rattle.kmip_objects.specs.Ranges.{is_name, is_length}
use Rattle.toml.specs.Data.{Data, Items, Members, get_member, as_str}
use Rattle.kmip_plan.specs.declared.target.Target.{Target}
use Rattle.kmip_plan.specs.Chains.{is_revoked}
use Rattle.kmip_plan.specs.Tables.{text_at, integer_at, array_at, times, all_words}
use Rattle.kmip_plan.specs.TargetWords.{target_of_word}
use Rattle.kmip_plan.specs.Words.{algorithm_of_word, reason_of_word, is_usage_word, usages}

-- A value that passes a test; none where it does not.
abbrev pub if_so : {A : Type 0} → (A → Bool) → A → Option A
if_so test a = if test a then Some a else None

-- The name of the key, where it is a name in its range.
abbrev pub name_of : Members → Option (List ℕ)
name_of ms = option_and_then (if_so is_name) (text_at (codes "name") ms)

-- The Cryptographic Algorithm of the key, where its word names one.
abbrev pub algorithm_of : Members → Option ℕ
algorithm_of ms = option_and_then algorithm_of_word (text_at (codes "algorithm") ms)

-- The length of the key in bits, where the algorithm has keys of this length.
abbrev pub length_of : ℕ → Members → Option ℤ
length_of algorithm ms = option_and_then (if_so (is_length algorithm)) (integer_at (codes "length") ms)

-- The word is among the items at most once.
abbrev pub is_once : List ℕ → Items → Bool
is_once word items = nat_le (times word items) 1

-- Each usage word is among the items at most once.
abbrev pub are_once : Items → Bool
are_once items = list_all (λ usage. is_once usage.0 items) usages

-- The bit of a usage word that is among the items; 0 for one that is not.
abbrev pub bit_of : Items → List ℕ → ℕ → ℕ
bit_of items word bit = if times word items == 0 then 0 else bit

-- The sum of the bits of the usage words that are among the items: the Cryptographic Usage Mask.
abbrev pub mask_of : Items → ℕ
mask_of items = sum_by (λ usage. bit_of items usage.0 usage.1) usages

-- The mask of the items, where each is a usage word, none is there twice, and there is at least one.
abbrev pub usage_in : Items → Option ℤ
usage_in items =
    if all_words is_usage_word items && are_once items then (if mask_of items == 0 then None else Some (pos (mask_of items))) else None

-- The Cryptographic Usage Mask of the key, where its usage is an array of such words.
abbrev pub usage_of : Members → Option ℤ
usage_of ms = option_and_then usage_in (array_at (codes "usage") ms)

-- How far the key is to go, where its word names a target.
abbrev pub target_of : Members → Option Target
target_of ms = option_and_then target_of_word (text_at (codes "target") ms)

-- The reason of a Revoke, where there is one, and the value that a table gives for it, if any. It is 1
-- (unspecified) where none is given. Without a Revoke it is 0, and none may be given.
abbrev pub reason_in : Bool → Option Data → Option ℕ
reason_in true None = Some 1
reason_in true (Some d) = option_and_then reason_of_word (as_str d)
reason_in false None = Some 0
reason_in false (Some d) = None

-- The Revocation Reason Code of a key with this target, by the field `reason` of its table.
abbrev pub reason_of : Target → Members → Option ℕ
reason_of target ms = reason_in (is_revoked target) (get_member (codes "reason") ms)
