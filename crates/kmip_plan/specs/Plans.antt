-- What a plan is, without a word of the order in which it is read.
-- Source: TOML 1.1, Table and Array of Tables; the fields and their values are own (text, choice).
use Rattle.std.specs.Prelude.{◌≡◌, ◌≤◌, ℕ, ℤ, pos, Bool, true, false, ◌&&◌, ◌||◌, ◌==◌, List, [], ◌∷◌, ◌++◌, length, codes, Option, Some, if◌then◌else◌}
use Rattle.std.specs.List.{find, list_all, slice_get}
use Rattle.kmip_objects.specs.Ranges.{is_name, is_length, is_usage, attrs_fit}
use Rattle.toml.specs.Data.{Items, no_items, item, Members}
use Rattle.kmip_plan.specs.declared.key.Key.{Key}
use Rattle.kmip_plan.specs.declared.target.Target.{Target}
use Rattle.kmip_plan.specs.Chains.{is_revoked}
use Rattle.kmip_plan.specs.Fields.{are_once, mask_of, reason_of}
use Rattle.kmip_plan.specs.Limits.{most_keys}
use Rattle.kmip_plan.specs.Reading.{has_key_named}
use Rattle.kmip_plan.specs.Tables.{text_at, integer_at, array_at, fields_of, is_top_field, is_key_field, has_only, all_words}
use Rattle.kmip_plan.specs.TargetWords.{is_text, target_word}
use Rattle.kmip_plan.specs.Words.{algorithm_word, is_usage_word}

-- The table has an array of usage words, each once and no other words, and this is their mask, in its range.
pub record IsUsage (ms : Members) (mask : ℤ) : Type 0 where
  pub items : Items
  pub stands : array_at (codes "usage") ms ≡ Some items
  pub words : all_words is_usage_word items ≡ true
  pub once : are_once items ≡ true
  pub mask_is : mask ≡ pos (mask_of items)
  pub in_range : is_usage mask ≡ true

-- The word of this algorithm is in the table.
pub record IsAlgorithm (ms : Members) (algorithm : ℕ) : Type 0 where
  pub word : List ℕ
  pub stands : text_at (codes "algorithm") ms ≡ Some word
  pub named : algorithm_word algorithm ≡ Some word

-- The table has the fields of this key, each in its range, and no others.
pub record IsKey (ms : Members) (key : Key) : Type 0 where
  pub no_others : has_only is_key_field ms ≡ true
  pub name : text_at (codes "name") ms ≡ Some key.attrs.name
  pub name_in_range : is_name key.attrs.name ≡ true
  pub algorithm : IsAlgorithm ms key.attrs.algorithm
  pub bits : integer_at (codes "length") ms ≡ Some key.attrs.length
  pub bits_in_range : is_length key.attrs.algorithm key.attrs.length ≡ true
  pub usage : IsUsage ms key.attrs.usage
  pub target : text_at (codes "target") ms ≡ Some (target_word key.target)
  pub reason : reason_of key.target ms ≡ Some key.reason

-- The items are the tables of these keys, one for one.
abbrev pub AreKeys : Items → List Key → Type 0
AreKeys no_items [] = Unit {0}
AreKeys no_items (key ∷ keys) = ⊥
AreKeys (item d ds) [] = ⊥
AreKeys (item d ds) (key ∷ keys) = IsKey (fields_of d) key × AreKeys ds keys

-- Each key has a name that no key before it has.
abbrev pub HaveNewNames : List Key → List Key → Type 0
HaveNewNames before [] = Unit {0}
HaveNewNames before (key ∷ keys) = (has_key_named key.attrs.name before ≡ false) × HaveNewNames (before ++ key ∷ []) keys

-- A table is a plan of these keys: it has 1 to 1,000 of them, with distinct names, and nothing else.
pub record IsPlan (ms : Members) (keys : List Key) : Type 0 where
  pub no_others : has_only is_top_field ms ≡ true
  pub items : Items
  pub stands : array_at (codes "key") ms ≡ Some items
  pub each : AreKeys items keys
  pub some : 1 ≤ length keys
  pub few : length keys ≤ most_keys
  pub distinct : HaveNewNames [] keys

-- The reason is one of a Revoke that is no compromise, and 0 where the chain of the target has no Revoke. Own
-- (choice): this project does not revoke for a compromise.
abbrev pub reason_fits : Target → ℕ → Bool
reason_fits target reason =
    if is_revoked target then reason == 1 || reason == 4 || reason == 5 || reason == 6 || reason == 7 else reason == 0

-- A key has its attributes and its reason in their ranges.
abbrev pub key_fits : Key → Bool
key_fits key = attrs_fit key.attrs && reason_fits key.target key.reason

-- What holds of the keys of every plan: there are 1 to 1,000, names are distinct, and all values are in their
-- ranges. Own (limit, choice).
pub record IsLawful (keys : List Key) : Type 0 where
  -- There is at least one key.
  pub some : 1 ≤ length keys
  -- There are at most 1,000.
  pub few : length keys ≤ most_keys
  -- Names are distinct.
  pub distinct : HaveNewNames [] keys
  -- Each key has its values in their ranges.
  pub fit : list_all key_fits keys ≡ true

-- The key at each place has its values in their ranges.
abbrev pub EachFits : List Key → Type 0
EachFits keys = (place : ℕ) (key : Key) → slice_get keys place ≡ Some key → key_fits key ≡ true

-- The first key with the name. Own (view).
abbrev pub key_named : List ℕ → List Key → Option Key
key_named name keys = find (λ k. is_text name k.attrs.name) keys

-- The key is the one that these keys have under its name. Own (view).
abbrev pub IsPlanned : List Key → Key → Type 0
IsPlanned keys key = key_named key.attrs.name keys ≡ Some key
