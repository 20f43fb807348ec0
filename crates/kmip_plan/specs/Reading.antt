-- How a plan is read: the list of its keys, or the first fault. One function for each function of the code.
-- Source: TOML 1.1; the fields are own (text, choice), and so is the order of the checks (order).
use Rattle.std.specs.Prelude.{◌≡◌, ℕ, ◌+◌, ℤ, Bool, true, false, not, nat_le, List, [], ◌∷◌, ◌++◌, length, codes, Option, Some, None, Result, Ok, Err}
use Rattle.std.specs.List.{list_any}
use Rattle.kmip_ttlv.specs.Binding.{◌>>=◌}
use Rattle.toml.specs.Data.{Items, no_items, item, Members, get_member}
use Rattle.toml.specs.Parse.{parse_document}
use Rattle.kmip_plan.specs.declared.field.Field.TheVariants as field
use Rattle.kmip_plan.specs.declared.plan_fault.PlanFault.{PlanFault}
use Rattle.kmip_plan.specs.declared.plan_fault.PlanFault.TheVariants.{Toml, NoKeys, TooMany, Missing, Unknown, BadName, BadLength, BadUsage, BadTarget, BadReason, SameName, NoMemory}
use Rattle.kmip_plan.specs.declared.key.Key.{Key}
use Rattle.kmip_plan.specs.Fields.{name_of, algorithm_of, length_of, usage_of, target_of, reason_of}
use Rattle.kmip_plan.specs.Limits.{most_keys}
use Rattle.kmip_plan.specs.Tables.{array_at, fields_of, is_top_field, is_key_field, first_other, count}
use Rattle.kmip_plan.specs.TargetWords.{is_text}

-- A value that has to be there; else this fault.
abbrev pub need : {A : Type 0} → PlanFault → Option A → Result A PlanFault
need fault None = Err fault
need fault (Some a) = Ok a

-- A test that has to pass; else this fault.
abbrev pub guard : PlanFault → Bool → Result (Unit {0}) PlanFault
guard fault true = Ok tt
guard fault false = Err fault

-- There is no other field; else the fault that names it and this place.
abbrev pub none_other : ℕ → Option (List ℕ) → Result (Unit {0}) PlanFault
none_other place None = Ok tt
none_other place (Some word) = Err (Unknown word place)

-- A key of the list has the name.
abbrev pub has_key_named : List ℕ → List Key → Bool
has_key_named name keys = list_any (λ k. is_text name k.attrs.name) keys

-- Each field that a key must have is there; else the first that is missing.
unfoldable pub all_there : ℕ → Members → Result (Unit {0}) PlanFault
all_there place ms = do
  name ← need (Missing field.Name place) (get_member (codes "name") ms)
  algorithm ← need (Missing field.Algorithm place) (get_member (codes "algorithm") ms)
  bits ← need (Missing field.Length place) (get_member (codes "length") ms)
  usage ← need (Missing field.Usage place) (get_member (codes "usage") ms)
  target ← need (Missing field.Target place) (get_member (codes "target") ms)
  Ok tt

-- The algorithm of the key and its length in bits, or the one fault for both.
unfoldable pub suite_of : ℕ → Members → Result (ℕ × ℤ) PlanFault
suite_of place ms = do
  algorithm ← need (BadLength place) (algorithm_of ms)
  bits ← need (BadLength place) (length_of algorithm ms)
  Ok (algorithm, bits)

-- The key of a table after the keys before it, or its first fault. First come the missing fields, then an
-- unknown one. Then come the name, the algorithm with the length, the usage, the target and the reason, and
-- last a name that a key before has.
unfoldable pub key_in : List Key → Members → Result Key PlanFault
key_in keys ms =
    let place = length keys + 1 in do
      there ← all_there place ms
      known ← none_other place (first_other is_key_field ms)
      name ← need (BadName place) (name_of ms)
      suite ← suite_of place ms
      usage ← need (BadUsage place) (usage_of ms)
      target ← need (BadTarget place) (target_of ms)
      reason ← need (BadReason place) (reason_of target ms)
      new ← guard (SameName place) (not (has_key_named name keys))
      Ok (record { attrs = record { name = name; algorithm = suite.0; length = suite.1; usage = usage }; target = target; reason = reason })

-- The keys before, and then those of the items; or the first fault, item by item.
abbrev pub keys_in : List Key → Items → Result (List Key) PlanFault
keys_in keys no_items = Ok keys
keys_in keys (item d ds) = key_in keys (fields_of d) >>= λ k. keys_in (keys ++ k ∷ []) ds

-- The keys of a table, or its first fault: another field beside `key`, no keys, more than 1,000 keys, and
-- then key by key.
unfoldable pub plan_in : Members → Result (List Key) PlanFault
plan_in ms = do
  known ← none_other 0 (first_other is_top_field ms)
  items ← need NoKeys (array_at (codes "key") ms)
  some ← guard NoKeys (nat_le 1 (count items))
  few ← guard TooMany (nat_le (count items) most_keys)
  keys_in [] items

-- The keys of the plan that a text is, or the first fault; that the text is no TOML comes before all others.
unfoldable pub plan_read : List ℕ → Result (List Key) PlanFault
plan_read text = need Toml (parse_document text) >>= plan_in

-- The fault of a call is the one that reading gives; of want of memory this says nothing. Own (view).
abbrev pub FailsPlan : {Y : Type 0} → PlanFault → Result Y PlanFault → Type 0
FailsPlan NoMemory read = Unit {0}
FailsPlan fault read = read ≡ Err fault

-- What a call returned is what reading gives, unless memory ran out. The value of the call is seen by `view`.
-- Own (view).
abbrev pub GivesPlan : {X Y : Type 0} → (X → Y) → Result X PlanFault → Result Y PlanFault → Type 0
GivesPlan view (Ok x) read = read ≡ Ok (view x)
GivesPlan view (Err e) read = FailsPlan e read
