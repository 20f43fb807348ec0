-- Private: the set of names beside the keys that were read so far.
-- Source: own (view).
use Rattle.std.specs.Prelude.{◌≡◌, ℕ, List}
use Rattle.std.specs.HashSet.{HashSet, contains_text}
use Rattle.std.specs.declared.string.String.{String}
use Rattle.kmip_plan.specs.declared.key.Key.{Key}
use Rattle.kmip_plan.specs.Reading.{has_key_named}

-- The set has the names of the keys, and no other text.
abbrev pub AreNamesOf : {A S : Type 0} → HashSet (String A) S → List Key → Type 0
AreNamesOf names keys = (text : List ℕ) → contains_text names text ≡ has_key_named text keys
