-- Private: definitions that only clauses of private functions cite.
-- Source: own (view): parts of the public definitions of this crate.
use Rattle.std.specs.Prelude.{ℕ, ◌+◌, false, List, Option, IsTrue, ◌≤◌, length}
use Rattle.std.specs.Option.{option_map_or}
use Rattle.kmip_ttlv.specs.Node.{Node, as_structure}
use Rattle.kmip_ttlv.specs.Sizes.{padded}
use Rattle.kmip_batch_items.specs.Formats.{Kind, inside}
use Rattle.kmip_objects.specs.Ranges.{is_name}
use Rattle.kmip_batch_items.specs.declared.outcome.Outcome.{Outcome}
use Rattle.kmip_batch_items.specs.declared.outcome.Outcome.TheVariants.{Located, Attributes}

-- A Structure, by its items
abbrev pub structures : Kind (List Node)
structures = record { of = as_structure; make = inside }

-- A number, where it is given
abbrev pub number_size : {A : Type 0} → Option A → ℕ
number_size o = option_map_or (λ _. 16) o 0

-- A text, with its padding
abbrev pub text_size : List ℕ → ℕ
text_size s = 8 + padded (length s)

-- One identifier at most, and attributes with a Name in its range
abbrev pub IsBrief : Outcome → Type 0
IsBrief (Located uids) = length uids ≤ 1
IsBrief (Attributes uid attrs) = IsTrue (option_map_or is_name attrs.name false)
IsBrief outcome = Unit {0}
