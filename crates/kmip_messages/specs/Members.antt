-- The Batch Items of a message, which stand in it in their order, among items that a reader does not use.
-- Source: KMIP 2.1, Message Structure (Batch Item, Batch Count). Own (limit): at most eight. Own (order): all
-- are looked at for their type before any is read.
use Rattle.std.specs.Prelude.{◌≡◌, ℕ, ℤ, pos, Bool, ◌&&◌, nat_le, List, [], ◌∷◌, Result, Ok}
use Rattle.std.specs.Ordering.{int_eq}
use Rattle.kmip_ttlv.specs.Binding.{◌>>=◌}
use Rattle.kmip_ttlv.specs.Node.{Node, Content, as_structure}
use Rattle.kmip_batch_items.specs.declared.message_fault.MessageFault.{MessageFault}
use Rattle.kmip_batch_items.specs.Formats.{inside}
use Rattle.kmip_batch_items.specs.Siblings.{contents, typed}
use Rattle.kmip_batch_items.specs.declared.standard.TheConstants.{TAG_BATCH_ITEM, MOST_QUESTIONS}

-- Whether a message may have this many Batch Items: one to eight. Own (limit).
abbrev pub may_have : ℕ → Bool
may_have there = nat_le 1 there && nat_le there MOST_QUESTIONS

-- whether there are as many Batch Items as the Batch Count says, and a message may have this many
abbrev pub is_count : ℤ → ℕ → Bool
is_count count there = may_have there && int_eq count (pos there)

-- ---- read

-- A test that each of some contents is a Structure. Else a Batch Item has a wrong type.
abbrev pub all_structures : List Content → Result (Unit {0}) MessageFault
all_structures [] = Ok tt
all_structures (c ∷ cs) = typed TAG_BATCH_ITEM (as_structure c) >>= λ parts. all_structures cs

-- what this reader reads of one Batch Item, which has to be a Structure
unfoldable pub member_in : {A : Type 0} → (List Node → Result A MessageFault) → Content → Result A MessageFault
member_in read c = typed TAG_BATCH_ITEM (as_structure c) >>= λ parts. read parts

-- what this reader reads of each of some Batch Items, in their order, or the first fault
abbrev pub members_in : {A : Type 0} → (List Node → Result A MessageFault) → List Content → Result (List A) MessageFault
members_in read [] = Ok []
members_in read (c ∷ cs) = member_in read c >>= λ a. members_in read cs >>= λ rest. Ok (a ∷ rest)

-- What this reader reads of each Batch Item of a message, in their order, or the first fault. All are looked
-- at for their type before any is read.
unfoldable pub members_at : {A : Type 0} → (List Node → Result A MessageFault) → List Node → Result (List A) MessageFault
members_at read message = do
  all ← all_structures (contents TAG_BATCH_ITEM message)
  members_in read (contents TAG_BATCH_ITEM message)

-- ---- what they say

-- Each of the contents is a Structure whose items say a value, and these are the values, in their order.
abbrev pub SayEach : {A : Type 0} → (List Node → A → Type 0) → List Content → List A → Type 0
SayEach Says [] [] = Unit {0}
SayEach Says [] (a ∷ rest) = ⊥
SayEach Says (c ∷ cs) [] = ⊥
SayEach Says (c ∷ cs) (a ∷ rest) = ((parts : List Node) × (c ≡ inside parts) × Says parts a) × SayEach Says cs rest
