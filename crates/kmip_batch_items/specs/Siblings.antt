-- The items of one Structure, found by their tags.
-- Source: KMIP 2.1, Message Structure: items that a reader does not use are skipped. Own (order): which fault
-- is named, as the standard says no order of checks.
use Rattle.std.specs.Prelude.{ℕ, Bool, true, List, [], ◌∷◌, Option, Some, None, Result, Ok, Err, ◌==◌, if◌then◌else◌}
use Rattle.std.specs.List.{list_any}
use Rattle.kmip_ttlv.specs.Binding.{◌>>=◌}
use Rattle.kmip_ttlv.specs.Node.{Node, Content, tag_of, content_of}
use Rattle.kmip_batch_items.specs.declared.message_fault.MessageFault.{MessageFault}
use Rattle.kmip_batch_items.specs.declared.message_fault.MessageFault.TheVariants.{Missing, Twice, WrongType, OutOfRange}

-- what the items with a tag contain, in their order
abbrev pub contents : ℕ → List Node → List Content
contents tag [] = []
contents tag (n ∷ ns) = if tag_of n == tag then content_of n ∷ contents tag ns else contents tag ns

-- The content, where there is one; several are a fault.
abbrev pub at_most_one_of : ℕ → List Content → Result (Option Content) MessageFault
at_most_one_of tag [] = Ok None
at_most_one_of tag (c ∷ []) = Ok (Some c)
at_most_one_of tag (c ∷ d ∷ cs) = Err (Twice tag)

-- The one content; none is a fault, and so are several.
abbrev pub one_of : ℕ → List Content → Result Content MessageFault
one_of tag [] = Err (Missing tag)
one_of tag (c ∷ []) = Ok c
one_of tag (c ∷ d ∷ cs) = Err (Twice tag)

-- The value of a content of the right type. Where it is not of that type, the item with this tag is at fault.
abbrev pub typed : {A : Type 0} → ℕ → Option A → Result A MessageFault
typed tag None = Err (WrongType tag)
typed tag (Some a) = Ok a

-- The value of a content of the right type, where there is one.
abbrev pub typed_if_any : {A : Type 0} → (Content → Option A) → ℕ → Option Content → Result (Option A) MessageFault
typed_if_any kind tag None = Ok None
typed_if_any kind tag (Some c) = typed tag (kind c) >>= λ a. Ok (Some a)

-- A test: where it fails, the fault is this.
abbrev pub guard : MessageFault → Bool → Result (Unit {0}) MessageFault
guard fault true = Ok tt
guard fault _ = Err fault

-- A test of a value: where it fails, the item with this tag is out of range.
abbrev pub within : ℕ → Bool → Result (Unit {0}) MessageFault
within tag test = guard (OutOfRange tag) test

-- The value of the one item with a tag, by its type. The faults are that the item is missing, that there are
-- several, and that it has another type.
unfoldable pub the : {A : Type 0} → (Content → Option A) → ℕ → List Node → Result A MessageFault
the kind tag ns = do
  c ← one_of tag (contents tag ns)
  typed tag (kind c)

-- The value of the item with a tag, by its type, where there is one. The faults are that there are several,
-- and that it has another type.
unfoldable pub maybe : {A : Type 0} → (Content → Option A) → ℕ → List Node → Result (Option A) MessageFault
maybe kind tag ns = do
  c ← at_most_one_of tag (contents tag ns)
  typed_if_any kind tag c

-- A test that the tags of the items are all among these. The first item whose tag is not is out of range.
abbrev pub only : List ℕ → List Node → Result (Unit {0}) MessageFault
only tags [] = Ok tt
only tags (n ∷ ns) = if list_any (λ t. t == tag_of n) tags then only tags ns else Err (OutOfRange (tag_of n))
