-- A part of a message, described once: how it is written, how it is read and what it says all follow from its
-- format.
-- Source: KMIP 2.1, Message Structure: items may stand in any order, and those that a reader does not use are
-- skipped. Own (view): what a format is, and the formats that say which values there may be, and in what
-- words. Own (order): which of two parts is read first, as the standard says no order of checks, and the
-- first fault is to be named.
use Rattle.std.specs.Prelude.{◌≡◌, ℕ, ◌+◌, max, ℤ, Bool, true, false, ◌&&◌, ◌==◌, List, [], ◌∷◌, ◌++◌, map, Option, Some, None, Result, Ok, Err, IsTrue, if◌then◌else◌}
use Rattle.std.specs.List.{list_all}
use Rattle.std.specs.Option.{option_map, option_map_or}
use Rattle.kmip_ttlv.specs.Binding.{◌>>=◌}
use Rattle.kmip_ttlv.specs.Limits.{head_size}
use Rattle.kmip_ttlv.specs.Node.{Node, node, Content, structure, integer, enumeration, text_string, byte_string, nodes_of, as_structure, as_integer, as_enumeration, as_text_string, as_byte_string}
use Rattle.kmip_ttlv.specs.Sizes.{content_size}
use Rattle.kmip_batch_items.specs.declared.message_fault.MessageFault.{MessageFault}
use Rattle.kmip_batch_items.specs.declared.message_fault.MessageFault.TheVariants.{OutOfRange}
use Rattle.kmip_batch_items.specs.Siblings.{contents, guard, typed, within, the, maybe, only}
use Rattle.kmip_batch_items.specs.Occurrences.{Once, AtMostOnce, HaveTags}

-- how many bytes some items take together, and how many levels they have at most
pub record Extent : Type 0 where
  pub size : ℕ
  pub depth : ℕ

-- a part of a message that says a value of this type
pub record Format (A : Type 0) : Type 1 where
  -- the tags of its items
  pub tags : List ℕ
  -- the values that it can say
  pub fits : A → Bool
  -- the items that say a value, as they are written
  pub write : A → List Node
  -- how long and how deep these items are
  pub extent : A → Extent
  -- the value that the items say among their siblings, or the first fault
  pub read : List Node → Result A MessageFault
  -- the items say the value among their siblings, in whatever order
  pub Says : List Node → A → Type 0

-- a type of items: the value that a content of this type has, and the content of a value
pub record Kind (A : Type 0) : Type 0 where
  pub of : Content → Option A
  pub make : A → Content

-- the content of a Structure
abbrev pub inside : List Node → Content
inside ns = structure (nodes_of ns)

-- an Integer, by its number
abbrev pub integers : Kind ℤ
integers = record { of = as_integer; make = integer }

-- an Enumeration, by its number
abbrev pub enumerations : Kind ℕ
enumerations = record { of = as_enumeration; make = enumeration }

-- a Text String, by its bytes
abbrev pub texts : Kind (List ℕ)
texts = record { of = as_text_string; make = text_string }

-- a Byte String, by its bytes
abbrev pub bytes : Kind (List ℕ)
bytes = record { of = as_byte_string; make = byte_string }

-- the items that say a value, where there is one; else none
abbrev pub if_given : {A : Type 0} → (A → List Node) → Option A → List Node
if_given write o = option_map_or write o []

-- the one item that says a value, where there is one; else none
abbrev pub given : {A : Type 0} → (A → Node) → Option A → List Node
given item o = if_given (λ a. item a ∷ []) o

-- ---- how long and how deep items are

-- how long and how deep an item with this content is, which has no items of its own
abbrev pub flat : Content → Extent
flat content = record { size = head_size + content_size content; depth = 1 }

-- how long and how deep a Structure around some items is
abbrev pub around : Extent → Extent
around e = record { size = head_size + e.size; depth = 1 + e.depth }

-- how long and how deep some items and some others are together
abbrev pub beside : Extent → Extent → Extent
beside e d = record { size = e.size + d.size; depth = max e.depth d.depth }

-- how long and how deep the items of a value are, where there is one; else no bytes and no levels
abbrev pub extent_if_any : {A : Type 0} → (A → Extent) → Option A → Extent
extent_if_any extent o = record { size = option_map_or (λ a. (extent a).size) o 0; depth = option_map_or (λ a. (extent a).depth) o 0 }

-- the sizes of some values together
abbrev pub all_sizes : {A : Type 0} → (A → ℕ) → List A → ℕ
all_sizes size [] = 0
all_sizes size (a ∷ rest) = size a + all_sizes size rest

-- ---- one item

-- Just one item with the tag, which has to be there: its value.
abbrev pub required : {A : Type 0} → Kind A → ℕ → Format A
required k tag = record {
  tags = tag ∷ [];
  fits = λ a. true;
  write = λ a. node tag (k.make a) ∷ [];
  extent = λ a. flat (k.make a);
  read = λ ns. the k.of tag ns;
  Says = λ ns a. Once tag (k.make a) ns;
}

-- No item with the tag, or one: its value, where there is one.
abbrev pub optional : {A : Type 0} → Kind A → ℕ → Format (Option A)
optional k tag = record {
  tags = tag ∷ [];
  fits = λ o. true;
  write = λ o. given (λ a. node tag (k.make a)) o;
  extent = λ o. record { size = option_map_or (λ a. head_size + content_size (k.make a)) o 0; depth = 1 };
  read = λ ns. maybe k.of tag ns;
  Says = λ ns o. AtMostOnce tag (option_map k.make o) ns;
}

-- An item that is written with this content, and not looked at by a reader: it says nothing.
abbrev pub unread : ℕ → Content → Format (Unit {0})
unread tag content = record {
  tags = tag ∷ [];
  fits = λ u. true;
  write = λ u. node tag content ∷ [];
  extent = λ u. flat content;
  read = λ ns. Ok tt;
  Says = λ ns u. Unit {0};
}

-- The value that a content has, where the content has the type and the test holds of the value. Else the item
-- with this tag is of a wrong type, or out of range.
unfoldable pub value_in : {A : Type 0} → Kind A → ℕ → (A → Bool) → Content → Result A MessageFault
value_in k tag test c = typed tag (k.of c) >>= λ a. within tag (test a) >>= λ u. Ok a

-- the values that some contents have, each of the type and in its range, or the first fault
abbrev pub values_in : {A : Type 0} → Kind A → ℕ → (A → Bool) → List Content → Result (List A) MessageFault
values_in k tag test [] = Ok []
values_in k tag test (c ∷ cs) = value_in k tag test c >>= λ a. values_in k tag test cs >>= λ rest. Ok (a ∷ rest)

-- Any number of items with the tag: their values in their order, each in its range.
abbrev pub repeated : {A : Type 0} → Kind A → ℕ → (A → Bool) → Format (List A)
repeated k tag test = record {
  tags = tag ∷ [];
  fits = λ all. list_all test all;
  write = λ all. map (λ a. node tag (k.make a)) all;
  extent = λ all. record { size = all_sizes (λ a. head_size + content_size (k.make a)) all; depth = 1 };
  read = λ ns. values_in k tag test (contents tag ns);
  Says = λ ns all. (contents tag ns ≡ map k.make all) × IsTrue (list_all test all);
}

-- Just one Structure with the tag, which has to be there, and whose items say the value.
abbrev pub structure_of : {A : Type 0} → ℕ → Format A → Format A
structure_of tag f = record {
  tags = tag ∷ [];
  fits = f.fits;
  write = λ a. node tag (inside (f.write a)) ∷ [];
  extent = λ a. around (f.extent a);
  read = λ ns. the as_structure tag ns >>= λ parts. f.read parts;
  Says = λ ns a. (parts : List Node) × Once tag (inside parts) ns × f.Says parts a;
}

-- what the items of a Structure are read as, where there is one
abbrev pub read_if_any : {A : Type 0} → (List Node → Result A MessageFault) → Option (List Node) → Result (Option A) MessageFault
read_if_any read None = Ok None
read_if_any read (Some parts) = read parts >>= λ a. Ok (Some a)

-- No item with the tag stands among these, and there is no value; or just one Structure does, whose items say
-- the value.
abbrev pub SaysIfAny : {A : Type 0} → ℕ → (List Node → A → Type 0) → List Node → Option A → Type 0
SaysIfAny tag Says ns None = AtMostOnce tag None ns
SaysIfAny tag Says ns (Some a) = (parts : List Node) × Once tag (inside parts) ns × Says parts a

-- No Structure with the tag, or one, whose items say the value.
abbrev pub optional_structure : {A : Type 0} → ℕ → Format A → Format (Option A)
optional_structure tag f = record {
  tags = tag ∷ [];
  fits = λ o. option_map_or f.fits o true;
  write = λ o. given (λ a. node tag (inside (f.write a))) o;
  extent = λ o. extent_if_any (λ a. around (f.extent a)) o;
  read = λ ns. maybe as_structure tag ns >>= λ parts. read_if_any f.read parts;
  Says = λ ns o. SaysIfAny tag f.Says ns o;
}

-- ---- the values

-- Only the values of which a test holds. Of any other the fault is this.
abbrev pub tested : {A : Type 0} → MessageFault → (A → Bool) → Format A → Format A
tested fault test f = record {
  tags = f.tags;
  fits = λ a. f.fits a && test a;
  write = f.write;
  extent = f.extent;
  read = λ ns. f.read ns >>= λ a. guard fault (test a) >>= λ u. Ok a;
  Says = λ ns a. f.Says ns a × IsTrue (test a);
}

-- Only the values of which a test holds. Of any other the item with this tag is out of range.
abbrev pub ranged : {A : Type 0} → ℕ → (A → Bool) → Format A → Format A
ranged tag test f = tested (OutOfRange tag) test f

-- Any value of which the test holds is read, and not kept; else the fault is this. This value is written.
abbrev pub fixed : {A : Type 0} → MessageFault → (A → Bool) → A → Format A → Format (Unit {0})
fixed fault test value f = record {
  tags = f.tags;
  fits = λ u. true;
  write = λ u. f.write value;
  extent = λ u. f.extent value;
  read = λ ns. f.read ns >>= λ a. guard fault (test a);
  Says = λ ns u. (a : _) × f.Says ns a × IsTrue (test a);
}

-- A value that has to be there, in the words of one that may be there.
abbrev pub present : {A : Type 0} → Format A → Format (Option A)
present f = record {
  tags = f.tags;
  fits = λ o. option_map_or f.fits o false;
  write = λ o. if_given f.write o;
  extent = λ o. extent_if_any f.extent o;
  read = λ ns. f.read ns >>= λ a. Ok (Some a);
  Says = λ ns o. (a : _) × f.Says ns a × (Some a ≡ o);
}

-- The same values in other words: `there` leads from the one to the other, and `back` back.
abbrev pub as_record : {A B : Type 0} → (A → B) → (B → A) → Format A → Format B
as_record there back f = record {
  tags = f.tags;
  fits = λ b. f.fits (back b);
  write = λ b. f.write (back b);
  extent = λ b. f.extent (back b);
  read = λ ns. f.read ns >>= λ a. Ok (there a);
  Says = λ ns b. f.Says ns (back b);
}

-- The same values in other words, in which they are one case of several.
abbrev pub as_case : {A B : Type 0} → (A → B) → (B → Option A) → Format A → Format B
as_case there back f = record {
  tags = f.tags;
  fits = λ b. option_map_or f.fits (back b) false;
  write = λ b. if_given f.write (back b);
  extent = λ b. extent_if_any f.extent (back b);
  read = λ ns. f.read ns >>= λ a. Ok (there a);
  Says = λ ns b. (a : _) × f.Says ns a × (there a ≡ b);
}

-- ---- two parts

infixr 6 ◌⊗◌
-- Two parts side by side. The first is read first and written first.
abbrev pub ◌⊗◌ : {A B : Type 0} → Format A → Format B → Format (A × B)
f ⊗ g = record {
  tags = f.tags ++ g.tags;
  fits = λ p. f.fits p.0 && g.fits p.1;
  write = λ p. f.write p.0 ++ g.write p.1;
  extent = λ p. beside (f.extent p.0) (g.extent p.1);
  read = λ ns. f.read ns >>= λ a. g.read ns >>= λ b. Ok (a, b);
  Says = λ ns p. f.Says ns p.0 × g.Says ns p.1;
}

infixr 6 ◌⊗ʳ◌
-- Two parts side by side. The second is read first, and the first is written first.
abbrev pub ◌⊗ʳ◌ : {A B : Type 0} → Format A → Format B → Format (A × B)
f ⊗ʳ g = record {
  tags = f.tags ++ g.tags;
  fits = λ p. f.fits p.0 && g.fits p.1;
  write = λ p. f.write p.0 ++ g.write p.1;
  extent = λ p. beside (f.extent p.0) (g.extent p.1);
  read = λ ns. g.read ns >>= λ b. f.read ns >>= λ a. Ok (a, b);
  Says = λ ns p. f.Says ns p.0 × g.Says ns p.1;
}

infixl 5 ◌◁◌
-- Two parts side by side, the second of which says no value. The first is read first and written first.
abbrev pub ◌◁◌ : {A : Type 0} → Format A → Format (Unit {0}) → Format A
f ◁ g = record {
  tags = f.tags ++ g.tags;
  fits = λ a. f.fits a && g.fits tt;
  write = λ a. f.write a ++ g.write tt;
  extent = λ a. beside (f.extent a) (g.extent tt);
  read = λ ns. f.read ns >>= λ a. g.read ns >>= λ u. Ok a;
  Says = λ ns a. f.Says ns a × g.Says ns tt;
}

infixr 5 ◌▷◌
-- Two parts side by side, the first of which says no value. The first is read first and written first.
abbrev pub ◌▷◌ : {A : Type 0} → Format (Unit {0}) → Format A → Format A
f ▷ g = record {
  tags = f.tags ++ g.tags;
  fits = λ a. f.fits tt && g.fits a;
  write = λ a. f.write tt ++ g.write a;
  extent = λ a. beside (f.extent tt) (g.extent a);
  read = λ ns. f.read ns >>= λ u. g.read ns;
  Says = λ ns a. f.Says ns tt × g.Says ns a;
}

-- A part, and then one whose format the value of the first tells. The second part has these tags, whatever
-- the first tells.
abbrev pub followed : {K A : Type 0} → List ℕ → Format K → (K → Format A) → Format (K × A)
followed tags f g = record {
  tags = f.tags ++ tags;
  fits = λ p. f.fits p.0 && (g p.0).fits p.1;
  write = λ p. f.write p.0 ++ (g p.0).write p.1;
  extent = λ p. beside (f.extent p.0) ((g p.0).extent p.1);
  read = λ ns. f.read ns >>= λ k. (g k).read ns >>= λ a. Ok (k, a);
  Says = λ ns p. f.Says ns p.0 × (g p.0).Says ns p.1;
}

-- What is read of the part that a key tells. Where the key, which was read before, is not there, the fault is
-- this.
abbrev pub read_told : {K A : Type 0} → MessageFault → (K → Format A) → Option K → List Node → Result A MessageFault
read_told fault g None ns = Err fault
read_told fault g (Some key) ns = (g key).read ns

-- There is a key, and the part that it tells says the value.
abbrev pub SaysTold : {K A : Type 0} → (K → Format A) → Option K → List Node → A → Type 0
SaysTold g None ns a = IsTrue false
SaysTold g (Some key) ns a = (g key).Says ns a

-- A part that a key tells, where there is one. Else the fault is this, and no item is looked at. The part has
-- these tags, whatever the key is.
abbrev pub told : {K A : Type 0} → MessageFault → Option K → List ℕ → (K → Format A) → Format A
told fault known tags g = record {
  tags = tags;
  fits = λ a. option_map_or (λ key. (g key).fits a) known false;
  write = λ a. if_given (λ key. (g key).write a) known;
  extent = λ a. extent_if_any (λ key. (g key).extent a) known;
  read = λ ns. read_told fault g known ns;
  Says = λ ns a. SaysTold g known ns a;
}

-- A part that a key tells, where the key was read before. Without the key the fault is this. What is written
-- goes by the value's own key. A value fits, and is said, only where that is the key that was read.
abbrev pub told_by : {A : Type 0} → MessageFault → (A → ℕ) → Option ℕ → List ℕ → (ℕ → Format A) → Format A
told_by fault key known tags g = record {
  tags = tags;
  fits = λ a. option_map_or (λ k. k == key a) known false && (g (key a)).fits a;
  write = λ a. (g (key a)).write a;
  extent = λ a. (g (key a)).extent a;
  read = λ ns. read_told fault g known ns;
  Says = λ ns a. (known ≡ Some (key a)) × (g (key a)).Says ns a;
}

-- ---- the whole

-- A part beside which no other items stand. The first item of another tag is out of range, before all else.
abbrev pub closed : {A : Type 0} → Format A → Format A
closed f = record {
  tags = f.tags;
  fits = f.fits;
  write = f.write;
  extent = f.extent;
  read = λ ns. only f.tags ns >>= λ u. f.read ns;
  Says = λ ns a. HaveTags f.tags ns × f.Says ns a;
}

-- The first holds where the test does, and the second where the test does not.
abbrev pub Chosen : Bool → Type 0 → Type 0 → Type 0
Chosen true P Q = P
Chosen false P Q = Q

-- one of two parts: the first where the test holds, and else the second
abbrev pub choose : {A : Type 0} → Bool → Format A → Format A → Format A
choose b f g = record {
  tags = f.tags ++ g.tags;
  fits = λ a. if b then f.fits a else g.fits a;
  write = λ a. if b then f.write a else g.write a;
  extent = λ a. if b then f.extent a else g.extent a;
  read = λ ns. if b then f.read ns else g.read ns;
  Says = λ ns a. Chosen b (f.Says ns a) (g.Says ns a);
}
