-- The first fault: what reading answers is what is wrong with the bytes, and the other way round.
use Rattle.std.proofs.Common.{◌≡◌, ℕ, zero, suc, ◌+◌, ◌-◌, ◌≤◌, ◌<◌, ◌^◌, Bool, true, false, cond, eqb, List, [], ◌∷◌, ◌++◌, length, take, drop, Result, Ok, Err, ◌⊎◌, inl, inr, refl, sym, ap, subst, ◌∙◌, append_assoc, take-append-drop, arith}
use Rattle.std.specs.Prelude.{IsUtf8}
use Rattle.std.specs.Str.{is_utf8}
use Rattle.std.proofs.lemmas.Str.{is_utf8-from_IsUtf8}
use Rattle.std.proofs.lemmas.Bool.{false≢true}
use Rattle.std.proofs.lemmas.List.{length-append, length-drop, length-take, drop_at}
use Rattle.byteorder.specs.Endian.{big_number}
use Rattle.kmip_ttlv.specs.declared.ttlv_fault.TtlvFault.{TtlvFault}
use Rattle.kmip_ttlv.specs.declared.ttlv_fault.TtlvFault.TheVariants as faults
use Rattle.kmip_ttlv.specs.declared.item_type.ItemType.{ItemType}
use Rattle.kmip_ttlv.specs.declared.item_type.ItemType.TheVariants as types
use Rattle.kmip_ttlv.specs.Node.{Node, node, structure, boolean, text_string, Nodes, no_more, more, nodes_of}
use Rattle.kmip_ttlv.specs.Fitting.{IsBytes, depths}
use Rattle.kmip_ttlv.specs.Spelling.{SpelledAll}
use Rattle.kmip_ttlv.specs.Sizes.{padded}
use Rattle.kmip_ttlv.specs.Heads.{head_at}
use Rattle.kmip_ttlv.specs.Binding.{◌>>=◌}
use Rattle.kmip_ttlv.specs.Reading.{Reader, boolean_value_at, text_value_at, all_at, value_at, item_at}
use Rattle.kmip_ttlv.specs.Breaks.{LeafBreaks, Breaks}
use Rattle.kmip_ttlv.proofs.SoFar.{one_at}
use Rattle.kmip_ttlv.proofs.Steps.{value_next, text_wrong}
use Rattle.kmip_ttlv.proofs.Numbers.{IsBytes-drop, IsBytes-take, below_4}
use Rattle.kmip_ttlv.proofs.Heads.{head_takes}
use Rattle.kmip_ttlv.proofs.Takes.{IsTaken, Takes, item_takes}
use Rattle.kmip_ttlv.proofs.Again.{item_again, spelled_some}

abbrev failed : {A : Type 0} → TtlvFault → Result A TtlvFault
failed e = Err e

fault_is : {A : Type 0} (d e : TtlvFault) → failed {A = A} d ≡ Err e → d ≡ e
fault_is d e is = cc

-- a first step at fault, or the second
bind_err : {A B : Type 0} (r : Result A TtlvFault) (f : A → Result B TtlvFault) (e : TtlvFault) → (r >>= f) ≡ Err e
    → (r ≡ Err e) ⊎ ((x : A) × (r ≡ Ok x) × (f x ≡ Err e))
bind_err (Ok x) f e is = inr (x, refl, is)
bind_err {B = B} (Err d) f e is = inl (ap (λ (y : TtlvFault). Err y) (fault_is {A = B} d e is))

-- a first step at fault, where the second is never
only_first : {A B : Type 0} (r : Result A TtlvFault) (f : A → B) (e : TtlvFault) → (r >>= λ x. Ok (f x)) ≡ Err e → r ≡ Err e
only_first (Ok x) f e is = absurd cc
only_first {B = B} (Err d) f e is = ap (λ (y : TtlvFault). Err y) (fault_is {A = B} d e is)

-- ---- what reading answers

-- after some whole items the next one is at fault
record IsBroken (levels : ℕ) (reader : Reader) (at : ℕ) (bytes : List ℕ) (e : TtlvFault) : Type 0 where
  pub children : Nodes
  pub front : List ℕ
  pub rest : List ℕ
  pub spelled : SpelledAll children front
  pub deep : depths children ≤ levels
  pub parts : bytes ≡ front ++ rest
  pub some : 0 < length rest
  pub bytes_fit : IsBytes rest
  pub fault : reader (at + length front) rest ≡ Err e

broken_first : (levels : ℕ) (reader : Reader) (at : ℕ) (bytes : List ℕ) (e : TtlvFault) → IsBytes bytes → 0 < length bytes → reader at bytes ≡ Err e
    → IsBroken levels reader at bytes e
broken_first levels reader at bytes e fits full wrong =
    let here : at + length {A = ℕ} [] ≡ at = omega arith in
    record {
      children = no_more;
      front = [];
      rest = bytes;
      spelled = refl;
      deep = omega arith;
      parts = refl;
      some = full;
      bytes_fit = fits;
      fault = rw here wrong;
    }

broken_later : (levels : ℕ) (reader : Reader) (at : ℕ) (bytes : List ℕ) (first : Node × ℕ) (e : TtlvFault) → IsTaken levels bytes first
    → IsBroken levels reader (at + first.1) (drop first.1 bytes) e → IsBroken levels reader at bytes e
broken_later levels reader at bytes first e taken later =
    let one = take first.1 bytes in
    let len : length one ≡ first.1 = omega (arith, length-take first.1 bytes, taken.fits) in
    let place : at + length (one ++ later.front) ≡ at + first.1 + length later.front = omega (arith, length-append one later.front, len) in
    record {
      children = more first.0 later.children;
      front = one ++ later.front;
      rest = later.rest;
      spelled = (one, later.front, taken.spelled, later.spelled, refl);
      deep = omega (arith, taken.deep, later.deep);
      parts = sym (take-append-drop first.1 bytes) ∙ ap (λ (x : List ℕ). one ++ x) later.parts ∙ sym (append_assoc one later.front later.rest);
      some = later.some;
      bytes_fit = later.bytes_fit;
      fault = rw place later.fault;
    }

all_break : (levels : ℕ) (reader : Reader) → Takes levels reader → (most at : ℕ) (bytes : List ℕ) (e : TtlvFault) → IsBytes bytes → length bytes ≤ most
    → all_at reader most at bytes ≡ Err e → IsBroken levels reader at bytes e
unfolding all_at
all_break levels reader takes zero at [] e fits long is = absurd cc
all_break levels reader takes (suc most) at [] e fits long is = absurd cc
all_break levels reader takes zero at (b ∷ bs) e fits long is = absurd (omega arith)
all_break levels reader takes (suc most) at (b ∷ bs) e fits long is =
    let bytes : List ℕ = b ∷ bs in
    elim (bind_err (reader at bytes) (λ first. all_at reader most (at + first.1) (drop first.1 bytes) >>= λ others. Ok (first.0 ∷ others)) e is) [
      | inl here ↦ broken_first levels reader at bytes e fits (omega arith) here
      | inr next ↦
          let first = next.0 in
          let taken = takes at bytes first fits next.1 in
          let rest = drop first.1 bytes in
          broken_later levels reader at bytes first e taken
          (all_break levels reader takes most (at + first.1) rest e (IsBytes-drop first.1 bytes fits) (omega (arith, length-drop first.1 bytes, taken.some))
          (only_first (all_at reader most (at + first.1) rest) (λ others. first.0 ∷ others) e next.2))
    ]

boolean_breaks : (at n : ℕ) (e : TtlvFault) → boolean_value_at at n ≡ Err e → (2 ≤ n) × (e ≡ faults.BadBoolean at)
unfolding boolean_value_at
boolean_breaks at zero e is = absurd cc
boolean_breaks at (suc zero) e is = absurd cc
boolean_breaks at (suc (suc n)) e is = (omega arith, sym (fault_is {A = Bool} (faults.BadBoolean at) e is))

text_checked : (test : Bool) (text : List ℕ) (fault e : TtlvFault) → is_utf8 text ≡ test → cond test (Ok text) (failed fault) ≡ Err e → (IsUtf8 text → ⊥) × (e ≡ fault)
text_checked true text fault e is wrong = absurd cc
text_checked false text fault e is wrong =
    (λ utf8. false≢true (sym is ∙ is_utf8-from_IsUtf8 text utf8), sym (fault_is {A = List ℕ} fault e wrong))

text_breaks : (at : ℕ) (text : List ℕ) (e : TtlvFault) → text_value_at at text ≡ Err e → (IsUtf8 text → ⊥) × (e ≡ faults.BadText at)
unfolding text_value_at
text_breaks at text e is = text_checked (is_utf8 text) text (faults.BadText at) e refl is

-- what is wrong with a value
abbrev ValueBreaks : ℕ → Reader → ℕ → ItemType → List ℕ → TtlvFault → Type 0
ValueBreaks levels reader at type value e =
    LeafBreaks type at value e ⊎ ((type ≡ types.Structure) × IsBroken levels reader (at + 8) value e)

value_breaks : (levels : ℕ) (reader : Reader) → Takes levels reader → (at : ℕ) (type : ItemType) (value : List ℕ) (e : TtlvFault) → IsBytes value
    → value_at reader at type value ≡ Err e → ValueBreaks levels reader at type value e
unfolding value_at
value_breaks levels reader takes at types.Structure value e fits is =
    let all = all_at reader (length value) (at + 8) value in
    inr (refl, all_break levels reader takes (length value) (at + 8) value e fits (omega arith) (only_first all (λ ns. structure (nodes_of ns)) e is))
value_breaks levels reader takes at types.Boolean value e fits is =
    inl (boolean_breaks at (big_number 8 value) e (only_first (boolean_value_at at (big_number 8 value)) (λ t. boolean t) e is))
value_breaks levels reader takes at types.TextString value e fits is =
    inl (text_breaks at value e (only_first (text_value_at at value) (λ t. text_string t) e is))
value_breaks levels reader takes at type value e fits is = absurd cc

pub item_breaks : (levels at : ℕ) (bytes : List ℕ) (e : TtlvFault) → IsBytes bytes → item_at levels at bytes ≡ Err e → Breaks levels at bytes e
unfolding item_at Breaks
item_breaks zero at bytes e fits is = sym (fault_is {A = Node × ℕ} (faults.TooDeep at) e is)
item_breaks (suc left) at bytes e fits is =
    let outermost = eqb (suc left) 16 in
    elim (bind_err (head_at outermost at bytes) (λ found. value_at (item_at left) at found.1 (take found.2 (drop 8 bytes)) >>= λ content. Ok (node found.0 content, 8 + padded found.2)) e is) [
      | inl here ↦ inl here
      | inr next ↦
          let h = next.0 in
          let value = take h.2 (drop 8 bytes) in
          let wrong = value_breaks left (item_at left) (item_takes left) at h.1 value e (IsBytes-take h.2 (drop 8 bytes) (IsBytes-drop 8 bytes fits))
          (only_first (value_at (item_at left) at h.1 value) (λ content. (node h.0 content, 8 + padded h.2)) e next.2) in
          inr (
            h.0,
            h.1,
            h.2,
            value,
            next.1,
            refl,
            elim wrong [
              | inl leaf ↦ inl leaf
              | inr s ↦
                  let b = s.1 in
                  inr (s.0, b.children, b.front, b.rest, b.spelled, b.deep, b.parts, b.some, item_breaks left (at + 8 + length b.front) b.rest e b.bytes_fit b.fault)
            ],
          )
    ]

-- ---- and the other way round

-- the first item of a rest that is not empty, at fault
first_fails : (left most at : ℕ) (bytes : List ℕ) (e : TtlvFault) → 0 < length bytes → 0 < most → item_at left at bytes ≡ Err e → all_at (item_at left) most at bytes ≡ Err e
first_fails left most at bytes e full some wrong = one_at (item_at left) most at bytes full some ∙ rw wrong refl

later_fails : (left most at : ℕ) (n : Node) (bytes first others : List ℕ) (e : TtlvFault) → bytes ≡ first ++ others → 0 < length bytes → 0 < most
    → item_at left at (first ++ others) ≡ Ok (n, length first) → all_at (item_at left) (most - 1) (at + length first) others ≡ Err e
    → all_at (item_at left) most at bytes ≡ Err e
later_fails left most at n bytes first others e is full some one all =
    let here : item_at left at bytes ≡ Ok (n, length first) = ap (item_at left at) is ∙ one in
    let after : drop (length first) bytes ≡ others = ap (drop (length first)) is ∙ drop_at first others (length first) refl in
    one_at (item_at left) most at bytes full some ∙ rw (here, after, all) refl

all_pass : (ns : Nodes) (front rest : List ℕ) (left most at : ℕ) (e : TtlvFault) → SpelledAll ns front → depths ns ≤ left → left < 16
    → length (front ++ rest) < 2 ^ 32 → length (front ++ rest) ≤ most → 0 < length rest → item_at left (at + length front) rest ≡ Err e
    → all_at (item_at left) most at (front ++ rest) ≡ Err e
all_pass no_more front rest left most at e spelled deep levels wide enough some wrong =
    let same : front ++ rest ≡ rest = ap (λ (x : List ℕ). x ++ rest) spelled in
    let none : at + length front ≡ at = omega (arith, ap length spelled) in
    let here : item_at left at rest ≡ Err e = rw none at wrong in
    ap (all_at (item_at left) most at) same ∙ first_fails left most at rest e some (omega (arith, ap length same)) here
all_pass (more n ns) front rest left most at e spelled deep levels wide enough some wrong =
    let first = spelled.0 in
    let others = spelled.1 in
    let is : front ++ rest ≡ first ++ (others ++ rest) = ap (λ (x : List ℕ). x ++ rest) spelled.4 ∙ append_assoc first others rest in
    let size : length (front ++ rest) ≡ length first + length (others ++ rest) = ap length is ∙ length-append first (others ++ rest) in
    let full = spelled_some n first spelled.2 in
    let place : at + length front ≡ at + length first + length others = omega (arith, ap length spelled.4, length-append first others) in
    let there : item_at left (at + length first + length others) rest ≡ Err e = ap (λ (k : ℕ). item_at left k rest) (sym place) ∙ wrong in
    later_fails left most at n (front ++ rest) first (others ++ rest) e is (omega (arith, size)) (omega (arith, size))
    (item_again n first (others ++ rest) left at spelled.2 (omega (arith, deep)) (omega arith) (omega (arith, size)) (λ same. omega (arith, same)))
    (all_pass ns others rest left (most - 1) (at + length first) e spelled.3 (omega (arith, deep)) levels (omega (arith, size)) (omega (arith, size)) some there)

structure_fails : (reader : Reader) (at : ℕ) (value : List ℕ) (e : TtlvFault) → all_at reader (length value) (at + 8) value ≡ Err e → value_at reader at types.Structure value ≡ Err e
unfolding value_at
structure_fails reader at value e wrong = rw wrong refl

two_wrong : (at n : ℕ) → 2 ≤ n → boolean_value_at at n ≡ Err (faults.BadBoolean at)
unfolding boolean_value_at
two_wrong at zero h = absurd (omega arith)
two_wrong at (suc zero) h = absurd (omega arith)
two_wrong at (suc (suc n)) h = refl

boolean_fails : (reader : Reader) (at : ℕ) (value : List ℕ) → 2 ≤ big_number 8 value → value_at reader at types.Boolean value ≡ Err (faults.BadBoolean at)
unfolding value_at
boolean_fails reader at value h = rw (two_wrong at (big_number 8 value) h) refl

text_fails : (reader : Reader) (at : ℕ) (value : List ℕ) → (IsUtf8 value → ⊥) → value_at reader at types.TextString value ≡ Err (faults.BadText at)
unfolding value_at
text_fails reader at value h = rw (text_wrong at value h) refl

leaf_fails : (reader : Reader) (at : ℕ) (type : ItemType) (value : List ℕ) (e : TtlvFault) → LeafBreaks type at value e → value_at reader at type value ≡ Err e
leaf_fails reader at types.Boolean value e leaf = rw leaf.1 (boolean_fails reader at value leaf.0)
leaf_fails reader at types.TextString value e leaf = rw leaf.1 (text_fails reader at value leaf.0)
leaf_fails reader at type value e leaf = absurd leaf

item_fails : (left at : ℕ) (bytes : List ℕ) (tag : ℕ) (type : ItemType) (len : ℕ) (value : List ℕ) (e : TtlvFault) → head_at (eqb (suc left) 16) at bytes ≡ Ok (tag, type, len)
    → value ≡ take len (drop 8 bytes) → value_at (item_at left) at type value ≡ Err e → item_at (suc left) at bytes ≡ Err e
item_fails left at bytes tag type len value e head is wrong =
    let less : suc left - 1 ≡ left = omega arith in
    let here : value_at (item_at (suc left - 1)) at type (take len (drop 8 bytes)) ≡ Err e = rw (less, ← is) wrong in
    value_next (suc left) at bytes tag type len (omega arith) head ∙ rw here refl

structure_broken : (left at : ℕ) (value : List ℕ) (children : Nodes) (front rest : List ℕ) (e : TtlvFault) → value ≡ front ++ rest → SpelledAll children front
    → depths children ≤ left → left < 16 → length value < 2 ^ 32 → 0 < length rest → item_at left (at + 8 + length front) rest ≡ Err e
    → value_at (item_at left) at types.Structure value ≡ Err e
structure_broken left at value children front rest e parts spelled deep levels wide some wrong =
    let size = ap length parts in
    let all : all_at (item_at left) (length value) (at + 8) (front ++ rest) ≡ Err e =
    all_pass children front rest left (length value) (at + 8) e spelled deep levels (omega (arith, size)) (omega (arith, size)) some wrong in
    structure_fails (item_at left) at value e (ap (all_at (item_at left) (length value) (at + 8)) parts ∙ all)

IsBytes-rest : (bytes front rest : List ℕ) → bytes ≡ front ++ rest → IsBytes bytes → IsBytes rest
IsBytes-rest bytes front rest is fits =
    subst IsBytes (ap (drop (length front)) is ∙ drop_at front rest (length front) refl) (IsBytes-drop (length front) bytes fits)

-- the value of a head that was read is bytes, and not too long
value_fits : (outermost : Bool) (at : ℕ) (bytes : List ℕ) (tag : ℕ) (type : ItemType) (len : ℕ) (value : List ℕ) → IsBytes bytes
    → head_at outermost at bytes ≡ Ok (tag, type, len) → value ≡ take len (drop 8 bytes) → IsBytes value × (length value < 2 ^ 32)
value_fits outermost at bytes tag type len value fits head is =
    let h = head_takes outermost at bytes (tag, type, len) head in (
      subst IsBytes (sym is) (IsBytes-take len (drop 8 bytes) (IsBytes-drop 8 bytes fits)),
      omega (arith, ap length is, length-take len (drop 8 bytes), h.len_is, below_4 (drop 4 bytes) (IsBytes-drop 4 bytes fits)),
    )

pub breaks_item : (levels at : ℕ) (bytes : List ℕ) (e : TtlvFault) → levels ≤ 16 → IsBytes bytes → Breaks levels at bytes e → item_at levels at bytes ≡ Err e
unfolding item_at Breaks
breaks_item zero at bytes e few fits wrong = ap (λ (y : TtlvFault). Err y) (sym wrong)
breaks_item (suc left) at bytes e few fits (inl head) = rw head refl
breaks_item (suc left) at bytes e few fits (inr (tag, type, len, value, head, is, inl leaf)) =
    item_fails left at bytes tag type len value e head is (leaf_fails (item_at left) at type value e leaf)
breaks_item (suc left) at bytes e few fits (inr (tag, type, len, value, head, is, inr (type_is, children, front, rest, spelled, deep, parts, some, wrong))) =
    let value_is = value_fits (eqb (suc left) 16) at bytes tag type len value fits head is in
    let below = breaks_item left (at + 8 + length front) rest e (omega arith) (IsBytes-rest value front rest parts value_is.0) wrong in
    let broken : value_at (item_at left) at types.Structure value ≡ Err e =
    structure_broken left at value children front rest e parts spelled deep (omega arith) value_is.1 some below in
    item_fails left at bytes tag type len value e head is (rw type_is broken)
