-- What is read is spelled so.
use Rattle.std.proofs.Common.{◌≡◌, ℕ, zero, suc, ◌+◌, ◌≤◌, ◌<◌, Bool, true, eqb, List, [], ◌∷◌, length, take, drop, Ok, refl, sym, ap, subst, ◌∙◌, take-append-drop, arith}
use Rattle.std.proofs.lemmas.Bool.{eq-eqb}
use Rattle.std.proofs.lemmas.List.{length-drop}
use Rattle.kmip_ttlv.specs.declared.item_type.ItemType.{ItemType}
use Rattle.kmip_ttlv.specs.declared.item_type.ItemType.TheVariants as types
use Rattle.kmip_ttlv.specs.Node.{Node, node, Content, structure, nodes_of}
use Rattle.kmip_ttlv.specs.Types.{is_allowed}
use Rattle.kmip_ttlv.specs.Fitting.{IsBytes, depth, content_depth, depths}
use Rattle.kmip_ttlv.specs.Spelling.{padding, item_bytes, type_of, Spelled, SpelledValue, SpelledAll}
use Rattle.kmip_ttlv.specs.Sizes.{padded}
use Rattle.kmip_ttlv.specs.Heads.{head_at}
use Rattle.kmip_ttlv.specs.Binding.{◌>>=◌}
use Rattle.kmip_ttlv.specs.Reading.{Reader, all_at, value_at, item_at}
use Rattle.kmip_ttlv.proofs.Numbers.{IsBytes-drop, IsBytes-take}
use Rattle.kmip_ttlv.proofs.Leaves.{ok_is, bind_ok, leaf_takes}
use Rattle.kmip_ttlv.proofs.Heads.{HasHead, head_takes, value_in, pad_in, length-value, length-pad, tag_below, parts}

-- so many bytes at the front are those of the item, which has at most so many levels
pub record IsTaken (levels : ℕ) (bytes : List ℕ) (x : Node × ℕ) : Type 0 where
  pub some : 0 < x.1
  pub fits : x.1 ≤ length bytes
  pub spelled : Spelled x.0 (take x.1 bytes)
  pub deep : depth x.0 ≤ levels
  pub short : levels ≡ 16 → x.1 ≤ 8192

-- what a reader reads is taken
abbrev pub Takes : ℕ → Reader → Type 0
Takes levels reader = (at : ℕ) (bytes : List ℕ) (x : Node × ℕ) → IsBytes bytes → reader at bytes ≡ Ok x → IsTaken levels bytes x

-- the bytes are those of the items
record AreTaken (levels : ℕ) (bytes : List ℕ) (ns : List Node) : Type 0 where
  pub spelled : SpelledAll (nodes_of ns) bytes
  pub deep : depths (nodes_of ns) ≤ levels

-- nothing is left, and one item more
all_none : (reader : Reader) (levels most at : ℕ) (ns : List Node) → all_at reader most at [] ≡ Ok ns → AreTaken levels [] ns
unfolding all_at
all_none reader levels zero at ns e = subst (λ (ms : List Node). AreTaken levels [] ms) (ok_is [] ns e) (record { spelled = refl; deep = omega arith })
all_none reader levels (suc most) at ns e = subst (λ (ms : List Node). AreTaken levels [] ms) (ok_is [] ns e) (record { spelled = refl; deep = omega arith })

all_takes : (levels : ℕ) (reader : Reader) → Takes levels reader → (most at : ℕ) (bytes : List ℕ) (ns : List Node) → IsBytes bytes → length bytes ≤ most
    → all_at reader most at bytes ≡ Ok ns → AreTaken levels bytes ns
unfolding all_at
all_takes levels reader takes most at [] ns fits long e = all_none reader levels most at ns e
all_takes levels reader takes zero at (b ∷ bs) ns fits long e = absurd (omega arith)
all_takes levels reader takes (suc most) at (b ∷ bs) ns fits long e =
    let bytes : List ℕ = b ∷ bs in
    let one = bind_ok (reader at bytes) (λ first. all_at reader most (at + first.1) (drop first.1 bytes) >>= λ others. Ok (first.0 ∷ others)) ns e in
    let two = bind_ok (all_at reader most (at + one.0.1) (drop one.0.1 bytes)) (λ others. Ok (one.0.0 ∷ others)) ns one.2 in
    let first = takes at bytes one.0 fits one.1 in
    let others = all_takes levels reader takes most (at + one.0.1) (drop one.0.1 bytes) two.0 (IsBytes-drop one.0.1 bytes fits)
    (omega (arith, length-drop one.0.1 bytes, first.some)) two.1 in
    subst (λ (ms : List Node). AreTaken levels bytes ms) (ok_is (one.0.0 ∷ two.0) ns two.2)
    (record {
      spelled = (take one.0.1 bytes, drop one.0.1 bytes, first.spelled, others.spelled, sym (take-append-drop one.0.1 bytes));
      deep = omega (arith, first.deep, others.deep);
    })

-- the content of a value of this type
record IsTakenValue (levels : ℕ) (type : ItemType) (value : List ℕ) (content : Content) : Type 0 where
  pub type_is : type_of content ≡ type
  pub spelled : SpelledValue content value
  pub deep : content_depth content ≤ levels

structure_takes : (levels : ℕ) (reader : Reader) → Takes levels reader → (at : ℕ) (value : List ℕ) (content : Content) → IsBytes value
    → value_at reader at types.Structure value ≡ Ok content → IsTakenValue levels types.Structure value content
unfolding value_at
structure_takes levels reader takes at value content fits e =
    let one = bind_ok (all_at reader (length value) (at + 8) value) (λ ns. Ok (structure (nodes_of ns))) content e in
    let all = all_takes levels reader takes (length value) (at + 8) value one.0 fits (omega arith) one.1 in
    subst (λ (c : Content). IsTakenValue levels types.Structure value c) (ok_is (structure (nodes_of one.0)) content one.2)
    (record { type_is = refl; spelled = all.spelled; deep = all.deep })

value_takes_leaf : (levels : ℕ) (reader : Reader) (at : ℕ) (type : ItemType) (value : List ℕ) (content : Content) → IsBytes value
    → is_allowed type (length value) ≡ true → (type ≡ types.Structure → ⊥) → value_at reader at type value ≡ Ok content → IsTakenValue levels type value content
value_takes_leaf levels reader at type value content fits allowed leaf e =
    let is = leaf_takes reader at type value content fits allowed leaf e in
    record { type_is = is.type_is; spelled = is.spelled; deep = omega (arith, is.flat) }

value_takes : (levels : ℕ) (reader : Reader) → Takes levels reader → (at : ℕ) (type : ItemType) (value : List ℕ) (content : Content) → IsBytes value
    → is_allowed type (length value) ≡ true → value_at reader at type value ≡ Ok content → IsTakenValue levels type value content
value_takes levels reader takes at types.Structure value content fits allowed e = structure_takes levels reader takes at value content fits e
value_takes levels reader takes at type value content fits allowed e = value_takes_leaf levels reader at type value content fits allowed (λ same. absurd cc) e

-- an item of its head and its value
made : (levels : ℕ) (outermost : Bool) (bytes : List ℕ) (tag : ℕ) (type : ItemType) (len : ℕ) (content : Content) → IsBytes bytes
    → (suc levels ≡ 16 → outermost ≡ true) → HasHead outermost bytes tag type len → IsTakenValue levels type (value_in len bytes) content
    → IsTaken (suc levels) bytes (node tag content, 8 + padded len)
made levels outermost bytes tag type len content fits first h value = record {
  some = omega arith;
  fits = h.fits;
  spelled = (
    tag_below outermost bytes tag type len fits h,
    value_in len bytes,
    pad_in len bytes,
    value.spelled,
    length-pad outermost bytes tag type len h ∙ ap padding (sym (length-value outermost bytes tag type len h)),
    parts outermost bytes tag type len fits h ∙ ap (λ (t : ItemType). item_bytes tag t (value_in len bytes) (pad_in len bytes)) (sym value.type_is),
  );
  deep = omega (arith, value.deep);
  short = λ e. h.short (first e);
}

pub item_takes : (levels : ℕ) → Takes levels (item_at levels)
unfolding item_at
item_takes zero at bytes x fits e = absurd cc
item_takes (suc levels) at bytes x fits e =
    let outermost = eqb (suc levels) 16 in
    let one = bind_ok (head_at outermost at bytes) (λ found. value_at (item_at levels) at found.1 (take found.2 (drop 8 bytes)) >>= λ content. Ok (node found.0 content, 8 + padded found.2)) x e in
    let h = one.0 in
    let two = bind_ok (value_at (item_at levels) at h.1 (take h.2 (drop 8 bytes))) (λ content. Ok (node h.0 content, 8 + padded h.2)) x one.2 in
    let has = head_takes outermost at bytes h one.1 in
    let is_allowed_here : is_allowed h.1 (length (value_in h.2 bytes)) ≡ true = ap (is_allowed h.1) (length-value outermost bytes h.0 h.1 h.2 has) ∙ has.allowed in
    let value = value_takes levels (item_at levels) (item_takes levels) at h.1 (value_in h.2 bytes) two.0 (IsBytes-take h.2 (drop 8 bytes) (IsBytes-drop 8 bytes fits)) is_allowed_here two.1 in
    subst (λ (y : Node × ℕ). IsTaken (suc levels) bytes y) (ok_is (node h.0 two.0, 8 + padded h.2) x two.2)
    (made levels outermost bytes h.0 h.1 h.2 two.0 fits (λ same. eq-eqb _ _ same) has value)
