-- Lines of bytes that a reader gave in parts.
use Rattle.std.proofs.Common.{◌≡◌, ◌≢◌, ℕ, zero, suc, ◌+◌, ◌-◌, ◌<◌, Bool, true, false, not, eqb, ltb, cond, List, [], ◌∷◌, ◌++◌, Option, Some, None, IfSome, length, take, refl, sym, ap, subst, ◌∙◌, arith, append_assoc, append-nil, eq-eqb, ne_eqb, eqb-true, true≢false, le_refl, length-take, length-take-le, take_all, drop, length-drop}
use Rattle.std.specs.List.{position, position_or_len}
use Rattle.std.proofs.lemmas.List.{take_more, get_or-take, take-append-drop}
use Rattle.std.proofs.lemmas.List.Elements.{All-nil, All-append, All-head, All-tail}
use Rattle.std.proofs.lemmas.List.Quantifiers.{position-Some}
use Rattle.std.proofs.lemmas.List.Sums.{prefix_len_passes, position_or_len_is}
use Rattle.std.proofs.lemmas.Bool.Decides.{nat_tests}
use Rattle.std.specs.Io.KnownBytes.{Consumes, IsAtEnd}
use Rattle.std.proofs.KnownBytes.{Consumes-nil, Consumes-trans}
use Rattle.memchr.specs.Find.{IsFirstByte, is_byte}
use Rattle.kmip_message_commands.specs.Private.{most_kept, IsWithinLine, kept_with, TakesPart, TakesFirst}
use Rattle.kmip_message_commands.specs.Lines.{lines_of, onto_first}

-- what is not true is false
is_false : (b : Bool) → (b ≡ true → ⊥) → b ≡ false
is_false true never = absurd (never refl)
is_false false never = refl

-- the first line feed that a search finds is the first by place
pub feed_found : (bytes : List ℕ) (found : Option ℕ) → IsFirstByte (is_byte 10) bytes found → found ≡ position (λ b. eqb b 10) bytes
feed_found bytes None nowhere =
    let all : position_or_len (λ b. eqb b 10) bytes ≡ length bytes =
    position_or_len_is (λ b. eqb b 10) bytes (length bytes) 0 (le_refl _) (λ k lt. is_false _ (nowhere k (omega arith) lt)) (λ lt. absurd (omega arith)) in
    let beyond : ltb (position_or_len (λ b. eqb b 10) bytes) (length bytes) ≡ false = grind (arith, nat_tests) in
    sym (ap (λ t. cond t (Some (position_or_len (λ b. eqb b 10) bytes)) None) beyond)
feed_found bytes (Some place) first =
    let before = first.0 in
    let at : position_or_len (λ b. eqb b 10) bytes ≡ place =
    position_or_len_is (λ b. eqb b 10) bytes place 0 (omega (arith, before.high)) (λ k lt. is_false _ (before.before k (omega arith) lt)) (λ lt. first.1) in
    let within : ltb (position_or_len (λ b. eqb b 10) bytes) (length bytes) ≡ true = grind (arith, nat_tests, before.high) in
    sym (ap (λ t. cond t (Some (position_or_len (λ b. eqb b 10) bytes)) None) within ∙ ap Some at)

-- what stands before the first line feed has none, and the line feed follows it
pub to_feed : (bytes : List ℕ) (place : ℕ) → position (λ b. eqb b 10) bytes ≡ Some place
    → (place < length bytes) × IsWithinLine (take place bytes) × (take (place + 1) bytes ≡ take place bytes ++ 10 ∷ [])
to_feed bytes place found =
    let at = position-Some (λ b. eqb b 10) bytes place 0 found in (
      at.0,
      λ k d lt same.
          let short : length (take place bytes) ≡ place = length-take-le place bytes (omega (arith, at.0)) in
          let before : k < place = omega arith in
          let other = position-Some (λ b. eqb b 10) bytes place d found in
          true≢false (sym (eq-eqb _ 10 (sym (get_or-take place bytes k d before) ∙ same)) ∙ other.2 k before),
      take_more bytes place 0 at.0 ∙ ap (λ b. take place bytes ++ b ∷ []) (eqb-true _ 10 at.1),
    )

-- bytes in which no line feed is found have none
pub without_feed : (bytes : List ℕ) → position (λ b. eqb b 10) bytes ≡ None → IsWithinLine bytes
without_feed bytes none k d lt same =
    let beyond : ltb (position_or_len (λ b. eqb b 10) bytes) (length bytes) ≡ false = none_if_false _ _ none in
    let before : k < position_or_len (λ b. eqb b 10) bytes = grind (arith, nat_tests) in
    true≢false (sym (prefix_len_passes (λ b. not (eqb b 10)) bytes k d before) ∙ ap not (eq-eqb _ 10 same))
  where
    none_if_false : (b : Bool) (i : ℕ) → cond b (Some i) None ≡ None → b ≡ false
    none_if_false true i e = cc
    none_if_false false i e = refl

-- a line, its line feed and what follows
pub lines_of-line : (line after : List ℕ) → IsWithinLine line → lines_of (line ++ 10 ∷ after) ≡ line ∷ lines_of after
lines_of-line [] after within = refl
lines_of-line (b ∷ bs) after within =
    ap (λ t. cond t ([] ∷ lines_of (bs ++ 10 ∷ after)) (onto_first b (lines_of (bs ++ 10 ∷ after)))) (ne_eqb b 10 (All-head (λ x. x ≢ 10) b bs within))
    ∙ ap (onto_first b) (lines_of-line bs after (All-tail (λ x. x ≢ 10) b bs within))

-- a last line without its line feed
pub lines_of-last : (line : List ℕ) → IsWithinLine line → 0 < length line → lines_of line ≡ line ∷ []
lines_of-last [] within some = absurd (omega arith)
lines_of-last (b ∷ []) within some = ap (λ t. cond t ([] ∷ []) (onto_first b [])) (ne_eqb b 10 (All-head (λ x. x ≢ 10) b [] within))
lines_of-last (b ∷ c ∷ bs) within some =
    let rest = c ∷ bs in
    ap (λ t. cond t ([] ∷ lines_of rest) (onto_first b (lines_of rest))) (ne_eqb b 10 (All-head (λ x. x ≢ 10) b rest within))
    ∙ ap (onto_first b) (lines_of-last (c ∷ bs) (All-tail (λ x. x ≢ 10) b rest within) (omega arith))

-- the first line of some bytes and what follows it, by the place of its line feed
pub first_of_fed : (bytes : List ℕ) (place : ℕ) → position (λ b. eqb b 10) bytes ≡ Some place
    → lines_of bytes ≡ take place bytes ∷ lines_of (take (length bytes - (place + 1)) (drop (place + 1) bytes))
first_of_fed bytes place found =
    let feed = to_feed bytes place found in
    let rest = drop (place + 1) bytes in
    let all : take (length bytes - (place + 1)) rest ≡ rest = take_all (length bytes - (place + 1)) rest (omega (arith, length-drop (place + 1) bytes)) in
    let whole : bytes ≡ take place bytes ++ 10 ∷ rest =
    sym (take-append-drop (place + 1) bytes) ∙ ap (λ l. l ++ rest) feed.2 ∙ append_assoc (take place bytes) (10 ∷ []) rest in
    ap lines_of whole ∙ lines_of-line (take place bytes) rest feed.1 ∙ ap (λ l. take place bytes ∷ lines_of l) (sym all)

pub first_of_last : (bytes : List ℕ) → position (λ b. eqb b 10) bytes ≡ None → 0 < length bytes
    → lines_of bytes ≡ bytes ∷ lines_of (take (length bytes - length bytes) (drop (length bytes) bytes))
first_of_last bytes none some =
    let few : length (take (length bytes - length bytes) (drop (length bytes) bytes)) ≡ 0 =
    omega (arith, length-take (length bytes - length bytes) (drop (length bytes) bytes)) in
    lines_of-last bytes (without_feed bytes none) some ∙ ap (λ l. bytes ∷ lines_of l) (sym (no_bytes (take (length bytes - length bytes) (drop (length bytes) bytes)) few))
  where
    no_bytes : (xs : List ℕ) → length xs ≡ 0 → xs ≡ []
    no_bytes [] few = refl
    no_bytes (x ∷ xs) few = absurd (omega arith)

-- what is kept of bytes that come in two parts
pub take_joined : (n : ℕ) (xs ys : List ℕ) → take n xs ++ take (n - length (take n xs)) ys ≡ take n (xs ++ ys)
take_joined zero xs ys = refl
take_joined (suc n) [] ys =
    let all : suc n - 0 ≡ suc n = omega arith in
    ap (λ k. take k ys) all
take_joined (suc n) (x ∷ xs) ys =
    let left : suc n - suc (length (take n xs)) ≡ n - length (take n xs) = omega arith in
    ap (λ k. x ∷ (take n xs ++ take k ys)) left ∙ ap (λ l. x ∷ l) (take_joined n xs ys)

-- no front of nothing has a byte
take_nothing : (n : ℕ) → take {A = ℕ} n [] ≡ []
take_nothing zero = refl
take_nothing (suc n) = refl

-- nothing joins what is kept
pub kept_nothing : (kept : List ℕ) → kept ≡ kept_with kept []
kept_nothing kept = sym (ap (λ l. kept ++ l) (take_nothing (most_kept - length kept)) ∙ append-nil kept)

-- what is kept of a line as far as it came is its front
kept_joined : (kept kept' xs ys : List ℕ) → kept ≡ take most_kept xs → kept' ≡ kept_with kept ys → kept' ≡ take most_kept (xs ++ ys)
kept_joined kept kept' xs ys p q = q ∙ ap (λ l. kept_with l ys) p ∙ take_joined most_kept xs ys

-- a reader that shows no bytes is at its end
pub at_end : (known : Option (List ℕ)) (shown : List ℕ) → IfSome known (λ xs. length shown ≡ 0 → xs ≡ []) → length shown ≡ 0 → IsAtEnd known
at_end None shown end none = tt
at_end (Some xs) shown end none = end none

-- what was read of a line so far, from the reader's bytes `old`, and what of it is kept
pub record HasRead (old now : Option (List ℕ)) (kept : List ℕ) : Type 0 where
  pub part : List ℕ
  pub within : IsWithinLine part
  pub consumed : Consumes old now part
  pub is_kept : kept ≡ take most_kept part

pub HasRead-none : (old : Option (List ℕ)) (kept : List ℕ) → kept ≡ [] → HasRead old old kept
HasRead-none old kept none =
    record { part = []; within = All-nil (λ x. x ≢ 10); consumed = Consumes-nil old; is_kept = none ∙ sym (take_nothing most_kept) }

-- a part without its line's end
pub HasRead-more : (old now next : Option (List ℕ)) (kept kept' : List ℕ) → HasRead old now kept → TakesPart now next kept kept' [] → HasRead old next kept'
HasRead-more old now next kept kept' h t =
    record {
      part = h.part ++ t.part;
      within = All-append (λ x. x ≢ 10) h.part t.part h.within t.within;
      consumed = Consumes-trans old now next h.part t.part h.consumed (subst (Consumes now next) (append-nil t.part) t.consumed);
      is_kept = kept_joined kept kept' h.part t.part h.is_kept t.kept;
    }

-- a part that ends its line
pub HasRead-last : (old now next : Option (List ℕ)) (kept kept' : List ℕ) → HasRead old now kept → TakesPart now next kept kept' (10 ∷ [])
    → IfSome old (λ input. TakesFirst input kept' next)
HasRead-last None now next kept kept' h t = tt
HasRead-last (Some input) now None kept kept' h t =
    absurd (Consumes-trans (Some input) now None h.part (t.part ++ 10 ∷ []) h.consumed t.consumed)
HasRead-last (Some input) now (Some after) kept kept' h t =
    let line = h.part ++ t.part in
    let all : input ≡ (h.part ++ (t.part ++ 10 ∷ [])) ++ after = Consumes-trans (Some input) now (Some after) h.part (t.part ++ 10 ∷ []) h.consumed t.consumed in
    let grouped : (h.part ++ (t.part ++ 10 ∷ [])) ++ after ≡ line ++ 10 ∷ after = simp append_assoc in
    record {
      line = line;
      after = after;
      left = refl;
      is_kept = kept_joined kept kept' h.part t.part h.is_kept t.kept;
      lines = ap lines_of (all ∙ grouped) ∙ lines_of-line line after (All-append (λ x. x ≢ 10) h.part t.part h.within t.within);
    }

-- the end of the input after some bytes of a line
pub HasRead-end : (old now next : Option (List ℕ)) (kept kept' : List ℕ) → HasRead old now kept → Consumes now next [] → IsAtEnd now → kept' ≡ kept → 0 < length kept'
    → IfSome old (λ input. TakesFirst input kept' next)
HasRead-end None now next kept kept' h same end is some = tt
HasRead-end (Some input) None next kept kept' h same end is some = absurd h.consumed
HasRead-end (Some input) (Some rest) None kept kept' h same end is some = absurd same
HasRead-end (Some input) (Some rest) (Some after) kept kept' h same end is some =
    let front : kept' ≡ take most_kept h.part = is ∙ h.is_kept in
    let more : 0 < length h.part = omega (arith, ap length front, length-take most_kept h.part) in
    record {
      line = h.part;
      after = [];
      left = ap Some (sym same ∙ end);
      is_kept = front;
      lines = ap lines_of (h.consumed ∙ ap (λ l. h.part ++ l) end ∙ append-nil h.part) ∙ lines_of-last h.part h.within more;
    }

-- the end of the input after none
pub HasRead-nothing : (old now next : Option (List ℕ)) (kept kept' : List ℕ) → HasRead old now kept → Consumes now next [] → IsAtEnd now → kept' ≡ kept → length kept' ≡ 0
    → IfSome old (λ input. (input ≡ []) × (next ≡ Some []))
HasRead-nothing None now next kept kept' h same end is none = tt
HasRead-nothing (Some input) None next kept kept' h same end is none = absurd h.consumed
HasRead-nothing (Some input) (Some rest) None kept kept' h same end is none = absurd same
HasRead-nothing (Some input) (Some rest) (Some after) kept kept' h same end is none =
    let front : kept' ≡ take most_kept h.part = is ∙ h.is_kept in
    let few : length h.part ≡ 0 = omega (arith, ap length front, length-take most_kept h.part) in
    (h.consumed ∙ ap (λ l. h.part ++ l) end ∙ append-nil h.part ∙ empty h.part few, ap Some (sym same ∙ end))
  where
    empty : (xs : List ℕ) → length xs ≡ 0 → xs ≡ []
    empty [] few = refl
    empty (x ∷ xs) few = absurd (omega arith)
