-- A text is its lines, and a line its words.
use Rattle.std.proofs.Common.{◌≡◌, ◌<◌, ◌==◌, ◌⊎◌, ℕ, nat_le, Bool, true, not, List, [], ◌∷◌, ◌++◌, refl, sym, ap, ◌∙◌, inl, inr, arith, lit<}
use Rattle.std.specs.List.{list_all, onto_first, join_with_byte}
use Rattle.std.proofs.lemmas.Bool.{and_parts, and_from, leb-true, ne_eqb, eq-eqb, not-true, not_from_false}
use Rattle.std.proofs.lemmas.List.Splits.{slice_split-cons_yes, slice_split-cons_no, join_with_byte-slice_split}
use Rattle.kmip_objects.specs.Ranges.{is_name_byte}
use Rattle.kmip_progress.specs.Reading.{parts}
use Rattle.kmip_progress.specs.Texts.{line_of, text_of_lines}
use Rattle.kmip_progress.proofs.ByteLemmas.{is_word, all_from, all_weaker}

-- no byte is this one
abbrev pub is_free : ℕ → List ℕ → Bool
is_free mark xs = list_all (λ b. not (b == mark)) xs

pub word_free : (mark : ℕ) (word : List ℕ) → mark < 0x21 → is_word word ≡ true → is_free mark word ≡ true
word_free mark word small h =
    all_weaker is_name_byte (λ b. not (b == mark)) (λ b printable.
    let above = leb-true 0x21 b (and_parts (nat_le 0x21 b) (nat_le b 0x7E) printable).0 in
    not_from_false (b == mark) (ne_eqb b mark (λ e. omega (arith, above, e, small)))) word h

split_here : (mark : ℕ) (xs ys : List ℕ) → is_free mark xs ≡ true → parts mark (xs ++ mark ∷ ys) ≡ xs ∷ parts mark ys
split_here mark [] ys h = slice_split-cons_yes (λ b. b == mark) mark ys (eq-eqb mark mark refl)
split_here mark (x ∷ xs) ys h =
    let p = and_parts (not (x == mark)) (is_free mark xs) h in
    slice_split-cons_no (λ b. b == mark) x (xs ++ mark ∷ ys) (not-true (x == mark) p.0) ∙ ap (onto_first x) (split_here mark xs ys p.1)

pub split_none : (mark : ℕ) (xs : List ℕ) → is_free mark xs ≡ true → parts mark xs ≡ xs ∷ []
split_none mark [] h = refl
split_none mark (x ∷ xs) h =
    let p = and_parts (not (x == mark)) (is_free mark xs) h in
    slice_split-cons_no (λ b. b == mark) x xs (not-true (x == mark) p.0) ∙ ap (onto_first x) (split_none mark xs p.1)

-- ---- words

pub words_back : (word : List ℕ) (words : List (List ℕ)) → list_all is_word (word ∷ words) ≡ true → parts 0x20 (line_of (word ∷ words)) ≡ word ∷ words
words_back word [] h = split_none 0x20 word (word_free 0x20 word (lit< tt) (and_parts (is_word word) true h).0)
words_back word (next ∷ words) h =
    let p = and_parts (is_word word) (list_all is_word (next ∷ words)) h in
    split_here 0x20 word (line_of (next ∷ words)) (word_free 0x20 word (lit< tt) p.0) ∙ ap (λ l. word ∷ l) (words_back next words p.1)

pub line_back : (line : List ℕ) → line_of (parts 0x20 line) ≡ line
line_back line = join_with_byte-slice_split 0x20 line

pub line_free : (words : List (List ℕ)) → list_all is_word words ≡ true → is_free 0x0A (line_of words) ≡ true
line_free [] h = refl
line_free (word ∷ []) h = word_free 0x0A word (lit< tt) (and_parts (is_word word) true h).0
line_free (word ∷ next ∷ words) h =
    let p = and_parts (is_word word) (list_all is_word (next ∷ words)) h in
    all_from (λ b. not (b == 0x0A)) word (0x20 ∷ line_of (next ∷ words)) (word_free 0x0A word (lit< tt) p.0) (line_free (next ∷ words) p.1)

-- ---- lines

pub lines_back : (lines : List (List ℕ)) → list_all (is_free 0x0A) lines ≡ true → parts 0x0A (text_of_lines lines) ≡ lines ++ [] ∷ []
lines_back [] h = refl
lines_back (line ∷ lines) h =
    let p = and_parts (is_free 0x0A line) (list_all (is_free 0x0A) lines) h in
    split_here 0x0A line (text_of_lines lines) p.0 ∙ ap (λ l. line ∷ l) (lines_back lines p.1)

joined : (lines : List (List ℕ)) → join_with_byte 0x0A (lines ++ [] ∷ []) ≡ text_of_lines lines
joined [] = refl
joined (line ∷ []) = refl
joined (line ∷ next ∷ lines) = ap (λ t. line ++ 0x0A ∷ t) (joined (next ∷ lines))

pub text_back : (text : List ℕ) (lines : List (List ℕ)) → parts 0x0A text ≡ lines ++ [] ∷ [] → text ≡ text_of_lines lines
text_back text lines is = sym (join_with_byte-slice_split 0x0A text) ∙ ap (join_with_byte 0x0A) is ∙ joined lines

-- ---- a front of a text

-- a front of lines ends within the first one, or has all of it
cut_line : (line rest front more : List ℕ) → line ++ 0x0A ∷ rest ≡ front ++ more → is_free 0x0A line ≡ true
    → (is_free 0x0A front ≡ true) ⊎ ((front_rest : List ℕ) × (front ≡ line ++ 0x0A ∷ front_rest) × (rest ≡ front_rest ++ more))
cut_line [] rest [] more same h = inl refl
cut_line [] rest (b ∷ front) more same h =
    let here : 0x0A ≡ b = cc in
    let there : rest ≡ front ++ more = cc in
    inr (front, ap (λ x. x ∷ front) (sym here), there)
cut_line (x ∷ line) rest [] more same h = inl refl
cut_line (x ∷ line) rest (b ∷ front) more same h =
    let p = and_parts (not (x == 0x0A)) (is_free 0x0A line) h in
    let here : x ≡ b = cc in
    let there : line ++ 0x0A ∷ rest ≡ front ++ more = cc in
    elim (cut_line line rest front more there p.1) [
      | inl within ↦ inl (and_from (not (b == 0x0A)) (is_free 0x0A front) (ap (λ y. not (y == 0x0A)) (sym here) ∙ p.0) within)
      | inr (behind, front_is, rest_is) ↦ inr (behind, (λ i. sym here i ∷ front_is i), rest_is)
    ]

-- what stands before the last line feed of a proper front: some first lines, but not the last one
pub record IsCutShort (front : List ℕ) (lines : List (List ℕ)) : Type 0 where
  pub whole : List (List ℕ)
  pub left : List (List ℕ)
  pub rest : List ℕ
  pub pieces : parts 0x0A front ≡ whole ++ rest ∷ []
  pub first : lines ≡ whole ++ left

nothing_more : (xs more : List ℕ) → [] ≡ xs ++ more → more ≡ []
nothing_more [] more e = sym e
nothing_more (x ∷ xs) more e = absurd cc

pub cut_short : (lines : List (List ℕ)) (end front more : List ℕ) → list_all (is_free 0x0A) lines ≡ true → is_free 0x0A end ≡ true
    → text_of_lines (lines ++ end ∷ []) ≡ front ++ more → (more ≡ [] → ⊥) → IsCutShort front lines
cut_short [] end front more free end_free same some =
    elim (cut_line end [] front more same end_free) [
      | inl within ↦ record { whole = []; left = []; rest = front; pieces = split_none 0x0A front within; first = refl }
      | inr (behind, front_is, rest_is) ↦ absurd (some (nothing_more behind more rest_is))
    ]
cut_short (line ∷ lines) end front more free end_free same some =
    let p = and_parts (is_free 0x0A line) (list_all (is_free 0x0A) lines) free in
    elim (cut_line line (text_of_lines (lines ++ end ∷ [])) front more same p.0) [
      | inl within ↦ record { whole = []; left = line ∷ lines; rest = front; pieces = split_none 0x0A front within; first = refl }
      | inr (behind, front_is, rest_is) ↦
          let h = cut_short lines end behind more p.1 end_free rest_is some in
          record {
            whole = line ∷ h.whole;
            left = h.left;
            rest = h.rest;
            pieces = ap (parts 0x0A) front_is ∙ split_here 0x0A line behind p.0 ∙ ap (λ l. line ∷ l) h.pieces;
            first = ap (λ l. line ∷ l) h.first;
          }
    ]
