-- The text of a value whose numbers are counts has no line feed.
use Rattle.std.proofs.Common.{◌≡◌, ◌≢◌, ℕ, ◌+◌, ◌/◌, ◌%◌, ◌<◌, ◌^◌, ◌==◌, ◌||◌, Bool, true, false, cond, nat_lt, List, [], ◌∷◌, ◌++◌, decimal, refl, sym, subst, true≢false, arith}
use Rattle.std.proofs.lemmas.Fmt.{decimal_by_steps}
use Rattle.std.proofs.lemmas.List.Elements.{All-nil, All-cons, All-append}
use Rattle.std.specs.Char.{digit_char}
use Rattle.json.specs.Print.{escape_letter, escape_byte, escape, quoted}
use Rattle.serde_json.specs.Data.{unsigned, negative, float, Data, null, boolean, number, string, array, object, Items, no_items, item, Members, no_members, member}
use Rattle.serde_json.specs.Written.{comma_if, compact_text, items_text, members_text}
use Rattle.kmip_report.specs.Laws.{HasCounts, ItemsHaveCounts, MembersHaveCounts, IsOneLine}

abbrev IsNoEnd : ℕ → Type 0
IsNoEnd byte = byte ≢ 10

none : IsOneLine []
none = All-nil IsNoEnd

one : (x : ℕ) (xs : List ℕ) → IsNoEnd x → IsOneLine xs → IsOneLine (x ∷ xs)
one x xs h hs = All-cons IsNoEnd x xs h hs

both : (xs ys : List ℕ) → IsOneLine xs → IsOneLine ys → IsOneLine (xs ++ ys)
both xs ys h k = All-append IsNoEnd xs ys h k

-- a choice of two bytes
either : (b : Bool) (m n : ℕ) → IsNoEnd m → IsNoEnd n → IsNoEnd (cond b m n)
either true m n h k = h
either false m n h k = k

-- a quotation mark or a backslash, else a letter
itself : (b : Bool) (x n : ℕ) → ((x == 34) || (x == 92)) ≡ b → IsNoEnd n → IsNoEnd (cond b x n)
itself true x n is h = λ e. true≢false (sym (subst (λ y. ((y == 34) || (y == 92)) ≡ true) e is))
itself false x n is h = h

letter : (x : ℕ) → IsNoEnd (escape_letter x)
letter x =
    itself ((x == 34) || (x == 92)) x _ refl
    (either (x == 8) 98 _ (λ e. omega arith)
    (either (x == 12) 102 _ (λ e. omega arith)
    (either (x == 10) 110 _ (λ e. omega arith)
    (either (x == 13) 114 _ (λ e. omega arith)
    (either (x == 9) 116 0 (λ e. omega arith) (λ e. omega arith))))))

digit : (k : ℕ) → IsNoEnd (digit_char k)
digit k = either (nat_lt k 10) (48 + k) (87 + k) (λ e. omega arith) (λ e. omega arith)

-- the escape of a byte, by whether it has a letter and whether it is a control character
escaped : (a b : Bool) (x : ℕ) → nat_lt x 32 ≡ b
    → IsOneLine (cond a (92 ∷ escape_letter x ∷ []) (cond b (92 ∷ 117 ∷ 48 ∷ 48 ∷ digit_char (x / 16) ∷ digit_char (x % 16) ∷ []) (x ∷ [])))
escaped true b x is = one 92 (escape_letter x ∷ []) (λ e. omega arith) (one (escape_letter x) [] (letter x) none)
escaped false true x is =
    let last = digit_char (x % 16) ∷ [] in
    let both_digits = digit_char (x / 16) ∷ last in
    one 92 (117 ∷ 48 ∷ 48 ∷ both_digits) (λ e. omega arith)
    (one 117 (48 ∷ 48 ∷ both_digits) (λ e. omega arith)
    (one 48 (48 ∷ both_digits) (λ e. omega arith)
    (one 48 both_digits (λ e. omega arith) (one (digit_char (x / 16)) last (digit (x / 16)) (one (digit_char (x % 16)) [] (digit (x % 16)) none)))))
escaped false false x is = one x [] (λ e. true≢false (subst (λ y. nat_lt y 32 ≡ false) e is)) none

byte_line : (x : ℕ) → IsOneLine (escape_byte x)
unfolding escape_byte
byte_line x = escaped (nat_lt 0 (escape_letter x)) (nat_lt x 32) x refl

escape_line : (s : List ℕ) → IsOneLine (escape s)
escape_line [] = none
escape_line (x ∷ s) = both (escape_byte x) (escape s) (byte_line x) (escape_line s)

quoted_line : (s : List ℕ) → IsOneLine (quoted s)
quoted_line s = one 34 (escape s ++ 34 ∷ []) (λ e. omega arith) (both (escape s) (34 ∷ []) (escape_line s) (one 34 [] (λ e. omega arith) none))

decimal_line : (n : ℕ) → n < 2 ^ 64 → IsOneLine (decimal n)
decimal_line n h =
    decimal_by_steps (λ m ds. IsOneLine ds) (λ m small. one (48 + m) [] (λ e. omega arith) none)
    (λ m ds large so_far. both ds ((48 + m % 10) ∷ []) so_far (one (48 + m % 10) [] (λ e. omega arith) none))
    n h

boolean_line : (b : Bool) → IsOneLine (compact_text (boolean b))
boolean_line true =
    one 116 (114 ∷ 117 ∷ 101 ∷ []) (λ e. omega arith)
    (one 114 (117 ∷ 101 ∷ []) (λ e. omega arith) (one 117 (101 ∷ []) (λ e. omega arith) (one 101 [] (λ e. omega arith) none)))
boolean_line false =
    one 102 (97 ∷ 108 ∷ 115 ∷ 101 ∷ []) (λ e. omega arith)
    (one 97 (108 ∷ 115 ∷ 101 ∷ []) (λ e. omega arith)
    (one 108 (115 ∷ 101 ∷ []) (λ e. omega arith) (one 115 (101 ∷ []) (λ e. omega arith) (one 101 [] (λ e. omega arith) none))))

null_line : IsOneLine (compact_text null)
null_line =
    one 110 (117 ∷ 108 ∷ 108 ∷ []) (λ e. omega arith)
    (one 117 (108 ∷ 108 ∷ []) (λ e. omega arith) (one 108 (108 ∷ []) (λ e. omega arith) (one 108 [] (λ e. omega arith) none)))

comma_line : (b : Bool) → IsOneLine (comma_if b)
comma_line true = one 44 [] (λ e. omega arith) none
comma_line false = none

mutual
  pub one_line : (d : Data) → HasCounts d → IsOneLine (compact_text d)
  one_line null h = null_line
  one_line (boolean b) h = boolean_line b
  one_line (number (unsigned n)) h = decimal_line n h
  one_line (number (negative z)) h = absurd h
  one_line (number (float x)) h = absurd h
  one_line (string s) h = quoted_line s
  one_line (array ds) h = one 91 (items_text false ds) (λ e. omega arith) (items_line false ds h)
  one_line (object ms) h = one 123 (members_text false ms) (λ e. omega arith) (members_line false ms h)

  items_line : (later : Bool) (ds : Items) → ItemsHaveCounts ds → IsOneLine (items_text later ds)
  items_line later no_items h = one 93 [] (λ e. omega arith) none
  items_line later (item d ds) h =
      both (comma_if later) (compact_text d ++ items_text true ds) (comma_line later)
      (both (compact_text d) (items_text true ds) (one_line d h.0) (items_line true ds h.1))

  members_line : (later : Bool) (ms : Members) → MembersHaveCounts ms → IsOneLine (members_text later ms)
  members_line later no_members h = one 125 [] (λ e. omega arith) none
  members_line later (member k d ms) h =
      both (comma_if later) (quoted k ++ 58 ∷ (compact_text d ++ members_text true ms)) (comma_line later)
      (both (quoted k) (58 ∷ (compact_text d ++ members_text true ms)) (quoted_line k)
      (one 58 (compact_text d ++ members_text true ms) (λ e. omega arith) (both (compact_text d) (members_text true ms) (one_line d h.0) (members_line true ms h.1))))
