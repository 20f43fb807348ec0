-- What a line says, and what a text does.
use Rattle.std.proofs.Common.{◌≡◌, ◌≢◌, ◌<◌, ◌≤◌, ◌∙◌, ℕ, zero, suc, ◌+◌, ◌==◌, true, false, List, [], ◌∷◌, ◌++◌, get_or, length, Option, Some, None, Result, Ok, Err, option_map, if◌then◌else◌, ap, arith, inl, inr, refl, rules, subst, sym, ne_eqb, eqb-true, append_assoc}
use Rattle.std.specs.Prelude.{codes, nat_lt, nat_le, ◌&&◌}
use Rattle.std.proofs.lemmas.Bool.{and_from, and_parts, cases_Bool, false_from_ne_true, le-leb, leb-true}
use Rattle.std.proofs.lemmas.Slice.Eq.{bytes_eq-Decides}
use Rattle.std.proofs.lemmas.List.Elements.{All-cons, All-head, All-nil, All-tail}
use Rattle.std.proofs.lemmas.Bool.Decides.{nat_tests}
use Rattle.std.proofs.lemmas.List.Splits.{slice_split-cons_yes, slice_split-cons_no, slice_split_none, slice_split_at}
use Rattle.std.specs.List.{All, list_all, onto_first, slice_split}
use Rattle.std.specs.Result.{result_ok}
use Rattle.std.specs.Str.{all_ascii_digits}
use Rattle.std.specs.Str.Parse.{ParsesUnsigned}
use Rattle.std.proofs.lemmas.Str.Parse.{IsNumeralModel, digits_value_short, numerals_by_fold, parse_gives}
use Rattle.kmip_plan.specs.TargetWords.{is_text}
use Rattle.kmip_runs.specs.declared.crash.Crash.{Crash as MachineCrash}
use Rattle.kmip_runs.specs.declared.left.Left.{Left}
use Rattle.kmip_runs.specs.declared.left.Left.TheVariants.{Old, New, Torn}
use Rattle.kmip_scripted.specs.ScriptReading.{at_space, before_space, crash_by, crash_in, followed_by, left_in, number_in, numbered_word, plain_word, restart_in, with_front, word_by, word_in, words_from, words_of_line}
use Rattle.kmip_scripted.specs.ScriptTexts.{IsCrash, IsNumber, IsNumbered, IsWord, is_digit, left_word, lines_in, most_lines, value_behind, without_empty_end}
use Rattle.kmip_scripted.specs.declared.script_fault.ScriptFault.{ScriptFault}
use Rattle.kmip_scripted.specs.declared.script_fault.ScriptFault.TheVariants.{Line}
use Rattle.kmip_scripted.specs.declared.word.Word.{Word}
use Rattle.kmip_scripted.specs.declared.word.Word.TheVariants.{Pass, LoseRequest, LoseReply, Cut, Stale, Again, Save, Prolong, Restart, Crash}

same_text : (s t : List ℕ) → is_text s t ≡ true → s ≡ t
same_text s t h = (bytes_eq-Decides s t).0 h

same_some : {A : Type 0} (a x : A) → Some a ≡ Some x → a ≡ x
same_some a x is = cc

same_pair : (a x : List ℕ × List ℕ) → Some a ≡ Some x → a ≡ x
same_pair a x is = cc

no_some : {A : Type 0} (x : A) (P : A → Type 0) → None ≡ Some x → P x
no_some x P is = absurd cc

-- ---- a number

pub number_is : (digits : List ℕ) (number : ℕ) → number_in digits ≡ Some number → IsNumber digits number
number_is digits number is =
    elim (cases_Bool (nat_le 1 (length digits) && nat_le (length digits) 6 && list_all is_digit digits)) [
      | inl fits ↦
          let parts = and_parts (nat_le 1 (length digits) && nat_le (length digits) 6) (list_all is_digit digits) fits in
          let sizes = and_parts (nat_le 1 (length digits)) (nat_le (length digits) 6) parts.0 in
          record {
            some = leb-true 1 (length digits) sizes.0;
            few = leb-true (length digits) 6 sizes.1;
            are_digits = parts.1;
            value = sym (same_some (value_behind 0 digits) number (rw fits at is));
          }
      | inr not ↦ no_some number (IsNumber digits) (rw not at is)
    ]

pub is_number : (digits : List ℕ) (number : ℕ) → IsNumber digits number → number_in digits ≡ Some number
is_number digits number is =
    let fits =
    and_from (nat_le 1 (length digits) && nat_le (length digits) 6) (list_all is_digit digits)
    (and_from (nat_le 1 (length digits)) (nat_le (length digits) 6) (le-leb 1 (length digits) is.some) (le-leb (length digits) 6 is.few)) is.are_digits in
    rw fits (ap Some (sym is.value))

-- what the parser of numbers answers of digits
ascii_digits : (digits : List ℕ) → list_all is_digit digits ≡ all_ascii_digits digits
ascii_digits [] = refl
ascii_digits (digit ∷ digits) = ap (λ b. is_digit digit && b) (ascii_digits digits)

own : IsNumeralModel (λ ds. all_ascii_digits ds ≡ true) (value_behind 0)
own = numerals_by_fold _ (search rules) value_behind (search rules)

pub parsed : {E : Type 0} (digits : List ℕ) (r : Result ℕ E) → ParsesUnsigned 64 10 digits r → list_all is_digit digits ≡ true → 1 ≤ length digits
    → length digits ≤ 6 → r ≡ Ok (value_behind 0 digits)
parsed digits r h all some few =
    let are : all_ascii_digits digits ≡ true = sym (ascii_digits digits) ∙ all in
    parse_gives own 64 digits r h are (omega (arith, some)) (omega (arith, digits_value_short own digits 6 are few))

pub number_given : {E : Type 0} (digits : List ℕ) (r : Result ℕ E) → ParsesUnsigned 64 10 digits r → list_all is_digit digits ≡ true → 1 ≤ length digits
    → length digits ≤ 6 → result_ok r ≡ number_in digits
number_given digits r h all some few =
    ap result_ok (parsed digits r h all some few)
    ∙ sym (is_number digits (value_behind 0 digits) (record { some = some; few = few; are_digits = all; value = refl }))

-- ---- a space in a line

pub at_first_space : (before behind : List ℕ) → All (λ b. (b == 32) ≡ false) before → at_space (before ++ 32 ∷ behind) ≡ Some (before, behind)
at_first_space [] behind none = refl
at_first_space (b ∷ before) behind none =
    rw (All-head (λ b. (b == 32) ≡ false) b before none)
    (ap (before_space b) (at_first_space before behind (All-tail (λ b. (b == 32) ≡ false) b before none)))

pub at_no_space : (line : List ℕ) → All (λ b. (b == 32) ≡ false) line → at_space line ≡ None
at_no_space [] none = refl
at_no_space (b ∷ line) none =
    rw (All-head (λ b. (b == 32) ≡ false) b line none) (ap (before_space b) (at_no_space line (All-tail (λ b. (b == 32) ≡ false) b line none)))

-- the line is what stands before its first space, a space, and what stands behind
with_byte : (b : ℕ) (line : List ℕ) (parts : List ℕ × List ℕ) (found : Option (List ℕ × List ℕ))
    → ((p : List ℕ × List ℕ) → found ≡ Some p → line ≡ p.0 ++ 32 ∷ p.1) → before_space b found ≡ Some parts → b ∷ line ≡ parts.0 ++ 32 ∷ parts.1
with_byte b line parts None rest is = absurd cc
with_byte b line parts (Some p) rest is =
    let same : (b ∷ p.0, p.1) ≡ parts = same_pair (b ∷ p.0, p.1) parts is in
    subst (λ (q : List ℕ × List ℕ). b ∷ line ≡ q.0 ++ 32 ∷ q.1) same (ap (λ xs. b ∷ xs) (rest p refl))

space_parts : (line : List ℕ) (parts : List ℕ × List ℕ) → at_space line ≡ Some parts → line ≡ parts.0 ++ 32 ∷ parts.1
space_parts [] parts is = absurd cc
space_parts (b ∷ line) parts is =
    elim (cases_Bool (b == 32)) [
      | inl space ↦
          let same : ([], line) ≡ parts = same_pair ([], line) parts (rw space at is) in
          subst (λ (p : List ℕ × List ℕ). b ∷ line ≡ p.0 ++ 32 ∷ p.1) same (ap (λ x. x ∷ line) (eqb-true b 32 space))
      | inr other ↦ with_byte b line parts (at_space line) (λ p at. space_parts line p at) (rw other at is)
    ]

-- no byte of them is this one
pub none_by : (c : ℕ) (xs : List ℕ) → ((i : ℕ) → i < length xs → get_or xs i 0 ≢ c) → All (λ b. (b == c) ≡ false) xs
none_by c [] none = All-nil (λ b. (b == c) ≡ false)
none_by c (x ∷ xs) none =
    All-cons (λ b. (b == c) ≡ false) x xs (ne_eqb x c (none zero (omega arith))) (none_by c xs (λ i below. none (suc i) (omega (arith, below))))

-- ---- a word

-- what a list of words leads to has a property, if it follows from each word
chosen : {A : Type 0} (word name : List ℕ) (found rest : Option A) (x : A) (P : A → Type 0) → (word ≡ name → found ≡ Some x → P x) → (rest ≡ Some x → P x)
    → (if is_text word name then found else rest) ≡ Some x → P x
chosen word name found rest x P here there is =
    elim (cases_Bool (is_text word name)) [
      | inl same ↦ here (same_text word name same) (rw same at is)
      | inr other ↦ there (rw other at is)
    ]

one : {A : Type 0} (a x : A) (P : A → Type 0) → P a → Some a ≡ Some x → P x
one a x P holds is = subst P (same_some a x is) holds

plain_is : (line : List ℕ) (word : Word) → plain_word line ≡ Some word → IsWord line word
plain_is line word is =
    let P : Word → Type 0 = IsWord line in
    chosen line (codes "pass") (Some Pass) _ word P (λ e. one Pass word P e) (
    chosen line (codes "lose-request") (Some LoseRequest) _ word P (λ e. one LoseRequest word P e) (
    chosen line (codes "lose-reply") (Some LoseReply) _ word P (λ e. one LoseReply word P e) (
    chosen line (codes "save") (Some Save) _ word P (λ e. one Save word P e) (
    chosen line (codes "prolong") (Some Prolong) _ word P (λ e. one Prolong word P e) (no_some word P))))) is

-- a number behind a front
numbered : (front digits line : List ℕ) (make : ℕ → Word) (word : Word) (P : Word → Type 0) → line ≡ front ++ digits
    → ((number : ℕ) → IsNumbered front number line → P (make number)) → option_map make (number_in digits) ≡ Some word → P word
numbered front digits line make word P line_is holds is = by_number (number_in digits) refl is
  where
    by_number : (found : Option ℕ) → number_in digits ≡ found → option_map make found ≡ Some word → P word
    by_number None at is = absurd cc
    by_number (Some number) at is =
        subst P (same_some (make number) word is)
        (holds number (record { digits = digits; line_is = line_is; is_number = number_is digits number at }))

restart_is : (line number : List ℕ) (word : Word) → line ≡ codes "restart" ++ 32 ∷ number → restart_in number ≡ Some word → IsWord line word
restart_is line number word line_is is =
    let P : Word → Type 0 = IsWord line in
    chosen number (codes "none") (Some (Restart None)) _ word P
    (λ e. one (Restart None) word P (line_is ∙ ap (λ ds. codes "restart" ++ 32 ∷ ds) e))
    (numbered (codes "restart ") number line (λ n. Restart (Some n)) word P line_is (λ n holds. holds)) is

-- a crash, by the word of what it leaves
left_is : (word : List ℕ) (left : Left) → left_in word ≡ Some left → word ≡ left_word left
left_is word left is =
    let P : Left → Type 0 = λ l. word ≡ left_word l in
    chosen word (codes "old") (Some Old) _ left P (λ e. one Old left P e) (
    chosen word (codes "new") (Some New) _ left P (λ e. one New left P e) (
    chosen word (codes "torn") (Some Torn) _ left P (λ e. one Torn left P e) (no_some left P))) is

crash_parts : (calls : Option ℕ) (left : Option Left) (word : Word) (P : Word → Type 0)
    → ((number : ℕ) (what : Left) → calls ≡ Some number → left ≡ Some what → 1 ≤ number → P (Crash (record { calls = number; left = what })))
    → crash_by calls left ≡ Some word → P word
crash_parts None left word P holds is = absurd cc
crash_parts (Some number) None word P holds is = absurd cc
crash_parts (Some number) (Some what) word P holds is =
    elim (cases_Bool (number == 0)) [
      | inl none ↦ no_some word P (rw none at is)
      | inr other ↦
          let some : 1 ≤ number = grind (arith, nat_tests) in
          one (Crash (record { calls = number; left = what })) word P (holds number what refl refl some) (rw other at is)
    ]

joined : (digits left : List ℕ) → codes "crash " ++ digits ++ codes " " ++ left ≡ codes "crash" ++ 32 ∷ (digits ++ 32 ∷ left)
joined digits left = append_assoc (codes "crash " ++ digits) (codes " ") left ∙ append_assoc (codes "crash ") digits (codes " " ++ left)

crash_is : (line behind : List ℕ) (word : Word) → line ≡ codes "crash" ++ 32 ∷ behind → crash_in (at_space behind) ≡ Some word → IsWord line word
crash_is line behind word line_is is = by_space (at_space behind) refl is
  where
    by_space : (parts : Option (List ℕ × List ℕ)) → at_space behind ≡ parts → crash_in parts ≡ Some word → IsWord line word
    by_space None at is = absurd cc
    by_space (Some parts) at is = crash_parts (number_in parts.0) (left_in parts.1) word (IsWord line) (λ number what calls left some. record {
      digits = parts.0;
      line_is = line_is
          ∙ ap (λ ys. codes "crash" ++ 32 ∷ ys) (space_parts behind parts at)
          ∙ ap (λ ys. codes "crash" ++ 32 ∷ (parts.0 ++ 32 ∷ ys)) (left_is parts.1 what left)
          ∙ sym (joined parts.0 (left_word what));
      is_number = number_is parts.0 number calls;
      some = some;
    }) is

numbered_is : (line before number : List ℕ) (word : Word) → line ≡ before ++ 32 ∷ number → numbered_word before number ≡ Some word → IsWord line word
numbered_is line before number word line_is is =
    let P : Word → Type 0 = IsWord line in
    let at : (name : List ℕ) → before ≡ name → line ≡ name ++ 32 ∷ number = λ name e. line_is ∙ ap (λ b. b ++ 32 ∷ number) e in
    chosen before (codes "cut") _ _ word P (λ e. numbered (codes "cut ") number line Cut word P (at (codes "cut") e) (λ n holds. holds)) (
    chosen before (codes "stale") _ _ word P (λ e. numbered (codes "stale ") number line Stale word P (at (codes "stale") e) (λ n holds. holds)) (
    chosen before (codes "again") _ _ word P (λ e. numbered (codes "again ") number line Again word P (at (codes "again") e) (λ n holds. holds)) (
    chosen before (codes "restart") _ _ word P (λ e. restart_is line number word (at (codes "restart") e)) (
    chosen before (codes "crash") _ _ word P (λ e. crash_is line number word (at (codes "crash") e)) (no_some word P))))) is

pub word_is : (line : List ℕ) (word : Word) → word_in line ≡ Some word → IsWord line word
word_is line word is = by_space (at_space line) refl is
  where
    by_space : (parts : Option (List ℕ × List ℕ)) → at_space line ≡ parts → word_by line parts ≡ Some word → IsWord line word
    by_space None at is = plain_is line word is
    by_space (Some parts) at is = numbered_is line parts.0 parts.1 word (space_parts line parts at) is

-- by its first space
pub parted : (line before behind : List ℕ) → line ≡ before ++ 32 ∷ behind → All (λ b. (b == 32) ≡ false) before → word_in line ≡ numbered_word before behind
parted line before behind is none = ap word_in is ∙ ap (word_by (before ++ 32 ∷ behind)) (at_first_space before behind none)

pub unparted : (line : List ℕ) → All (λ b. (b == 32) ≡ false) line → word_in line ≡ plain_word line
unparted line none = ap (word_by line) (at_no_space line none)

-- and the other way round
no_digits : (digits : List ℕ) (number : ℕ) → IsNumber digits number → is_text digits (codes "none") ≡ false
no_digits digits number is = false_from_ne_true (is_text digits (codes "none")) (λ same.
    let all = subst (λ ds. list_all is_digit ds ≡ true) (same_text digits (codes "none") same) is.are_digits in absurd cc)

of_number : (digits : List ℕ) (number : ℕ) (make : ℕ → Word) → IsNumber digits number → option_map make (number_in digits) ≡ Some (make number)
of_number digits number make is = ap (option_map make) (is_number digits number is)

-- no digit is a space
no_space : (digits : List ℕ) → list_all is_digit digits ≡ true → All (λ b. (b == 32) ≡ false) digits
no_space [] are = All-nil (λ b. (b == 32) ≡ false)
no_space (digit ∷ digits) are =
    let parts = and_parts (is_digit digit) (list_all is_digit digits) are in
    let low = leb-true 48 digit (and_parts (nat_le 48 digit) (nat_le digit 57) parts.0).0 in
    All-cons (λ b. (b == 32) ≡ false) digit digits (ne_eqb digit 32 (λ same. absurd (omega (arith, low, same)))) (no_space digits parts.1)

is_left : (left : Left) → left_in (left_word left) ≡ Some left
is_left Old = refl
is_left New = refl
is_left Torn = refl

made : (calls : ℕ) (left : Left) → 1 ≤ calls → crash_by (Some calls) (Some left) ≡ Some (Crash (record { calls = calls; left = left }))
made calls left some =
    let other : (calls == 0) ≡ false = ne_eqb calls 0 (λ none. absurd (omega (arith, some, none))) in
    rw other refl

-- by the space behind its number
pub crash_parted : (behind number left : List ℕ) → behind ≡ number ++ 32 ∷ left → All (λ b. (b == 32) ≡ false) number
    → crash_in (at_space behind) ≡ crash_by (number_in number) (left_in left)
crash_parted behind number left is none = ap (λ bytes. crash_in (at_space bytes)) is ∙ ap crash_in (at_first_space number left none)

pub crash_unparted : (behind : List ℕ) → All (λ b. (b == 32) ≡ false) behind → crash_in (at_space behind) ≡ None
crash_unparted behind none = ap crash_in (at_no_space behind none)

is_crash : (crash : MachineCrash) (line : List ℕ) → IsCrash crash line → word_in line ≡ Some (Crash crash)
is_crash crash line is =
    ap word_in (is.line_is ∙ joined is.digits (left_word crash.left))
    ∙ crash_parted (is.digits ++ 32 ∷ left_word crash.left) is.digits (left_word crash.left) refl (no_space is.digits is.is_number.are_digits)
    ∙ ap (λ calls. crash_by calls (left_in (left_word crash.left))) (is_number is.digits crash.calls is.is_number)
    ∙ ap (crash_by (Some crash.calls)) (is_left crash.left)
    ∙ made crash.calls crash.left is.some

pub is_word : (line : List ℕ) (word : Word) → IsWord line word → word_in line ≡ Some word
is_word line Pass is = ap word_in is
is_word line LoseRequest is = ap word_in is
is_word line LoseReply is = ap word_in is
is_word line (Cut size) is = ap word_in is.line_is ∙ of_number is.digits size Cut is.is_number
is_word line (Stale number) is = ap word_in is.line_is ∙ of_number is.digits number Stale is.is_number
is_word line (Again number) is = ap word_in is.line_is ∙ of_number is.digits number Again is.is_number
is_word line Save is = ap word_in is
is_word line Prolong is = ap word_in is
is_word line (Restart None) is = ap word_in is
is_word line (Restart (Some number)) is =
    ap word_in is.line_is
    ∙ rw (no_digits is.digits number is.is_number) (of_number is.digits number (λ n. Restart (Some n)) is.is_number)
is_word line (Crash crash) is = is_crash crash line is

pub no_word : (line : List ℕ) → word_in line ≡ None → (word : Word) → ¬ (IsWord line word)
no_word line none word is = no_some word (λ w. ⊥) (sym none ∙ is_word line word is)

pub none_without : (line : List ℕ) → ((word : Word) → ¬ (IsWord line word)) → word_in line ≡ None
none_without line none = by_word (word_in line) refl
  where
    by_word : (found : Option Word) → word_in line ≡ found → word_in line ≡ None
    by_word None at = at
    by_word (Some word) at = absurd (none word (word_is line word at))

-- ---- lines

some_parts : (bytes : List ℕ) → (part : List ℕ) × (parts : List (List ℕ)) × (slice_split (λ b. b == 10) bytes ≡ part ∷ parts)
some_parts [] = ([], [], refl)
some_parts (b ∷ bytes) =
    let rest = some_parts bytes in
    elim (cases_Bool (b == 10)) [
      | inl feed ↦ ([], slice_split (λ b. b == 10) bytes, slice_split-cons_yes (λ b. b == 10) b bytes feed)
      | inr other ↦ (
        b ∷ rest.0,
        rest.1,
        slice_split-cons_no (λ b. b == 10) b bytes other ∙ ap (onto_first b) rest.2,
      )
    ]

-- a line, its line feed, and what follows it
pub line_then : (line behind : List ℕ) → All (λ b. (b == 10) ≡ false) line → lines_in (line ++ 10 ∷ behind) ≡ line ∷ lines_in behind
line_then line behind none =
    let rest = some_parts behind in
    ap without_empty_end (slice_split_at (λ b. b == 10) line 10 behind none refl ∙ ap (λ parts. line ∷ parts) rest.2)
    ∙ ap (λ parts. line ∷ without_empty_end parts) (sym rest.2)

-- a last line without its line feed
pub line_last : (byte : ℕ) (bytes : List ℕ) → All (λ b. (b == 10) ≡ false) (byte ∷ bytes) → lines_in (byte ∷ bytes) ≡ (byte ∷ bytes) ∷ []
line_last byte bytes none = ap without_empty_end (slice_split_none (λ b. b == 10) (byte ∷ bytes) none)

pub last_line : (text : List ℕ) → 0 < length text → All (λ b. (b == 10) ≡ false) text → lines_in text ≡ text ∷ []
last_line [] some none = absurd (omega (arith, some))
last_line (byte ∷ bytes) some none = line_last byte bytes none

-- a text that is not empty has a line
pub some_line : (byte : ℕ) (bytes : List ℕ) → (line : List ℕ) × (lines : List (List ℕ)) × (lines_in (byte ∷ bytes) ≡ line ∷ lines)
some_line byte bytes =
    let rest = some_parts bytes in
    elim (cases_Bool (byte == 10)) [
      | inl feed ↦ (
        [],
        without_empty_end (rest.0 ∷ rest.1),
        ap without_empty_end (slice_split-cons_yes (λ b. b == 10) byte bytes feed ∙ ap (λ parts. [] ∷ parts) rest.2),
      )
      | inr other ↦
          let parts = ap without_empty_end (slice_split-cons_no (λ b. b == 10) byte bytes other ∙ ap (onto_first byte) rest.2) in
          first_part (byte ∷ rest.0) rest.1 byte rest.0 refl (lines_in (byte ∷ bytes)) parts
    ]
  where
    first_part : (part : List ℕ) (parts : List (List ℕ)) (b : ℕ) (bs : List ℕ) → part ≡ b ∷ bs → (all : List (List ℕ)) → all ≡ without_empty_end (part ∷ parts)
        → (line : List ℕ) × (lines : List (List ℕ)) × (all ≡ line ∷ lines)
    first_part part [] b bs is all same = (b ∷ bs, [], same ∙ ap (λ p. without_empty_end (p ∷ [])) is)
    first_part part (next ∷ parts) b bs is all same = (b ∷ bs, without_empty_end (next ∷ parts), same ∙ ap (λ p. p ∷ without_empty_end (next ∷ parts)) is)

-- ---- what is read so far

-- some words and those of the lines that are left are all
pub front_more : (done more : List Word) (read : Result (List Word) ScriptFault) → with_front done (with_front more read) ≡ with_front (done ++ more) read
front_more done more (Ok words) = ap Ok (sym (append_assoc done more words))
front_more done more (Err fault) = refl

pub within : (number : ℕ) → number ≤ most_lines → nat_lt most_lines number ≡ false
within number few = grind (arith, nat_tests)

pub beyond : (number : ℕ) → most_lines < number → nat_lt most_lines number ≡ true
beyond number many = grind (arith, nat_tests)

pub read_here : (line : List ℕ) (lines : List (List ℕ)) (number : ℕ) → number ≤ most_lines
    → words_from number (line ∷ lines) ≡ followed_by (words_of_line line number) (words_from (number + 1) lines)
read_here line lines number few =
    ap (λ b. if b then Err (Line number) else followed_by (words_of_line line number) (words_from (number + 1) lines)) (within number few)

-- one more line
pub one_line : (done more words : List Word) (line : List ℕ) (lines : List (List ℕ)) (number : ℕ) → number ≤ most_lines → words_of_line line number ≡ Ok more → words ≡ done ++ more
    → with_front words (words_from (number + 1) lines) ≡ with_front done (words_from number (line ∷ lines))
one_line done more words line lines number few read is =
    ap (λ ws. with_front ws (words_from (number + 1) lines)) is ∙ sym (front_more done more (words_from (number + 1) lines))
    ∙ ap (with_front done) (sym (read_here line lines number few ∙ ap (λ r. followed_by r (words_from (number + 1) lines)) read))

-- or one at fault
pub line_fails : (done : List Word) (line : List ℕ) (lines : List (List ℕ)) (number : ℕ) (fault : ScriptFault) → number ≤ most_lines → words_of_line line number ≡ Err fault
    → with_front done (words_from number (line ∷ lines)) ≡ Err fault
line_fails done line lines number fault few read =
    ap (with_front done) (read_here line lines number few) ∙ ap (λ r. with_front done (followed_by r (words_from (number + 1) lines))) read

-- or one too many
pub line_too_many : (done : List Word) (line : List ℕ) (lines : List (List ℕ)) (number : ℕ) → most_lines < number
    → with_front done (words_from number (line ∷ lines)) ≡ Err (Line number)
line_too_many done line lines number many =
    ap (λ b. with_front done (if b then Err (Line number) else followed_by (words_of_line line number) (words_from (number + 1) lines))) (beyond number many)

pub too_many : (done : List Word) (rest : List ℕ) (number : ℕ) (all : Result (List Word) ScriptFault) → (length rest == 0) ≡ false → number ≡ most_lines + 1
    → with_front done (words_from number (lines_in rest)) ≡ all → all ≡ Err (Line (most_lines + 1))
too_many done [] number all some last is = absurd cc
too_many done (byte ∷ bytes) number all some last is =
    let found = some_line byte bytes in
    sym is ∙ ap (λ lines. with_front done (words_from number lines)) found.2
    ∙ line_too_many done found.0 found.1 number (omega (arith, last)) ∙ ap (λ n. Err (Line n)) last
