-- Words and what they stand for.
use Rattle.std.proofs.Common.{◌≡◌, ◌==◌, ◌≤◌, ℕ, zero, suc, Bool, true, false, not, ◌&&◌, ◌||◌, List, length, codes, Option, Some, None, option_map, Result, Ok, Err, IsOk, if◌then◌else◌, subst, refl, sym, ap, ◌∙◌, inl, inr, arith, lit<}
use Rattle.std.specs.Fmt.{decimal}
use Rattle.std.specs.Option.{option_map_or, option_and_then}
use Rattle.std.specs.Result.{result_ok}
use Rattle.std.specs.Str.{IsUtf8, is_utf8}
use Rattle.std.proofs.lemmas.Bool.{cases_Bool, and_parts, and_from, or_cases, eqb-true, false_from_ne_true}
use Rattle.std.proofs.lemmas.Fmt.{decimal_digit}
use Rattle.std.proofs.lemmas.Slice.Eq.{bytes_eq-Decides}
use Rattle.std.proofs.lemmas.Str.{IsUtf8-from_is_utf8}
use Rattle.hex.specs.Hex.{decode_of, encode_lower, lower_digits}
use Rattle.hex.specs.declared.error.FromHexError.{FromHexError}
use Rattle.hex.proofs.HexLemmas.{decode_of-encode_lower, length-encode_with}
use Rattle.kmip_objects.specs.Ranges.{is_identifier}
use Rattle.kmip_plan.specs.Chains.{is_revoked}
use Rattle.kmip_plan.specs.Fields.{if_so}
use Rattle.kmip_plan.specs.TargetWords.{is_text, target_word, target_of_word}
use Rattle.kmip_plan.specs.declared.target.Target.{Target}
use Rattle.kmip_plan.specs.declared.target.Target.TheVariants.{Created, Active, Revoked, Destroyed, Discarded}
use Rattle.kmip_progress.specs.declared.format.Format.TheVariants.{Two}
use Rattle.kmip_progress.specs.declared.progress_fault.ProgressFault.{ProgressFault}
use Rattle.kmip_progress.specs.declared.progress_fault.ProgressFault.TheVariants as faults
use Rattle.kmip_progress.specs.Reading.{need}
use Rattle.kmip_progress.specs.Texts.{reason_stands}
use Rattle.kmip_progress.specs.Words.{identifier_of_word, is_spelt, done_of_word, reason_of_word, reason_in, reason_word, identifier_in, identifier_word}
use Rattle.kmip_progress.proofs.ByteLemmas.{bytes_at, utf8_bytes}

-- a value that had to be there was there
pub needed : {A : Type 0} (fault : ProgressFault) (o : Option A) (a : A) → need fault o ≡ Ok a → o ≡ Some a
needed fault None a is = absurd cc
needed fault (Some b) a is = let same : b ≡ a = cc in ap Some same

-- what is no UTF-8
pub no_utf8 : (bytes : List ℕ) → (IsUtf8 bytes → ⊥) → is_utf8 bytes ≡ false
no_utf8 bytes not = elim (cases_Bool (is_utf8 bytes)) [
  | inl is ↦ absurd (not (IsUtf8-from_is_utf8 bytes is))
  | inr isnt ↦ isnt
]

-- the bytes of a word are an identifier or they are not
pub spelt : (word bytes : List ℕ) (b : Bool) → need faults.BadText (result_ok (decode_of word)) ≡ Ok bytes → is_spelt word bytes ≡ b
    → identifier_of_word word ≡ (if b then Some bytes else None)
spelt word bytes b read is = rw (needed faults.BadText (result_ok (decode_of word)) bytes read, is) refl

last_false : (a b c : Bool) → c ≡ false → (a && b && c) ≡ false
last_false true true c e = e
last_false true false c e = refl
last_false false b c e = refl

pub no_text : (word bytes : List ℕ) → is_utf8 bytes ≡ false → is_spelt word bytes ≡ false
no_text word bytes not = last_false (is_text (encode_lower bytes) word) (is_identifier bytes) (is_utf8 bytes) not

-- what failed did not succeed
pub is_err : {A E : Type 0} (r : Result A E) (e : E) → r ≡ Err e → IsOk r → ⊥
is_err (Ok x) e is ok = absurd cc
is_err (Err x) e is ok = absurd cc

-- ---- what the words stand for

abbrev some : (A : Type 0) → A → Option A
some A a = Some a

abbrev none : (A : Type 0) → Option A
none A = None

pub same_some : {A : Type 0} (x y : A) → some A x ≡ some A y → x ≡ y
same_some x y e = cc

pub not_some : {A X : Type 0} (a : A) → none A ≡ some A a → X
not_some a is = absurd cc

pub same_text : (s t : List ℕ) → is_text s t ≡ true → s ≡ t
same_text s t h = (bytes_eq-Decides s t).0 h

pub text_same : (s : List ℕ) → is_text s s ≡ true
text_same s = (bytes_eq-Decides s s).1 refl

-- what a list of words leads to has a property, if it follows from each word
chosen : {A : Type 0} (word name : List ℕ) (a x : A) (rest : Option A) (P : A → Type 0) → (word ≡ name → P a) → (rest ≡ Some x → P x)
    → (if is_text word name then Some a else rest) ≡ Some x → P x
chosen word name a x rest P here there is =
    elim (cases_Bool (is_text word name)) [
      | inl same ↦ subst P (same_some a x (rw same at is)) (here (same_text word name same))
      | inr other ↦ there (rw other at is)
    ]

no_word : {A : Type 0} (x : A) (P : A → Type 0) → None ≡ Some x → P x
no_word x P is = not_some x is

pub word_of_target : (word : List ℕ) (target : Target) → target_of_word word ≡ Some target → word ≡ target_word target
word_of_target word target is =
    let P : Target → Type 0 = λ t. word ≡ target_word t in
    chosen word (codes "created") Created target _ P (λ e. e) (
    chosen word (codes "active") Active target _ P (λ e. e) (
    chosen word (codes "revoked") Revoked target _ P (λ e. e) (
    chosen word (codes "destroyed") Destroyed target _ P (λ e. e) (
    chosen word (codes "discarded") Discarded target _ P (λ e. e) (no_word target P))))) is

pub target_of_its_word : (target : Target) → target_of_word (target_word target) ≡ Some target
target_of_its_word Created = refl
target_of_its_word Active = refl
target_of_its_word Revoked = refl
target_of_its_word Destroyed = refl
target_of_its_word Discarded = refl

-- how many steps are done
abbrev IsDone : List ℕ → ℕ → Type 0
IsDone word n = (word ≡ decimal n) × (n ≤ 4)

pub done_found : (word : List ℕ) (n : ℕ) → done_of_word word ≡ Some n → IsDone word n
done_found word n is =
    chosen word (codes "0") 0 n _ (IsDone word) (λ e. (e ∙ sym (decimal_digit 0 (lit< tt)), omega arith)) (
    chosen word (codes "1") 1 n _ (IsDone word) (λ e. (e ∙ sym (decimal_digit 1 (lit< tt)), omega arith)) (
    chosen word (codes "2") 2 n _ (IsDone word) (λ e. (e ∙ sym (decimal_digit 2 (lit< tt)), omega arith)) (
    chosen word (codes "3") 3 n _ (IsDone word) (λ e. (e ∙ sym (decimal_digit 3 (lit< tt)), omega arith)) (
    chosen word (codes "4") 4 n _ (IsDone word) (λ e. (e ∙ sym (decimal_digit 4 (lit< tt)), omega arith)) (no_word n (IsDone word)))))) is

pub done_read : (n : ℕ) → n ≤ 4 → done_of_word (decimal n) ≡ Some n
done_read zero h = ap done_of_word (decimal_digit 0 (lit< tt))
done_read (suc zero) h = ap done_of_word (decimal_digit 1 (lit< tt))
done_read (suc (suc zero)) h = ap done_of_word (decimal_digit 2 (lit< tt))
done_read (suc (suc (suc zero))) h = ap done_of_word (decimal_digit 3 (lit< tt))
done_read (suc (suc (suc (suc zero)))) h = ap done_of_word (decimal_digit 4 (lit< tt))
done_read (suc (suc (suc (suc (suc n))))) h = absurd (omega (arith, h))

-- the reason of a Revoke
abbrev is_reason : ℕ → Bool
is_reason r = r == 1 || r == 4 || r == 5 || r == 6 || r == 7

abbrev IsReason : List ℕ → ℕ → Type 0
IsReason word r = (word ≡ decimal r) × (is_reason r ≡ true)

reason_found : (word : List ℕ) (r : ℕ) → reason_of_word word ≡ Some r → IsReason word r
reason_found word r is =
    chosen word (codes "1") 1 r _ (IsReason word) (λ e. (e ∙ sym (decimal_digit 1 (lit< tt)), refl)) (
    chosen word (codes "4") 4 r _ (IsReason word) (λ e. (e ∙ sym (decimal_digit 4 (lit< tt)), refl)) (
    chosen word (codes "5") 5 r _ (IsReason word) (λ e. (e ∙ sym (decimal_digit 5 (lit< tt)), refl)) (
    chosen word (codes "6") 6 r _ (IsReason word) (λ e. (e ∙ sym (decimal_digit 6 (lit< tt)), refl)) (
    chosen word (codes "7") 7 r _ (IsReason word) (λ e. (e ∙ sym (decimal_digit 7 (lit< tt)), refl)) (no_word r (IsReason word)))))) is

-- what holds of the five reasons
pub of_reasons : (r : ℕ) (P : ℕ → Type 0) → is_reason r ≡ true → P 1 → P 4 → P 5 → P 6 → P 7 → P r
of_reasons r P is a b c d e =
    elim (or_cases (r == 1 || r == 4 || r == 5 || r == 6) (r == 7) is) [
      | inr seven ↦ subst P (sym (eqb-true r 7 seven)) e
      | inl four ↦
          elim (or_cases (r == 1 || r == 4 || r == 5) (r == 6) four) [
            | inr six ↦ subst P (sym (eqb-true r 6 six)) d
            | inl three ↦
                elim (or_cases (r == 1 || r == 4) (r == 5) three) [
                  | inr five ↦ subst P (sym (eqb-true r 5 five)) c
                  | inl two ↦
                      elim (or_cases (r == 1) (r == 4) two) [
                        | inl one ↦ subst P (sym (eqb-true r 1 one)) a
                        | inr next ↦ subst P (sym (eqb-true r 4 next)) b
                      ]
                ]
          ]
    ]

reason_read : (r : ℕ) → is_reason r ≡ true → reason_of_word (decimal r) ≡ Some r
reason_read r is =
    of_reasons r (λ n. reason_of_word (decimal n) ≡ Some n) is
    (ap reason_of_word (decimal_digit 1 (lit< tt)))
    (ap reason_of_word (decimal_digit 4 (lit< tt)))
    (ap reason_of_word (decimal_digit 5 (lit< tt)))
    (ap reason_of_word (decimal_digit 6 (lit< tt)))
    (ap reason_of_word (decimal_digit 7 (lit< tt)))

mapped : {A : Type 0} (x : Option A) (o : Option A) → option_map Some x ≡ Some o → (a : A) × (x ≡ Some a) × (Some a ≡ o)
mapped None o is = not_some o is
mapped (Some a) o is = (a, refl, same_some (Some a) o is)

-- a hyphen where there is no reason, a reason where there is one
hyphen_found : (word : List ℕ) (o : Option ℕ) → (if is_text word (codes "-") then Some None else None) ≡ Some o → (word ≡ reason_word o) × (None ≡ o)
hyphen_found word o is =
    chosen word (codes "-") None o None (λ x. (word ≡ reason_word x) × (None ≡ x)) (λ e. (e, refl)) (no_word o (λ x. (word ≡ reason_word x) × (None ≡ x))) is

code_found : (word : List ℕ) (o : Option ℕ) → option_map Some (reason_of_word word) ≡ Some o → (word ≡ reason_word o) × ((r : ℕ) × (is_reason r ≡ true) × (Some r ≡ o))
code_found word o is =
    let (r, read, same) = mapped (reason_of_word word) o is in
    let (word_is, fits) = reason_found word r read in
    (word_is ∙ ap reason_word same, (r, fits, same))

abbrev IsReasonIn : Target → List ℕ → Option ℕ → Type 0
IsReasonIn target word o = (word ≡ reason_word o) × (reason_stands Two target o ≡ true)

without : (target : Target) (word : List ℕ) (o : Option ℕ) → is_revoked target ≡ false → reason_in target word ≡ Some o → IsReasonIn target word o
without target word o never is =
    let (word_is, none_is) = hyphen_found word o (rw never at is) in
    (word_is, subst (λ x. reason_stands Two target x ≡ true) none_is (ap not never))

with_one : (target : Target) (word : List ℕ) (o : Option ℕ) → is_revoked target ≡ true → reason_in target word ≡ Some o → IsReasonIn target word o
with_one target word o revoked is =
    let (word_is, (r, fits, same)) = code_found word o (rw revoked at is) in
    (word_is, subst (λ x. reason_stands Two target x ≡ true) same (rw (revoked, fits) refl))

pub reason_in_found : (target : Target) (word : List ℕ) (o : Option ℕ) → reason_in target word ≡ Some o → IsReasonIn target word o
reason_in_found Created word o is = without Created word o refl is
reason_in_found Active word o is = without Active word o refl is
reason_in_found Revoked word o is = with_one Revoked word o refl is
reason_in_found Destroyed word o is = with_one Destroyed word o refl is
reason_in_found Discarded word o is = without Discarded word o refl is

pub reason_in_read : (target : Target) (o : Option ℕ) → reason_stands Two target o ≡ true → reason_in target (reason_word o) ≡ Some o
reason_in_read Created None h = refl
reason_in_read Active None h = refl
reason_in_read Revoked None h = absurd cc
reason_in_read Destroyed None h = absurd cc
reason_in_read Discarded None h = refl
reason_in_read Created (Some r) h = absurd cc
reason_in_read Active (Some r) h = absurd cc
reason_in_read Revoked (Some r) h = ap (option_map Some) (reason_read r h)
reason_in_read Destroyed (Some r) h = ap (option_map Some) (reason_read r h)
reason_in_read Discarded (Some r) h = absurd cc

pub stands_reason : (target : Target) (r : ℕ) → reason_stands Two target (Some r) ≡ true → is_reason r ≡ true
stands_reason Created r h = absurd cc
stands_reason Active r h = absurd cc
stands_reason Revoked r h = h
stands_reason Destroyed r h = h
stands_reason Discarded r h = absurd cc

-- ---- identifiers

-- a value that was found, and then passed a test
pub passed : {A : Type 0} (test : A → Bool) (b : Bool) (a x : A) → test a ≡ b → (if b then Some a else None) ≡ Some x → (a ≡ x) × (test a ≡ true)
passed test true a x h e = (same_some a x e, h)
passed test false a x h e = not_some x e

pub passes : {A : Type 0} (test : A → Bool) (a : A) → test a ≡ true → if_so test a ≡ Some a
passes test a h = rw h refl

-- what an identifier is
abbrev pub is_lawful : Option (List ℕ) → Bool
is_lawful o = option_map_or is_identifier o true && option_map_or is_utf8 o true

decoded : (r : Result (List ℕ) FromHexError) (word u : List ℕ) → option_and_then (if_so (is_spelt word)) (result_ok r) ≡ Some u → is_spelt word u ≡ true
decoded (Ok bytes) word u is =
    let (same, fits) = passed (is_spelt word) (is_spelt word bytes) bytes u refl is in
    ap (is_spelt word) (sym same) ∙ fits
decoded (Err fault) word u is = not_some u is

abbrev IsIdentifierIn : List ℕ → Option (List ℕ) → Type 0
IsIdentifierIn word o = (word ≡ identifier_word o) × (is_lawful o ≡ true)

spelt_found : (word u : List ℕ) → identifier_of_word word ≡ Some u → IsIdentifierIn word (Some u)
spelt_found word u is =
    let fits = decoded (decode_of word) word u is in
    let p = and_parts (is_text (encode_lower u) word && is_identifier u) (is_utf8 u) fits in
    let q = and_parts (is_text (encode_lower u) word) (is_identifier u) p.0 in
    (sym (same_text (encode_lower u) word q.0), and_from (is_identifier u) (is_utf8 u) q.1 p.1)

pub identifier_found : (word : List ℕ) (o : Option (List ℕ)) → identifier_in word ≡ Some o → IsIdentifierIn word o
identifier_found word o is =
    chosen word (codes "-") None o _ (IsIdentifierIn word) (λ e. (e, refl)) (λ found.
    let (u, read, same) = mapped (identifier_of_word word) o found in
    subst (IsIdentifierIn word) same (spelt_found word u read)) is

-- hexadecimal is no hyphen: it has an even length
no_hyphen : (u : List ℕ) → is_text (encode_lower u) (codes "-") ≡ false
no_hyphen u = false_from_ne_true (is_text (encode_lower u) (codes "-")) (λ is.
    let long = ap (λ (s : List ℕ). length s) (same_text (encode_lower u) (codes "-") is) in
    omega (arith, long, length-encode_with lower_digits u))

pub identifier_read : (o : Option (List ℕ)) → is_lawful o ≡ true → identifier_in (identifier_word o) ≡ Some o
identifier_read None h = refl
identifier_read (Some u) h =
    let p = and_parts (is_identifier u) (is_utf8 u) h in
    let back : decode_of (encode_lower u) ≡ Ok u = decode_of-encode_lower u (bytes_at u (utf8_bytes u p.1)) in
    let fits : is_spelt (encode_lower u) u ≡ true =
    and_from (is_text (encode_lower u) (encode_lower u) && is_identifier u) (is_utf8 u)
    (and_from (is_text (encode_lower u) (encode_lower u)) (is_identifier u) (text_same (encode_lower u)) p.0) p.1 in
    let read : identifier_of_word (encode_lower u) ≡ Some u =
    ap (λ r. option_and_then (if_so (is_spelt (encode_lower u))) (result_ok r)) back ∙ passes (is_spelt (encode_lower u)) u fits in
    rw (no_hyphen u, read) refl
