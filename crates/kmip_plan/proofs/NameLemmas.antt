-- The keys of a plan by their names, and what each of them fits.
use Rattle.std.proofs.Common.{◌≡◌, ℕ, zero, suc, Bool, true, false, ◌||◌, ◌==◌, List, [], ◌∷◌, ◌++◌, Option, Some, None, IfSome, Bor, cond, subst, refl, sym, ap, ◌∙◌, inl, inr, if◌then◌else◌}
use Rattle.std.proofs.lemmas.Bool.{and_parts, or_parts, or_cases, cases_Bool, eqb-true}
use Rattle.std.proofs.lemmas.List.Folds.{list_any-append}
use Rattle.std.proofs.lemmas.Map.Text.{hash_set_updates_text}
use Rattle.std.proofs.lemmas.Slice.Eq.{bytes_eq-Decides}
use Rattle.std.specs.Cmp.Lexicographic.{nat_list_eq_equiv}
use Rattle.std.specs.HashSet.{HashSet, contains_text, Updates}
use Rattle.std.specs.List.{list_all, slice_get}
use Rattle.std.specs.Option.{option_copied}
use Rattle.std.specs.String.{string_bytes, string_eq}
use Rattle.std.specs.declared.string.String.{String}
use Rattle.kmip_objects.specs.Ranges.{attrs_fit, is_compromise}
use Rattle.kmip_plan.specs.declared.key.Key.{Key}
use Rattle.kmip_plan.specs.Chains.{is_revoked}
use Rattle.kmip_plan.specs.PrivateNames.{AreNamesOf}
use Rattle.kmip_plan.specs.Plans.{HaveNewNames, reason_fits, key_fits, key_named}
use Rattle.kmip_plan.specs.Reading.{has_key_named}
use Rattle.kmip_plan.specs.TargetWords.{is_text}
use Rattle.std.proofs.lemmas.Option.{same_Some}
use Rattle.kmip_plan.proofs.OptionLemmas.{not_some}

abbrev has_name : List ℕ → Key → Bool
has_name name k = is_text name k.attrs.name

same_name : (s t : List ℕ) → is_text s t ≡ true → s ≡ t
same_name s t h = (bytes_eq-Decides s t).0 h

own_name : (s t : List ℕ) → s ≡ t → is_text s t ≡ true
own_name s t h = (bytes_eq-Decides s t).1 h

apart : {X : Type 0} (b : Bool) → b ≡ true → b ≡ false → X
apart b is other = absurd cc

-- no key before has the name of one that stands after them
new_at : (before keys : List Key) (place : ℕ) (key : Key) → HaveNewNames before keys → slice_get keys place ≡ Some key → has_key_named key.attrs.name before ≡ false
new_at before [] place key new is = not_some key is
new_at before (k ∷ ks) zero key new is = subst (λ x. has_key_named x.attrs.name before ≡ false) (same_Some k key is) new.0
new_at before (k ∷ ks) (suc place) key new is =
    (or_parts (has_key_named key.attrs.name before) (has_key_named key.attrs.name (k ∷ []))
    (sym (list_any-append (has_name key.attrs.name) before (k ∷ [])) ∙ new_at (before ++ k ∷ []) ks place key new.1 is)).0

-- nor has the key just before them
other_at : (before keys : List Key) (k : Key) (place : ℕ) (key : Key) → HaveNewNames (before ++ k ∷ []) keys → slice_get keys place ≡ Some key
    → is_text key.attrs.name k.attrs.name ≡ false
other_at before keys k place key new is =
    (or_parts (is_text key.attrs.name k.attrs.name) false
    (or_parts (has_key_named key.attrs.name before) (has_key_named key.attrs.name (k ∷ []))
    (sym (list_any-append (has_name key.attrs.name) before (k ∷ [])) ∙ new_at (before ++ k ∷ []) keys place key new is)).1).0

pub found_at : (before keys : List Key) (place : ℕ) (key : Key) → HaveNewNames before keys → slice_get keys place ≡ Some key → key_named key.attrs.name keys ≡ Some key
found_at before [] place key new is = not_some key is
found_at before (k ∷ ks) zero key new is =
    let same = same_Some k key is in
    let own = own_name key.attrs.name k.attrs.name (ap (λ (x : Key). x.attrs.name) (sym same)) in
    ap (λ b. cond b (Some k) (key_named key.attrs.name ks)) own ∙ is
found_at before (k ∷ ks) (suc place) key new is =
    ap (λ b. cond b (Some k) (key_named key.attrs.name ks)) (other_at before ks k place key new.1 is)
    ∙ found_at (before ++ k ∷ []) ks place key new.1 is

pub distinct_at : (before keys : List Key) (i j : ℕ) (key other : Key) → HaveNewNames before keys → slice_get keys i ≡ Some key → slice_get keys j ≡ Some other
    → key.attrs.name ≡ other.attrs.name → i ≡ j
distinct_at before [] i j key other new here there same = not_some key here
distinct_at before (k ∷ ks) zero zero key other new here there same = refl
distinct_at before (k ∷ ks) zero (suc j) key other new here there same =
    let first : k.attrs.name ≡ key.attrs.name = ap (λ (x : Key). x.attrs.name) (same_Some k key here) in
    apart (is_text other.attrs.name k.attrs.name) (own_name other.attrs.name k.attrs.name (sym same ∙ sym first)) (other_at before ks k j other new.1 there)
distinct_at before (k ∷ ks) (suc i) zero key other new here there same =
    let first : k.attrs.name ≡ other.attrs.name = ap (λ (x : Key). x.attrs.name) (same_Some k other there) in
    apart (is_text key.attrs.name k.attrs.name) (own_name key.attrs.name k.attrs.name (same ∙ sym first)) (other_at before ks k i key new.1 here)
distinct_at before (k ∷ ks) (suc i) (suc j) key other new here there same =
    ap suc (distinct_at (before ++ k ∷ []) ks i j key other new.1 here there same)

-- what is found has the name, and stands at a place
abbrev StandsNamed : List Key → List ℕ → Key → Type 0
StandsNamed keys name key = (key.attrs.name ≡ name) × ((place : ℕ) × (slice_get keys place ≡ Some key))

here_named : (k : Key) (ks : List Key) (name : List ℕ) (key : Key) → is_text name k.attrs.name ≡ true → k ≡ key → StandsNamed (k ∷ ks) name key
here_named k ks name key has same =
    (ap (λ (x : Key). x.attrs.name) (sym same) ∙ sym (same_name name k.attrs.name has), (0, ap Some same))

pub found_stands : (keys : List Key) (name : List ℕ) (key : Key) → key_named name keys ≡ Some key → StandsNamed keys name key
found_stands [] name key is = not_some key is
found_stands (k ∷ ks) name key is =
    elim (cases_Bool (is_text name k.attrs.name)) [
      | inl has ↦ here_named k ks name key has (same_Some k key (rw has at is))
      | inr not ↦
          let rest = found_stands ks name key (rw not at is) in
          (rest.0, (suc rest.1.0, rest.1.1))
    ]

-- ---- the ranges

pub fits_at : (keys : List Key) (place : ℕ) (key : Key) → list_all key_fits keys ≡ true → slice_get keys place ≡ Some key → key_fits key ≡ true
fits_at [] place key fit is = not_some key is
fits_at (k ∷ ks) zero key fit is = ap key_fits (sym (same_Some k key is)) ∙ (and_parts (key_fits k) (list_all key_fits ks) fit).0
fits_at (k ∷ ks) (suc place) key fit is = fits_at ks place key (and_parts (key_fits k) (list_all key_fits ks) fit).1 is

-- a key that was taken out of a plan, by its place or by its name
pub taken_fits : (r : Option (Bor Key)) (found : Option Key) → option_copied r ≡ found → ((key : Key) → found ≡ Some key → key_fits key ≡ true)
    → IfSome r (λ key. key_fits key.now ≡ true)
taken_fits None found is fits = tt
taken_fits (Some key) found is fits = fits key.now (sym is)

pub named_fits : (keys : List Key) (name : List ℕ) (key : Key) → list_all key_fits keys ≡ true → key_named name keys ≡ Some key → key_fits key ≡ true
named_fits keys name key fit is =
    let stands = (found_stands keys name key is).1 in
    fits_at keys stands.0 key fit stands.1

-- a code is none of the two compromises where it is one that is not
as_code : (code r : ℕ) → (r == code) ≡ true → is_compromise code ≡ false → is_compromise r ≡ false
as_code code r is fine = ap is_compromise (eqb-true r code is) ∙ fine

one_of_five : (r : ℕ) → (r == 1 || r == 4 || r == 5 || r == 6 || r == 7) ≡ true → is_compromise r ≡ false
one_of_five r fits =
    elim (or_cases (r == 1 || r == 4 || r == 5 || r == 6) (r == 7) fits) [
      | inr seven ↦ as_code 7 r seven refl
      | inl others ↦ elim (or_cases (r == 1 || r == 4 || r == 5) (r == 6) others) [
        | inr six ↦ as_code 6 r six refl
        | inl fewer ↦ elim (or_cases (r == 1 || r == 4) (r == 5) fewer) [
          | inr five ↦ as_code 5 r five refl
          | inl two ↦ elim (or_cases (r == 1) (r == 4) two) [
            | inr four ↦ as_code 4 r four refl
            | inl one ↦ as_code 1 r one refl
          ]
        ]
      ]
    ]

no_reason : (revoked : Bool) (r : ℕ) → (if revoked then r == 1 || r == 4 || r == 5 || r == 6 || r == 7 else r == 0) ≡ true → is_compromise r ≡ false
no_reason true r fits = one_of_five r fits
no_reason false r fits = as_code 0 r fits refl

pub no_compromise : (key : Key) → key_fits key ≡ true → is_compromise key.reason ≡ false
no_compromise key fits = no_reason (is_revoked key.target) key.reason (and_parts (attrs_fit key.attrs) (reason_fits key.target key.reason) fits).1

-- ---- the set of names

-- one of two that is looked at first or last
either : (b x : Bool) → cond b true x ≡ (x || (b || false))
either true true = refl
either true false = refl
either false true = refl
either false false = refl

-- a set with the name of one key more
pub names_more : {A S : Type 0} (old new : HashSet (String A) S) (keys : List Key) (key : Key) (name : String A)
    → AreNamesOf old keys → string_bytes name ≡ key.attrs.name → Updates string_eq old new name true
    → AreNamesOf new (keys ++ key ∷ [])
names_more old new keys key name are is updates text =
    hash_set_updates_text (string_bytes name) old new true updates text
    ∙ ap (λ own. cond (is_text own text) true (contains_text old text)) is
    ∙ ap (λ b. cond b true (contains_text old text)) (nat_list_eq_equiv.symm key.attrs.name text)
    ∙ ap (λ b. cond (is_text text key.attrs.name) true b) (are text)
    ∙ either (is_text text key.attrs.name) (has_key_named text keys)
    ∙ sym (list_any-append (has_name text) keys (key ∷ []))
