-- The first lines of a text say what is known now, and the others what was known before.
use Rattle.std.proofs.Common.{◌≡◌, ◌≢◌, ◌≤◌, ◌<◌, ◌+◌, ◌&&◌, ℕ, zero, suc, Bool, true, nat_le, List, [], ◌∷◌, ◌++◌}
use Rattle.std.proofs.Common.{length, map, take, drop}
use Rattle.std.proofs.Common.{slice_get, Option, Some, None, refl, sym, ap, subst, ◌∙◌, arith, is_some}
use Rattle.std.specs.Prelude.{slice_set, IfOk, OnOk, Result, Ok, Err}
use Rattle.std.specs.List.{AllZip, list_all}
use Rattle.std.proofs.lemmas.Bool.{and_parts}
use Rattle.std.proofs.lemmas.List.{length-map}
use Rattle.kmip_plan.specs.declared.key.Key.{Key}
use Rattle.kmip_progress.specs.Laws.{SavedLinesAreTrue}
use Rattle.kmip_progress.specs.Saved.{IsSavedText, SavedState, saved_of, says_at}
use Rattle.kmip_progress.specs.Suiting.{Suits, are_texts, has_text, is_known, known_fits}
use Rattle.kmip_progress.specs.declared.known.Known.{Known}
use Rattle.kmip_client.specs.declared.knowledge.Knowledge.{Knowledge}
use Rattle.kmip_client.specs.Knowledge.{chain_length}
use Rattle.kmip_client.specs.Clients.{ClientState}
use Rattle.kmip_client.specs.KeepingUp.{IsTextOf, WasTextOf}
use Rattle.kmip_client.specs.Private.{IsShaped, WasTextBefore}
use Rattle.kmip_client.specs.Saving.{known_of, progress}
use Rattle.kmip_client.specs.Shapes.{IsKept}
use Rattle.kmip_client.proofs.SavingLemmas.{all_suit}

-- the first elements of one list, and the others of another
abbrev pub mixed : {A : Type 0} → List A → List A → ℕ → List A
mixed now before place = take place now ++ drop place before

pub mixed_none : {A : Type 0} (now before : List A) → mixed now before 0 ≡ before
mixed_none [] [] = refl
mixed_none [] (y ∷ ys) = refl
mixed_none (x ∷ xs) [] = refl
mixed_none (x ∷ xs) (y ∷ ys) = refl

pub mixed_all : {A : Type 0} (now before : List A) → length before ≡ length now → mixed now before (length now) ≡ now
mixed_all [] [] long = refl
mixed_all [] (y ∷ ys) long = absurd cc
mixed_all (x ∷ xs) [] long = absurd cc
mixed_all (x ∷ xs) (y ∷ ys) long = ap (λ rest. x ∷ rest) (mixed_all xs ys (omega (arith, long)))

-- the next element is one of the other list
pub mixed_next : {A : Type 0} (now before : List A) (place : ℕ) → length before ≡ length now → place < length now
    → slice_get (mixed now before place) place ≡ slice_get before place
mixed_next [] before place long below = absurd (omega (arith, below))
mixed_next (x ∷ xs) [] place long below = absurd cc
mixed_next (x ∷ xs) (y ∷ ys) zero long below = refl
mixed_next (x ∷ xs) (y ∷ ys) (suc place) long below =
    mixed_next xs ys place (omega (arith, long)) (omega (arith, below))

-- which is put in its place
pub mixed_set : {A : Type 0} (now before : List A) (place : ℕ) (x : A) → length before ≡ length now
    → slice_get now place ≡ Some x → slice_set (mixed now before place) place x ≡ mixed now before (suc place)
mixed_set [] before place x long at = absurd cc
mixed_set (x ∷ xs) [] place y long at = absurd cc
mixed_set (x ∷ xs) (y ∷ ys) zero z long at =
    let same : x ≡ z = cc in
    ap (λ (first : _). first ∷ ys) (sym same)
mixed_set (x ∷ xs) (y ∷ ys) (suc place) z long at =
    ap (λ rest. x ∷ rest) (mixed_set xs ys place z (omega (arith, long)) at)

-- or is the same
pub mixed_same : {A : Type 0} (now before : List A) (place : ℕ) (x : A) → length before ≡ length now
    → slice_get now place ≡ Some x → slice_get before place ≡ Some x
    → mixed now before place ≡ mixed now before (suc place)
mixed_same [] before place x long at was = absurd cc
mixed_same (x ∷ xs) [] place y long at was = absurd cc
mixed_same (x ∷ xs) (y ∷ ys) zero z long at was =
    let first : x ≡ z = cc in
    let second : y ≡ z = cc in
    ap (λ w. w ∷ ys) (second ∙ sym first)
mixed_same (x ∷ xs) (y ∷ ys) (suc place) z long at was =
    ap (λ rest. x ∷ rest) (mixed_same xs ys place z (omega (arith, long)) at was)

-- what suits before and now suits in between
pub mixed_suits : {A B : Type 0} (P : A → B → Type 0) (keys : List A) (now before : List B) (place : ℕ)
    → AllZip P keys now → AllZip P keys before → AllZip P keys (mixed now before place)
mixed_suits P [] [] [] zero new old = tt
mixed_suits P [] [] [] (suc place) new old = tt
mixed_suits P [] [] (y ∷ ys) place new old = absurd old
mixed_suits P [] (x ∷ xs) before place new old = absurd new
mixed_suits P (k ∷ ks) [] before place new old = absurd new
mixed_suits P (k ∷ ks) (x ∷ xs) [] place new old = absurd old
mixed_suits P (k ∷ ks) (x ∷ xs) (y ∷ ys) zero new old = old
mixed_suits P (k ∷ ks) (x ∷ xs) (y ∷ ys) (suc place) new old = (new.0, mixed_suits P ks xs ys place new.1 old.1)

-- ---- what is known

pub as_long : {A B : Type 0} (P : A → B → Type 0) (xs : List A) (ys : List B) → AllZip P xs ys → length xs ≡ length ys
as_long P [] [] all = refl
as_long P [] (y ∷ ys) all = absurd all
as_long P (x ∷ xs) [] all = absurd all
as_long P (x ∷ xs) (y ∷ ys) all = ap suc (as_long P xs ys all.1)

pub at_both : {A B : Type 0} (P : A → B → Type 0) (xs : List A) (ys : List B) (place : ℕ) (y : B) → AllZip P xs ys
    → slice_get ys place ≡ Some y → (x : A) × (slice_get xs place ≡ Some x) × P x y
at_both P [] [] place y all at = absurd cc
at_both P [] (z ∷ ys) place y all at = absurd all
at_both P (x ∷ xs) [] place y all at = absurd all
at_both P (x ∷ xs) (z ∷ ys) zero y all at =
    let same : z ≡ y = cc in
    (x, refl, subst (P x) same all.0)
at_both P (x ∷ xs) (z ∷ ys) (suc place) y all at = at_both P xs ys place y all.1 at

pub mapped : {A B : Type 0} (f : A → B) (xs : List A) (place : ℕ) (x : A) → slice_get xs place ≡ Some x
    → slice_get (map f xs) place ≡ Some (f x)
mapped f [] place x at = absurd cc
mapped f (y ∷ ys) zero x at =
    let same : y ≡ x = cc in
    ap (λ z. Some (f z)) same
mapped f (y ∷ ys) (suc place) x at = mapped f ys place x at

same_identifier : (old new : Option (List ℕ)) → ((uid : List ℕ) → old ≡ Some uid → new ≡ Some uid)
    → is_some old ≡ is_some new
    → old ≡ new
same_identifier None None kept both = refl
same_identifier None (Some uid) kept both = absurd cc
same_identifier (Some uid) new kept both = sym (kept uid refl)

-- what a line says that says no more is what is known
pub no_more : (old new : Knowledge) → IsKept old new → old.done ≡ new.done
    → is_some old.identifier ≡ is_some new.identifier → known_of old ≡ known_of new
no_more old new kept done both =
    let identifier = same_identifier old.identifier new.identifier kept.identifier_kept both in
    rw (identifier, done) refl

-- so far the text was brought up
pub record IsBroughtTo (keys : List Key) (knowns : List Knowledge) (place : ℕ) (saved : SavedState) : Type 0 where
  pub before : List Knowledge
  pub is : saved ≡ saved_of keys (mixed (map known_of knowns) (map known_of before) place)
  pub suits : Suits keys (map known_of before)
  pub texts : are_texts (map known_of before) ≡ true
  pub kept : AllZip IsKept before knowns
  pub told : are_texts (take place (map known_of knowns)) ≡ true

-- ---- one line more

slice_get_below : {A : Type 0} (xs : List A) (place : ℕ) (x : A) → slice_get xs place ≡ Some x → place < length xs
slice_get_below [] place x at = absurd cc
slice_get_below (y ∷ ys) zero x at = omega arith
slice_get_below (y ∷ ys) (suc place) x at = let less = slice_get_below ys place x at in omega (arith, less)

told_more : (P : Known → Bool) (xs : List Known) (place : ℕ) (x : Known) → slice_get xs place ≡ Some x
    → list_all P (take place xs) ≡ true → P x ≡ true → list_all P (take (suc place) xs) ≡ true
told_more P [] place x at told is = absurd cc
told_more P (y ∷ ys) zero x at told is =
    let same : y ≡ x = cc in
    subst (λ z. (P z && true) ≡ true) (sym same) (rw is refl)
told_more P (y ∷ ys) (suc place) x at told is =
    let parts = and_parts (P y) (list_all P (take place ys)) told in
    rw (parts.0, told_more P ys place x at parts.1 is) refl

told_at : (P : Known → Bool) (xs : List Known) (place : ℕ) (x : Known) → slice_get xs place ≡ Some x
    → list_all P xs ≡ true → P x ≡ true
told_at P [] place x at all = absurd cc
told_at P (y ∷ ys) zero x at all =
    let same : y ≡ x = cc in
    subst (λ z. P z ≡ true) same (and_parts (P y) (list_all P ys) all).0
told_at P (y ∷ ys) (suc place) x at all = told_at P ys place x at (and_parts (P y) (list_all P ys) all).1

module _ (keys : List Key) (knowns : List Knowledge) (shaped : AllZip IsShaped keys knowns) (place : ℕ)
    (known : Knowledge) (at : slice_get knowns place ≡ Some known) (saved : SavedState)
    (so : IsBroughtTo keys knowns place saved) where
  below : place < length knowns
  below = slice_get_below knowns place known at

  pub within : place < length keys
  within = let long = as_long IsShaped keys knowns shaped in omega (arith, below, long)

  now_long : length (map known_of so.before) ≡ length (map known_of knowns)
  now_long =
      length-map so.before known_of ∙ as_long IsKept so.before knowns so.kept ∙ sym (length-map knowns known_of)

  suits_now : Suits keys (mixed (map known_of knowns) (map known_of so.before) place)
  suits_now =
      mixed_suits (λ key one. known_fits key one ≡ true) keys (map known_of knowns) (map known_of so.before) place
      (all_suit keys knowns shaped) so.suits

  pub fits : IsSavedText keys saved
  fits = record {
    progress = mixed (map known_of knowns) (map known_of so.before) place;
    suits = suits_now;
    is = so.is;
  }

  pub may_be_known : is_known (known_of known) ≡ true
  may_be_known =
      let found = at_both (λ key one. known_fits key one ≡ true) keys (map known_of knowns) place (known_of known)
      (all_suit keys knowns shaped) (mapped known_of knowns place known at) in
      (and_parts (nat_le known.done (chain_length found.0)) (is_known (known_of known)) found.2).1

  brought : (new : SavedState)
      → new ≡ saved_of keys (mixed (map known_of knowns) (map known_of so.before) (suc place))
      → has_text (known_of known) ≡ true → IsBroughtTo keys knowns (place + 1) new
  brought new is text =
      let further : suc place ≡ place + 1 = omega arith in
      subst (λ n. IsBroughtTo keys knowns n new) further
      (record {
        before = so.before;
        is = is;
        suits = so.suits;
        texts = so.texts;
        kept = so.kept;
        told = told_more has_text (map known_of knowns) place (known_of known) (mapped known_of knowns place known at)
            so.told text;
      })

  -- the line was written anew
  pub brought_anew : (new : SavedState)
      → ((progress : List Known) → Suits keys progress → saved ≡ saved_of keys progress
      → new ≡ saved_of keys (slice_set progress place (known_of known)))
      → has_text (known_of known) ≡ true → IsBroughtTo keys knowns (place + 1) new
  brought_anew new set text =
      brought new
      (set (mixed (map known_of knowns) (map known_of so.before) place) suits_now so.is
      ∙ ap (saved_of keys) (mixed_set (map known_of knowns) (map known_of so.before) place (known_of known) now_long
      (mapped known_of knowns place known at))) text

  -- or it says what is known
  pub brought_still : SavedLinesAreTrue → says_at saved.lines place known.done (is_some known.identifier) ≡ true
      → IsBroughtTo keys knowns (place + 1) saved
  brought_still law says =
      let old = at_both IsKept so.before knowns place known so.kept at in
      let was = mapped known_of so.before place old.0 old.1 in
      let line = law keys (mixed (map known_of knowns) (map known_of so.before) place) place known.done
      (is_some known.identifier) (known_of old.0) within
      (mixed_next (map known_of knowns) (map known_of so.before) place now_long
      (let long = length-map knowns known_of in omega (arith, below, long)) ∙ was)
      (subst (λ (s : SavedState). says_at s.lines place known.done (is_some known.identifier) ≡ true) so.is says) in
      let same = no_more old.0 known old.2 line.0 line.1 in
      brought saved
      (so.is ∙ ap (saved_of keys) (mixed_same (map known_of knowns) (map known_of so.before) place (known_of known)
      now_long (mapped known_of knowns place known at) (was ∙ ap (λ one. Some one) same)))
      (subst (λ one. has_text one ≡ true) same (told_at has_text (map known_of so.before) place (known_of old.0) was
      so.texts))

-- the whole text was brought up
pub brought_up : (keys : List Key) (knowns : List Knowledge) (place : ℕ) (saved : SavedState) → place ≡ length knowns
    → IsBroughtTo keys knowns place saved → saved ≡ saved_of keys (map known_of knowns)
brought_up keys knowns place saved all so =
    let now_long = length-map so.before known_of ∙ as_long IsKept so.before knowns so.kept
    ∙ sym (length-map knowns known_of) in
    so.is
    ∙ ap (λ n. saved_of keys (mixed (map known_of knowns) (map known_of so.before) n))
    (all ∙ sym (length-map knowns known_of))
    ∙ ap (saved_of keys) (mixed_all (map known_of knowns) (map known_of so.before) now_long)

-- ---- a client's text

-- the text of a progress is that of the client that it is of
pub text_made : {E : Type 0} (c : ClientState) (keys : List Key) (saved : List Known) (r : Result SavedState E)
    → keys ≡ c.keys
    → saved ≡ progress c → Suits c.keys saved → IfOk r (λ text. text ≡ saved_of keys saved)
    → OnOk r (are_texts saved ≡ true) → IfOk r (λ text. IsTextOf c text)
text_made c keys saved (Ok text) same_keys same suits is texts = record {
  is = is ∙ ap (λ ks. saved_of ks saved) same_keys ∙ ap (saved_of c.keys) same;
  suits = subst (Suits c.keys) same suits;
  texts = subst (λ known. are_texts known ≡ true) same texts;
}
text_made c keys saved (Err fault) same_keys same suits is texts = tt

pub was_before : (c : ClientState) (saved : SavedState) (keys : List Key) (knowns : List Knowledge) → c.keys ≡ keys
    → c.knowns ≡ knowns → WasTextOf c saved → WasTextBefore keys knowns saved
was_before c saved keys knowns same_keys same was =
    let keys_are = was.same_keys ∙ same_keys in
    record {
      before = was.before.knowns;
      is = was.was.is ∙ ap (λ ks. saved_of ks (map known_of was.before.knowns)) keys_are;
      suits = subst (λ ks. Suits ks (map known_of was.before.knowns)) keys_are was.was.suits;
      texts = was.was.texts;
      kept = subst (AllZip IsKept was.before.knowns) same was.kept;
    }

pub text_brought : {A E : Type 0} (c : ClientState) (saved : SavedState) (keys : List Key) (knowns : List Knowledge)
    (r : Result A E) → keys ≡ c.keys → knowns ≡ c.knowns → AllZip IsShaped keys knowns
    → OnOk r (saved ≡ saved_of keys (map known_of knowns)) → OnOk r (are_texts (map known_of knowns) ≡ true)
    → OnOk r (IsTextOf c saved)
text_brought c saved keys knowns (Ok done) same_keys same shaped is texts = record {
  is = is ∙ ap (λ ks. saved_of ks (map known_of knowns)) same_keys ∙ ap (λ ks. saved_of c.keys (map known_of ks)) same;
  suits = subst (λ ks. Suits c.keys (map known_of ks)) same
      (subst (λ ks. Suits ks (map known_of knowns)) same_keys (all_suit keys knowns shaped));
  texts = subst (λ ks. are_texts (map known_of ks) ≡ true) same texts;
}
text_brought c saved keys knowns (Err fault) same_keys same shaped is texts = tt
