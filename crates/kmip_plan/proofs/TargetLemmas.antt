-- The words of the targets, and what they stand for; for the lemma files of kmip_plan too, where no call stands near.
use Rattle.std.proofs.Common.{◌≡◌, ℕ, true, List, codes, Option, Some, None, if◌then◌else◌, subst, refl, inl, inr}
use Rattle.std.proofs.lemmas.Bool.{cases_Bool}
use Rattle.std.proofs.lemmas.Slice.Eq.{bytes_eq-Decides}
use Rattle.kmip_plan.specs.declared.target.Target.{Target}
use Rattle.kmip_plan.specs.declared.target.Target.TheVariants.{Created, Active, Revoked, Destroyed, Discarded}
use Rattle.kmip_plan.specs.TargetWords.{is_text, target_word, target_of_word}
use Rattle.kmip_plan.proofs.ChainLemmas.{same_some, not_some}

same_text : (s t : List ℕ) → is_text s t ≡ true → s ≡ t
same_text s t h = (bytes_eq-Decides s t).0 h

-- what a list of words leads to has a property, if it follows from each word
chosen : {A : Type 0} (word name : List ℕ) (a x : A) (rest : Option A) (P : A → Type 0) → (word ≡ name → P a) → (rest ≡ Some x → P x)
    → (if is_text word name then Some a else rest) ≡ Some x → P x
chosen word name a x rest P here there is =
    elim (cases_Bool (is_text word name)) [
      | inl same ↦ subst P (same_some a x (rw same at is)) (here (same_text word name same))
      | inr other ↦ there (rw other at is)
    ]

no_word : {A : Type 0} (x : A) (P : A → Type 0) → None ≡ Some x → P x
no_word x P is = not_some x is

pub word_of_target : (word : List ℕ) (target : Target) → target_of_word word ≡ Some target → word ≡ target_word target
word_of_target word target is =
    let P : Target → Type 0 = λ t. word ≡ target_word t in
    chosen word (codes "created") Created target _ P (λ e. e) (
    chosen word (codes "active") Active target _ P (λ e. e) (
    chosen word (codes "revoked") Revoked target _ P (λ e. e) (
    chosen word (codes "destroyed") Destroyed target _ P (λ e. e) (
    chosen word (codes "discarded") Discarded target _ P (λ e. e) (no_word target P))))) is

pub target_of_its_word : (target : Target) → target_of_word (target_word target) ≡ Some target
target_of_its_word Created = refl
target_of_its_word Active = refl
target_of_its_word Revoked = refl
target_of_its_word Destroyed = refl
target_of_its_word Discarded = refl
