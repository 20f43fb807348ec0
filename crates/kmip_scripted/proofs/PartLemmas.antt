-- The words before and behind `prolong`, and the run that it saves.
use Rattle.std.proofs.Common.{◌≡◌, ◌≤◌, ◌+◌, ℕ, suc, Bool, true, false, List, [], ◌∷◌, ◌++◌, drop, take, length, ltb, Some, None, refl, sym, ap, ◌∙◌, inl, inr, arith}
use Rattle.std.specs.List.{position, position_or_len}
use Rattle.std.proofs.lemmas.Bool.{cases_Bool, cond-true, ltb-false}
use Rattle.std.proofs.lemmas.List.{drop_all, take_all}
use Rattle.std.proofs.lemmas.Option.{cond_some, none-some}
use Rattle.kmip_runs.specs.declared.run.Run.{Run}
use Rattle.kmip_scripted.specs.declared.word.Word.{Word}
use Rattle.kmip_scripted.specs.Runs.{with_last_saved, words_before, words_behind}
use Rattle.kmip_scripted.specs.Words.{is_prolong}

-- the words up to a place, and those behind it
abbrev ArePartedAt : ℕ → List Word → Type 0
ArePartedAt place words = (take place words ≡ words_before words) × (drop (suc place) words ≡ words_behind words)

parted_by : (here : Bool) (word : Word) (words : List Word) → is_prolong word ≡ here → ArePartedAt (position_or_len is_prolong words) words
    → ArePartedAt (position_or_len is_prolong (word ∷ words)) (word ∷ words)
parted_by true word words is rest = (rw is refl, rw is refl)
parted_by false word words is rest =
    let next : 1 + position_or_len is_prolong words ≡ suc (position_or_len is_prolong words) = omega arith in
    (rw is (ap (λ p. take p (word ∷ words)) next ∙ ap (λ ws. word ∷ ws) rest.0), rw is (ap (λ p. drop p words) next ∙ rest.1))

parted : (words : List Word) → ArePartedAt (position_or_len is_prolong words) words
parted [] = (refl, refl)
parted (word ∷ words) = parted_by (is_prolong word) word words refl (parted words)

pub parted_at : (words : List Word) (place : ℕ) → Some place ≡ position is_prolong words
    → (take place words ≡ words_before words) × (drop (place + 1) words ≡ words_behind words)
parted_at words place is =
    let at : position_or_len is_prolong words ≡ place = (cond_some (ltb (position_or_len is_prolong words) (length words)) (position_or_len is_prolong words) place (sym is)).1 in
    let next : place + 1 ≡ suc (position_or_len is_prolong words) = omega (arith, at) in
    let both = parted words in
    (ap (λ p. take p words) (sym at) ∙ both.0, ap (λ p. drop p words) next ∙ both.1)

pub none_parted : (words : List Word) → None ≡ position is_prolong words → (words ≡ words_before words) × ([] ≡ words_behind words)
none_parted words is = elim (cases_Bool (ltb (position_or_len is_prolong words) (length words))) [
  | inl inside ↦ absurd (none-some (position_or_len is_prolong words) (is ∙ cond-true _ (Some (position_or_len is_prolong words)) None inside))
  | inr outside ↦
      let past : length words ≤ position_or_len is_prolong words = ltb-false _ _ outside in
      let both = parted words in
      (sym (take_all (position_or_len is_prolong words) words past) ∙ both.0, sym (drop_all (suc (position_or_len is_prolong words)) words (omega (arith, past))) ∙ both.1)
]

-- the last run is saved
pub last_is_saved : (runs : List Run) (last : Run) → with_last_saved (runs ++ last ∷ []) ≡ runs ++ record last { save = true } ∷ []
last_is_saved [] last = refl
last_is_saved (run ∷ []) last = refl
last_is_saved (run ∷ next ∷ runs) last = ap (λ rs. run ∷ rs) (last_is_saved (next ∷ runs) last)

pub none_is_saved : (runs : List Run) → length runs ≡ 0 → runs ≡ with_last_saved runs
none_is_saved [] none = refl
none_is_saved (run ∷ runs) none = absurd (omega (arith, none))
