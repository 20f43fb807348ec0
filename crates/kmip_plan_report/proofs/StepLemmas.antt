-- The words of the steps of a chain, one after the other.
use Rattle.std.proofs.Common.{◌≡◌, ◌≤◌, ℕ, suc, ◌+◌, List, [], ◌∷◌, ◌++◌, map, drop, length, Some, None, refl, sym, ap, subst, ◌∙◌, arith, append_assoc, append-nil, zero}
use Rattle.std.proofs.lemmas.List.{drop_all}
use Rattle.std.specs.List.{slice_get}
use Rattle.kmip_objects.specs.Lifecycle.{step_word}
use Rattle.kmip_objects.specs.declared.step.Step.{Step}
use Rattle.kmip_plan.specs.Chains.{chain, step_at}
use Rattle.kmip_plan.specs.declared.target.Target.{Target}

-- the next step of a chain
step_here : (steps : List Step) (i : ℕ) (step : Step) → slice_get steps i ≡ Some step
    → map step_word (drop i steps) ≡ step_word step ∷ map step_word (drop (suc i) steps)
step_here [] i step e = absurd cc
step_here (s ∷ steps) zero step e = let same : s ≡ step = cc in ap (λ x. step_word x ∷ map step_word steps) same
step_here (s ∷ steps) (suc i) step e = step_here steps i step e

step_past : (steps : List Step) (i : ℕ) → slice_get steps i ≡ None → map step_word (drop i steps) ≡ map step_word (drop (suc i) steps)
step_past [] zero e = refl
step_past [] (suc i) e = refl
step_past (s ∷ steps) zero e = absurd cc
step_past (s ∷ steps) (suc i) e = step_past steps i e

pub words_next : (target : Target) (i : ℕ) (step : Step) (done more whole : List (List ℕ)) → step_at target (i + 1) ≡ Some step
    → done ++ map step_word (drop i (chain target)) ≡ whole → more ≡ done ++ step_word step ∷ []
    → more ++ map step_word (drop (i + 1) (chain target)) ≡ whole
words_next target i step done more whole e so_far is =
    let here : suc i ≡ i + 1 = omega arith in
    subst (λ j. more ++ map step_word (drop j (chain target)) ≡ whole) here
    (ap (λ ws. ws ++ map step_word (drop (suc i) (chain target))) is
    ∙ append_assoc done (step_word step ∷ []) (map step_word (drop (suc i) (chain target)))
    ∙ ap (λ ws. done ++ ws) (sym (step_here (chain target) i step (ap (step_at target) here ∙ e)))
    ∙ so_far)

pub words_past : (target : Target) (i : ℕ) (done more whole : List (List ℕ)) → step_at target (i + 1) ≡ None
    → done ++ map step_word (drop i (chain target)) ≡ whole → more ≡ done → more ++ map step_word (drop (i + 1) (chain target)) ≡ whole
words_past target i done more whole e so_far is =
    let here : suc i ≡ i + 1 = omega arith in
    subst (λ j. more ++ map step_word (drop j (chain target)) ≡ whole) here
    (ap (λ ws. ws ++ map step_word (drop (suc i) (chain target))) is
    ∙ ap (λ ws. done ++ ws) (sym (step_past (chain target) i (ap (step_at target) here ∙ e)))
    ∙ so_far)

-- after the last step nothing is left
pub words_over : (steps : List Step) (i : ℕ) (done whole : List (List ℕ)) → length steps ≤ i → done ++ map step_word (drop i steps) ≡ whole → done ≡ whole
words_over steps i done whole over so_far =
    sym (append-nil done) ∙ ap (λ left. done ++ map step_word left) (sym (drop_all i steps over)) ∙ so_far
