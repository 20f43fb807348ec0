-- How many of its steps a run took, counted step by step.
use Rattle.std.proofs.lemmas.Grind.{common_steps}
use Rattle.std.proofs.Common.{arith, ◌≡◌, ℕ, ◌+◌, Bool, false, cond, ltb, leb, ◌&&◌, List, [], ◌∷◌, length, refl, sym, ap, ◌∙◌}
use Rattle.std.proofs.lemmas.List.Sums.{length-filter, sum_by-cons}
use Rattle.std.specs.List.{filter}
use Rattle.kmip_objects.specs.declared.step.Step.{Step}
use Rattle.kmip_objects.specs.declared.step.Step.TheVariants.{Create, Activate, Revoke, Destroy}
use Rattle.kmip_plan.specs.Chains.{step_place}
use Rattle.kmip_plan.specs.declared.target.Target.{Target}
use Rattle.kmip_plan.specs.declared.target.Target.TheVariants.{Created, Active, Revoked, Destroyed, Discarded}
use Rattle.kmip_tally.specs.Courses.{has_asked, is_taken, steps_taken}
use Rattle.kmip_tally.specs.declared.course.Course.{Course}

-- no number is below nought
none_below : (n : ℕ) → ltb n 0 ≡ false
none_below n = grind (arith, common_steps)

-- a step that the chain does not have is not taken
not_there : (course : Course) (target : Target) (step : Step) → step_place target step ≡ 0 → is_taken course target step ≡ false
not_there course target step is =
    ap (λ place. ltb course.before place && leb place course.known && has_asked course.asked step) is
    ∙ ap (λ b. b && leb 0 course.known && has_asked course.asked step) (none_below course.before)

-- one step more
more : (p : Step → Bool) (step : Step) (steps : List Step) → length (filter p (step ∷ steps)) ≡ cond (p step) 1 0 + length (filter p steps)
more p step steps =
    length-filter p (step ∷ steps) ∙ sum_by-cons (λ s. cond (p s) 1 0) step steps ∙ ap (λ n. cond (p step) 1 0 + n) (sym (length-filter p steps))

-- all steps, of which the chain lacks those that are not taken
pub all_steps : (course : Course) (target : Target)
    → cond (is_taken course target Create) 1 0 + cond (is_taken course target Activate) 1 0 + cond (is_taken course target Revoke) 1 0
    + cond (is_taken course target Destroy) 1 0 ≡ length (steps_taken course target)
all_steps course Created =
    let none = not_there course Created in
    let p = is_taken course Created in
    grind (arith, common_steps, more p Create [], none Activate refl, none Revoke refl, none Destroy refl)
all_steps course Active =
    let none = not_there course Active in
    let p = is_taken course Active in
    grind (arith, common_steps, more p Create (Activate ∷ []), more p Activate [], none Revoke refl, none Destroy refl)
all_steps course Revoked =
    let none = not_there course Revoked in
    let p = is_taken course Revoked in
    grind (arith, common_steps, more p Create (Activate ∷ Revoke ∷ []), more p Activate (Revoke ∷ []), more p Revoke [], none Destroy refl)
all_steps course Destroyed =
    let p = is_taken course Destroyed in
    grind (
      arith,
      common_steps,
      more p Create (Activate ∷ Revoke ∷ Destroy ∷ []),
      more p Activate (Revoke ∷ Destroy ∷ []),
      more p Revoke (Destroy ∷ []),
      more p Destroy [],
    )
all_steps course Discarded =
    let none = not_there course Discarded in
    let p = is_taken course Discarded in
    grind (arith, common_steps, more p Create (Destroy ∷ []), more p Destroy [], none Activate refl, none Revoke refl)
