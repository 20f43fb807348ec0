-- The words so far, and then those of the steps that are left, are all of them.
use Rattle.std.proofs.Common.{◌≡◌, ◌++◌, drop, map}
use Rattle.kmip_objects.specs.Lifecycle.{step_word}
use Rattle.kmip_plan.specs.Chains.{chain}
use Rattle.kmip_plan_report.proofs.steps.step_words.Given as goal

abbrev pub invariant-loop-place : goal.invariant-loop-place
invariant-loop-place l =
    map (λ word. word.now) l.words.items ++ map step_word (drop l.place (chain l.key.target)) ≡ map step_word (drop l.done (chain l.key.target))
