-- Each step is one more.
use Rattle.std.proofs.Common.{map, sym, ap, ◌∙◌, arith}
use Rattle.kmip_plan.specs.Chains.{chain}
use Rattle.kmip_plan_report.proofs.StepLemmas.{words_next, words_over, words_past}
use Rattle.kmip_plan_report.proofs.steps.step_words.Goals as goal
use Rattle.kmip_plan_report.proofs.steps.step_words.Goals.{in-Some+in_ok-push_step, in_default}

pub loop-place-preserved : goal.loop-place-preserved
loop-place-preserved c = elim c.match-chain.branch [
  | in-Some+in_ok-push_step w ↦ words_next _ _ _ _ _ _ (sym c.chain.ensures ∙ w.in-Some.is) c.loop-place.invariant (ap (λ t. map (λ word. word.now) t.items) w.words-is ∙ w.in_ok-push_step.ensures)
  | in_default w ↦ words_past _ _ _ _ _ (sym c.chain.ensures ∙ w.in_default.is) c.loop-place.invariant (ap (λ t. map (λ word. word.now) t.items) w.words-is)
]

pub returns : goal.returns
returns c =
    words_over (chain c.args.key.now.target) c.loop-place.place _ _ (omega (arith, c.loop-place-test.false, c.chain_length-place-end.ensures.steps)) c.loop-place.invariant
