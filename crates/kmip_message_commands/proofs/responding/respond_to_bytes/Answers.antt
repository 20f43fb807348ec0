-- A line more, after which the command goes on or is over.
use Rattle.std.proofs.Common.{◌≡◌, ◌==◌, ℕ, true, false, true≢false, ◌||◌, List, [], ◌∷◌, ◌++◌, length, refl, sym, ap, ◌∙◌, ne_eqb, arith}
use Rattle.std.proofs.lemmas.Result.{IfOk-from_err}
use Rattle.kmip_message_commands.specs.Private.{Response, input_read, Responds}
use Rattle.kmip_message_commands.proofs.RespondingLemmas.{HasResponded, Standing, line_read, responded_all, responded_front, stays_ready_line, made_whole, at_want}
use Rattle.kmip_message_commands.proofs.responding.respond_to_bytes.Goals as goal

-- no byte is left
ended : {S : Type 0} (r : Response S) (lines : List (List ℕ)) (rest : List ℕ) (s : Standing S)
    → true ≡ (length rest == 0) → HasResponded r lines (input_read r s.state rest) s → Responds r lines s.first s.state s.old s.now s.refused
ended r lines [] s is h = responded_all r lines s h
ended r lines (b ∷ rest) s is h = absurd (true≢false (is ∙ ne_eqb (length (b ∷ rest)) 0 (λ none. absurd (omega (arith, none)))))

pub loop-rest-preserved : goal.loop-rest-preserved
loop-rest-preserved g c =
    let r = g.C.Respond.response in
    let responded = c.in_ok-is_refused.ensures in
    let text = made_whole _ _ _ _ c.clear.ensures.items responded.text c.as_slice.ensures.value in (
      stays_ready_line r.after g.C.Respond.IsReady c.stays_ready.ensures _ _ _ c.loop-rest.invariant.0 responded.after,
      line_read r false _ c.loop-rest.rest.now c.first_line.result.1.now c.first_line.result.0.now c.first_line.result.0.now _ _ _ _ c.loop-rest.invariant.1 c.first_line.ensures.lines refl (c.in_ok-push_text.ensures.ok ∙ ap (λ t. c.loop-rest.output.items ++ t) text) responded.after (ap (λ b. c.loop-rest.has_refused || b) responded.refused) (sym c.is_over.ensures ∙ c.if-is_over.false),
    )

pub returns-then-is_over-clause-whole : goal.returns-then-is_over-clause-whole
returns-then-is_over-clause-whole g c =
    let r = g.C.Respond.response in
    let responded = c.in_ok-is_refused.ensures in
    let text = made_whole _ _ _ _ c.clear.ensures.items responded.text c.as_slice.ensures.value in
    responded_all r _ _ (line_read r true _ c.loop-rest.rest.now c.first_line.result.1.now c.first_line.result.0.now c.first_line.result.0.now _ _ _ _ c.loop-rest.invariant.1 c.first_line.ensures.lines refl (c.in_ok-push_text.ensures.ok ∙ ap (λ t. c.loop-rest.output.items ++ t) text) responded.after (ap (λ b. c.loop-rest.has_refused || b) responded.refused) (sym c.is_over.ensures ∙ c.if-is_over.true))

pub returns-clause-whole : goal.returns-clause-whole
returns-clause-whole g c =
    ended g.C.Respond.response _ c.loop-rest.rest.now _ c.loop-rest-test.ensures c.loop-rest.invariant.1

pub returns-in_err-is_refused-clause-whole : goal.returns-in_err-is_refused-clause-whole
returns-in_err-is_refused-clause-whole g c = IfOk-from_err _ _ c.from_residual.ensures.0

pub returns-in_err-is_refused-clause-broken : goal.returns-in_err-is_refused-clause-broken
returns-in_err-is_refused-clause-broken g c =
    at_want c.from_residual.result _ (responded_front g.C.Respond.response _ _ _ _ c.loop-rest.invariant.1 refl)

pub returns-in_err-push_text-clause-whole : goal.returns-in_err-push_text-clause-whole
returns-in_err-push_text-clause-whole g c = IfOk-from_err _ _ c.from_residual-in_err-push_text.ensures.0

pub returns-in_err-push_text-clause-broken : goal.returns-in_err-push_text-clause-broken
returns-in_err-push_text-clause-broken g c =
    at_want c.from_residual-in_err-push_text.result _ (responded_front g.C.Respond.response _ _ _ _ c.loop-rest.invariant.1 c.in_err-push_text.ensures.err)
