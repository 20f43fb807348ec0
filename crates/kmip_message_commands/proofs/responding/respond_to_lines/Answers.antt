use Rattle.std.proofs.Common.{true, false, ◌||◌, IfSome, sym, ap, subst, ◌∙◌}
use Rattle.std.specs.Io.KnownBytes.{Appends}
use Rattle.std.proofs.KnownBytes.{Keeps-refl}
use Rattle.kmip_message_commands.specs.Private.{TakesLine}
use Rattle.kmip_message_commands.proofs.RespondingLemmas.{Responding-line, Responding-goes_on, Responding-over, Responding-broken, stays_ready_line, made_whole, at_fault}
use Rattle.kmip_message_commands.proofs.responding.respond_to_lines.Goals as goal

pub returns-in_err-has_more-clause-broken : goal.returns-in_err-has_more-clause-broken
returns-in_err-has_more-clause-broken g c =
    at_fault c.from_residual.result _ (Responding-broken g.C.Respond.response _ _ _ _ c.loop.invariant.1 c.read_line.ensures.unwritten)

pub returns-in_err-is_refused-clause-broken : goal.returns-in_err-is_refused-clause-broken
returns-in_err-is_refused-clause-broken g c =
    at_fault c.from_residual-in_err-is_refused.result _ (Responding-broken g.C.Respond.response _ _ _ _ c.loop.invariant.1 c.read_line.ensures.unwritten)

pub returns-clause-broken : goal.returns-clause-broken
returns-clause-broken g c = Responding-broken g.C.Respond.response _ _ _ _ c.loop.invariant.1 (Keeps-refl _)

pub loop-preserved : goal.loop-preserved
loop-preserved g c =
    let r = g.C.Respond.response in
    let read = c.read_line.new in
    let taken = subst (λ next. IfSome (g.R.Read.remaining c.loop.reader) (λ input. TakesLine input read.line.items (g.R.Read.remaining read.reader) next)) c.in-Line.is c.in_ok-has_more.ensures.line in
    let responded = c.in_ok-is_refused.ensures in
    let text = made_whole _ _ _ _ c.clear.ensures.items responded.text c.as_slice-in-loop.ensures.value in (
      stays_ready_line r.after g.C.Respond.IsReady c.stays_ready.ensures _ _ _ c.loop.invariant.0 responded.after,
      Responding-goes_on r _ _ _ (Responding-line r false _ _ _ read.line.items _ _ _ _ _ _ c.loop.invariant.1 taken c.as_slice.ensures.value c.read_line.ensures.unwritten (subst (Appends _ _) text c.in_ok-send.ensures.text) responded.after (ap (λ b. c.loop.has_refused || b) responded.refused) (sym c.is_over-is_over.ensures ∙ c.if-is_over.false)),
    )

pub returns-then-is_over-clause-whole : goal.returns-then-is_over-clause-whole
returns-then-is_over-clause-whole g c =
    let r = g.C.Respond.response in
    let read = c.read_line.new in
    let taken = subst (λ next. IfSome (g.R.Read.remaining c.loop.reader) (λ input. TakesLine input read.line.items (g.R.Read.remaining read.reader) next)) c.in-Line.is c.in_ok-has_more.ensures.line in
    let responded = c.in_ok-is_refused.ensures in
    let text = made_whole _ _ _ _ c.clear.ensures.items responded.text c.as_slice-in-loop.ensures.value in
    Responding-over r _ _ _ (Responding-line r true _ _ _ read.line.items _ _ _ _ _ _ c.loop.invariant.1 taken c.as_slice.ensures.value c.read_line.ensures.unwritten (subst (Appends _ _) text c.in_ok-send.ensures.text) responded.after (ap (λ b. c.loop.has_refused || b) responded.refused) (sym c.is_over-is_over.ensures ∙ c.if-is_over.true))
