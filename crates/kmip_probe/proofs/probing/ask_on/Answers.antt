-- Each turn asks one question more.
use Rattle.std.proofs.Common.{◌≡◌, ◌+◌, ◌≤◌, option_to_list, Some, [], ◌∷◌, ◌++◌, length, sym, subst, ap, ◌∙◌, inl, inr}
use Rattle.std.proofs.Common.{arith}
use Rattle.std.specs.List.{All}
use Rattle.std.proofs.lemmas.Result.{err_from_is_err_and}
use Rattle.std.proofs.lemmas.List.{append_assoc, length-append}
use Rattle.std.proofs.lemmas.List.Elements.{All-push}
use Rattle.kmip_probe.specs.Answers.{IsLawful}
use Rattle.kmip_probe.specs.Asking.{message_after, next_inquiry}
use Rattle.kmip_probe.specs.Inquiries.{most_messages}
use Rattle.kmip_probe.specs.Putting.{AreAsked, AreSentOnce}
use Rattle.kmip_probe.specs.Private.{HasAsked, HasServedNext}
use Rattle.kmip_probe.specs.TwoObjects.{AreServed}
use Rattle.kmip_probe.proofs.ProbingLemmas.{asked_more, most_after, most_upto, once_more}
use Rattle.kmip_probe.proofs.ServedLemmas.{one_served}
use Rattle.kmip_probe.proofs.probing.ask_on.Goals as goal

pub returns-in_default-clause-few : goal.returns-in_default-clause-few
returns-in_default-clause-few g c = λ names honest.
    let few = c.loop.invariant.few names honest in
    let upto = most_upto c.loop.counter c.args.most (omega (arith, c.loop-test.true)) in
    omega (arith, few, upto)

pub returns-in_default-clause-each : goal.returns-in_default-clause-each
returns-in_default-clause-each g c = λ names honest.
    let few = c.loop.invariant.few names honest in omega (arith, few, ap most_messages c.loop.invariant.count)

pub returns-in_default-clause-whole : goal.returns-in_default-clause-whole
returns-in_default-clause-whole g c =
    inl (ap next_inquiry (sym c.as_slice.ensures.value) ∙ sym c.next_inquiry.ensures ∙ c.in_default.is)

pub returns-in_err-answer-clause-few : goal.returns-in_err-answer-clause-few
returns-in_err-answer-clause-few g c = λ names honest.
    let few = c.loop.invariant.few names honest in
    let more = c.put.ensures.few names (c.loop.invariant.asked names honest).0 in
    let own : next_inquiry c.loop.answers.items ≡ Some c.in-Some.inquiry = ap next_inquiry
    (sym c.as_slice.ensures.value) ∙ sym c.next_inquiry.ensures ∙ c.in-Some.is in
    let next = ap (λ n. most_messages (n + 1)) (sym c.loop.invariant.count)
    ∙ most_after c.loop.answers.items c.in-Some.inquiry own in
    let same = ap most_messages c.loop.invariant.count in
    let upto = most_upto (c.loop.counter + 1) c.args.most (omega (arith, c.loop-test.true)) in
    omega (arith, few, more, next, same, upto)

pub returns-in_err-push-clause-few : goal.returns-in_err-push-clause-few
returns-in_err-push-clause-few g c = λ names honest.
    let few = c.loop.invariant.few names honest in
    let more = c.put.ensures.few names (c.loop.invariant.asked names honest).0 in
    let own : next_inquiry c.loop.answers.items ≡ Some c.in-Some.inquiry = ap next_inquiry
    (sym c.as_slice.ensures.value) ∙ sym c.next_inquiry.ensures ∙ c.in-Some.is in
    let next = ap (λ n. most_messages (n + 1)) (sym c.loop.invariant.count)
    ∙ most_after c.loop.answers.items c.in-Some.inquiry own in
    let same = ap most_messages c.loop.invariant.count in
    let upto = most_upto (c.loop.counter + 1) c.args.most (omega (arith, c.loop-test.true)) in
    omega (arith, few, more, next, same, upto)

pub returns-clause-few : goal.returns-clause-few
returns-clause-few g c = λ names honest.
    let few = c.loop.invariant.few names honest in
    let end : most_messages c.loop.counter ≤ most_messages c.args.most = most_upto c.loop.counter c.args.most
    (omega (arith, c.loop.auto.counter-end)) in
    omega (arith, few, end)

pub returns-clause-each : goal.returns-clause-each
returns-clause-each g c = λ names honest.
    let few = c.loop.invariant.few names honest in omega (arith, few, ap most_messages c.loop.invariant.count)

pub returns-clause-whole : goal.returns-clause-whole
returns-clause-whole g c = inr (omega (arith, c.loop.invariant.count, c.loop.auto.counter-end, c.loop-test.false))

pub loop-preserved : goal.loop-preserved
loop-preserved g c =
    let pushed = c.in_ok-push.ensures.items in
    record {
      count = ap length pushed ∙ length-append c.loop.answers.items (c.in_ok-answer.answer ∷ [])
          ∙ ap (λ n. n + 1) c.loop.invariant.count;
      lawful = subst (All IsLawful) (sym pushed)
          (All-push IsLawful c.loop.answers.items c.in_ok-answer.answer c.loop.invariant.lawful
          c.in_ok-answer.ensures.lawful);
      onward =
          let (more, is) = c.loop.invariant.onward in (
            more ++ c.in_ok-answer.answer ∷ [],
            pushed ∙ ap (λ xs. xs ++ c.in_ok-answer.answer ∷ []) is
                ∙ append_assoc c.args.answers.now.items more (c.in_ok-answer.answer ∷ []),
          );
      asked = λ names honest.
          let (before, asked) = c.loop.invariant.asked names honest in
          let (still, once) = c.in_ok-answer.ensures.asked names before in
          let slice = c.as_slice-in-loop.ensures.value in (
            still,
            λ start first. subst (λ xs. AreAsked c.args.prefix.now xs start (g.L.Link.seen c.put.new.link).past)
                (sym pushed)
                (asked_more c.args.prefix.now c.loop.answers.items c.in_ok-answer.answer start
                (g.L.Link.seen c.loop.link).past (g.L.Link.seen c.put.new.link).past (asked start first)
                (subst (λ xs. HasAsked c.args.prefix.now xs c.in_ok-answer.answer (g.L.Link.seen c.loop.link).past
                (g.L.Link.seen c.put.new.link).past) slice once)),
          );
      few = λ names honest.
          let few = c.loop.invariant.few names honest in
          let more = c.put.ensures.few names (c.loop.invariant.asked names honest).0 in
          let own : next_inquiry c.loop.answers.items ≡ Some c.in-Some.inquiry = ap next_inquiry
          (sym c.as_slice.ensures.value) ∙ sym c.next_inquiry.ensures ∙ c.in-Some.is in
          let next = ap (λ n. most_messages (n + 1)) (sym c.loop.invariant.count)
          ∙ most_after c.loop.answers.items c.in-Some.inquiry own in
          let same = ap most_messages c.loop.invariant.count in
          omega (arith, few, more, next, same);
      once = λ names calm.
          let (before, sends) = c.loop.invariant.once names calm in
          let sent = c.in_ok-answer.ensures.once names before in
          let slice = c.as_slice-in-loop.ensures.value in (
            (c.in_ok-answer.ensures.served names before).0,
            λ start first. subst (λ xs. AreSentOnce c.args.prefix.now xs start (g.L.Link.seen c.put.new.link).past)
                (sym pushed)
                (once_more c.args.prefix.now c.loop.answers.items c.in_ok-answer.answer start
                (g.L.Link.seen c.loop.link).past (g.L.Link.seen c.put.new.link).past (sends start first)
                (subst (λ xs. (g.L.Link.seen c.put.new.link).past.sent ≡ (g.L.Link.seen c.loop.link).past.sent ++
                option_to_list (message_after c.args.prefix.now xs)) slice sent)),
          );
      served = λ names calm first.
          let (before, served) = c.loop.invariant.served names calm first in
          let (still, once) = c.in_ok-answer.ensures.served names before in
          let slice = c.as_slice-in-loop.ensures.value in (
            still,
            subst (λ xs. AreServed c.args.prefix.now xs (g.L.Link.seen c.put.new.link).past) (sym pushed)
                (one_served c.the_laws_of_objects_hold.ensures c.args.prefix.now c.loop.answers.items
                c.in_ok-answer.answer (g.L.Link.seen c.loop.link).past (g.L.Link.seen c.put.new.link).past
                (omega (arith, c.loop.invariant.count, c.loop-test.true, c.requires.most)) served
                (subst (λ xs. HasServedNext c.args.prefix.now xs c.in_ok-answer.answer
                (g.L.Link.seen c.loop.link).past (g.L.Link.seen c.put.new.link).past) slice once)),
          );
    }

pub returns-in_err-answer-clause-asked : goal.returns-in_err-answer-clause-asked
returns-in_err-answer-clause-asked g c = λ names honest.
    let still = (c.put.ensures.asked names (c.loop.invariant.asked names honest).0).0 in
    let fault = err_from_is_err_and c.from_residual.result c.from_residual.ensures.1 in rw fault.1 (still, tt)

pub returns-in_err-push-clause-asked : goal.returns-in_err-push-clause-asked
returns-in_err-push-clause-asked g c = λ names honest.
    let still = (c.put.ensures.asked names (c.loop.invariant.asked names honest).0).0 in
    let fault = err_from_is_err_and c.from_residual-in_err-push.result c.from_residual-in_err-push.ensures.1 in rw
    fault.1 (still, tt)

pub returns-in_err-answer-clause-once : goal.returns-in_err-answer-clause-once
returns-in_err-answer-clause-once g c = λ names calm.
    let still = (c.put.ensures.served names (c.loop.invariant.once names calm).0).0 in
    let fault = err_from_is_err_and c.from_residual.result c.from_residual.ensures.1 in rw fault.1 (still, tt)

pub returns-in_err-push-clause-once : goal.returns-in_err-push-clause-once
returns-in_err-push-clause-once g c = λ names calm.
    let still = (c.put.ensures.served names (c.loop.invariant.once names calm).0).0 in
    let fault = err_from_is_err_and c.from_residual-in_err-push.result c.from_residual-in_err-push.ensures.1 in rw
    fault.1 (still, tt)
