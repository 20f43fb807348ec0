-- A question that is asked fits, and over a calm link the server has taken a step for it.
use Rattle.std.proofs.Common.{refl, sym, ◌∙◌}
use Rattle.kmip_probe.proofs.FittingLemmas.{request_fit}
use Rattle.kmip_probe.proofs.PuttingLemmas.{asked_next, none_asked, once_next, served_by, weaken}
use Rattle.kmip_probe.proofs.probing.put.Goals as goal

pub ask-requires-clause-fits : goal.ask-requires-clause-fits
ask-requires-clause-fits g c =
    request_fit c.args.prefix.now c.args.answers.now c.args.inquiry c.in-Some.request c.requires.prefix c.requires.lawful (sym c.in_ok-request.ensures ∙ c.in-Some.is)

pub returns-clause-served : goal.returns-clause-served
returns-clause-served g c = λ names calm.
    let (still, replied) = c.ask.ensures.served names calm in (
      still,
      weaken c.ask.result
          (λ answer replied. served_by c.args.prefix.now c.args.answers.now c.args.inquiry c.in-Some.request _ answer (g.L.Link.seen c.args.link.now).past (g.L.Link.seen c.ask.new.link).past
          c.requires.next (sym c.in_ok-request.ensures ∙ c.in-Some.is) refl replied)
          replied,
    )

pub returns-clause-asked : goal.returns-clause-asked
returns-clause-asked g c = λ names honest.
    let (still, sent) = c.ask.ensures.asked names honest in (
      still,
      weaken c.ask.result
          (λ answer sent. asked_next c.args.prefix.now c.args.answers.now c.args.inquiry c.in-Some.request _ _ answer (g.L.Link.seen c.args.link.now).past (g.L.Link.seen c.ask.new.link).past
          c.requires.next (sym c.in_ok-request.ensures ∙ c.in-Some.is) refl c.most_sends-most.ensures.value sent)
          sent,
    )

pub returns-clause-once : goal.returns-clause-once
returns-clause-once g c = λ names calm.
    weaken c.ask.result
    (λ answer replied. once_next c.args.prefix.now c.args.answers.now c.args.inquiry c.in-Some.request (g.L.Link.seen c.args.link.now).past (g.L.Link.seen c.ask.new.link).past
    c.requires.next (sym c.in_ok-request.ensures ∙ c.in-Some.is) replied.sent_once)
    (c.ask.ensures.served names calm).1

pub returns-in_default-clause-asked : goal.returns-in_default-clause-asked
returns-in_default-clause-asked g c = λ names honest. (
  honest,
  (none_asked c.args.prefix.now c.args.answers.now c.args.inquiry (g.L.Link.seen c.args.link.now).past c.requires.next (sym c.in_ok-request.ensures ∙ c.in_default.is)).0,
)
