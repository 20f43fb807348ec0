-- A probe asks on from no answer.
use Rattle.std.proofs.Common.{◌≡◌, refl, arith}
use Rattle.kmip_probe.specs.Inquiries.{most_messages}
use Rattle.kmip_probe.proofs.ProbingLemmas.{all_done, nothing_asked, nothing_sent}
use Rattle.kmip_probe.proofs.ServedLemmas.{all_answered, none_served}
use Rattle.kmip_probe.proofs.probing.probe.Goals as goal

pub returns-clause-whole : goal.returns-clause-whole
returns-clause-whole g c = all_done c.ask_on.new.answers.items c.in_ok-ask_on.ensures.whole

pub returns-clause-few : goal.returns-clause-few
returns-clause-few g c = λ names honest.
    let few = c.ask_on.ensures.few names honest in
    let all : most_messages 25 ≡ 45 = refl in
    omega (arith, few, all)

pub returns-in_err-ask_on-clause-few : goal.returns-in_err-ask_on-clause-few
returns-in_err-ask_on-clause-few g c = λ names honest.
    let few = c.ask_on.ensures.few names honest in
    let all : most_messages 25 ≡ 45 = refl in
    omega (arith, few, all)

pub returns-clause-asked : goal.returns-clause-asked
returns-clause-asked g c = λ names honest.
    let (still, asked) = c.in_ok-ask_on.ensures.asked names honest in
    (still, asked (g.L.Link.seen c.args.link.now).past (nothing_asked c.args.prefix.now c.new-answers.result.items (g.L.Link.seen c.args.link.now).past c.new-answers.ensures.items))

pub returns-clause-once : goal.returns-clause-once
returns-clause-once g c = λ names calm.
    (c.in_ok-ask_on.ensures.once names calm).1 (g.L.Link.seen c.args.link.now).past
    (nothing_sent c.args.prefix.now c.new-answers.result.items (g.L.Link.seen c.args.link.now).past c.new-answers.ensures.items)

pub returns-clause-kept : goal.returns-clause-kept
returns-clause-kept g c = λ names calm free.
    let (still, served) = c.in_ok-ask_on.ensures.served names calm (none_served c.args.prefix.now c.new-answers.result.items (g.L.Link.seen c.args.link.now).past c.new-answers.ensures.items free) in
    all_answered c.args.prefix.now c.ask_on.new.answers.items (g.L.Link.seen c.ask_on.new.link).past c.in_ok-ask_on.ensures.most c.in_ok-ask_on.ensures.whole served
