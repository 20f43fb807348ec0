-- The request of the number was asked.
use Rattle.std.proofs.Common.{◌≡◌, Some, sym, subst, ◌∙◌, rules}
use Rattle.kmip_scripted.specs.PrivateEarly.{asked_only}
use Rattle.kmip_scripted.specs.Private.{WasAsked}
use Rattle.kmip_scripted.specs.Words.{message_at}
use Rattle.kmip_scripted.proofs.WordLemmas.{was_asked}
use Rattle.kmip_scripted.proofs.scripted.Scripted.repeat.Goals as goal

pub returns-in_err-serve-clause-delivered : goal.returns-in_err-serve-clause-delivered
returns-in_err-serve-clause-delivered g c = λ names.
    let is : message_at c.args.number c.args.self.now.asked ≡ Some c.in-Some.message.items = search (rules, c.in_ok-message.ensures, c.request-asked.ensures, c.in-Some.is) in
    c.serve.ensures.delivered names
    (subst (λ m. WasAsked m c.args.self.now) (sym c.as_slice.ensures.value) (was_asked c.args.number c.args.self.now c.in-Some.message.items is))

pub returns-clause-delivered : goal.returns-clause-delivered
returns-clause-delivered g c = λ names.
    let is : message_at c.args.number c.args.self.now.asked ≡ Some c.in-Some.message.items = search (rules, c.in_ok-message.ensures, c.request-asked.ensures, c.in-Some.is) in
    c.serve.ensures.delivered names
    (subst (λ m. WasAsked m c.args.self.now) (sym c.as_slice.ensures.value) (was_asked c.args.number c.args.self.now c.in-Some.message.items is))

pub returns-clause-early : goal.returns-clause-early
returns-clause-early g c = λ names asked same.
    let is : message_at c.args.number c.args.self.now.asked ≡ Some c.in-Some.message.items = search (rules, c.in_ok-message.ensures, c.request-asked.ensures, c.in-Some.is) in
    c.in_ok-serve.ensures.early names asked
    (subst (λ m. WasAsked m (asked_only asked c.args.self.now)) (sym c.as_slice.ensures.value)
    (was_asked c.args.number (asked_only asked c.args.self.now) c.in-Some.message.items (same ∙ is)))
