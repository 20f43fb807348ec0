-- A message of one reply answers, and any other number of them says nothing.
use Rattle.std.proofs.Common.{◌≡◌, ℕ, List, [], ◌∷◌, ◌++◌, length, All, IsTrue, refl, sym, ap, subst, ◌∙◌, arith}
use Rattle.std.proofs.lemmas.Bool.{eqb-true, eqb-false}
use Rattle.kmip_batch_items.specs.declared.reply.Reply.{Reply}
use Rattle.kmip_batch_items.specs.BatchItems.{answer_fits}
use Rattle.kmip_probe.specs.Answers.{answer_in}
use Rattle.kmip_probe.specs.declared.answer.Answer.TheVariants.{Nothing}
use Rattle.kmip_probe.proofs.answer.answer_in.Goals as goal

-- a list without elements, and one with some before the last
none : (replies : List Reply) → length replies ≡ 0 → replies ≡ []
none [] e = refl
none (reply ∷ replies) e = absurd (omega (arith, e))

several : (number : ℕ) (prefix : List ℕ) (before : List Reply) (last : Reply) → (length before ≡ 0 → ⊥) → Nothing ≡ answer_in number prefix (before ++ last ∷ [])
several number prefix [] last some = absurd (some refl)
several number prefix (first ∷ []) last some = refl
several number prefix (first ∷ second ∷ others) last some = refl

pub returns-clause-answer : goal.returns-clause-answer
returns-clause-answer c =
    let reply = c.in-Some.reply in
    let alone = none c.pop.new.self.items (sym c.pop.new.self.ok.0 ∙ eqb-true _ _ (sym c.if-not-is_empty.ensures)) in
    c.answer_with.ensures.answer
    ∙ ap (answer_in c.args.number c.args.prefix.now) (sym (c.in-Some.ensures.items ∙ ap (λ before. before ++ reply ∷ []) alone))

pub returns-clause-lawful : goal.returns-clause-lawful
returns-clause-lawful c = λ fit.
    let reply = c.in-Some.reply in
    let alone = none c.pop.new.self.items (sym c.pop.new.self.ok.0 ∙ eqb-true _ _ (sym c.if-not-is_empty.ensures)) in
    c.answer_with.ensures.lawful
    (subst (All (λ r. IsTrue (answer_fits r))) (c.in-Some.ensures.items ∙ ap (λ before. before ++ reply ∷ []) alone) fit 0 reply (omega arith))

pub returns-in_default-clause-answer : goal.returns-in_default-clause-answer
returns-in_default-clause-answer c =
    ap (answer_in c.args.number c.args.prefix.now) (sym (none c.args.replies.items (sym c.args.replies.ok.0 ∙ c.in_default.ensures.cases.0)))

pub returns-then-not-is_empty-clause-answer : goal.returns-then-not-is_empty-clause-answer
returns-then-not-is_empty-clause-answer c =
    several c.args.number c.args.prefix.now c.pop.new.self.items c.in-Some.reply
    (λ is. eqb-false _ _ (sym c.if-not-is_empty.ensures) (c.pop.new.self.ok.0 ∙ is))
    ∙ ap (answer_in c.args.number c.args.prefix.now) (sym c.in-Some.ensures.items)
