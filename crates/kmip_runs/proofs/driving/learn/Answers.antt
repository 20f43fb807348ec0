-- What was handed over is what is heard; where nothing was, the keys are lost.
use Rattle.std.proofs.Common.{IfSome, IsSome, refl, rules, subst, sym}
use Rattle.kmip_client.specs.Truth.{TrueMessage}
use Rattle.kmip_runs.proofs.TurnLemmas.{if_fault}
use Rattle.kmip_runs.proofs.driving.learn.Goals as goal

pub returns-in_default-clause-taught : goal.returns-in_default-clause-taught
returns-in_default-clause-taught g c = search rules

pub returns-in_default-clause-kept : goal.returns-in_default-clause-kept
returns-in_default-clause-kept g c = search rules

pub returns-clause-held : goal.returns-clause-held
returns-clause-held g c = λ objects held so.
    c.hear.ensures.held objects held
    (subst (λ bytes. TrueMessage c.args.client.now.keys objects bytes) (sym c.as_slice-3.ensures.value)
    (subst (λ answer. IfSome answer (λ v. TrueMessage c.args.client.now.keys objects v.items)) c.in-Some.is so))

pub returns-clause-unheard : goal.returns-clause-unheard
returns-clause-unheard g c = if_fault _ _ c.hear.result (λ fault is. (is, subst (λ o. IsSome o) (sym c.in-Some.is) refl)) c.hear.ensures.unheard
