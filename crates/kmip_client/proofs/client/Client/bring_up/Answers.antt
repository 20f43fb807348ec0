-- What was known earlier is what the text was of, and what is known now suits the plan.
use Rattle.std.proofs.Common.{ap, sym, subst, ◌∙◌}
use Rattle.std.specs.List.{AllZip}
use Rattle.kmip_client.specs.Clients.{ClientState}
use Rattle.kmip_client.specs.Private.{IsShaped}
use Rattle.kmip_client.proofs.KeepingUpLemmas.{text_brought, was_before}
use Rattle.kmip_client.proofs.client.Client.bring_up.Goals as goal

pub bring_up-requires-clause-shaped : goal.bring_up-requires-clause-shaped
bring_up-requires-clause-shaped c =
    subst (AllZip IsShaped c.self.inside.plan.now) (sym c.as_slice.ensures.value) c.self.invariant.0.each

pub bring_up-requires-clause-was : goal.bring_up-requires-clause-was
bring_up-requires-clause-was c =
    was_before c.args.self.now c.args.saved.now c.self.inside.plan.now c.as_slice.result.now
    (sym (ap (λ (s : ClientState). s.keys) c.self.view_is))
    (sym (c.as_slice.ensures.value ∙ ap (λ (s : ClientState). s.knowns) c.self.view_is)) c.requires

pub returns : goal.returns
returns c =
    text_brought c.args.self.now c.bring_up.new.saved c.self.inside.plan.now c.as_slice.result.now c.bring_up.result
    (ap (λ (s : ClientState). s.keys) c.self.view_is)
    (c.as_slice.ensures.value ∙ ap (λ (s : ClientState). s.knowns) c.self.view_is)
    (subst (AllZip IsShaped c.self.inside.plan.now) (sym c.as_slice.ensures.value) c.self.invariant.0.each)
    c.bring_up.ensures.is c.bring_up.ensures.texts
