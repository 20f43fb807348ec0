-- Key by key.
use Rattle.std.proofs.Common.{sym, subst}
use Rattle.kmip_client.specs.Clients.{ClientState, VerdictsStay}
use Rattle.std.specs.List.{AllZip}
use Rattle.kmip_client.specs.Held.{Held}
use Rattle.kmip_client.specs.Shapes.{IsKept}
use Rattle.kmip_client.proofs.ClientLemmas.{lost_are_shaped}
use Rattle.kmip_client.proofs.CountLemmas.{lost_verdicts}
use Rattle.kmip_client.proofs.HeardLemmas.{lost_kept}
use Rattle.kmip_client.proofs.HeldLemmas.{lost_held}
use Rattle.kmip_client.proofs.client.Client.lost.Goals as goal

pub invariant_of-self : goal.invariant_of-self
invariant_of-self c =
    rw (c.lose.ensures, c.keys.ensures.value) (
      lost_are_shaped c.self.inside.plan.now c.self.inside.knowns.items c.self.inside.next c.self.inside.working c.args.key c.self.invariant.0,
      c.self.invariant.1,
    )

pub returns-clause-settled : goal.returns-clause-settled
returns-clause-settled c =
    let same : VerdictsStay c.self.inside.plan.now c.self.inside.knowns.items c.lose.new.knowns.items =
    rw (c.lose.ensures, c.keys.ensures.value) (lost_verdicts c.self.inside.plan.now c.self.inside.knowns.items c.args.key) in
    subst (λ (s : ClientState). VerdictsStay s.keys s.knowns c.lose.new.knowns.items) c.self.view_is same

pub returns-clause-held : goal.returns-clause-held
returns-clause-held c = λ objects held.
    let inside : Held objects c.self.inside.plan.now c.self.inside.knowns.items = subst (λ (s : ClientState). Held objects s.keys s.knowns) (sym c.self.view_is) held in
    rw (c.lose.ensures, c.keys.ensures.value) (lost_held objects c.self.inside.plan.now c.self.inside.knowns.items c.args.key inside)

pub returns-clause-kept : goal.returns-clause-kept
returns-clause-kept c =
    let same : AllZip IsKept c.self.inside.knowns.items c.lose.new.knowns.items =
    rw (c.lose.ensures, c.keys.ensures.value) (lost_kept c.self.inside.plan.now c.self.inside.knowns.items c.args.key) in
    subst (λ (s : ClientState). AllZip IsKept s.knowns c.lose.new.knowns.items) c.self.view_is same
