-- The count that is kept is that of the keys which are worked on.
use Rattle.std.proofs.Common.{◌≡◌, ◌≤◌, ◌∙◌, sym, subst}
use Rattle.std.proofs.lemmas.Slice.Zip.{AllZip-long}
use Rattle.kmip_client.specs.Clients.{ClientState, NoneWorks, SomeWorks, working_count}
use Rattle.kmip_client.specs.Private.{IsShaped}
use Rattle.kmip_client.proofs.AskingLemmas.{none_all, none_from}
use Rattle.kmip_client.proofs.CountLemmas.{settled_none, some_works}
use Rattle.kmip_client.proofs.client.Client.working.Goals as goal

pub returns-clause-some : goal.returns-clause-some
returns-clause-some c = λ some.
    subst (λ (s : ClientState). SomeWorks s.keys s.knowns) c.self.view_is
    (some_works c.self.inside.plan.now c.self.inside.knowns.items (subst (λ n. 1 ≤ n) c.self.invariant.0.counted some))

pub returns-clause-none : goal.returns-clause-none
returns-clause-none c = λ is.
    let none : working_count c.self.inside.plan.now c.self.inside.knowns.items ≡ 0 = sym c.self.invariant.0.counted ∙ is in
    subst (λ (s : ClientState). NoneWorks s.keys s.knowns) c.self.view_is
    (settled_none c.self.inside.plan.now c.self.inside.knowns.items
    (none_all 0 c.self.inside.plan.now c.self.inside.knowns.items
    (AllZip-long IsShaped c.self.inside.plan.now c.self.inside.knowns.items c.self.invariant.0.each)
    (none_from 0 c.self.inside.plan.now c.self.inside.knowns.items none)))
