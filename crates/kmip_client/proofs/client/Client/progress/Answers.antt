-- Key by key.
use Rattle.std.proofs.Common.{map, sym, subst}
use Rattle.kmip_progress.specs.Suiting.{Suits}
use Rattle.kmip_client.specs.Clients.{ClientState}
use Rattle.kmip_client.specs.Held.{Held, TrueProgress}
use Rattle.kmip_client.specs.Saving.{known_of}
use Rattle.kmip_client.proofs.SavingLemmas.{all_suit, all_true}
use Rattle.kmip_client.proofs.client.Client.progress.Goals as goal

pub returns-clause-suits : goal.returns-clause-suits
returns-clause-suits c =
    rw (c.new.ensures, c.in_ok-known.ensures, c.as_slice.ensures.value)
    (subst (λ (s : ClientState). Suits s.keys (map known_of c.self.inside.knowns.items)) c.self.view_is
    (all_suit c.self.inside.plan.now c.self.inside.knowns.items c.self.invariant.0.each))

pub returns-clause-held : goal.returns-clause-held
returns-clause-held c = λ objects held.
    rw (c.new.ensures, c.in_ok-known.ensures, c.as_slice.ensures.value)
    (subst (λ (s : ClientState). TrueProgress objects s.keys (map known_of c.self.inside.knowns.items)) c.self.view_is
    (all_true objects c.self.inside.plan.now c.self.inside.knowns.items
    (subst (λ (s : ClientState). Held objects s.keys s.knowns) (sym c.self.view_is) held)))
