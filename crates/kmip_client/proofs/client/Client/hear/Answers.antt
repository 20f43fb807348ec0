-- Reply by reply.
use Rattle.std.proofs.Common.{◌≡◌, sym, subst}
use Rattle.std.specs.List.{AllZip}
use Rattle.kmip_client.specs.Clients.{ClientState, working_count, VerdictsStay}
use Rattle.kmip_client.specs.Held.{Held}
use Rattle.kmip_client.specs.Shapes.{IsKept}
use Rattle.kmip_client.specs.Truth.{TrueMessage}
use Rattle.kmip_client.proofs.MessageLemmas.{Kept, kept_by_message, held_by_message}
use Rattle.kmip_client.proofs.client.Client.hear.Goals as goal

kept_here : (g : _) (c : goal.After-hear_message g)
    → Kept c.self.inside.plan.now c.self.inside.knowns.items c.hear_message.new.knowns.items c.self.inside.next
kept_here g c =
    kept_by_message c.self.inside.plan.now c.keys-keys.result.now c.args.bytes.now c.self.inside.knowns.items
    c.hear_message.new.knowns.items c.self.inside.next
    c.self.inside.working c.hear_message.result c.the_laws_of_plans_hold.ensures.steps_within
    c.the_laws_of_plans_hold.ensures.places_within c.keys-keys.ensures.value
    c.hear_message.ensures.known c.hear_message.ensures.fits c.hear_message.ensures.same c.self.invariant.0

pub invariant_of-self : goal.invariant_of-self
invariant_of-self g c =
    let kept = kept_here g c in (
      record {
        lawful = kept.shaped.lawful;
        each = kept.shaped.each;
        turn = kept.shaped.turn;
        counted = subst (λ ks. c.hear_message.new.working ≡ working_count ks c.hear_message.new.knowns.items)
            c.keys-keys.ensures.value
            c.hear_message.ensures.counted;
      },
      c.self.invariant.1,
    )

pub returns-clause-kept : goal.returns-clause-kept
returns-clause-kept g c =
    subst (λ (s : ClientState). AllZip IsKept s.knowns c.hear_message.new.knowns.items) c.self.view_is
    (kept_here g c).kept

pub returns-clause-settled : goal.returns-clause-settled
returns-clause-settled g c =
    subst (λ (s : ClientState). VerdictsStay s.keys s.knowns c.hear_message.new.knowns.items) c.self.view_is
    (kept_here g c).stays

pub returns-clause-held : goal.returns-clause-held
returns-clause-held g c = λ objects held so.
    held_by_message objects c.self.inside.plan.now c.keys-keys.result.now c.args.bytes.now c.self.inside.knowns.items
    c.hear_message.new.knowns.items
    c.hear_message.result c.the_laws_of_plans_hold.ensures.places_within c.keys-keys.ensures.value
    c.hear_message.ensures.known c.hear_message.ensures.same
    (subst (λ (s : ClientState). Held objects s.keys s.knowns) (sym c.self.view_is) held)
    (subst (λ (s : ClientState). TrueMessage s.keys objects c.args.bytes.now) (sym c.self.view_is) so)
