-- Key by key, and reply by reply.
use Rattle.kmip_client.proofs.CountLemmas.{held_no_conflict, settled_none}
use Rattle.kmip_client.proofs.FactLemmas.{heard_blind, lost_facts}
use Rattle.kmip_client.proofs.HeldLemmas.{held_may_ask, lost_held}
use Rattle.kmip_client.proofs.MessageLemmas.{held_by_each}
use Rattle.kmip_client.proofs.OnwardLemmas.{all_held_on, justified_on, onward_twice, stays_itself, true_on}
use Rattle.kmip_client.proofs.ProlongedLemmas.{Ways, due_is_revoked, justified_of, outcome_of}
use Rattle.kmip_client.proofs.SavingLemmas.{further, prolonged_true}
use Rattle.kmip_client.proofs.laws.the_laws_of_clients_hold.Goals as goal

pub returns : goal.returns
returns c =
    let plans = c.the_laws_of_plans_hold.ensures in
    let ways : Ways = record {
      reached = plans.no_less;
      places = plans.step_places;
      state_places = plans.state_places;
    } in
    record {
      itself = λ keys objects key planned. stays_itself key objects;
      twice = λ keys old between new first second key planned.
          onward_twice key old between new (first key planned) (second key planned);
      asked_for_good = justified_on;
      told_for_good = λ keys old new reply on so. true_on keys old new reply plans.stand on so;
      known_for_good = λ keys knowns old new lawful on held. all_held_on keys knowns old new plans.found lawful on held;
      known_of_prolonged = λ objects new old saved on so. prolonged_true objects new old saved plans.no_less on so;
      text_of_prolonged = λ objects new old saved lawful on suits texts so. (
        _,
        c.texts_are_prolonged.ensures.written new old saved lawful on suits texts,
        prolonged_true objects new old saved plans.no_less on so,
      );
      old_text_of_prolonged = λ objects new old saved lawful on suits texts so. (
        _,
        c.texts_are_prolonged.ensures.old new old saved lawful on suits texts,
        prolonged_true objects new old saved plans.no_less on so,
      );
      positions = λ objects new old on. further objects new old plans.no_less on;
      asked_of_prolonged = justified_of ways (due_is_revoked plans.places plans.revoke) plans.old_found;
      told_of_prolonged = outcome_of ways;
      blind = heard_blind;
      losses_teach_nothing = lost_facts;
      heard = λ objects keys replies knowns held so.
          held_by_each objects keys replies knowns plans.places_within held so;
      lost = lost_held;
      settled = settled_none;
      no_conflict = held_no_conflict;
      asks = λ objects key known held works. held_may_ask objects key known plans.next_step held works;
    }
