-- By the lemmas of each.
use Rattle.kmip_protocol.proofs.FurtherLemmas.{miss_no_less}
use Rattle.kmip_protocol.proofs.NeedLemmas.{end_is_there}
use Rattle.kmip_protocol.proofs.ReadyLemmas.{nothing_here, sound_here}
use Rattle.kmip_protocol.proofs.SettlingTurnLemmas.{room_is_left, turn_nearer}
use Rattle.kmip_protocol.proofs.SumLemmas.{all_at_the_end, all_finished, all_fresh, all_most, all_settled, fresh_needs}
use Rattle.kmip_protocol.proofs.SumLemmas.{room_for_all}
use Rattle.kmip_protocol.proofs.settling_laws.the_laws_of_settling_hold.Goals as goal

pub returns : goal.returns
returns c =
    let laws = c.the_laws_below_hold.ensures in
    record {
      ready = λ keys p knowns sound held roomy.
          record { here = sound_here laws keys p sound; held = held; roomy = roomy };
      untouched = λ keys room objects lawful none roomy.
          record {
            here = nothing_here keys objects none;
            held = all_fresh keys objects;
            roomy = room_for_all keys
                objects room roomy;
          };
      chains = λ keys objects lawful none.
          fresh_needs keys objects (λ j key here. none key (laws.plan.found keys j key lawful here));
      nearer = λ keys names old new knowns places question answer lawful ready about calmly.
          turn_nearer laws keys old new knowns places question answer lawful ready about calmly;
      room = λ further keys names old new knowns places question answer lawful lawful_too on sound ready about calmly
          roomy.
          room_is_left laws further keys old new knowns places question answer lawful lawful_too on sound ready about
          calmly roomy;
      less = miss_no_less;
      bounded = λ room keys objects knowns lawful ready.
          all_most laws.plan.bounds keys knowns objects
          (λ j key o here is. (ready.here key o (laws.plan.found keys j key lawful here) is).own.on_the_way);
      needless = λ keys objects knowns held none place within. all_finished keys knowns objects place held none within;
      needed = λ keys objects knowns held settled. all_settled keys knowns objects held settled;
      at_end = λ keys objects knowns lawful held place key here finished.
          all_at_the_end laws.plan.reached keys knowns objects place key held here finished;
      there = λ keys objects knowns lawful held place key here finished.
          end_is_there key objects (all_at_the_end laws.plan.reached keys knowns objects place key held here finished);
    }
