-- By the lemmas of each.
use Rattle.kmip_protocol.proofs.CleanLemmas.{clean_leaves}
use Rattle.kmip_protocol.proofs.DisturbedLemmas.{disturbed_leaves}
use Rattle.kmip_protocol.proofs.LateLemmas.{all_late}
use Rattle.kmip_protocol.proofs.LeftLemmas.{most_known}
use Rattle.kmip_protocol.proofs.LeftSumLemmas.{all_most_bound, all_most_falls, all_most_known, all_opened, needs_left}
use Rattle.kmip_protocol.proofs.LeftSumLemmas.{numbers}
use Rattle.kmip_protocol.proofs.SumLemmas.{held_at}
use Rattle.std.proofs.Common.{arith}
use Rattle.kmip_protocol.proofs.losing_laws.the_laws_of_losing_hold.Goals as goal

pub returns : goal.returns
returns c =
    let laws = c.the_laws_below_hold.ensures in
    record {
      needs_left = needs_left;
      left_bounded = λ keys p knowns lawful sound held.
          let known = all_most_known keys knowns p
          (λ j key known here there. most_known key known p
          (numbers laws keys p key known sound (laws.plan.found keys j key lawful here)
          (held_at keys knowns j key known p.objects held here there))) in
          omega (arith, known, all_most_bound laws.plan.bounds keys knowns);
      left_known = λ keys p knowns lawful sound held.
          all_most_known keys knowns p (λ j key known here there.
          most_known key known p (numbers laws keys p key known sound (laws.plan.found keys j key lawful here)
          (held_at keys knowns j key known p.objects held here there)));
      all_left = λ keys p lawful opening.
          all_opened laws.plan.bounds keys p (λ j key here.
          opening.no_object key (laws.plan.found keys j key lawful here)) opening.no_request;
      falls = all_most_falls;
      late = λ keys old new knowns lawful sound held delivered.
          all_late laws keys old new knowns lawful sound held delivered;
      clean = λ keys old new knowns places question answer lawful sound held about clean.
          clean_leaves laws keys old new knowns places question answer lawful sound held about clean;
      disturbed = λ keys old new knowns places question answer lawful sound held about hands.
          disturbed_leaves laws keys old new knowns places question answer lawful sound held about hands;
    }
