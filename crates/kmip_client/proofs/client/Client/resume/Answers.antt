-- Key by key.
use Rattle.std.proofs.Common.{refl, rules, arith}
use Rattle.kmip_client.proofs.SavingLemmas.{all_shaped, all_held, as_many}
use Rattle.kmip_client.proofs.client.Client.resume.Goals as goal

pub count_working-working-requires : goal.count_working-working-requires
count_working-working-requires c =
    rw (c.as_slice.ensures.value, c.in_ok-knowns.ensures, c.known.ensures, c.keys.ensures.value) (as_many c.args.plan.now c.args.saved.now c.requires)

pub invariant_of-result : goal.invariant_of-result
invariant_of-result c = (
  record {
    lawful = c.keys.ensures.lawful;
    each = rw (c.in_ok-knowns.ensures, c.known.ensures) (all_shaped c.args.plan.now c.args.saved.now c.requires);
    turn = omega arith;
    counted = rw (c.count_working-working.ensures, c.as_slice.ensures.value, c.keys.ensures.value) refl;
  },
  search rules,
)

pub returns-clause-held : goal.returns-clause-held
returns-clause-held c = λ objects so.
    rw (c.in_ok-knowns.ensures, c.known.ensures) (all_held objects c.args.plan.now c.args.saved.now so)
