-- Key by key.
use Rattle.std.proofs.Common.{rules}
use Rattle.kmip_client.proofs.ClientLemmas.{fresh_are_shaped}
use Rattle.kmip_client.proofs.HeldLemmas.{fresh_held}
use Rattle.kmip_client.proofs.client.Client.fresh.Goals as goal

pub invariant_of-result : goal.invariant_of-result
invariant_of-result c = (rw (c.in_ok-knowns.ensures, c.keys.ensures.value, c.count.ensures.count) (fresh_are_shaped c.args.plan.now c.keys.ensures.lawful), search rules)

pub returns-clause-held : goal.returns-clause-held
returns-clause-held c = λ objects. rw (c.in_ok-knowns.ensures, c.keys.ensures.value) (fresh_held objects c.args.plan.now)
