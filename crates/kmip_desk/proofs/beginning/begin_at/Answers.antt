-- What was read under the lock is what the run begins with.
use Rattle.kmip_desk.proofs.BeginLemmas.{begins_from}
use Rattle.kmip_desk.proofs.beginning.begin_at.Goals as goal

pub returns-clause-begins : goal.returns-clause-begins
returns-clause-begins g c =
    begins_from _ _ _ _ _ _ _ _ c.in_ok-client.client c.set_batch.new.self c.batch_of.result
    c.in_ok-looked_at.looked_at c.set_batch.ensures c.in_ok-client.ensures c.in_ok-take_lock.ensures
    c.looked_at.ensures.kept c.batch_of.ensures.asked c.in_ok-looked_at.ensures.believed
    c.in_ok-looked_at.ensures.unlooked
