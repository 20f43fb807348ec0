-- The desk keeps the rules while the lock is waited for.
use Rattle.kmip_desk.proofs.locking.take_lock.Given as goal

abbrev pub invariant-loop : goal.invariant-loop
invariant-loop g l = (g.D.Desk.view l.fn.desk).lawful → (g.D.Desk.view l.desk).lawful
