-- The lines of the first keys say what is known now, the others what was known before.
use Rattle.kmip_client.proofs.KeepingUpLemmas.{IsBroughtTo}
use Rattle.kmip_client.proofs.saving.bring_up.Given as goal

abbrev pub invariant-loop-place : goal.invariant-loop-place
invariant-loop-place l = IsBroughtTo l.plan l.knowns l.place l.saved
