-- Where memory runs out nothing is said.
use Rattle.std.proofs.lemmas.Result.{err_from_is_err_and}
use Rattle.kmip_plan.proofs.reading.key_in.Goals as goal

pub returns-in_err-copied : goal.returns-in_err-copied
returns-in_err-copied c =
    let fault = err_from_is_err_and c.from_residual-in_err-copied.result c.from_residual-in_err-copied.ensures.1 in
    rw (fault.1, fault.2) tt
