-- Where memory runs out nothing is said.
use Rattle.std.proofs.lemmas.Result.{err_from_is_err_and}
use Rattle.kmip_progress.proofs.reading.read_known.Goals as goal

pub returns-in_err-known : goal.returns-in_err-known
returns-in_err-known c =
    let fault = err_from_is_err_and c.from_residual-in_err-known.result c.from_residual-in_err-known.ensures.1 in
    rw (fault.1, fault.2) tt
