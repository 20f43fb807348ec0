-- Where memory runs out nothing is said.
use Rattle.std.proofs.lemmas.Result.{err_from_is_err_and}
use Rattle.kmip_progress.proofs.reading.entries_of_text.Goals as goal

pub returns-in_err-lines : goal.returns-in_err-lines
returns-in_err-lines c =
    let fault = err_from_is_err_and c.from_residual.result c.from_residual.ensures.1 in
    rw (fault.1, fault.2) tt

pub returns-in_err-end : goal.returns-in_err-end
returns-in_err-end c =
    let fault = err_from_is_err_and c.from_residual-in_err-end.result c.from_residual-in_err-end.ensures.1 in
    rw (fault.1, fault.2) tt
