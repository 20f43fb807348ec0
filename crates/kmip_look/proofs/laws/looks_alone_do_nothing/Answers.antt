-- No move takes an effect, or touches an object of these names.
use Rattle.kmip_look.proofs.AloneLemmas.{left_alone}
use Rattle.kmip_look.proofs.laws.looks_alone_do_nothing.Goals as goal

pub returns : goal.returns
returns c = left_alone
