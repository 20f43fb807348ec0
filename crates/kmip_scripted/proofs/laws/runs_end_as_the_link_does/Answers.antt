-- Word by word.
use Rattle.kmip_scripted.proofs.SplitLemmas.{ends_stay, go_on, heads}
use Rattle.kmip_scripted.proofs.laws.runs_end_as_the_link_does.Goals as goal

pub returns-clause-heads : goal.returns-clause-heads
returns-clause-heads c = heads

pub returns-clause-goes_on : goal.returns-clause-goes_on
returns-clause-goes_on c = go_on

pub returns-clause-stay : goal.returns-clause-stay
returns-clause-stay c = ends_stay
