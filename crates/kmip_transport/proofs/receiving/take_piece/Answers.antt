-- It asks for no more than the framer lacks.
use Rattle.kmip_transport.proofs.PieceLemmas.{fits}
use Rattle.kmip_transport.proofs.receiving.take_piece.Goals as goal

pub returns : goal.returns
returns g c = c.read_into.ensures

pub read_into-requires-clause-fits : goal.read_into-requires-clause-fits
read_into-requires-clause-fits g c = fits _ _ _ _ _ c.min-size.ensures c.wants.ensures.value
