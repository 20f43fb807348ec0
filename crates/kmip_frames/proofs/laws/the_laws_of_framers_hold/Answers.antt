use Rattle.kmip_frames.proofs.Calls.{run_stream, runs_same}
use Rattle.kmip_frames.proofs.Feeding.{two_pieces}
use Rattle.kmip_frames.proofs.laws.the_laws_of_framers_hold.Goals as goal

pub returns-clause-stream : goal.returns-clause-stream
returns-clause-stream c = run_stream

pub returns-clause-same : goal.returns-clause-same
returns-clause-same c = runs_same

pub returns-clause-pieces : goal.returns-clause-pieces
returns-clause-pieces c = two_pieces
