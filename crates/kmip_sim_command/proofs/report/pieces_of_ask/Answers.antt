-- The pieces are these.
use Rattle.std.proofs.Common.{ℕ, List, refl, ap}
use Rattle.serde_json.specs.Data.{Data}
use Rattle.kmip_report.specs.Pieces.{noted}
use Rattle.kmip_report.proofs.ForCallers.{last_piece, then_pieces}
use Rattle.kmip_sim_command.proofs.report.pieces_of_ask.Goals as goal

pub returns : goal.returns
returns c =
    then_pieces c.number.ensures
    (then_pieces refl
    (then_pieces refl
    (last_piece (ap (λ (pair : List ℕ × Data). noted pair.0 pair.1) c.words.ensures))))
