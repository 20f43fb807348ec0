-- What is appended so far, and then the texts of the pieces that are left, is the text of all of them.
use Rattle.std.proofs.Common.{◌≡◌, ◌++◌, drop}
use Rattle.kmip_report.specs.PieceViews.{pieces_of}
use Rattle.kmip_report.specs.Pieces.{piece_texts}
use Rattle.kmip_report.proofs.line.push_texts.Given as goal

abbrev pub invariant-loop-piece : goal.invariant-loop-piece
invariant-loop-piece l =
    l.text.items ++ piece_texts (pieces_of (drop l.piece-index l.pieces))
    ≡ l.initial.text.items ++ piece_texts (pieces_of l.pieces)
