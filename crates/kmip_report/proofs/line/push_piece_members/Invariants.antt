-- What is appended so far, and then the members of the pieces that are left, is the text of all of them.
use Rattle.std.proofs.Common.{◌≡◌, ◌++◌, drop, true}
use Rattle.serde_json.specs.Written.{members_text}
use Rattle.kmip_report.specs.Documents.{members}
use Rattle.kmip_report.specs.PieceViews.{pieces_of}
use Rattle.kmip_report.specs.Pieces.{piece_members}
use Rattle.kmip_report.proofs.line.push_piece_members.Given as goal

abbrev pub invariant-loop-piece : goal.invariant-loop-piece
invariant-loop-piece l =
    l.text.items ++ members_text true (members (piece_members (pieces_of (drop l.piece-index l.pieces))))
    ≡ l.initial.text.items ++ members_text true (members (piece_members (pieces_of l.pieces)))
