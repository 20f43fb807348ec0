-- The opening, the members and the line feed are the document.
use Rattle.kmip_report.specs.PieceViews.{pieces_of}
use Rattle.kmip_report.proofs.LineLemmas.{document_whole}
use Rattle.kmip_report.proofs.line.push_json_line.Goals as goal

pub returns : goal.returns
returns c =
    document_whole c.push_text-2.result c.args.text.now.items c.push_text.new.text.items c.push_piece_members.new.text.items c.push_text-2.new.text.items
    (pieces_of c.args.pieces.now) c.in_ok-push_text.ensures.ok c.in_ok-push_piece_members.ensures c.push_text-2.ensures.ok
