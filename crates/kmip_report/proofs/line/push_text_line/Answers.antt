-- The texts and the line feed are the line.
use Rattle.kmip_report.specs.PieceViews.{pieces_of}
use Rattle.kmip_report.proofs.LineLemmas.{texts_whole}
use Rattle.kmip_report.proofs.line.push_text_line.Goals as goal

pub returns : goal.returns
returns c =
    texts_whole c.push_text.result c.args.text.now.items c.push_texts.new.text.items c.push_text.new.text.items (pieces_of c.args.pieces.now) c.in_ok-push_texts.ensures c.push_text.ensures.ok
