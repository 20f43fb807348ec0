-- The pieces are those of the fault.
use Rattle.std.proofs.Common.{ap}
use Rattle.kmip_report.specs.Documents.{text_or_null}
use Rattle.kmip_report.specs.FaultLines.{fault_line}
use Rattle.kmip_report.proofs.ForCallers.{last_piece, noted_piece, said_as, then_pieces}
use Rattle.kmip_report.proofs.faults.pieces_of_fault.Goals as goal

pub returns : goal.returns
unfolding fault_line
returns c =
    then_pieces c.word.ensures
    (then_pieces c.word_or.ensures
    (then_pieces (noted_piece c.text_or_null.ensures)
    (last_piece (noted_piece (said_as c.text_or_null-2.ensures (ap text_or_null c.word_of_cause.ensures))))))
