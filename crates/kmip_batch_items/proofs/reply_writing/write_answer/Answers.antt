-- Part by part.
use Rattle.std.proofs.Common.{refl}
use Rattle.kmip_batch_items.specs.Parts.{id_format}
use Rattle.kmip_batch_items.specs.ReplyFormats.{answered_format, outcome_format, success_format}
use Rattle.kmip_batch_items.proofs.reply_writing.write_answer.Goals as goal

pub returns : goal.returns
unfolding answered_format id_format outcome_format success_format
returns c =
    rw (c.structure.ensures, c.in_ok-push_outcome.ensures, c.in_ok-push_id.ensures)
    (rw (c.in_ok-push_enumeration.ensures, c.new-items.ensures.items, c.new.ensures) refl)
