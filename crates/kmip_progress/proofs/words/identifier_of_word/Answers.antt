-- Bytes that are no text are no identifier.
use Rattle.std.proofs.Common.{false, ap}
use Rattle.kmip_progress.specs.declared.progress_fault.ProgressFault.TheVariants as faults
use Rattle.kmip_progress.specs.Reading.{need}
use Rattle.kmip_progress.proofs.WordLemmas.{spelt, no_text, no_utf8, is_err}
use Rattle.kmip_progress.proofs.words.identifier_of_word.Goals as goal

pub returns-in_default : goal.returns-in_default
returns-in_default c =
    let bytes = c.in_ok-bytes.bytes.items in
    let not = no_utf8 bytes (λ u. is_err c.from_utf8.result c.in_default.field-0 c.in_default.is (c.from_utf8.ensures.succeeds u)) in
    ap (need faults.BadText) (spelt c.args.word.now bytes false c.in_ok-bytes.ensures (no_text c.args.word.now bytes not))
