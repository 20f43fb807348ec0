-- All were written.
use Rattle.std.proofs.Common.{string_bytes}
use Rattle.kmip_progress.proofs.SavedLemmas.{all_saved}
use Rattle.kmip_progress.proofs.WritingLemmas.{all_written}
use Rattle.kmip_progress.proofs.saved_text.push_saved_lines.Goals as goal

pub returns-clause-text : goal.returns-clause-text
returns-clause-text c =
    all_written (string_bytes c.loop-one.text) (string_bytes c.args.text.now) c.loop-one.rest.now c.args.keys.now
    c.args.known.now c.loop-one.one-index c.loop-one-test.false c.loop-one.invariant.text

pub returns-clause-lines : goal.returns-clause-lines
returns-clause-lines c =
    all_saved c.loop-one.lines.items c.args.lines.now.items c.loop-one.rest.now c.args.keys.now c.args.known.now
    c.loop-one.one-index c.loop-one-test.false c.loop-one.invariant.lines
