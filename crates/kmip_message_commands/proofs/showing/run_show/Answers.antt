-- What the command wrote, and then the line of a fault.
use Rattle.kmip_message_commands.specs.Printing.{Prints, Tells}
use Rattle.kmip_message_commands.specs.Showing.{shown_input, shown_lines, has_no_item}
use Rattle.kmip_report.proofs.EndingLemmas.{finished_whole}
use Rattle.kmip_message_commands.proofs.FinishingLemmas.{finished_front}
use Rattle.kmip_message_commands.proofs.showing.run_show.Goals as goal

pub returns-clause-text : goal.returns-clause-text
returns-clause-text g c =
    finished_whole _ _ _ _ (λ new _. Prints (shown_input c.args.form) (g.R.Read.remaining c.args.reader.now) (g.W.Write.contents c.args.writer.now) new) c.finished.ensures c.show_lines-ended.ensures.text

pub returns-clause-refused : goal.returns-clause-refused
returns-clause-refused g c =
    finished_whole _ _ _ _ (λ _ refused. Tells has_no_item (g.R.Read.remaining c.args.reader.now) refused) c.finished.ensures c.show_lines-ended.ensures.refused

pub returns-clause-broken : goal.returns-clause-broken
returns-clause-broken g c =
    finished_front (shown_lines c.args.form) _ _ _ _ _ _ c.finished.ensures c.show_lines-ended.ensures.broken
