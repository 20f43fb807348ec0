-- All words of the run were done, and there was no memory to note its end.
use Rattle.kmip_scripted.proofs.EndingLemmas.{run_unnoted}
use Rattle.kmip_scripted.proofs.WordLemmas.{on_err}
use Rattle.kmip_scripted.proofs.scripted.Scripted.finish_run.Goals as goal

pub returns-in_err-note_end-clause-begun : goal.returns-in_err-note_end-clause-begun
returns-in_err-note_end-clause-begun g c =
    on_err c.from_residual-in_err-note_end.result
    (run_unnoted c.args.self.now c.do_words.new.self c.note_end.new.self c.in_ok-do_words.ensures.ok c.in_err-note_end.ensures.err)
