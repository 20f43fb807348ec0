-- A `save` and a `prolong` end the run, and so does a `restart` where that has any word.
use Rattle.std.proofs.Common.{◌++◌, [], ◌∷◌, false, ap, ◌∙◌}
use Rattle.kmip_scripted.proofs.RunsLemmas.{ended, not_ended, saved}
use Rattle.kmip_scripted.proofs.runs.take.Goals as goal
use Rattle.kmip_scripted.proofs.runs.take.Goals.{then-part+in_ok-push-in-Restart, else-part}

pub returns-after-part-clause-same : goal.returns-after-part-clause-same
returns-after-part-clause-same c = elim c.if-part.branch [
  | then-part+in_ok-push-in-Restart w ↦
      ended c.args.part c.args.word c.in-Restart.number c.args.runs.now.items c.if-part.runs.items c.new-in-Restart.result c.in-Restart.is
      (c.new-in-Restart.ensures ∙ ap (λ s. record { start = s; limit = 0; begun = false }) c.start_at.ensures) w.if-part.true
      (ap (λ v. v.items) w.runs-is ∙ w.in_ok-push-in-Restart.ensures.items ∙ ap (λ run. c.args.runs.now.items ++ run ∷ []) w.run-then-part.ensures)
  | else-part w ↦
      not_ended c.args.part c.args.word c.in-Restart.number c.args.runs.now.items c.if-part.runs.items c.new-in-Restart.result c.in-Restart.is
      (c.new-in-Restart.ensures ∙ ap (λ s. record { start = s; limit = 0; begun = false }) c.start_at.ensures) w.if-part.false
      (c.requires.idle w.if-part.false) (ap (λ v. v.items) w.runs-is)
]

pub returns-in_ok-push-in-Save-clause-same : goal.returns-in_ok-push-in-Save-clause-same
returns-in_ok-push-in-Save-clause-same c =
    saved c.args.part c.args.word c.args.runs.now.items c.push.new.self.items c.new.result c.in-Save.is c.new.ensures
    (c.in_ok-push-in-Save.ensures.items ∙ ap (λ run. c.args.runs.now.items ++ run ∷ []) c.run.ensures)
