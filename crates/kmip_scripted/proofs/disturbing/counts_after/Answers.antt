-- The exchange went amiss by its word, or by the words before it.
use Rattle.std.proofs.Common.{not, ◌||◌, sym, ap, ◌∙◌}
use Rattle.kmip_scripted.proofs.disturbing.counts_after.Goals as goal
use Rattle.kmip_scripted.proofs.disturbing.counts_after.Goals.{then-not-is_pass, else-not-is_pass}

pub returns : goal.returns
returns c = elim c.if-not-is_pass.branch [
  | then-not-is_pass w ↦
      rw (ap (λ pass. not pass || c.args.repeated) (sym c.is_pass.ensures ∙ w.if-not-is_pass.true) ∙ sym (w.amiss-is ∙ ap not w.if-not-is_pass.true))
      c.counts_after.ensures
  | else-not-is_pass w ↦
      rw (ap (λ pass. not pass || c.args.repeated) (sym c.is_pass.ensures ∙ w.if-not-is_pass.false) ∙ sym w.amiss-is) c.counts_after.ensures
]
