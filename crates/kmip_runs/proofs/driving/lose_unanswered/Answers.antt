-- Part by part.
use Rattle.std.proofs.Common.{◌+◌, drop, filter, not, ap, subst, sym, ◌∙◌}
use Rattle.kmip_protocol.specs.Turns.{is_unanswered}
use Rattle.kmip_runs.proofs.PutLemmas.{AreLost, fits_first, fits_not, lost_more, lost_none, opened}
use Rattle.kmip_runs.proofs.driving.lose_unanswered.Goals.{then-not-is_answered, else-not-is_answered}
use Rattle.kmip_runs.proofs.driving.lose_unanswered.Goals as goal

pub loop-part-init : goal.loop-part-init
loop-part-init c = lost_none c.args.client.now (filter (is_unanswered c.args.heard.now) c.args.parts.now)

pub loop-part-preserved : goal.loop-part-preserved
loop-part-preserved c =
    let first = c.args.client.now in
    let now = c.loop-part.client in
    let parts = c.args.parts.now in
    let fits = is_unanswered c.args.heard.now in
    let left = drop (c.loop-part.part-index + 1) parts in
    let before =
    subst (λ ps. AreLost first now (filter fits ps) (filter fits parts)) (opened parts c.loop-part.part-index (record { key = 0; operation = 0 }) c.loop-part-test.true)
    c.loop-part.invariant in
    elim c.if-not-is_answered.branch [
      | then-not-is_answered w ↦
          subst (λ s. AreLost first s (filter fits left) (filter fits parts)) (sym w.client-is)
          (lost_more first now w.lost.new.self _ (filter fits left) (filter fits parts)
          (subst (λ ps. AreLost first now ps (filter fits parts)) (fits_first fits _ left (ap not (sym c.is_answered.ensures ∙ w.if-not-is_answered.true))) before)
          w.lost.ensures.lost w.lost.ensures.kept w.lost.ensures.held)
      | else-not-is_answered w ↦
          subst (λ s. AreLost first s (filter fits left) (filter fits parts)) (sym w.client-is)
          (subst (λ ps. AreLost first now ps (filter fits parts)) (fits_not fits _ left (ap not (sym c.is_answered.ensures ∙ w.if-not-is_answered.false))) before)
    ]
