-- One identifier more is written.
use Rattle.std.proofs.Common.{◌∙◌, ◌++◌, ◌∷◌, [], take, ap, sym}
use Rattle.std.proofs.lemmas.List.{flat_map_more, take_more}
use Rattle.std.specs.List.{flat_map}
use Rattle.kmip_trace.specs.Answers.{spaced_text}
use Rattle.kmip_trace.proofs.outcomes.push_spaced.Goals as goal

pub loop-uid-preserved : goal.loop-uid-preserved
loop-uid-preserved c =
    let before = c.args.text.now.items in
    let written = take c.loop-uid.uid-index c.args.uids.now in
    let uid = c.uid-item.result in
    let next = take_more c.args.uids.now c.loop-uid.uid-index uid c.loop-uid-test.true ∙ ap (λ x. written ++ x ∷ []) (sym c.uid-item.is) in
    c.in_ok-push_done.ensures ∙ ap (λ text. text ++ spaced_text uid) c.loop-uid.invariant ∙ flat_map_more spaced_text before written uid
    ∙ ap (λ all. before ++ flat_map spaced_text all) (sym next)
