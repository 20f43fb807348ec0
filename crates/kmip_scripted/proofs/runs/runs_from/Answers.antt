-- Word by word.
use Rattle.std.proofs.Common.{rules, ◌<◌, ◌≤◌, length, refl}
use Rattle.kmip_scripted.proofs.RunsLemmas.{all_taken, none_taken, one_taken}
use Rattle.kmip_scripted.proofs.runs.runs_from.Goals as goal

pub loop-word-init : goal.loop-word-init
loop-word-init c = search (rules, none_taken)

pub loop-word-preserved : goal.loop-word-preserved
loop-word-preserved c =
    let below : c.loop-word.word-index < length c.args.words.now = search rules in
    one_taken c.args.start c.args.words.now c.args.words.now c.loop-word.word-index _ c.loop-word.part c.in_ok-part.part c.loop-word.runs.items c.take.new.runs.items
    refl below c.loop-word.invariant c.in_ok-part.ensures.limit c.in_ok-part.ensures.idle c.in_ok-part.ensures.same

pub returns : goal.returns
returns c =
    let past : length c.args.words.now ≤ c.loop-word.word-index = search rules in
    all_taken c.args.start c.args.words.now c.loop-word.word-index c.loop-word.part c.args.more c.run.result c.loop-word.runs.items c.push.new.self.items
    past c.loop-word.invariant c.run.ensures c.in_ok-push.ensures.items
