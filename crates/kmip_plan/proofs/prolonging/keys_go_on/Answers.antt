-- Each key of the old plan goes on in the new one that stands in its place.
use Rattle.std.proofs.Common.{◌≡◌, ◌<◌, length, get_or, rules}
use Rattle.kmip_plan.specs.Prolonging.{GoesOn}
use Rattle.kmip_plan.proofs.ProlongingLemmas.{onward}
use Rattle.kmip_plan.proofs.prolonging.keys_go_on.Goals as goal

pub loop-place-preserved : goal.loop-place-preserved
loop-place-preserved c =
    let new = c.args.new.now in
    let place = c.loop-place.place in
    let later = c.in-Some.later.now in
    let there : place < length new = search rules in
    let is : later ≡ get_or new place later = search rules in
    let goes : GoesOn later c.index-old-place.result = c.goes_on.ensures.0 c.if-not-goes_on.false in
    onward new c.args.old.now place later c.index-old-place.result there is c.loop-place-test.true c.index-old-place.is goes c.loop-place.invariant
