-- The first line feed is the one that is found.
use Rattle.std.proofs.Common.{arith, take, ap, Some}
use Rattle.kmip_belief.proofs.OriginLemmas.{fed_at, first_fed, never_fed, none_fed}
use Rattle.kmip_belief.proofs.origins.behind_line.Goals as goal

pub returns-then-bytes-place-eq10-clause-found : goal.returns-then-bytes-place-eq10-clause-found
returns-then-bytes-place-eq10-clause-found c =
    let bytes = c.args.bytes.now in
    let place = c.loop-place.place in
    let within = c.loop-place-test.true in
    (take place bytes, none_fed bytes place within c.loop-place.invariant, fed_at bytes place within c.if-bytes-place-eq10.true)

pub returns-then-bytes-place-eq10-clause-all : goal.returns-then-bytes-place-eq10-clause-all
returns-then-bytes-place-eq10-clause-all c = λ line rest none e.
    ap Some (first_fed c.args.bytes.now line rest c.loop-place.place c.if-bytes-place-eq10.true c.loop-place.invariant none e)

pub returns-clause-all : goal.returns-clause-all
returns-clause-all c = λ line rest none e.
    absurd (never_fed c.args.bytes.now line rest
    (λ j within. c.loop-place.invariant j (omega (arith, within, c.loop-place-test.false, c.loop-place.auto.place-end))) e)
