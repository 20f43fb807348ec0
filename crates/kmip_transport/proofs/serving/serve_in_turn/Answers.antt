-- A message more, or the end of the stream.
use Rattle.std.proofs.Common.{arith}
use Rattle.std.proofs.Math.Facts.{to_z-of_z}
use Rattle.kmip_transport.proofs.ServingLemmas.{serves_at, loses_at, HasServed-one, HasServed-none, served_then}
use Rattle.kmip_transport.proofs.ServingLemmas.{lost_then, too_many, not_too_many, no_framer}
use Rattle.kmip_transport.proofs.serving.serve_in_turn.Goals as goal

pub returns-in_default-clause-served : goal.returns-in_default-clause-served
returns-in_default-clause-served g c = no_framer _ _ _ _

pub loop-turn-init : goal.loop-turn-init
loop-turn-init g c = (c.in-Ok.ensures.empty, HasServed-none _ _ _ _)

pub loop-turn-preserved : goal.loop-turn-preserved
loop-turn-preserved g c = (
  rw c.in-Ok-None.field-0-is at c.in-Ok-None.ensures.empty,
  HasServed-one _ _ _ _ _ _ _ _ _ _ _ c.loop-turn.invariant.1 (rw c.in-Ok-None.field-0-is at c.in-Ok-None.ensures.one),
)

pub returns-in-Ok-Some-clause-served : goal.returns-in-Ok-Some-clause-served
returns-in-Ok-Some-clause-served g c =
    serves_at _ _ _ _ _ _ _ _ _ (to_z-of_z c.ranges.now)
    (served_then _ _ _ _ _ _ _ _ _ _ _ _ c.loop-turn.invariant.1
    (rw c.in-Ok-Some.field-0-is at c.in-Ok-Some.ensures.ended))

pub returns-in-Err-clause-lost : goal.returns-in-Err-clause-lost
returns-in-Err-clause-lost g c =
    loses_at _ _ _ _ _ _ _ _ _ (to_z-of_z c.ranges.now)
    (lost_then _ _ _ _ _ _ _ _ _ _ _ _ c.loop-turn.invariant.1 c.in-Err.ensures.lost)

pub returns-clause-served : goal.returns-clause-served
returns-clause-served g c =
    serves_at _ _ _ _ _ _ _ _ _ (to_z-of_z c.ranges.now)
    (too_many _ _ _ _ _ _ _ _ c.the_laws_of_sizes_hold.ensures.short c.loop-turn.invariant.1)

pub returns-clause-sure : goal.returns-clause-sure
returns-clause-sure g c = λ sure io.
    not_too_many _ _ _ _ _ _ _ _ c.loop-turn.invariant.1 (c.is_bounded.ensures sure)
    (omega (arith, c.loop-turn-test.false, c.loop-turn.auto._turn-end))
