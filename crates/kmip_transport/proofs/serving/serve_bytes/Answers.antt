-- In memory all messages are served, or memory ran out.
use Rattle.std.proofs.Common.{Ok, ap, subst}
use Rattle.std.proofs.Math.Facts.{to_z-of_z}
use Rattle.kmip_transport.specs.Serving.{ServesAll, BreaksOff}
use Rattle.kmip_transport.proofs.BytesLemmas.{all_served, broke_off, lost_reply}
use Rattle.kmip_transport.proofs.ServingLemmas.{serves_at, loses_at}
use Rattle.kmip_transport.proofs.serving.serve_bytes.Goals as goal

pub returns-in-Ok-clause-all : goal.returns-in-Ok-clause-all
returns-in-Ok-clause-all g c = λ other.
    let done = c.serve_in_turn-served.new in
    subst (λ before. ServesAll c.args.now c.in-Ok.end c.args.server.now done.server c.args.input.now before
    done.writer.bytes.items)
    (ap (λ v. v.items) c.replace.ensures.value)
    (all_served _ _ _ _ _ _ _ _ c.the_laws_of_streams_hold.ensures.fault
    (serves_at _ _ _ _ _ _ _ _ _ (to_z-of_z c.ranges.now) c.in-Ok.ensures.served)
    (λ io. c.in-Ok.ensures.sure tt (ap Ok io)) other)

pub returns-in-Ok-clause-broken : goal.returns-in-Ok-clause-broken
returns-in-Ok-clause-broken g c = λ is.
    let done = c.serve_in_turn-served.new in
    subst (λ before. BreaksOff c.args.now c.args.server.now done.server c.args.input.now before done.writer.bytes.items)
    (ap (λ v. v.items) c.replace.ensures.value)
    (broke_off _ _ _ _ _ _ _ _ (serves_at _ _ _ _ _ _ _ _ _ (to_z-of_z c.ranges.now) c.in-Ok.ensures.served) is)

pub returns-in-Err-clause-broken : goal.returns-in-Err-clause-broken
returns-in-Err-clause-broken g c = λ is.
    let done = c.serve_in_turn-served.new in
    subst (λ before. BreaksOff c.args.now c.args.server.now done.server c.args.input.now before done.writer.bytes.items)
    (ap (λ v. v.items) c.replace.ensures.value)
    (lost_reply _ _ _ _ _ _ _ _ tt (loses_at _ _ _ _ _ _ _ _ _ (to_z-of_z c.ranges.now) c.in-Err.ensures.lost))
