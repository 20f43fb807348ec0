-- Run by run.
use Rattle.std.proofs.Common.{◌<◌, length, rules, suc, arith, subst, sym, ◌≡◌, ◌+◌}
use Rattle.std.proofs.lemmas.Option.{slice_get-get_or}
use Rattle.std.proofs.lemmas.Result.{err_from_is_err_and}
use Rattle.kmip_runs.specs.PrivateCrashes.{AreCrashing, CrashStage, CrashesEach}
use Rattle.kmip_runs.proofs.CrashingRunsLemmas.{crashing_all, crashing_more, crashing_none, crashing_nothing}
use Rattle.kmip_runs.proofs.CrashingRunsLemmas.{crashing_off, batch_at, failed_so}
use Rattle.kmip_runs.proofs.crashing.crash_each.Goals as goal

pub loop-place-init : goal.loop-place-init
loop-place-init g c = (
  crashing_none c.the_laws_below_hold.ensures c.args.plan.now c.args.runs.now c.in_ok-client.client
      (g.L.Link.seen c.args.link.now) c.args.end.now
      c.in_ok-client.ensures.fresh (c.in_ok-client.ensures.held (g.L.Link.seen c.args.link.now).past.objects)
      c.requires.no_end c.requires.none_saved c.requires.none_left,
  g.met.L.Link.itself c.args.link.now,
)

pub loop-place-preserved : goal.loop-place-preserved
loop-place-preserved g c =
    let keys = c.args.plan.now in
    let runs = c.args.runs.now in
    let place = c.loop-place.place in
    let below : place < length runs = search rules in
    let first = g.L.Link.seen c.args.link.now in
    let now : CrashStage = record {
      client = c.one_crashing.new.client;
      link = g.L.Link.seen c.one_crashing.new.link;
      end = c.one_crashing.new.end;
    } in
    let one = c.one_crashing.ensures in
    let next : place + 1 ≡ suc place = omega arith in
    let followed = c.in_ok-one_crashing.ensures.followed (λ is. absurd cc) in (
      subst (λ at. AreCrashing keys runs at first now) (sym next)
          (crashing_more c.the_laws_below_hold.ensures keys runs place _ first _ now
          (slice_get-get_or runs place _ below) one.keys_stay one.suits one.well one.honest
          c.in_ok-one_crashing.ensures.come c.loop-place.invariant.0),
      g.met.L.Link.twice c.args.link.now c.loop-place.link c.one_crashing.new.link c.loop-place.invariant.1 followed,
    )

-- there was no memory for a client
pub returns-in_err-client : goal.returns-in_err-client
returns-in_err-client g c =
    let result = c.from_residual.result in
    let fault = err_from_is_err_and result c.from_residual.ensures.1 in
    let x = g.L.Link.seen c.args.link.now in
    subst (λ r. CrashesEach x c.args.plan.now c.args.runs.now r c.args.end.now x
    (g.L.Link.follows c.args.link.now c.args.link.now)) (sym fault.1)
    (crashing_nothing c.the_laws_below_hold.ensures c.args.plan.now c.args.runs.now x c.args.end.now fault.0 _
    c.requires.no_end c.requires.none_saved c.requires.none_left fault.2)

-- a run has no end
pub returns-in_err-one_crashing : goal.returns-in_err-one_crashing
returns-in_err-one_crashing g c =
    let keys = c.args.plan.now in
    let runs = c.args.runs.now in
    let place = c.loop-place.place in
    let below : place < length runs = search rules in
    let first = g.L.Link.seen c.args.link.now in
    let old : CrashStage = record {
      client = c.loop-place.client;
      link = g.L.Link.seen c.loop-place.link;
      end = c.loop-place.end;
    } in
    let new : CrashStage = record {
      client = c.one_crashing.new.client;
      link = g.L.Link.seen c.one_crashing.new.link;
      end = c.one_crashing.new.end;
    } in
    let result = c.from_residual-in_err-one_crashing.result in
    let fault = err_from_is_err_and result c.from_residual-in_err-one_crashing.ensures.1 in
    subst (λ r. CrashesEach first keys runs r new.end new.link
    (g.L.Link.follows c.args.link.now c.one_crashing.new.link)) (sym fault.1)
    (crashing_off c.the_laws_below_hold.ensures keys runs place _ first old new c.one_crashing.result fault.0 _ _
    (slice_get-get_or runs place _ below)
    (failed_so c.one_crashing.result c.in_err-one_crashing.field-0.0 fault.0 c.in_err-one_crashing.was fault.2)
    (λ followed. g.met.L.Link.twice c.args.link.now c.loop-place.link c.one_crashing.new.link c.loop-place.invariant.1
    followed) c.one_crashing.ensures c.loop-place.invariant.0)

-- all were made
pub returns : goal.returns
returns g c =
    let runs = c.args.runs.now in
    let first = g.L.Link.seen c.args.link.now in
    let now : CrashStage = record {
      client = c.loop-place.client;
      link = g.L.Link.seen c.loop-place.link;
      end = c.loop-place.end;
    } in
    crashing_all c.args.plan.now runs c.loop-place.place first now tt _ (search rules) c.loop-place.invariant.1
    c.loop-place.invariant.0

pub one_crashing-requires-clause-batch : goal.one_crashing-requires-clause-batch
one_crashing-requires-clause-batch g c =
    let below : c.loop-place.place < length c.args.runs.now = search rules in
    batch_at c.args.runs.now c.loop-place.place _ below c.requires.batches
