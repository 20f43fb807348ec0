-- No fault is noted exactly where none was met.
use Rattle.std.proofs.Common.{[]}
use Rattle.kmip_runs.specs.Remembering.{notes_of}
use Rattle.kmip_runs.proofs.DriveLemmas.{further_if}
use Rattle.kmip_runs.proofs.EndingLemmas.{join_if}
use Rattle.kmip_runs.proofs.RunLemmas.{known_if, of_ok, ok_of}
use Rattle.kmip_runs.proofs.TurnedRunLemmas.{turned_if}
use Rattle.kmip_runs.proofs.campaigning.run_all.Goals as goal

pub returns : goal.returns
returns g c =
    let keys = c.args.plan.now in
    let carried = c.args.carried.now in
    let runs = c.args.runs.now in
    let end = c.run_each.new.end in
    let old = g.L.Link.seen c.args.link.now in
    let new = g.L.Link.seen c.run_each.new.link in
    let whole = ok_of c.run_each.result c.err-fault.result c.err-fault.ensures.value in
    let none = of_ok c.run_each.result c.err-fault.result c.err-fault.ensures.value in
    let made = c.run_each.ensures in
    let all = made.all in
    record {
      all = record {
        suits = all.suits;
        stays_honest = all.stays_honest;
        well = λ good holds.
            let well = all.well good holds in
            record {
              campaigned = well.campaigned;
              further = further_if keys old new _ _ whole well.further;
              outlasts = λ honest is. well.outlasts honest (whole is);
            };
        order = all.order;
        complete = λ is. all.complete (whole is);
        fewer = λ not. all.fewer (λ is. not (none is));
        known = known_if keys carried runs (notes_of end) _ _ _ old.past new.past whole all.known;
        settles = λ calmly holds is. all.settles calmly holds (whole is);
      };
      turned = turned_if keys carried runs end.runs.items _ _ _ old.past new.past whole made.turned;
      ended = λ honest. join_if [] end.runs.items _ _ _ _ _ _ whole (made.ended honest);
      followed = λ is. made.followed (whole is);
    }
