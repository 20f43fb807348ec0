-- Run by run.
use Rattle.std.proofs.Common.{◌<◌, ◌+◌, ◌≡◌, [], arith, ap, filter, length, suc, rules, refl, subst, sym, take}
use Rattle.std.proofs.Math.Seq.{take_all}
use Rattle.std.specs.List.{AllZip}
use Rattle.std.specs.Prelude.{⊤}
use Rattle.std.proofs.lemmas.List.Elements.{All-nil}
use Rattle.std.proofs.lemmas.Option.{slice_get-get_or}
use Rattle.kmip_client.specs.Clients.{fresh}
use Rattle.kmip_progress.specs.Suiting.{Suits}
use Rattle.kmip_runs.specs.Campaign.{CalmLink, IsEnd, Settles, saves}
use Rattle.kmip_runs.proofs.CampaignLemmas.{campaigned}
use Rattle.kmip_protocol.specs.Past.{is_planned}
use Rattle.kmip_runs.proofs.DriveLemmas.{further_if}
use Rattle.kmip_runs.proofs.EndingLemmas.{join_if, join_none, join_then}
use Rattle.kmip_runs.specs.Losing.{AllOutlast}
use Rattle.kmip_runs.proofs.OutlastLemmas.{outlast_more, outlast_none}
use Rattle.kmip_runs.proofs.OrderLemmas.{ends_all, ends_same}
use Rattle.kmip_runs.proofs.RememberLemmas.{broken_known, no_ok, recalled_known, recalled_none}
use Rattle.kmip_runs.proofs.RunLemmas.{carried_on, no_runs, ran_nothing, ran_off, running_more, running_none}
use Rattle.kmip_runs.proofs.TurnedRunLemmas.{all_turned, more_turned, none_turned, nothing_turned}
use Rattle.kmip_runs.proofs.campaigning.run_each.Goals as goal

-- where there is no run nothing is made
pub returns-then-is_empty : goal.returns-then-is_empty
returns-then-is_empty g c =
    let keys = c.args.plan.now in
    let carried = c.args.carried.now in
    let runs = c.args.runs.now in
    let old = g.L.Link.seen c.args.link.now in
    let end = c.args.end.now in
    let none = no_runs runs (search rules) in
    record {
      all = record {
        suits = rw c.requires.none_saved (All-nil (Suits keys));
        stays_honest = λ names honest. honest;
        well = λ good holds.
            let nothing =
            ran_nothing keys carried c.the_laws_below_hold.ensures old _ end.runs.items end.saved.items
            c.requires.no_end c.requires.none_saved good in
            record {
              campaigned = nothing.0;
              further = nothing.1;
              outlasts = λ honest is.
                  subst (λ rs. AllOutlast keys rs end.runs.items old.disturbances old.disturbances) (sym none)
                  (outlast_none keys [] end.runs.items _ _ c.requires.no_end refl);
            };
        order = search rules;
        complete = λ is. rw (none, c.requires.no_end, c.requires.none_saved) (tt, refl);
        fewer = λ not. absurd (not refl);
        known =
            recalled_known keys carried runs (fresh keys) old old end.runs.items end.saved.items _
            (recalled_none keys carried runs (fresh keys) old end.runs.items end.saved.items refl c.requires.no_end
            c.requires.none_saved);
        settles = λ calmly holds is. (rw (none, c.requires.no_end) tt, calmly);
      };
      turned = nothing_turned keys carried runs _ _ old.past end.runs.items c.requires.no_end;
      ended = λ honest. join_none [] end.runs.items _ _ _ _ _ c.requires.no_end refl (λ is. refl);
      followed = λ is. g.met.L.Link.itself c.args.link.now;
    }

-- there was no memory for a client
pub returns-in_err-client : goal.returns-in_err-client
returns-in_err-client g c =
    let keys = c.args.plan.now in
    let carried = c.args.carried.now in
    let runs = c.args.runs.now in
    let old = g.L.Link.seen c.args.link.now in
    let end = c.args.end.now in
    let failed = c.from_residual.ensures.0 in
    record {
      all = record {
        suits = rw c.requires.none_saved (All-nil (Suits keys));
        stays_honest = λ names honest. honest;
        well = λ good holds.
            let nothing =
            ran_nothing keys carried c.the_laws_below_hold.ensures old _ end.runs.items end.saved.items
            c.requires.no_end c.requires.none_saved good in
            record {
              campaigned = nothing.0;
              further = nothing.1;
              outlasts = λ honest is. no_ok c.from_residual.result tt failed is;
            };
        order = search rules;
        complete = λ is. no_ok c.from_residual.result tt failed is;
        fewer = search rules;
        known =
            recalled_known keys carried runs (fresh keys) old old end.runs.items end.saved.items _
            (recalled_none keys carried runs (fresh keys) old end.runs.items end.saved.items refl c.requires.no_end
            c.requires.none_saved);
        settles = λ calmly holds is. no_ok c.from_residual.result tt failed is;
      };
      turned = nothing_turned keys carried runs _ _ old.past end.runs.items c.requires.no_end;
      ended = λ honest. join_none [] end.runs.items _ _ _ _ _ c.requires.no_end refl (λ is. refl);
      followed = λ is. no_ok c.from_residual.result tt failed is;
    }

pub loop-place-init : goal.loop-place-init
loop-place-init g c = record {
  running =
      running_none c.args.plan.now c.args.carried.now c.the_laws_below_hold.ensures c.in_ok-client.client
      (g.L.Link.seen c.args.link.now) c.args.runs.now c.args.end.now.runs.items
      c.args.end.now.saved.items c.in_ok-client.ensures.fresh c.in_ok-client.ensures.held c.requires.no_end
      c.requires.none_saved;
  ended = λ honest. join_none [] c.args.end.now.runs.items ⊤ _ _ _ _ c.requires.no_end refl (λ is. refl);
  outlasted = λ good holds honest. outlast_none c.args.plan.now c.args.runs.now c.args.end.now.runs.items _ _
      c.requires.no_end refl;
  followed = g.met.L.Link.itself c.args.link.now;
  turned = none_turned c.args.plan.now c.args.carried.now c.args.runs.now c.in_ok-client.client _
      (g.L.Link.seen c.args.link.now).past c.args.end.now.runs.items
      c.args.end.now.saved.items c.in_ok-client.ensures.fresh c.requires.no_end c.requires.none_saved;
}

-- memory ran out in a run
pub returns-in_err-one_run : goal.returns-in_err-one_run
returns-in_err-one_run g c =
    let keys = c.args.plan.now in
    let carried = c.args.carried.now in
    let runs = c.args.runs.now in
    let old = g.L.Link.seen c.args.link.now in
    let mid = g.L.Link.seen c.loop-place.link in
    let new = g.L.Link.seen c.one_run.new.link in
    let before = c.loop-place.invariant.running in
    let end = c.loop-place.end in
    let after = c.one_run.new.end in
    let result = c.from_residual-in_err-one_run.result in
    let failed = c.from_residual-in_err-one_run.ensures.0 in
    let below : c.loop-place.place < length runs = search rules in
    let same = c.in_err-one_run.ensures.broken.same.same_runs in
    record {
      all = record {
        suits = c.one_run.ensures.suits;
        stays_honest = λ names honest. c.one_run.ensures.honest names (before.honest_still names honest);
        well = λ good holds.
            let off =
            ran_off keys carried c.the_laws_below_hold.ensures c.loop-place.client c.one_run.new.client old mid new
            runs c.loop-place.place _ end.runs.items
            after.runs.items end.saved.items after.saved.items c.a_plan_is_lawful.ensures c.one_run.ensures.keys_stay
            before
            (λ standing holds. let well = c.one_run.ensures.well standing holds in (well.standing, well.onward))
            (λ standing holds. further_if keys mid new _ _ (λ is. no_ok result tt failed is)
            (c.one_run.ensures.well standing holds).further) good holds in
            record { campaigned = off.0; further = off.1; outlasts = λ honest is. no_ok result tt failed is };
        order = ends_same keys runs c.loop-place.place end.runs.items after.runs.items same before.each;
        complete = λ is. no_ok result tt failed is;
        fewer = λ not. let long = ap length same in omega (arith, below, long, before.as_many_ends);
        known =
            broken_known keys carried runs c.loop-place.client old mid new _ end after c.loop-place.place _
            (slice_get-get_or runs c.loop-place.place _ below)
            before.as_many_ends (λ is. no_ok result tt failed is) before.recalled c.in_err-one_run.ensures.broken;
        settles = λ calmly holds is. no_ok result tt failed is;
      };
      turned =
          all_turned keys carried runs c.loop-place.client _ _ old.past mid.past new.past end.runs.items
          after.runs.items end.saved.items same
          (λ is. no_ok result tt failed is) c.loop-place.invariant.turned;
      ended = λ honest.
          join_then [] end.runs.items after.runs.items ⊤ _ _ _ _ _ _ _ tt (c.loop-place.invariant.ended honest)
          (join_if end.runs.items after.runs.items _ _ _ _ _ _ (λ is. no_ok result tt failed is)
          (c.one_run.ensures.ended (before.honest_still (is_planned keys) honest)));
      followed = λ is. no_ok result tt failed is;
    }

pub loop-place-preserved : goal.loop-place-preserved
loop-place-preserved g c =
    let below : c.loop-place.place < length c.args.runs.now = search rules in
    record {
      running =
          running_more c.args.plan.now c.args.carried.now c.the_laws_below_hold.ensures c.loop-place.client
          c.one_run.new.client
          (g.L.Link.seen c.args.link.now) (g.L.Link.seen c.loop-place.link) (g.L.Link.seen c.one_run.new.link)
          c.args.runs.now c.loop-place.place _ c.loop-place.end c.one_run.new.end c.a_plan_is_lawful.ensures
          (slice_get-get_or c.args.runs.now c.loop-place.place _ below) c.loop-place.invariant.running
          c.one_run.ensures.keys_stay c.one_run.ensures.suits
          (λ standing carried. let well = c.one_run.ensures.well standing carried in (well.standing, well.onward))
          c.one_run.ensures.honest
          (λ standing carried. further_if c.args.plan.now (g.L.Link.seen c.loop-place.link)
          (g.L.Link.seen c.one_run.new.link) _ ⊤ (λ is. search rules)
          (c.one_run.ensures.well standing carried).further) c.in_ok-one_run.ensures.ran
          (λ standing carried. (c.in_ok-one_run.ensures.well standing carried).settles);
      ended = λ honest.
          join_then [] c.loop-place.end.runs.items c.one_run.new.end.runs.items ⊤ ⊤ _ _ _ _ _ _ tt
          (c.loop-place.invariant.ended honest)
          (join_if c.loop-place.end.runs.items c.one_run.new.end.runs.items _ ⊤ _ _ _ _ (λ is. search rules)
          (c.one_run.ensures.ended (c.loop-place.invariant.running.honest_still (is_planned c.args.plan.now) honest)));
      outlasted = λ good holds honest.
          let (standing, went) = c.loop-place.invariant.running.stands good holds in
          let now =
          carried_on c.args.plan.now c.args.carried.now c.the_laws_below_hold.ensures (g.L.Link.seen c.args.link.now)
          (g.L.Link.seen c.loop-place.link)
          c.a_plan_is_lawful.ensures went holds in
          let e : c.loop-place.place + 1 ≡ suc c.loop-place.place = omega arith in
          subst
          (λ n. AllOutlast c.args.plan.now (take n c.args.runs.now) c.one_run.new.end.runs.items
          (g.L.Link.seen c.args.link.now).disturbances (g.L.Link.seen c.one_run.new.link).disturbances)
          (sym e)
          (outlast_more c.args.plan.now c.args.runs.now c.loop-place.place _ c.loop-place.end.runs.items
          c.one_run.new.end.runs.items _ _ _
          (slice_get-get_or c.args.runs.now c.loop-place.place _ below)
          (c.loop-place.invariant.outlasted good holds honest)
          ((c.in_ok-one_run.ensures.well standing now).outlasts
          (c.loop-place.invariant.running.honest_still (is_planned c.args.plan.now) honest)));
      followed = g.met.L.Link.twice c.args.link.now c.loop-place.link c.one_run.new.link
          c.loop-place.invariant.followed c.in_ok-one_run.ensures.followed;
      turned =
          more_turned c.args.plan.now c.args.carried.now c.args.runs.now c.loop-place.client c.one_run.new.client _ _
          (g.L.Link.seen c.args.link.now).past
          (g.L.Link.seen c.loop-place.link).past (g.L.Link.seen c.one_run.new.link).past _ c.loop-place.end.runs.items
          c.one_run.new.end.runs.items c.loop-place.end.saved.items
          c.one_run.new.end.saved.items c.loop-place.place
          (slice_get-get_or c.args.runs.now c.loop-place.place _ below) c.loop-place.invariant.running.as_many_ends
          (c.loop-place.invariant.running.honest_still (is_planned c.args.plan.now)) c.loop-place.invariant.turned
          c.in_ok-one_run.ensures.turned
          c.in_ok-one_run.ensures.ran.ended.saved_are;
    }

-- all were made
pub returns : goal.returns
returns g c =
    let keys = c.args.plan.now in
    let carried = c.args.carried.now in
    let runs = c.args.runs.now in
    let old = g.L.Link.seen c.args.link.now in
    let new = g.L.Link.seen c.loop-place.link in
    let before = c.loop-place.invariant.running in
    let end = c.loop-place.end in
    let all = take_all c.loop-place.place runs c.loop-place-test.false in
    record {
      all = record {
        suits = before.suits;
        stays_honest = before.honest_still;
        well = λ good holds. record {
          campaigned = campaigned keys c.loop-place.client old new end.runs.items end.saved.items before.keys_are
              (before.stands good holds);
          further = further_if keys old new ⊤ _ (λ is. tt) (before.further good holds);
          outlasts = λ honest is.
              subst (λ rs. AllOutlast keys rs end.runs.items old.disturbances new.disturbances) all
              (c.loop-place.invariant.outlasted good holds honest);
        };
        order = ends_all keys runs c.loop-place.place end.runs.items before.each;
        complete = λ is.
            subst (λ rs. AllZip (IsEnd keys) rs end.runs.items × (length end.saved.items ≡ length (filter saves rs)))
            all (before.each, before.as_many);
        fewer = λ not. absurd (not refl);
        known = recalled_known keys carried runs c.loop-place.client old new end.runs.items end.saved.items _
            before.recalled;
        settles = λ calmly holds is.
            subst (λ rs. AllZip (Settles keys) rs end.runs.items × CalmLink keys new) all (before.settled calmly holds);
      };
      turned =
          all_turned keys carried runs c.loop-place.client _ _ old.past new.past new.past end.runs.items
          end.runs.items end.saved.items refl
          (λ is. refl) c.loop-place.invariant.turned;
      ended = λ honest. join_if [] end.runs.items ⊤ _ _ _ _ _ (λ is. tt) (c.loop-place.invariant.ended honest);
      followed = λ is. c.loop-place.invariant.followed;
    }
