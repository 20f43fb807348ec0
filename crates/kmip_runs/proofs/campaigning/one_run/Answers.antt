-- Begun, driven, ended over the link and noted.
use Rattle.std.proofs.Common.{◌≡◌, ◌∙◌, ◌++◌, ◌∷◌, [], IfSome, arith, ap, refl, rules, subst, sym}
use Rattle.std.specs.List.{All}
use Rattle.kmip_client.specs.Held.{TrueProgress}
use Rattle.kmip_progress.specs.Suiting.{Suits}
use Rattle.kmip_protocol.specs.Past.{is_planned}
use Rattle.kmip_runs.specs.PrivateCampaignParts.{saved_with}
use Rattle.kmip_runs.specs.Remembering.{start_knowns}
use Rattle.kmip_runs.specs.TurnedRuns.{begin_client}
use Rattle.kmip_runs.proofs.CalmLemmas.{settled_run}
use Rattle.kmip_runs.proofs.CampaignLemmas.{all_saved, closed, noted_ending, noted_still, stood}
use Rattle.kmip_runs.proofs.DriveLemmas.{further_if}
use Rattle.kmip_runs.proofs.EndingLemmas.{join_none, join_run}
use Rattle.kmip_runs.proofs.FurtherLemmas.{further_closed, further_nowhere, further_then}
use Rattle.kmip_runs.proofs.KnownLemmas.{always_err, grown_itself}
use Rattle.kmip_runs.proofs.OrderLemmas.{has_ended}
use Rattle.kmip_runs.proofs.OutlastLemmas.{outlasted_run}
use Rattle.kmip_runs.proofs.RememberLemmas.{broken_closed, broken_off, no_ok, ran_closed}
use Rattle.kmip_runs.proofs.RunLemmas.{driven_further, if_ok}
use Rattle.kmip_runs.proofs.TurnedRunLemmas.{ran_turned}
use Rattle.kmip_runs.proofs.campaigning.one_run.Goals as goal

-- there was no memory to begin
pub returns-in_err-begin : goal.returns-in_err-begin
returns-in_err-begin g c =
    let keys = c.args.plan.now in
    let old = g.L.Link.seen c.args.link.now in
    let ends = c.args.end.now.runs.items in
    record {
      keys_stay = search rules;
      suits = search rules;
      well = λ standing holds. record {
        standing = search rules;
        onward = search rules;
        further = further_nowhere c.the_laws_below_hold.ensures.client.itself
            c.the_laws_below_hold.ensures.amid.nothing keys old _;
        settles = search rules;
        outlasts = search rules;
      };
      honest = λ names honest. honest;
      ran = search rules;
      turned = search rules;
      broken =
          always_err c.from_residual.result
          (record {
            same = record { same_runs = refl; same_saved = refl };
            takes_nothing_back = λ honest. grown_itself old.past;
            few = λ honest. omega arith;
          });
      ended = λ honest. join_none ends ends _ _ _ _ _ refl refl (λ is. refl);
      followed = search rules;
    }

-- memory ran out in it, or there was none for its end
pub returns-in_err-ending : goal.returns-in_err-ending
returns-in_err-ending g c =
    let keys = c.args.plan.now in
    let carried = c.args.carried.now in
    let client = c.args.client.now in
    let begun = c.begin.new.client in
    let driven = c.drive-driven.new.client in
    let old = g.L.Link.seen c.args.link.now in
    let mid = g.L.Link.seen c.drive-driven.new.link in
    let end = c.args.end.now in
    let l = c.the_laws_below_hold.ensures in
    let lawful = c.a_plan_is_lawful.ensures in
    let drives = c.drive-driven.ensures in
    let driven_keys = drives.forgets_nothing.keys_stay ∙ c.begin.ensures.keys in
    let begins = λ (holds : All (TrueProgress old.past.objects keys) carried)
    (saved : All (TrueProgress old.past.objects keys) end.saved.items).
    c.begin.ensures.held old.past.objects holds
    (subst (λ ps. All (TrueProgress old.past.objects keys) ps) (sym c.as_slice.ensures.value) saved) in
    let after = c.ending_of.new.end in
    let result = c.from_residual-in_err-ending.result in
    let failed = c.from_residual-in_err-ending.ensures.0 in
    record {
      keys_stay = driven_keys;
      suits = search rules;
      well = λ standing holds.
          let all =
          stood l keys client begun driven old mid c.drive-driven.result.0 end.runs.items after.runs.items
          end.saved.items after.saved.items
          lawful c.requires.keys c.begin.ensures.keys driven_keys (begins holds)
          (λ good. (drives.well good).good) (λ good. (drives.well good).onward) (λ good. (drives.well good).no_conflict)
          (λ objects none held noted. noted_still objects driven.keys end after c.ending_of.ensures.same noted)
          standing in
          record {
            standing = all.0;
            onward = all.1;
            further =
                further_if keys old mid _ _ (λ is. no_ok result tt failed is)
                (driven_further keys carried client begun old mid c.drive-driven.result.0 end.runs.items
                end.saved.items c.requires.keys c.begin.ensures.keys
                (begins holds) (λ good. (drives.well good).further) standing);
            settles = search rules;
            outlasts = search rules;
          };
      honest = drives.honest;
      ran = search rules;
      turned = search rules;
      broken = always_err result (broken_off keys carried begun old mid c.args.run end after c.begin.ensures.keys
          (λ honest. (drives.honestly honest).takes_nothing_back) (λ honest. (drives.honestly honest).few)
          c.ending_of.ensures.same);
      ended = λ honest.
          join_none end.runs.items after.runs.items _ _ _ _ _ c.ending_of.ensures.same.same_runs
          (drives.ended (is_planned keys) honest)
          (λ is. no_ok result tt failed is);
      followed = search rules;
    }

-- there was no memory to end it over the link
pub returns-in_err-close_run : goal.returns-in_err-close_run
returns-in_err-close_run g c =
    let keys = c.args.plan.now in
    let carried = c.args.carried.now in
    let client = c.args.client.now in
    let begun = c.begin.new.client in
    let driven = c.drive-driven.new.client in
    let old = g.L.Link.seen c.args.link.now in
    let mid = g.L.Link.seen c.drive-driven.new.link in
    let end = c.args.end.now in
    let l = c.the_laws_below_hold.ensures in
    let lawful = c.a_plan_is_lawful.ensures in
    let drives = c.drive-driven.ensures in
    let driven_keys = drives.forgets_nothing.keys_stay ∙ c.begin.ensures.keys in
    let begins = λ (holds : All (TrueProgress old.past.objects keys) carried)
    (saved : All (TrueProgress old.past.objects keys) end.saved.items).
    c.begin.ensures.held old.past.objects holds
    (subst (λ ps. All (TrueProgress old.past.objects keys) ps) (sym c.as_slice.ensures.value) saved) in
    let new = g.L.Link.seen c.close_run.new.link in
    let after = c.ending_of.new.end in
    let result = c.from_residual-in_err-close_run.result in
    let failed = c.from_residual-in_err-close_run.ensures.0 in
    record {
      keys_stay = driven_keys;
      suits = search rules;
      well = λ standing holds.
          let all =
          closed l keys driven old mid new after.runs.items after.saved.items lawful driven_keys
          c.close_run.ensures.amid
          (stood l keys client begun driven old mid c.drive-driven.result.0 end.runs.items after.runs.items
          end.saved.items after.saved.items
          lawful c.requires.keys c.begin.ensures.keys driven_keys (begins holds)
          (λ good. (drives.well good).good) (λ good. (drives.well good).onward) (λ good. (drives.well good).no_conflict)
          (λ objects none held noted. noted_still objects driven.keys end after c.ending_of.ensures.same noted)
          standing) in
          record {
            standing = all.0;
            onward = all.1;
            further =
                further_if keys old new _ _ (λ is. no_ok result tt failed is)
                (further_then l.client.twice l.amid.joins keys old mid new _ _
                (λ is. c.in_ok-ending.ensures.is.end_is.in_memory)
                (driven_further keys carried client begun old mid c.drive-driven.result.0 end.runs.items
                end.saved.items c.requires.keys c.begin.ensures.keys
                (begins holds) (λ good. (drives.well good).further) standing)
                (further_closed l keys mid new c.close_run.result c.close_run.ensures.amid c.close_run.ensures.calm));
            settles = search rules;
            outlasts = search rules;
          };
      honest = λ names honest. (c.close_run.ensures.honestly names (drives.honest names honest)).honest.0;
      ran = search rules;
      turned = search rules;
      broken =
          always_err result
          (broken_closed keys carried begun old mid new c.args.run end after c.begin.ensures.keys
          (λ honest. (drives.honestly honest).takes_nothing_back) (λ honest. (drives.honestly honest).few)
          drives.honest
          (λ names honest. (c.close_run.ensures.honestly names honest).honest) c.ending_of.ensures.same);
      ended = λ honest.
          let names = is_planned keys in
          let unended = (c.in_err-close_run.ensures.honestly names (drives.honest names honest)).unended in
          join_none end.runs.items after.runs.items _ _ _ _ _ c.ending_of.ensures.same.same_runs
          (unended ∙ drives.ended names honest)
          (λ is. no_ok result tt failed is);
      followed = search rules;
    }

-- it was ended over the link, and then noted
pub returns : goal.returns
returns g c =
    let keys = c.args.plan.now in
    let carried = c.args.carried.now in
    let client = c.args.client.now in
    let begun = c.begin.new.client in
    let driven = c.drive-driven.new.client in
    let old = g.L.Link.seen c.args.link.now in
    let mid = g.L.Link.seen c.drive-driven.new.link in
    let end = c.args.end.now in
    let l = c.the_laws_below_hold.ensures in
    let lawful = c.a_plan_is_lawful.ensures in
    let drives = c.drive-driven.ensures in
    let driven_keys = drives.forgets_nothing.keys_stay ∙ c.begin.ensures.keys in
    let begins = λ (holds : All (TrueProgress old.past.objects keys) carried)
    (saved : All (TrueProgress old.past.objects keys) end.saved.items).
    c.begin.ensures.held old.past.objects holds
    (subst (λ ps. All (TrueProgress old.past.objects keys) ps) (sym c.as_slice.ensures.value) saved) in
    let new = g.L.Link.seen c.close_run.new.link in
    let after = c.note.new.end in
    let ending = c.in_ok-ending.ending in
    let ending_is = c.in_ok-ending.ensures.is in
    let memory = ending_is.end_is.in_memory in
    let runs_are = c.note.ensures.runs ∙ ap (λ ends. ends ++ ending.run ∷ []) c.ending_of.ensures.same.same_runs in
    let saved_are = c.note.ensures.saved ∙ ap (λ saved. saved_with ending.saved saved)
    c.ending_of.ensures.same.same_saved in
    let ended =
    has_ended driven.keys driven.knowns c.args.run c.drive-driven.result ending end after ending_is
    drives.stops_for_its_reason drives.limit drives.within
    runs_are saved_are in
    record {
      keys_stay = driven_keys;
      suits =
          let P = Suits keys in
          let before = subst (λ saved. All P saved) (sym c.ending_of.ensures.same.same_saved) c.requires.suits in
          let own = subst (λ ks. IfSome ending.saved (Suits ks)) driven_keys c.in_ok-ending.ensures.suits in
          subst (λ saved. All P saved) (sym c.note.ensures.saved)
          (all_saved P ending.saved c.ending_of.new.end.saved.items before own);
      well = λ standing holds.
          let all =
          closed l keys driven old mid new after.runs.items after.saved.items lawful driven_keys
          c.close_run.ensures.amid
          (stood l keys client begun driven old mid c.drive-driven.result.0 end.runs.items after.runs.items
          end.saved.items after.saved.items
          lawful c.requires.keys c.begin.ensures.keys driven_keys (begins holds)
          (λ good. (drives.well good).good) (λ good. (drives.well good).onward) (λ good. (drives.well good).no_conflict)
          (λ objects none held noted. noted_ending objects driven.keys c.args.run driven.knowns c.drive-driven.result
          ending end after ending_is
          (c.in_ok-ending.ensures.held objects) runs_are saved_are none held noted) standing) in
          record {
            standing = all.0;
            onward = all.1;
            further =
                further_if keys old new _ _ (λ is. search rules)
                (further_then l.client.twice l.amid.joins keys old mid new _ _ (λ is. memory)
                (driven_further keys carried client begun old mid c.drive-driven.result.0 end.runs.items
                end.saved.items c.requires.keys c.begin.ensures.keys
                (begins holds) (λ good. (drives.well good).further) standing)
                (further_closed l keys mid new c.close_run.result c.close_run.ensures.amid c.close_run.ensures.calm));
            settles = λ calmly.
                if_ok c.close_run.result (search rules)
                (settled_run keys l c.args.run client begun driven old mid new c.drive-driven.result end.runs.items
                after.runs.items end.saved.items
                c.close_run.result c.requires.keys c.begin.ensures.keys driven_keys (begins holds)
                (λ good. (drives.well good).good)
                (λ settling. (drives.calmly settling).settles) (λ settling. (drives.calmly settling).calm) memory
                ended.noted
                c.close_run.ensures.calm standing calmly);
            outlasts = λ honest.
                let still = drives.honest (is_planned keys) honest in
                outlasted_run keys c.args.run client begun driven old mid new c.drive-driven.result end.runs.items
                after.runs.items end.saved.items
                c.requires.keys c.begin.ensures.keys driven_keys (begins holds) (λ good. (drives.well good).outlasts)
                memory ended.noted
                (c.close_run.ensures.honestly (is_planned keys) still).undisturbed
                (drives.counts (is_planned keys) honest) standing honest;
          };
      honest = λ names honest. (c.close_run.ensures.honestly names (drives.honest names honest)).honest.0;
      ran =
          ran_closed keys carried c.args.run client begun driven old mid new c.drive-driven.result end after
          c.begin.ensures.keys
          c.in_ok-begin.ensures.batch
          (subst (λ ps. begun.knowns ≡ start_knowns keys c.args.run.start client.knowns (carried ++ ps))
          c.as_slice.ensures.value
          c.in_ok-begin.ensures.begun)
          drives.forgets_nothing (λ honest. let known = (drives.honestly honest).learns in (known.0, known.1 memory))
          (λ honest. (drives.honestly honest).takes_nothing_back)
          ended (λ names honest. (c.close_run.ensures.honestly names honest).honest);
      turned =
          ran_turned keys c.args.run _ begun driven old mid new c.drive-driven.result end after c.begin.ensures.keys
          (subst (λ ps. begun ≡ begin_client keys c.args.run client (carried ++ ps)) c.as_slice.ensures.value
          c.in_ok-begin.ensures.client)
          drives.forgets_nothing drives.honest (λ names honest. (c.close_run.ensures.honestly names honest).honest)
          memory drives.turned ended;
      broken = search rules;
      ended = λ honest.
          let names = is_planned keys in
          let known = (drives.honestly (subst (λ ks. old.honest (is_planned ks)) (sym c.begin.ensures.keys)
          honest)).learns in
          let still = drives.honest names honest in
          join_run begun.keys driven.keys begun.batch names c.args.run begun.knowns driven.knowns driven.knowns
          c.drive-driven.result
          old.past mid.past new.past end after _ old.ended mid.ended new.ended ended (known.1 memory)
          (c.close_run.ensures.honestly names still).honest.1 (drives.ended names honest)
          (c.in_ok-close_run.ensures.honestly names still).ended;
      followed =
          g.met.L.Link.twice c.args.link.now c.drive-driven.new.link c.close_run.new.link (drives.followed memory)
          c.in_ok-close_run.ensures.followed;
    }
