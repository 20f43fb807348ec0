-- Begun, carried out over a disk, and noted; then the client goes on from what the crash left.
use Rattle.std.proofs.Common.{◌≡◌, ◌∙◌, ◌++◌, ◌∷◌, [], Err, Ok, Some, ap, arith, false, refl, subst, sym}
use Rattle.std.specs.List.{All}
use Rattle.std.proofs.lemmas.List.Elements.{All-nil, All-push}
use Rattle.std.proofs.lemmas.Result.{err_from_is_err_and}
use Rattle.kmip_client.specs.Held.{Held, TrueProgress}
use Rattle.kmip_plan.specs.Plans.{IsLawful}
use Rattle.kmip_progress.specs.Suiting.{Suits}
use Rattle.kmip_protocol.specs.Past.{is_planned}
use Rattle.kmip_runs.specs.PrivateCampaignParts.{HasEnded, saved_with}
use Rattle.kmip_runs.specs.CrashedDisks.{CannotLeave, kept_on}
use Rattle.kmip_runs.specs.Crashes.{start_at}
use Rattle.kmip_runs.specs.Driving.{IsGood}
use Rattle.kmip_runs.specs.PrivateCrashes.{CrashStage, IsStanding, between}
use Rattle.kmip_runs.specs.Saved.{Situation}
use Rattle.kmip_runs.specs.declared.crash_fault.CrashFault.TheVariants.{Refused}
use Rattle.kmip_progress.specs.Reading.{read_text}
use Rattle.kmip_runs.specs.declared.crashing_run.CrashingRun.{CrashingRun}
use Rattle.kmip_runs.specs.declared.run.Run.{Run}
use Rattle.kmip_runs.proofs.CampaignLemmas.{good_with, noted_ending}
use Rattle.kmip_runs.proofs.CrashedRunLemmas.{HasTalked, IsFine, cannot_leave, carried_stands, crashed_come}
use Rattle.kmip_runs.proofs.CrashedRunLemmas.{held_no_conflict, kept_so, left_is_fine, not_tired, refused_come}
use Rattle.kmip_runs.proofs.CrashedRunLemmas.{says_left, talked}
use Rattle.kmip_runs.proofs.CrashingRunsLemmas.{crashed_off, on_itself, wanting}
use Rattle.kmip_runs.proofs.OrderLemmas.{has_ended}
use Rattle.kmip_runs.proofs.crashing.crashed_run.Goals as goal

-- there was no memory to begin
pub returns-in_err-begin : goal.returns-in_err-begin
returns-in_err-begin g c =
    let l = c.the_laws_below_hold.ensures in
    let keys = c.args.plan.now in
    let lawful = c.a_plan_is_lawful.ensures in
    let old : CrashStage = record {
      client = c.args.client.now;
      link = g.L.Link.seen c.args.link.now;
      end = c.args.end.now;
    } in
    let begun = c.begin.new.client in
    let crashing : CrashingRun = record { run = c.args.run; crash = Some c.args.crash } in
    let none : c.as_slice.result.now ≡ [] = c.as_slice.ensures.value ∙ c.new-nothing.ensures.items in
    let begins = λ (saved : All (TrueProgress old.link.past.objects keys) old.end.campaign.saved.items).
    c.begin.ensures.held old.link.past.objects (rw none (All-nil (TrueProgress old.link.past.objects keys)))
    (subst (λ ps. All (TrueProgress old.link.past.objects keys) ps) (sym c.as_slice-2.ensures.value) saved) in
    let new : CrashStage = record old { client = begun } in
    let result = c.from_residual.result in
    let fault = err_from_is_err_and result c.from_residual.ensures.1 in
    crashed_off l keys crashing old new begun result fault.0 _ lawful c.requires.keys c.begin.ensures.keys
    c.begin.ensures.keys c.requires.suits
    begins (λ good. good) (λ good. on_itself l begun.keys old.link) (λ honest. honest)
    (record { same_runs = refl; same_saved = refl; same_left = refl }) refl fault.1
    (λ so. absurd (wanting fault.0 fault.2 so)) (λ memory. absurd (memory fault.2))

-- there was none for the disk
pub returns-in_err-keeper : goal.returns-in_err-keeper
returns-in_err-keeper g c =
    let l = c.the_laws_below_hold.ensures in
    let keys = c.args.plan.now in
    let lawful = c.a_plan_is_lawful.ensures in
    let old : CrashStage = record {
      client = c.args.client.now;
      link = g.L.Link.seen c.args.link.now;
      end = c.args.end.now;
    } in
    let begun = c.begin.new.client in
    let crashing : CrashingRun = record { run = c.args.run; crash = Some c.args.crash } in
    let none : c.as_slice.result.now ≡ [] = c.as_slice.ensures.value ∙ c.new-nothing.ensures.items in
    let begins = λ (saved : All (TrueProgress old.link.past.objects keys) old.end.campaign.saved.items).
    c.begin.ensures.held old.link.past.objects (rw none (All-nil (TrueProgress old.link.past.objects keys)))
    (subst (λ ps. All (TrueProgress old.link.past.objects keys) ps) (sym c.as_slice-2.ensures.value) saved) in
    let new : CrashStage = record old { client = begun } in
    let result = c.from_residual-in_err-keeper.result in
    let fault = err_from_is_err_and result c.from_residual-in_err-keeper.ensures.1 in
    crashed_off l keys crashing old new begun result fault.0 _ lawful c.requires.keys c.begin.ensures.keys
    c.begin.ensures.keys c.requires.suits
    begins (λ good. good) (λ good. on_itself l begun.keys old.link) (λ honest. honest)
    (record { same_runs = refl; same_saved = refl; same_left = refl }) refl fault.1
    (λ so. absurd (wanting fault.0 fault.2 so)) (λ memory. absurd (memory fault.2))

-- memory ran out in the run
pub returns-in_err-in_memory : goal.returns-in_err-in_memory
returns-in_err-in_memory g c =
    let l = c.the_laws_below_hold.ensures in
    let keys = c.args.plan.now in
    let lawful = c.a_plan_is_lawful.ensures in
    let old : CrashStage = record {
      client = c.args.client.now;
      link = g.L.Link.seen c.args.link.now;
      end = c.args.end.now;
    } in
    let begun = c.begin.new.client in
    let crashing : CrashingRun = record { run = c.args.run; crash = Some c.args.crash } in
    let none : c.as_slice.result.now ≡ [] = c.as_slice.ensures.value ∙ c.new-nothing.ensures.items in
    let begins = λ (saved : All (TrueProgress old.link.past.objects keys) old.end.campaign.saved.items).
    c.begin.ensures.held old.link.past.objects (rw none (All-nil (TrueProgress old.link.past.objects keys)))
    (subst (λ ps. All (TrueProgress old.link.past.objects keys) ps) (sym c.as_slice-2.ensures.value) saved) in
    let carried = c.carry_out-carried in
    let client = carried.new.client in
    let carries = carried.ensures in
    let client_keys = carries.forgets_nothing.keys_stay ∙ c.begin.ensures.keys in
    let honest = λ (holds : old.link.honest (is_planned keys)).
    subst (λ ks. (g.L.Link.seen carried.new.link).honest (is_planned ks)) c.begin.ensures.keys
    (carries.honestly (subst (λ ks. old.link.honest (is_planned ks)) (sym c.begin.ensures.keys) holds)).learns.0 in
    let new : CrashStage = record { client = client; link = g.L.Link.seen carried.new.link; end = old.end } in
    let result = c.from_residual-in_err-in_memory.result in
    let fault = err_from_is_err_and result c.from_residual-in_err-in_memory.ensures.1 in
    crashed_off l keys crashing old new begun result fault.0 _ lawful c.requires.keys c.begin.ensures.keys client_keys
    c.requires.suits
    begins (λ good. (carries.well good).good) (λ good. (carries.well good).onward) honest
    (record { same_runs = refl; same_saved = refl; same_left = refl }) refl fault.1
    (λ so. absurd (wanting fault.0 fault.2 so)) (λ memory. absurd (memory fault.2))

-- the crash is refused, or there was no memory for what it left
pub returns-in_err-left : goal.returns-in_err-left
returns-in_err-left g c =
    let l = c.the_laws_below_hold.ensures in
    let keys = c.args.plan.now in
    let lawful = c.a_plan_is_lawful.ensures in
    let old : CrashStage = record {
      client = c.args.client.now;
      link = g.L.Link.seen c.args.link.now;
      end = c.args.end.now;
    } in
    let begun = c.begin.new.client in
    let crashing : CrashingRun = record { run = c.args.run; crash = Some c.args.crash } in
    let none : c.as_slice.result.now ≡ [] = c.as_slice.ensures.value ∙ c.new-nothing.ensures.items in
    let begins = λ (saved : All (TrueProgress old.link.past.objects keys) old.end.campaign.saved.items).
    c.begin.ensures.held old.link.past.objects (rw none (All-nil (TrueProgress old.link.past.objects keys)))
    (subst (λ ps. All (TrueProgress old.link.past.objects keys) ps) (sym c.as_slice-2.ensures.value) saved) in
    let carried = c.carry_out-carried in
    let client = carried.new.client in
    let carries = carried.ensures in
    let client_keys = carries.forgets_nothing.keys_stay ∙ c.begin.ensures.keys in
    let honest = λ (holds : old.link.honest (is_planned keys)).
    subst (λ ks. (g.L.Link.seen carried.new.link).honest (is_planned ks)) c.begin.ensures.keys
    (carries.honestly (subst (λ ks. old.link.honest (is_planned ks)) (sym c.begin.ensures.keys) holds)).learns.0 in
    let new : CrashStage = record { client = client; link = g.L.Link.seen carried.new.link; end = old.end } in
    let keeper = c.in_ok-keeper.keeper in
    let begun_is : begun ≡ start_at keys c.args.run (between old) = c.in_ok-begin.ensures.client
    ∙ rw (none, c.as_slice-2.ensures.value) refl in
    let good : IsStanding keys old → IsGood begun old.link = λ stands.
    good_with old.client begun old.link (c.begin.ensures.keys ∙ sym c.requires.keys) stands.standing.good
    (begins stands.standing.noted.true_saved stands.standing.good.held) in
    let on =
    kept_so keys old c.args.run c.args.crash.calls begun client (g.L.Link.seen carried.new.link) keeper.file.disk
    carried.new.keeper.file.disk keeper.texts.items carried.new.keeper.texts.items
    keeper.refusals carried.new.keeper.refusals carried.result.0 carried.result.1 c.begin.ensures.keys
    c.in_ok-begin.ensures.batch client_keys c.in_ok-keeper.ensures.none_saved
    c.in_ok-keeper.ensures.none_refused c.in_ok-keeper.ensures.limit c.in_ok-keeper.ensures.left
    c.in_ok-keeper.ensures.begins good c.in_ok-in_memory.ensures carries.moments
    carries.stops_for_its_reason (λ is. not_tired (carries.limit is)) carries.within in
    let result = c.from_residual-in_err-left.result in
    let fault = err_from_is_err_and result c.from_residual-in_err-left.ensures.1 in
    let cannot : fault.0 ≡ Refused → CannotLeave c.args.crash.left carried.new.keeper.file.disk = λ so.
    cannot_leave keys begun client old.link (g.L.Link.seen carried.new.link) keeper.file.disk
    carried.new.keeper.file.disk keeper.texts.items carried.new.keeper.texts.items
    keeper.refusals carried.new.keeper.refusals carried.result.0 carried.result.1 c.args.crash.left
    c.begin.ensures.keys c.in_ok-keeper.ensures.begins carries.moments
    (c.progress_left.ensures.refused (c.in_err-left.was ∙ ap (λ f. Err f) (sym fault.2 ∙ so))) in
    crashed_off l keys crashing old new begun result fault.0 _ lawful c.requires.keys c.begin.ensures.keys client_keys
    c.requires.suits
    begins (λ good. (carries.well good).good) (λ good. (carries.well good).onward) honest
    (record { same_runs = refl; same_saved = refl; same_left = refl }) refl fault.1
    (λ so. refused_come keys c.args.run c.args.crash begun client old (g.L.Link.seen carried.new.link)
    carried.result.1 carried.new.keeper.file.disk begun_is on (cannot so))
    (λ memory. carries.followed c.in_ok-in_memory.ensures)

-- there was no memory for the end of the run
pub returns-in_err-ending : goal.returns-in_err-ending
returns-in_err-ending g c =
    let l = c.the_laws_below_hold.ensures in
    let keys = c.args.plan.now in
    let lawful = c.a_plan_is_lawful.ensures in
    let old : CrashStage = record {
      client = c.args.client.now;
      link = g.L.Link.seen c.args.link.now;
      end = c.args.end.now;
    } in
    let begun = c.begin.new.client in
    let crashing : CrashingRun = record { run = c.args.run; crash = Some c.args.crash } in
    let none : c.as_slice.result.now ≡ [] = c.as_slice.ensures.value ∙ c.new-nothing.ensures.items in
    let begins = λ (saved : All (TrueProgress old.link.past.objects keys) old.end.campaign.saved.items).
    c.begin.ensures.held old.link.past.objects (rw none (All-nil (TrueProgress old.link.past.objects keys)))
    (subst (λ ps. All (TrueProgress old.link.past.objects keys) ps) (sym c.as_slice-2.ensures.value) saved) in
    let carried = c.carry_out-carried in
    let client = carried.new.client in
    let carries = carried.ensures in
    let client_keys = carries.forgets_nothing.keys_stay ∙ c.begin.ensures.keys in
    let honest = λ (holds : old.link.honest (is_planned keys)).
    subst (λ ks. (g.L.Link.seen carried.new.link).honest (is_planned ks)) c.begin.ensures.keys
    (carries.honestly (subst (λ ks. old.link.honest (is_planned ks)) (sym c.begin.ensures.keys) holds)).learns.0 in
    let new : CrashStage = record {
      client = client;
      link = g.L.Link.seen carried.new.link;
      end = record old.end
          { campaign = c.ending_of.new.end };
    } in
    let result = c.from_residual-in_err-ending.result in
    let fault = err_from_is_err_and result c.from_residual-in_err-ending.ensures.1 in
    crashed_off l keys crashing old new begun result fault.0 _ lawful c.requires.keys c.begin.ensures.keys client_keys
    c.requires.suits
    begins (λ good. (carries.well good).good) (λ good. (carries.well good).onward) honest
    (record {
      same_runs = c.ending_of.ensures.same.same_runs;
      same_saved = c.ending_of.ensures.same.same_saved;
      same_left = refl;
    }) refl fault.1
    (λ so. absurd (wanting fault.0 fault.2 so)) (λ memory. absurd (memory fault.2))

-- there was none for the client that goes on
pub returns-in_err-next : goal.returns-in_err-next
returns-in_err-next g c =
    let l = c.the_laws_below_hold.ensures in
    let keys = c.args.plan.now in
    let lawful = c.a_plan_is_lawful.ensures in
    let old : CrashStage = record {
      client = c.args.client.now;
      link = g.L.Link.seen c.args.link.now;
      end = c.args.end.now;
    } in
    let begun = c.begin.new.client in
    let crashing : CrashingRun = record { run = c.args.run; crash = Some c.args.crash } in
    let none : c.as_slice.result.now ≡ [] = c.as_slice.ensures.value ∙ c.new-nothing.ensures.items in
    let begins = λ (saved : All (TrueProgress old.link.past.objects keys) old.end.campaign.saved.items).
    c.begin.ensures.held old.link.past.objects (rw none (All-nil (TrueProgress old.link.past.objects keys)))
    (subst (λ ps. All (TrueProgress old.link.past.objects keys) ps) (sym c.as_slice-2.ensures.value) saved) in
    let carried = c.carry_out-carried in
    let client = carried.new.client in
    let carries = carried.ensures in
    let client_keys = carries.forgets_nothing.keys_stay ∙ c.begin.ensures.keys in
    let honest = λ (holds : old.link.honest (is_planned keys)).
    subst (λ ks. (g.L.Link.seen carried.new.link).honest (is_planned ks)) c.begin.ensures.keys
    (carries.honestly (subst (λ ks. old.link.honest (is_planned ks)) (sym c.begin.ensures.keys) holds)).learns.0 in
    let new : CrashStage = record {
      client = client;
      link = g.L.Link.seen carried.new.link;
      end = record old.end
          { campaign = c.ending_of.new.end };
    } in
    let result = c.from_residual-in_err-next.result in
    let fault = err_from_is_err_and result c.from_residual-in_err-next.ensures.1 in
    crashed_off l keys crashing old new begun result fault.0 _ lawful c.requires.keys c.begin.ensures.keys client_keys
    c.requires.suits
    begins (λ good. (carries.well good).good) (λ good. (carries.well good).onward) honest
    (record {
      same_runs = c.ending_of.ensures.same.same_runs;
      same_saved = c.ending_of.ensures.same.same_saved;
      same_left = refl;
    }) refl fault.1
    (λ so. absurd (wanting fault.0 fault.2 so)) (λ memory. absurd (memory fault.2))

-- there was none to keep what was left
pub returns-in_err-push : goal.returns-in_err-push
returns-in_err-push g c =
    let l = c.the_laws_below_hold.ensures in
    let keys = c.args.plan.now in
    let lawful = c.a_plan_is_lawful.ensures in
    let old : CrashStage = record {
      client = c.args.client.now;
      link = g.L.Link.seen c.args.link.now;
      end = c.args.end.now;
    } in
    let begun = c.begin.new.client in
    let crashing : CrashingRun = record { run = c.args.run; crash = Some c.args.crash } in
    let none : c.as_slice.result.now ≡ [] = c.as_slice.ensures.value ∙ c.new-nothing.ensures.items in
    let begins = λ (saved : All (TrueProgress old.link.past.objects keys) old.end.campaign.saved.items).
    c.begin.ensures.held old.link.past.objects (rw none (All-nil (TrueProgress old.link.past.objects keys)))
    (subst (λ ps. All (TrueProgress old.link.past.objects keys) ps) (sym c.as_slice-2.ensures.value) saved) in
    let carried = c.carry_out-carried in
    let client = carried.new.client in
    let carries = carried.ensures in
    let client_keys = carries.forgets_nothing.keys_stay ∙ c.begin.ensures.keys in
    let honest = λ (holds : old.link.honest (is_planned keys)).
    subst (λ ks. (g.L.Link.seen carried.new.link).honest (is_planned ks)) c.begin.ensures.keys
    (carries.honestly (subst (λ ks. old.link.honest (is_planned ks)) (sym c.begin.ensures.keys) holds)).learns.0 in
    let new : CrashStage = record {
      client = client;
      link = g.L.Link.seen carried.new.link;
      end = record old.end
          { campaign = c.ending_of.new.end; left = c.push.new.self };
    } in
    let result = c.from_residual-in_err-push.result in
    let fault = err_from_is_err_and result c.from_residual-in_err-push.ensures.1 in
    crashed_off l keys crashing old new begun result fault.0 _ lawful c.requires.keys c.begin.ensures.keys client_keys
    c.requires.suits
    begins (λ good. (carries.well good).good) (λ good. (carries.well good).onward) honest
    (record {
      same_runs = c.ending_of.ensures.same.same_runs;
      same_saved = c.ending_of.ensures.same.same_saved;
      same_left = c.in_err-push.ensures.items;
    }) refl fault.1
    (λ so. absurd (wanting fault.0 fault.2 so)) (λ memory. absurd (memory fault.2))

-- it was noted, and the client goes on from what was left
pub returns : goal.returns
returns g c =
    let l = c.the_laws_below_hold.ensures in
    let keys = c.args.plan.now in
    let lawful = c.a_plan_is_lawful.ensures in
    let old : CrashStage = record {
      client = c.args.client.now;
      link = g.L.Link.seen c.args.link.now;
      end = c.args.end.now;
    } in
    let begun = c.begin.new.client in
    let crashing : CrashingRun = record { run = c.args.run; crash = Some c.args.crash } in
    let none : c.as_slice.result.now ≡ [] = c.as_slice.ensures.value ∙ c.new-nothing.ensures.items in
    let begins = λ (saved : All (TrueProgress old.link.past.objects keys) old.end.campaign.saved.items).
    c.begin.ensures.held old.link.past.objects (rw none (All-nil (TrueProgress old.link.past.objects keys)))
    (subst (λ ps. All (TrueProgress old.link.past.objects keys) ps) (sym c.as_slice-2.ensures.value) saved) in
    let carried = c.carry_out-carried in
    let client = carried.new.client in
    let carries = carried.ensures in
    let client_keys = carries.forgets_nothing.keys_stay ∙ c.begin.ensures.keys in
    let honest = λ (holds : old.link.honest (is_planned keys)).
    subst (λ ks. (g.L.Link.seen carried.new.link).honest (is_planned ks)) c.begin.ensures.keys
    (carries.honestly (subst (λ ks. old.link.honest (is_planned ks)) (sym c.begin.ensures.keys) holds)).learns.0 in
    let keeper = c.in_ok-keeper.keeper in
    let made = carried.result.1 in
    let left = c.in_ok-left.left in
    let next = c.in_ok-next.next in
    let ending = c.in_ok-ending.ending in
    let mid = c.ending_of.new.end in
    let after = c.note.new.end in
    let new : CrashStage = record {
      client = next;
      link = g.L.Link.seen carried.new.link;
      end = record old.end
          { campaign = after; left = c.push.new.self };
    } in
    let cut : Run = record c.args.run { limit = made; save = false } in
    let begun_keys = c.begin.ensures.keys in
    let stop = c.stop_of.result in
    let next_keys : next.keys ≡ keys = ap (λ k. k.keys) c.in_ok-next.ensures.resumed in
    let begun_is : begun ≡ start_at keys c.args.run (between old) = c.in_ok-begin.ensures.client
    ∙ rw (none, c.as_slice-2.ensures.value) refl in
    let good : IsStanding keys old → IsGood begun old.link = λ stands.
    good_with old.client begun old.link (begun_keys ∙ sym c.requires.keys) stands.standing.good
    (begins stands.standing.noted.true_saved stands.standing.good.held) in
    let first_on : Situation = record {
      client = begun;
      link = old.link;
      keeper = kept_on keeper.file.disk
          keeper.texts.items keeper.refusals;
    } in
    let last_on : Situation = record {
      client = client;
      link = new.link;
      keeper = kept_on carried.new.keeper.file.disk
          carried.new.keeper.texts.items carried.new.keeper.refusals;
    } in
    let on =
    kept_so keys old c.args.run c.args.crash.calls begun client new.link keeper.file.disk carried.new.keeper.file.disk
    keeper.texts.items carried.new.keeper.texts.items
    keeper.refusals carried.new.keeper.refusals carried.result.0 made begun_keys c.in_ok-begin.ensures.batch
    client_keys c.in_ok-keeper.ensures.none_saved
    c.in_ok-keeper.ensures.none_refused c.in_ok-keeper.ensures.limit c.in_ok-keeper.ensures.left
    c.in_ok-keeper.ensures.begins good c.in_ok-in_memory.ensures carries.moments
    carries.stops_for_its_reason (λ is. not_tired (carries.limit is)) carries.within in
    let says =
    says_left keys begun client old.link new.link keeper.file.disk carried.new.keeper.file.disk keeper.texts.items
    carried.new.keeper.texts.items
    keeper.refusals carried.new.keeper.refusals carried.result.0 made c.args.crash.left left
    c.in_ok-keeper.ensures.begins carries.moments c.in_ok-left.ensures.left in
    let fine =
    subst (λ ks. IsFine ks begun.knowns (IsGood begun old.link) new.link.past.objects left) begun_keys
    (left_is_fine first_on last_on carried.result.0 made tt tt c.in_ok-keeper.ensures.begins carries.moments says.text
    left
    (λ good. l.client.known_for_good begun.keys begun.knowns old.link.past.objects new.link.past.objects
    (subst (λ ks. IsLawful ks) (sym begun_keys) lawful) (carries.well good).onward.onward good.held)
    (λ good. subst (λ ks. Held new.link.past.objects ks client.knowns) carries.forgets_nothing.keys_stay
    (carries.well good).good.held)
    says.may (subst (λ ks. read_text ks says.text ≡ Ok left) (sym begun_keys) says.read_back)) in
    let runs_are = c.note.ensures.runs ∙ ap (λ ends. ends ++ ending.run ∷ []) c.ending_of.ensures.same.same_runs in
    let saved_are = c.note.ensures.saved ∙ ap (λ saved. saved_with ending.saved saved)
    c.ending_of.ensures.same.same_saved in
    let ended = has_ended client.keys client.knowns cut (stop, made) ending old.end.campaign after
    c.in_ok-ending.ensures.is c.stop_of.ensures.stops_for_its_reason (λ is. refl) (omega arith) runs_are saved_are
    in
    record {
      keys_stay = next_keys;
      suits = subst (λ saved. All (Suits keys) saved) (sym ended.saved_are) c.requires.suits;
      well =
          carried_stands l keys old begun client new stop lawful c.requires.keys begun_keys next_keys client_keys begins
          (λ good. (carries.well good).good) (λ good. (carries.well good).onward)
          (λ good. held_no_conflict c.the_laws_below_hold.ensures.client.no_conflict client new.link stop
          (carries.well good).good c.stop_of.ensures.stops_for_its_reason)
          (λ first later. c.in_ok-next.ensures.held new.link.past.objects (fine.true_of first))
          (λ objects not held noted. noted_ending objects client.keys cut client.knowns (stop, made) ending
          old.end.campaign after c.in_ok-ending.ensures.is
          (c.in_ok-ending.ensures.held objects) runs_are saved_are not held noted)
          (λ first lefts. subst (λ ps. All (TrueProgress new.link.past.objects keys) ps)
          (sym c.in_ok-push.ensures.items)
          (All-push (TrueProgress new.link.past.objects keys) old.end.left.items left lefts (fine.true_of first)));
      honest = honest;
      come =
          crashed_come keys c.args.run c.args.crash begun client old new (stop, made) carried.new.keeper.file.disk
          left _ c.in_ok-left.ensures.not_torn begun_is carries.within
          (subst (λ ks. HasEnded ks cut client.knowns (stop, made) old.end.campaign after) client_keys ended)
          carries.forgets_nothing.kept fine says on
          (subst (λ ks. HasTalked begun client made (old.link.honest (is_planned ks)) old.link.past new.link.past)
          begun_keys
          (talked _ carried.result.0 made begun client old.link.past new.link.past c.in_ok-in_memory.ensures
          carries.turned))
          c.in_ok-next.ensures.resumed c.in_ok-push.ensures.items;
      same = tt;
      refused = λ so. absurd cc;
      refused_so = λ so. absurd cc;
      followed = λ memory. carries.followed c.in_ok-in_memory.ensures;
    }
