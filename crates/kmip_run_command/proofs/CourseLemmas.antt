-- What has come of a run is what its exchanges did.
use Rattle.std.proofs.Common.{◌≡◌, ◌≢◌, ◌∙◌, ℕ, List, Result, Ok, Err, refl, subst, sym}
use Rattle.std.specs.Bool.{⊤}
use Rattle.std.proofs.lemmas.List.Elements.{All-nil}
use Rattle.kmip_client.specs.Held.{Held}
use Rattle.kmip_client.specs.declared.knowledge.Knowledge.{Knowledge}
use Rattle.kmip_runs.specs.Driving.{IsGood}
use Rattle.kmip_runs.specs.Headline.{GoodLink}
use Rattle.kmip_runs.specs.declared.stop.Stop.{Stop}
use Rattle.kmip_runs.specs.declared.stop.Stop.TheVariants as stops
use Rattle.kmip_runs.specs.Saved.{IsInMemory}
use Rattle.kmip_runs.specs.declared.save_fault.SaveFault.{SaveFault}
use Rattle.kmip_runs.specs.CarriesOut.{CarriesOut, Stage}
use Rattle.kmip_run_command.specs.Course.{Came, KeepsSafe, RunState, run_state}
use Rattle.kmip_run_command.specs.Runs.{RunsOver}
use Rattle.kmip_run_command.specs.RunEnds.{Outcome}
use Rattle.kmip_run_command.proofs.TrueTextLemmas.{leaves_true}

abbrev ended : Result Stop SaveFault → Result Stop SaveFault
ended r = r

same_stop : (x y : Stop) → ended (Ok x) ≡ ended (Ok y) → x ≡ y
same_stop x y e = cc

no_stop : (fault : SaveFault) (stop : Stop) → ended (Err fault) ≡ ended (Ok stop) → ⊥
no_stop fault stop e = absurd cc

-- what came, of these parts
abbrev outcome : List Knowledge → Result Stop SaveFault → ℕ → Outcome
outcome knowns result exchanges = record { knowns = knowns; result = result; exchanges = exchanges }

-- what is seen at a stage, as the state of a run
abbrev state_at : Stage → RunState
state_at s = run_state s.link s.keeper s.is_tired s.asked

-- what carrying out a plan promises, where memory did not run out
came : {follows : Type 0} (limit : ℕ) (old new : Stage) (r : Result Stop SaveFault) (made : ℕ) → IsInMemory r
    → CarriesOut limit old r made new follows
    → Came limit (state_at old) (state_at new) old.client (outcome new.client.knowns r made)
came limit old new r made whole carries = record {
  forgets_nothing = carries.forgets_nothing.kept;
  is_true = λ good.
      subst (λ ks. Held new.link.past.objects ks new.client.knowns) carries.forgets_nothing.keys_stay
      (carries.well good).good.held;
  safe = λ good. (carries.well good).safe;
  learnt = λ h. (carries.honestly h).learns.1 whole;
  last = new.client;
  last_knows = refl;
  turned = carries.turned;
  moments = carries.moments;
  lasts = carries.lasts;
  settles = λ quiet ready within patient all.
      let s = (carries.calmly (record { calm_for = quiet; ready = ready })).settles within patient all in (s.0, s.3);
  at_limit = carries.limit;
  given_up = carries.given_up;
  asked = carries.asked;
  unwritten = carries.output;
  outlasts = λ good. (carries.well good).outlasts;
}

-- where it stopped so
pub came_stop : {follows : Type 0} (limit : ℕ) (old new : Stage) (r : Result Stop SaveFault) (stop : Stop) (made : ℕ)
    → r ≡ Ok stop → stop ≢ stops.NoMemory → CarriesOut limit old r made new follows
    → Came limit (state_at old) (state_at new) old.client (outcome new.client.knowns (Ok stop) made)
came_stop limit old new r stop made is other carries =
    let P : Result Stop SaveFault → Type 0 =
    λ r. Came limit (state_at old) (state_at new) old.client (outcome new.client.knowns r made) in
    let whole : IsInMemory r = λ e. other (same_stop stop stops.NoMemory (sym is ∙ e)) in
    subst P is (came limit old new r made whole carries)

-- where the last text was not saved
pub came_unsaved : {follows : Type 0} (limit : ℕ) (old new : Stage) (r : Result Stop SaveFault) (fault same : SaveFault)
    (made : ℕ) → r ≡ Err fault → fault ≡ same → CarriesOut limit old r made new follows
    → Came limit (state_at old) (state_at new) old.client (outcome new.client.knowns (Err same) made)
came_unsaved limit old new r fault same made is alike carries =
    let P : Result Stop SaveFault → Type 0 =
    λ r. Came limit (state_at old) (state_at new) old.client (outcome new.client.knowns r made) in
    let whole : IsInMemory r = λ e. no_stop fault stops.NoMemory (sym is ∙ e) in
    subst (λ f. P (Err f)) alike (subst P is (came limit old new r made whole carries))

keeps_safe : {follows : Type 0} (limit : ℕ) (old new : Stage) (r : Result Stop SaveFault) (made : ℕ)
    → IsGood old.client old.link → CarriesOut limit old r made new follows → KeepsSafe old.client.keys old.link new.link
keeps_safe limit old new r made good carries =
    let well = carries.well good in
    let link : GoodLink new.client.keys new.link = record { amid_for = well.good.amid_for; sound = well.good.sound } in
    let full = well.safe in
    record {
      stays_good = subst (λ keys. GoodLink keys new.link) carries.forgets_nothing.keys_stay link;
      safe = record {
        one_object = full.one_object;
        attrs = full.attrs;
        effects = full.effects;
        reported_true = All-nil _;
        again = full.again;
      };
      honest = λ honest. (carries.honestly honest).learns.0;
      went_on = well.onward;
    }

-- what carrying out a plan promises of its link and its file, where memory did not run out
over : {follows : Type 0} (limit : ℕ) (old new : Stage) (r : Result Stop SaveFault) (made : ℕ) → IsInMemory r
    → CarriesOut limit old r made new follows
    → RunsOver (IsGood old.client old.link) old.client.keys old.client.batch (state_at old) (state_at new) (λ P. P)
over limit old new r made whole carries = record {
  safe = λ good. keeps_safe limit old new r made good carries;
  any_moment = λ good. leaves_true limit old new r made good carries;
  few = λ honest.
      let learnt = (carries.honestly honest).learns.1 whole in
      record { messages = learnt.questions; sent_are = learnt.sent_are; each = learnt.each };
}

-- where it stopped so
pub over_stop : {follows : Type 0} (limit : ℕ) (old new : Stage) (r : Result Stop SaveFault) (stop : Stop) (made : ℕ)
    → r ≡ Ok stop → stop ≢ stops.NoMemory → CarriesOut limit old r made new follows
    → RunsOver (IsGood old.client old.link) old.client.keys old.client.batch (state_at old) (state_at new) (λ P. P)
over_stop limit old new r stop made is other carries =
    over limit old new r made (λ e. other (same_stop stop stops.NoMemory (sym is ∙ e))) carries

-- where the last text was not saved
pub over_unsaved : {follows : Type 0} (limit : ℕ) (old new : Stage) (r : Result Stop SaveFault) (fault : SaveFault)
    (made : ℕ) → r ≡ Err fault → CarriesOut limit old r made new follows
    → RunsOver (IsGood old.client old.link) old.client.keys old.client.batch (state_at old) (state_at new) (λ P. P)
over_unsaved limit old new r fault made is carries =
    over limit old new r made (λ e. no_stop fault stops.NoMemory (sym is ∙ e)) carries

-- where memory ran out
pub over_broken : {follows : Type 0} (limit : ℕ) (old new : Stage) (r : Result Stop SaveFault) (made : ℕ)
    → CarriesOut limit old r made new follows
    → RunsOver (IsGood old.client old.link) old.client.keys old.client.batch (state_at old) (state_at new) (λ P. ⊤)
over_broken limit old new r made carries = record {
  safe = λ good. keeps_safe limit old new r made good carries;
  any_moment = λ good. leaves_true limit old new r made good carries;
  few = λ honest. tt;
}
