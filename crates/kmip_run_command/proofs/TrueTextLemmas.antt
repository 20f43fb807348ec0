-- What a crash may leave of a run is true.
use Rattle.std.proofs.Common.{◌≡◌, ◌⊎◌, ◌∙◌, ℕ, List, [], ◌∷◌, ◌++◌, None, Option, Some, Result, Ok, ap, inl, inr, map, refl, subst, sym, ⊎_elim}
use Rattle.std.specs.List.{All}
use Rattle.std.proofs.lemmas.List.Elements.{All-head, All-tail}
use Rattle.kmip_client.specs.Held.{Held, TrueProgress}
use Rattle.kmip_client.specs.Knowledge.{lost_phase}
use Rattle.kmip_client.specs.Laws.{HeldForGood}
use Rattle.kmip_client.specs.Places.{Onward}
use Rattle.kmip_client.specs.Saving.{knowledge_from, known_of}
use Rattle.kmip_client.specs.Shapes.{PhaseSuits}
use Rattle.kmip_client.specs.declared.knowledge.Knowledge.{Knowledge}
use Rattle.kmip_disk.specs.Views.{Content}
use Rattle.kmip_disk.specs.Whole.{IsOneOf}
use Rattle.kmip_objects.specs.Objects.{Object}
use Rattle.kmip_plan.specs.declared.key.Key.{Key}
use Rattle.kmip_plan.specs.Plans.{IsLawful}
use Rattle.kmip_progress.specs.Reading.{read_text}
use Rattle.kmip_progress.specs.declared.known.Known.{Known}
use Rattle.kmip_progress.specs.declared.progress_fault.ProgressFault.{ProgressFault}
use Rattle.kmip_runs.specs.CarriesOut.{CarriesOut, Stage}
use Rattle.kmip_runs.specs.Driving.{IsGood}
use Rattle.kmip_runs.specs.Lasting.{IsReadBack, IsTextOf}
use Rattle.kmip_runs.specs.Saved.{Moment, moment, text_at}
use Rattle.kmip_runs.specs.declared.save_fault.SaveFault.{SaveFault}
use Rattle.kmip_runs.specs.declared.stop.Stop.{Stop}
use Rattle.kmip_run_command.specs.Course.{IsTrueText, IsWholeFile, LeavesTrue}
use Rattle.kmip_run_command.specs.Laws.{IsGoodFile}

-- a client that goes on from what was saved looks at each key again
suits_again : (identifier : Option (List ℕ)) (done : ℕ) → PhaseSuits (lost_phase identifier) identifier done
suits_again None done = refl
suits_again (Some uid) done = λ is. absurd cc

held_again : (objects : List Object) (keys : List Key) (saved : List Known) → TrueProgress objects keys saved → Held objects keys (map knowledge_from saved)
held_again objects [] [] true_of = tt
held_again objects [] (known ∷ saved) true_of = absurd true_of
held_again objects (key ∷ keys) [] true_of = absurd true_of
held_again objects (key ∷ keys) (known ∷ saved) true_of =
    (record { holds = true_of.0; no_clash = refl; suits = suits_again known.identifier known.done }, held_again objects keys saved true_of.1)

true_of_held : (objects : List Object) (keys : List Key) (knowns : List Knowledge) → Held objects keys knowns → TrueProgress objects keys (map known_of knowns)
true_of_held objects [] [] held = tt
true_of_held objects [] (known ∷ knowns) held = absurd held
true_of_held objects (key ∷ keys) [] held = absurd held
true_of_held objects (key ∷ keys) (known ∷ knowns) held = (held.0.holds, true_of_held objects keys knowns held.1)

saved_again : (saved : List Known) → map known_of (map knowledge_from saved) ≡ saved
saved_again [] = refl
saved_again (known ∷ saved) = rw (saved_again saved) refl

-- truth is for good
true_still : HeldForGood → (keys : List Key) (saved : List Known) (old new : List Object) → IsLawful keys → Onward keys old new → TrueProgress old keys saved → TrueProgress new keys saved
true_still for_good keys saved old new lawful on was =
    subst (TrueProgress new keys) (saved_again saved)
    (true_of_held new keys (map knowledge_from saved) (for_good keys (map knowledge_from saved) old new lawful on (held_again old keys saved was)))

-- a file that was good is good still
pub file_still : HeldForGood → (keys : List Key) (old new : List Object) (c : Content) → IsLawful keys → Onward keys old new → IsGoodFile old keys c → IsGoodFile new keys c
file_still for_good keys old new c lawful on (inl none) = inl none
file_still for_good keys old new c lawful on (inr file) =
    inr (file.0, file.1, (file.2.0, file.2.1, true_still for_good keys file.2.0 old new lawful on file.2.2))

abbrev read_as : Result (List Known) ProgressFault → Result (List Known) ProgressFault
read_as r = r

same_saved : (xs ys : List Known) → read_as (Ok xs) ≡ read_as (Ok ys) → xs ≡ ys
same_saved xs ys e = cc

-- what a good file says is true
pub good_file_is_true : (keys : List Key) (objects : List Object) (c : Content) → IsGoodFile objects keys c → IsTrueText objects keys c
good_file_is_true keys objects None good = tt
good_file_is_true keys objects (Some text) (inl none) = absurd cc
good_file_is_true keys objects (Some text) (inr file) =
    let same : text ≡ file.0 = cc in
    λ saved said. subst (TrueProgress objects keys) (same_saved file.2.0 saved (sym file.2.1 ∙ ap (read_text keys) (sym same) ∙ said)) file.2.2

-- the text of one of these moments is a whole one, and true
one_is_true : (objects : List Object) (keys : List Key) (moments : List Moment) (c : Content) → All (IsReadBack keys) moments → All (λ (m : Moment). Held objects keys m.knowns) moments
    → IsOneOf (map (text_at keys) moments) c → IsWholeFile objects keys c
one_is_true objects keys [] c read held one = absurd one
one_is_true objects keys (m ∷ moments) c read held (inl is) = (
  text_at keys m,
  is,
  (
    map known_of m.knowns,
    All-head (IsReadBack keys) m moments read,
    true_of_held objects keys m.knowns (All-head (λ (m : Moment). Held objects keys m.knowns) m moments held),
  ),
)
one_is_true objects keys (m ∷ moments) c read held (inr one) =
    one_is_true objects keys moments c (All-tail (IsReadBack keys) m moments read) (All-tail (λ (m : Moment). Held objects keys m.knowns) m moments held) one

-- so is the text of the end, if that was tried
tried_is_true : (objects : List Object) (keys : List Key) (ended : Moment) (tried : List (List ℕ)) (c : Content) → All (IsTextOf keys ended) tried → Held objects keys ended.knowns
    → IsOneOf tried c → IsWholeFile objects keys c
tried_is_true objects keys ended [] c read held one = absurd one
tried_is_true objects keys ended (text ∷ tried) c read held (inl is) =
    (text, is, (map known_of ended.knowns, (All-head (IsTextOf keys ended) text tried read).1, true_of_held objects keys ended.knowns held))
tried_is_true objects keys ended (text ∷ tried) c read held (inr one) =
    tried_is_true objects keys ended tried c (All-tail (IsTextOf keys ended) text tried read) held one

one_of_either : (first second : List (List ℕ)) (c : Content) → IsOneOf (first ++ second) c → IsOneOf first c ⊎ IsOneOf second c
one_of_either [] second c one = inr one
one_of_either (text ∷ first) second c (inl is) = inl (inl is)
one_of_either (text ∷ first) second c (inr one) = ⊎_elim (λ early. inl (inr early)) (λ late. inr late) (one_of_either first second c one)

pub leaves_true : {follows : Type 0} (limit : ℕ) (old new : Stage) (r : Result Stop SaveFault) (made : ℕ) → IsGood old.client old.link → CarriesOut limit old r made new follows
    → LeavesTrue new.link.past.objects old.client.keys old.keeper.disk new.keeper.disk
leaves_true limit old new r made good carries = λ rules.
    let keys = old.client.keys in
    let objects = new.link.past.objects in
    let keeps = carries.moments in
    let left = keeps.any_moment rules in
    let ended : Moment = moment new.client new.link in
    let held = subst (λ ks. Held objects ks new.client.knowns) carries.forgets_nothing.keys_stay (carries.well good).good.held in
    let P : Content → Type 0 = λ c. old.keeper.disk.may_leave c ⊎ IsWholeFile objects keys c in
    let each : (c : Content) → old.keeper.disk.may_leave c ⊎ IsOneOf (map (text_at keys) keeps.moments ++ left.tried) c → P c =
    λ c.
    ⊎_elim (λ had. inl had)
    (λ one.
    inr
    (⊎_elim (λ early. one_is_true objects keys keeps.moments c left.read_back (keeps.are.true_of good) early)
    (λ late. tried_is_true objects keys ended left.tried c left.tried_read_back held late)
    (one_of_either (map (text_at keys) keeps.moments) left.tried c one))) in
    record {
      later = left.any_moment.later;
      each = λ c had. each c (left.any_moment.each c had);
      before = λ t c le had. ⊎_elim (λ was. inl was) (λ now. inr (each c now)) (left.any_moment.before t c le had);
    }
