-- The ends of runs, one for each run in turn.
use Rattle.std.proofs.Common.{◌≡◌, ◌≢◌, ◌≤◌, ◌<◌, ℕ, zero, suc, ◌+◌, List, [], ◌∷◌, ◌++◌, take, filter, length, map, slice_get, Option, Some, None, if◌then◌else◌, sym, ap, subst, refl, ◌∙◌, inl, inr, arith}
use Rattle.std.specs.List.{All, AllZip, Contains}
use Rattle.std.proofs.lemmas.Bool.{cases_Bool}
use Rattle.std.proofs.lemmas.List.{length-append}
use Rattle.std.proofs.lemmas.List.Elements.{All-cons, All-nil, Contains-append_left, Contains-append_right, Contains-push, filter-append}
use Rattle.kmip_plan.specs.declared.key.Key.{Key}
use Rattle.kmip_progress.specs.declared.known.Known.{Known}
use Rattle.kmip_client.specs.Clients.{one_if, verdict_at}
use Rattle.kmip_client.specs.Knowledge.{chain_length, verdict_of}
use Rattle.kmip_client.specs.Saving.{known_of}
use Rattle.kmip_client.specs.Verdicts.{AreWithin, counts_of, verdicts_of}
use Rattle.kmip_client.specs.declared.knowledge.Knowledge.{Knowledge}
use Rattle.kmip_client.specs.declared.verdict.Verdict.{Verdict}
use Rattle.kmip_client.specs.declared.verdict.Verdict.TheVariants.{Working, Finished, Conflict}
use Rattle.kmip_runs.specs.Campaign.{AreFull, IsEnd, IsFull, StopsSo, saves}
use Rattle.kmip_runs.specs.PrivateCampaignParts.{HasEnded, IsEndOf, IsEnding, IsNoted, saved_with}
use Rattle.kmip_runs.specs.Driving.{IsBorneOut}
use Rattle.kmip_runs.specs.Remembering.{saved_after}
use Rattle.kmip_runs.specs.declared.campaign_end.CampaignEnd.{CampaignEnd}
use Rattle.kmip_runs.specs.declared.run.Run.{Run}
use Rattle.kmip_runs.specs.declared.run_end.RunEnd.{RunEnd}
use Rattle.kmip_runs.specs.declared.ending.Ending.{Ending}
use Rattle.kmip_runs.specs.declared.stop.Stop.{Stop}
use Rattle.kmip_runs.specs.declared.stop.Stop.TheVariants as stops
use Rattle.kmip_runs.proofs.CompleteLemmas.{done_finished, finished_done}

-- what holds of the verdict at each place holds of all verdicts
all_verdicts : (P : Verdict → Type 0) (keys : List Key) (knowns : List Knowledge) → ((place : ℕ) → place < length keys → P (verdict_at keys knowns place))
    → All P (verdicts_of keys knowns)
all_verdicts P [] knowns each = All-nil P
all_verdicts P (key ∷ keys) [] each = All-nil P
all_verdicts P (key ∷ keys) (known ∷ knowns) each =
    All-cons P (verdict_of key known) (verdicts_of keys knowns) (each zero (omega arith))
    (all_verdicts P keys knowns (λ place below. each (suc place) (omega (arith, below))))

-- the verdict at each place is among them, where something is known of each key
verdict_there : (v : Verdict) (keys : List Key) (knowns : List Knowledge) → AreWithin keys (counts_of knowns) → (place : ℕ) → place < length keys
    → verdict_at keys knowns place ≡ v → Contains (verdicts_of keys knowns) v
verdict_there v [] [] few place below is = absurd (omega (arith, below))
verdict_there v [] (known ∷ knowns) few place below is = absurd few
verdict_there v (key ∷ keys) [] few place below is = absurd few
verdict_there v (key ∷ keys) (known ∷ knowns) few zero below is =
    subst (λ verdict. Contains (verdict ∷ verdicts_of keys knowns) v) (sym is) (Contains-append_left (v ∷ []) (verdicts_of keys knowns) v (Contains-push [] v))
verdict_there v (key ∷ keys) (known ∷ knowns) few (suc place) below is =
    Contains-append_right (verdict_of key known ∷ []) (verdicts_of keys knowns) v (verdict_there v keys knowns few.1 place (omega (arith, below)) is)

stops_so : (stop : Stop) (keys : List Key) (knowns : List Knowledge) (run : Run) (end : RunEnd) → end.verdicts.items ≡ verdicts_of keys knowns
    → AreWithin keys (counts_of knowns) → stop ≢ stops.NoMemory → IsBorneOut stop keys knowns → (stop ≡ stops.Limit → end.exchanges ≡ run.limit) → StopsSo stop run end
stops_so stops.AllFinished keys knowns run end are few in_memory stands limit =
    subst (λ verdicts. All (λ verdict. verdict ≡ Finished) verdicts) (sym are) (all_verdicts (λ verdict. verdict ≡ Finished) keys knowns stands)
stops_so stops.Limit keys knowns run end are few in_memory stands limit =
    (limit refl, subst (λ verdicts. Contains verdicts Working) (sym are) (verdict_there Working keys knowns few stands.0 stands.1 stands.2))
stops_so stops.Conflict keys knowns run end are few in_memory stands limit =
    let clash = stands.1 in (
      subst (λ verdicts. All (λ verdict. verdict ≢ Working) verdicts) (sym are) (all_verdicts (λ verdict. verdict ≢ Working) keys knowns stands.0),
      (clash.1, subst (λ verdicts. Contains verdicts (Conflict clash.1)) (sym are) (verdict_there (Conflict clash.1) keys knowns few clash.0 clash.2 clash.3)),
    )
stops_so stops.NoMemory keys knowns run end are few in_memory stands limit = absurd (in_memory refl)

is_full : (key : Key) (known : Knowledge) → known.done ≤ chain_length key → IsFull key known.done (verdict_of key known)
is_full key known few = record {
  few = few;
  done = λ is. let least = finished_done key known is in omega (arith, least, few);
  finished = λ is. done_finished key known (omega (arith, is));
}

are_full : (keys : List Key) (knowns : List Knowledge) → AreWithin keys (counts_of knowns) → AreFull keys (counts_of knowns) (verdicts_of keys knowns)
are_full [] [] few = tt
are_full [] (known ∷ knowns) few = absurd few
are_full (key ∷ keys) [] few = absurd few
are_full (key ∷ keys) (known ∷ knowns) few = (is_full key known few.0, are_full keys knowns few.1)

pub is_end : (keys : List Key) (knowns : List Knowledge) (run : Run) (stop : Stop) (exchanges : ℕ) (end : RunEnd) → IsEndOf keys knowns stop exchanges end
    → IsBorneOut stop keys knowns → (stop ≡ stops.Limit → exchanges ≡ run.limit) → exchanges ≤ run.limit → IsEnd keys run end
is_end keys knowns run stop exchanges end is stands limit within =
    let few = subst (λ counts. AreWithin keys counts) is.counts_are is.few in
    record {
      report_is = is.report_is;
      stops = subst (λ s. StopsSo s run end) (sym is.stop_is)
          (stops_so stop keys knowns run end is.verdicts_are few is.in_memory stands (λ so. is.exchanges_is ∙ limit so));
      within = subst (λ n. n ≤ run.limit) (sym is.exchanges_is) within;
      full = rw (is.counts_are, is.verdicts_are) (are_full keys knowns few);
    }

pub is_noted : (keys : List Key) (knowns : List Knowledge) (run : Run) (driven : Stop × ℕ) (end : RunEnd) (old new : List RunEnd) → IsEndOf keys knowns driven.0 driven.1 end
    → IsBorneOut driven.0 keys knowns → (driven.0 ≡ stops.Limit → driven.1 ≡ run.limit) → driven.1 ≤ run.limit → new ≡ old ++ end ∷ [] → IsNoted keys run knowns driven old new
is_noted keys knowns run driven end old new is stands limit within joined = record {
  end = end;
  joined = joined;
  is_end = is_end keys knowns run driven.0 driven.1 end is stands limit within;
  stop_is = is.stop_is;
  shows = record { counts_are = is.counts_are; verdicts_are = is.verdicts_are };
  exchanges_is = is.exchanges_is;
}

pub saved_noted : (run : Run) (knowns : List Knowledge) (saved : Option (List Known)) (old new : List (List Known))
    → saved ≡ (if run.save then Some (map known_of knowns) else None) → new ≡ saved_with saved old → new ≡ saved_after run knowns old
saved_noted run knowns saved old new is joined = elim (cases_Bool run.save) [
  | inl save ↦ rw save (joined ∙ ap (λ s. saved_with s old) (rw save at is))
  | inr none ↦ rw none (joined ∙ ap (λ s. saved_with s old) (rw none at is))
]

-- what was made of a run is noted
pub has_ended : (keys : List Key) (knowns : List Knowledge) (run : Run) (driven : Stop × ℕ) (ending : Ending) (old new : CampaignEnd)
    → IsEnding keys run knowns driven ending → IsBorneOut driven.0 keys knowns → (driven.0 ≡ stops.Limit → driven.1 ≡ run.limit) → driven.1 ≤ run.limit
    → new.runs.items ≡ old.runs.items ++ ending.run ∷ [] → new.saved.items ≡ saved_with ending.saved old.saved.items → HasEnded keys run knowns driven old new
has_ended keys knowns run driven ending old new is stands limit within joined saved = record {
  noted = is_noted keys knowns run driven ending.run old.runs.items new.runs.items is.end_is stands limit within joined;
  saved_are = saved_noted run knowns ending.saved old.saved.items new.saved.items is.saved_is saved;
}

pub saved_long : (run : Run) (knowns : List Knowledge) (old new : List (List Known)) → new ≡ saved_after run knowns old → length new ≡ length old + one_if (saves run)
saved_long run knowns old new is = elim (cases_Bool run.save) [
  | inl save ↦ rw (is, save) (length-append old (map known_of knowns ∷ []))
  | inr none ↦ rw (is, none) (omega arith)
]

-- ---- runs in turn

pub one_further : {A : Type 0} (xs : List A) (at : ℕ) (x : A) → slice_get xs at ≡ Some x → take (suc at) xs ≡ take at xs ++ x ∷ []
one_further [] at x is = absurd cc
one_further (y ∷ ys) zero x is = let same : y ≡ x = cc in ap (λ z. z ∷ []) same
one_further (y ∷ ys) (suc at) x is = ap (λ zs. y ∷ zs) (one_further ys at x is)

pub zip_push : {A B : Type 0} (R : A → B → Type 0) (xs : List A) (ys : List B) (x : A) (y : B) → AllZip R xs ys → R x y → AllZip R (xs ++ x ∷ []) (ys ++ y ∷ [])
zip_push R [] [] x y zipped holds = (holds, tt)
zip_push R [] (b ∷ ys) x y zipped holds = absurd zipped
zip_push R (a ∷ xs) [] x y zipped holds = absurd zipped
zip_push R (a ∷ xs) (b ∷ ys) x y zipped holds = (zipped.0, zip_push R xs ys x y zipped.1 holds)

-- the ends are those of the first runs
zip_front : {A B : Type 0} (R : A → B → Type 0) (xs : List A) (at : ℕ) (ys : List B) → AllZip R (take at xs) ys → AllZip R (take (length ys) xs) ys
zip_front R [] zero [] zipped = tt
zip_front R [] zero (y ∷ ys) zipped = absurd zipped
zip_front R [] (suc at) [] zipped = tt
zip_front R [] (suc at) (y ∷ ys) zipped = absurd zipped
zip_front R (x ∷ xs) zero [] zipped = tt
zip_front R (x ∷ xs) zero (y ∷ ys) zipped = absurd zipped
zip_front R (x ∷ xs) (suc at) [] zipped = tt
zip_front R (x ∷ xs) (suc at) (y ∷ ys) zipped = (zipped.0, zip_front R xs at ys zipped.1)

-- what holds of the first runs and their ends, and of one more
pub zip_more : (R : Run → RunEnd → Type 0) (runs : List Run) (at : ℕ) (run : Run) (old new : List RunEnd) (end : RunEnd) → slice_get runs at ≡ Some run
    → AllZip R (take at runs) old → new ≡ old ++ end ∷ [] → R run end → AllZip R (take (suc at) runs) new
zip_more R runs at run old new end is each joined holds =
    subst (λ front. AllZip R front new) (sym (one_further runs at run is))
    (subst (λ ends. AllZip R (take at runs ++ run ∷ []) ends) (sym joined) (zip_push R (take at runs) old run end each holds))

pub ends_more : (keys : List Key) (runs : List Run) (at : ℕ) (run : Run) (old new : List RunEnd) → slice_get runs at ≡ Some run → AllZip (IsEnd keys) (take at runs) old
    → (knowns : List Knowledge) (driven : Stop × ℕ) → IsNoted keys run knowns driven old new → AllZip (IsEnd keys) (take (suc at) runs) new
ends_more keys runs at run old new is each knowns driven noted = zip_more (IsEnd keys) runs at run old new noted.end is each noted.joined noted.is_end

pub ends_same : (keys : List Key) (runs : List Run) (at : ℕ) (old new : List RunEnd) → new ≡ old → AllZip (IsEnd keys) (take at runs) old
    → AllZip (IsEnd keys) (take (length new) runs) new
ends_same keys runs at old new same each = rw same (zip_front (IsEnd keys) runs at old each)

pub ends_all : (keys : List Key) (runs : List Run) (at : ℕ) (ends : List RunEnd) → AllZip (IsEnd keys) (take at runs) ends → AllZip (IsEnd keys) (take (length ends) runs) ends
ends_all keys runs at ends each = zip_front (IsEnd keys) runs at ends each

one_saves : (run : Run) → length (filter saves (run ∷ [])) ≡ one_if (saves run)
one_saves run = elim (cases_Bool (saves run)) [
  | inl is ↦ rw is refl
  | inr is ↦ rw is refl
]

pub saves_more : (runs : List Run) (at : ℕ) (run : Run) (old new : ℕ) → slice_get runs at ≡ Some run → old ≡ length (filter saves (take at runs)) → new ≡ old + one_if (saves run)
    → new ≡ length (filter saves (take (suc at) runs))
saves_more runs at run old new is so more =
    more ∙ ap (λ n. n + one_if (saves run)) so
    ∙ sym (ap (λ rs. length (filter saves rs)) (one_further runs at run is) ∙ ap (λ rs. length rs) (filter-append saves (take at runs) (run ∷ []))
    ∙ length-append (filter saves (take at runs)) (filter saves (run ∷ [])) ∙ ap (λ n. length (filter saves (take at runs)) + n) (one_saves run))
