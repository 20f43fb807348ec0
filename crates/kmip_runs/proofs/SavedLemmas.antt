-- The moments of a run at which what is known is saved, one exchange after the other.
use Rattle.std.proofs.Common.{◌≡◌, ◌≢◌, ◌≤◌, ℕ, ◌+◌, List, [], ◌∷◌, ◌++◌, length, map, Result, Ok, Err, sym, ap, subst, refl, ◌∙◌, append_assoc, append-nil, arith}
use Rattle.std.proofs.lemmas.List.{length-append}
use Rattle.std.proofs.lemmas.List.Elements.{All-append, All-cons, All-nil, All-weaker}
use Rattle.std.specs.List.{All, AllZip}
use Rattle.kmip_client.specs.Held.{Held}
use Rattle.kmip_plan.specs.declared.key.Key.{Key}
use Rattle.kmip_progress.specs.Texts.{progress_text}
use Rattle.kmip_progress.specs.declared.known.Known.{Known}
use Rattle.kmip_client.specs.Known.{Fact, facts, known_after}
use Rattle.kmip_client.specs.Laws.{HearingIsBlind, OnwardTwice}
use Rattle.kmip_client.specs.Saving.{known_of}
use Rattle.kmip_client.specs.Shapes.{IsKept}
use Rattle.kmip_client.specs.declared.knowledge.Knowledge.{Knowledge}
use Rattle.kmip_protocol.specs.AmidLaws.{PassingJoins}
use Rattle.kmip_protocol.specs.Past.{Past}
use Rattle.kmip_runs.specs.Driving.{Learnt, WentOn}
use Rattle.kmip_runs.specs.declared.stop.Stop.{Stop}
use Rattle.kmip_runs.specs.declared.stop.Stop.TheVariants as stops
use Rattle.kmip_runs.specs.Saved.{AreKept, AreMoments, AreOnward, AreTaughtInTurn, AreUnsaved, Grounds, IsInMemory, IsWhole, Moment, WasTrue, last_moment, text_at}
use Rattle.kmip_runs.specs.declared.save_fault.SaveFault.{SaveFault}
use Rattle.kmip_runs.proofs.OnLemmas.{on_then}
use Rattle.kmip_runs.proofs.WentLemmas.{kept_itself, kept_then, learnt_nothing, learnt_then, stop_is}

-- ---- texts

-- what is saved of a fact
abbrev saved_of : Fact → Known
saved_of fact = record { identifier = fact.identifier; done = fact.done }

saved_facts : (knowns : List Knowledge) → map known_of knowns ≡ map saved_of (facts knowns)
saved_facts [] = refl
saved_facts (known ∷ knowns) = ap (λ rest. known_of known ∷ rest) (saved_facts knowns)

no_answers : {A : Type 0} (xs : List A) → length xs ≡ 0 → xs ≡ []
no_answers [] none = refl
no_answers (x ∷ xs) none = absurd (omega (arith, none))

-- no exchange changes no text
pub same_text : (keys : List Key) (most : ℕ) (a b : Moment) → Learnt keys most a.past b.past a.knowns b.knowns 0 → text_at keys b ≡ text_at keys a
same_text keys most a b learnt =
    let same : facts b.knowns ≡ facts a.knowns =
    learnt.known_is ∙ ap (λ answers. facts (known_after keys a.knowns answers)) (no_answers learnt.answers learnt.as_many_answers) in
    ap (λ known. progress_text keys known) (saved_facts b.knowns ∙ ap (λ fs. map saved_of fs) same ∙ sym (saved_facts a.knowns))

-- ---- moments, one after the other

pub kept_joined : (knowns : List Knowledge) (first : List Moment) (mid : Moment) (second : List Moment) → AreKept knowns (first ++ mid ∷ [])
    → AreKept mid.knowns second → AreKept knowns (first ++ second)
kept_joined knowns [] mid [] before after = tt
kept_joined knowns [] mid (m ∷ second) before after = (kept_then knowns mid.knowns m.knowns before.0 after.0, after.1)
kept_joined knowns (m ∷ first) mid second before after = (before.0, kept_joined m.knowns first mid second before.1 after)

onward_first : OnwardTwice → PassingJoins → (keys : List Key) (p q r : Past) (moments : List Moment) → WentOn keys p q → AreOnward keys q moments r → AreOnward keys p moments r
onward_first twice joins keys p q r [] went on = on_then twice joins keys p q r went on
onward_first twice joins keys p q r (m ∷ moments) went on = (on_then twice joins keys p q m.past went on.0, on.1)

onward_joined : OnwardTwice → PassingJoins → (keys : List Key) (p q r : Past) (first second : List Moment) → AreOnward keys p first q → AreOnward keys q second r
    → AreOnward keys p (first ++ second) r
onward_joined twice joins keys p q r [] second before after = onward_first twice joins keys p q r second before after
onward_joined twice joins keys p q r (m ∷ first) second before after = (before.0, onward_joined twice joins keys m.past q r first second before.1 after)

onward_last : OnwardTwice → PassingJoins → (keys : List Key) (p q r : Past) (moments : List Moment) → AreOnward keys p moments q → WentOn keys q r → AreOnward keys p moments r
onward_last twice joins keys p q r [] before went = on_then twice joins keys p q r before went
onward_last twice joins keys p q r (m ∷ moments) before went = (before.0, onward_last twice joins keys m.past q r moments before.1 went)

last_joined : (begun : Moment) (first : List Moment) (m : Moment) (second : List Moment) → last_moment begun (first ++ m ∷ second) ≡ last_moment m second
last_joined begun [] m second = refl
last_joined begun (x ∷ first) m second = last_joined x first m second

taught_joined : HearingIsBlind → (keys : List Key) (most : ℕ) (begun : Moment) (first : List Moment) (mid : Moment) (second : List Moment) → AreTaughtInTurn keys most begun first
    → Learnt keys most (last_moment begun first).past mid.past (last_moment begun first).knowns mid.knowns 0 → AreTaughtInTurn keys most mid second
    → AreTaughtInTurn keys most begun (first ++ second)
taught_joined blind keys most begun [] mid [] before between after = tt
taught_joined blind keys most begun [] mid (m ∷ second) before between after =
    (learnt_then blind keys most begun.past mid.past m.past begun.knowns mid.knowns m.knowns 0 1 between after.0, after.1)
taught_joined blind keys most begun (m ∷ first) mid second before between after =
    (before.0, taught_joined blind keys most m first mid second before.1 between after)

rest_joined : HearingIsBlind → (keys : List Key) (most : ℕ) (begun : Moment) (first : List Moment) (mid : Moment) (second : List Moment) (ended : Moment) (n : ℕ)
    → Learnt keys most (last_moment begun first).past mid.past (last_moment begun first).knowns mid.knowns 0
    → Learnt keys most (last_moment mid second).past ended.past (last_moment mid second).knowns ended.knowns n
    → Learnt keys most (last_moment begun (first ++ second)).past ended.past (last_moment begun (first ++ second)).knowns ended.knowns n
rest_joined blind keys most begun first mid [] ended n before after =
    let last = last_moment begun first in
    let same : 0 + n ≡ n = omega arith in
    subst (λ ms. Learnt keys most (last_moment begun ms).past ended.past (last_moment begun ms).knowns ended.knowns n) (sym (append-nil first))
    (subst (λ k. Learnt keys most last.past ended.past last.knowns ended.knowns k) same
    (learnt_then blind keys most last.past mid.past ended.past last.knowns mid.knowns ended.knowns 0 n before after))
rest_joined blind keys most begun first mid (m ∷ second) ended n before after =
    subst (λ last. Learnt keys most last.past ended.past last.knowns ended.knowns n) (sym (last_joined begun first m second)) after

last_text : (keys : List Key) (begun : Moment) (first : List Moment) (mid : Moment) (second : List Moment) (ended : Moment)
    → text_at keys mid ≡ text_at keys (last_moment begun first) → text_at keys ended ≡ text_at keys (last_moment mid second)
    → text_at keys ended ≡ text_at keys (last_moment begun (first ++ second))
last_text keys begun first mid [] ended before after =
    after ∙ before ∙ ap (λ ms. text_at keys (last_moment begun ms)) (sym (append-nil first))
last_text keys begun first mid (m ∷ second) ended before after = after ∙ ap (λ last. text_at keys last) (sym (last_joined begun first m second))

-- ---- what is true stays so

-- from one moment to another what was known is true still
abbrev pub StaysTrue : List Key → Type 0 → Moment → Moment → Type 0
StaysTrue keys good mid ended = good → (knowns : List Knowledge) → Held mid.past.objects keys knowns → Held ended.past.objects keys knowns

pub still_true : (keys : List Key) (good : Type 0) (mid ended : Moment) (moments : List Moment) → StaysTrue keys good mid ended → good
    → All (λ (m : Moment). Held mid.past.objects keys m.knowns) moments → All (λ (m : Moment). Held ended.past.objects keys m.knowns) moments
still_true keys good mid ended moments stays holds all =
    All-weaker (λ (m : Moment). Held mid.past.objects keys m.knowns) (λ (m : Moment). Held ended.past.objects keys m.knowns)
    (λ m. stays holds m.knowns) moments all

-- ---- the moments of exchanges

-- if memory did not run out no exchange lacks its text
none_unsaved : (stop : Stop) → AreUnsaved (Ok stop) 0
none_unsaved stops.AllFinished = refl
none_unsaved stops.Limit = refl
none_unsaved stops.Conflict = refl
none_unsaved stops.NoMemory = omega arith

unsaved_none : (stop : Stop) (count : ℕ) → stop ≢ stops.NoMemory → AreUnsaved (Ok stop) count → count ≡ 0
unsaved_none stops.AllFinished count memory are = are
unsaved_none stops.Limit count memory are = are
unsaved_none stops.Conflict count memory are = are
unsaved_none stops.NoMemory count memory are = absurd (memory refl)

-- none, as no exchange was made
pub moments_none : (keys : List Key) (most : ℕ) (grounds : Grounds) (begun ended : Moment) (stop : Stop) → AllZip IsKept begun.knowns ended.knowns
    → (grounds.good → WentOn keys begun.past ended.past)
    → (grounds.honest → stop ≢ stops.NoMemory → Learnt keys most begun.past ended.past begun.knowns ended.knowns 0) → AreMoments keys most grounds begun ended (Ok stop) 0 []
moments_none keys most grounds begun ended stop kept went learnt = record {
  unsaved = 0;
  are_unsaved = none_unsaved stop;
  as_many = refl;
  forgets_nothing = (kept, tt);
  onward = went;
  true_then = λ good. All-nil (WasTrue keys);
  true_of = λ good. All-nil (λ (m : Moment). Held ended.past.objects keys m.knowns);
  taught = λ holds. tt;
  rest = λ holds memory. learnt holds (λ is. memory (ap Ok is));
  last_is = λ holds whole. same_text keys most begun ended (learnt holds whole);
}

-- the one after an exchange
pub moments_one : (keys : List Key) (most : ℕ) (grounds : Grounds) (begun ended : Moment) (stop : Stop) → AllZip IsKept begun.knowns ended.knowns
    → (grounds.good → WentOn keys begun.past ended.past) → (grounds.good → WentOn keys ended.past ended.past)
    → (grounds.honest → Learnt keys most begun.past ended.past begun.knowns ended.knowns 1)
    → (grounds.good → Held ended.past.objects keys ended.knowns) → AreMoments keys most grounds begun ended (Ok stop) 1 (ended ∷ [])
moments_one keys most grounds begun ended stop kept went stays learnt held = record {
  unsaved = 0;
  are_unsaved = none_unsaved stop;
  as_many = refl;
  forgets_nothing = (kept, (kept_itself ended.knowns, tt));
  onward = λ good. (went good, stays good);
  true_then = λ good. All-cons (WasTrue keys) ended [] (held good) (All-nil (WasTrue keys));
  true_of = λ good.
      let P : Moment → Type 0 = λ m. Held ended.past.objects keys m.knowns in
      All-cons P ended [] (held good) (All-nil P);
  taught = λ holds. (learnt holds, tt);
  rest = λ holds memory. learnt_nothing keys most ended.past ended.knowns;
  last_is = λ holds whole. refl;
}

-- or none again, if it was not saved
pub moments_not : (keys : List Key) (most : ℕ) (grounds : Grounds) (begun ended : Moment) (fault : SaveFault) → AllZip IsKept begun.knowns ended.knowns
    → (grounds.good → WentOn keys begun.past ended.past)
    → (grounds.honest → Learnt keys most begun.past ended.past begun.knowns ended.knowns 1) → AreMoments keys most grounds begun ended (Err fault) 1 []
moments_not keys most grounds begun ended fault kept went learnt = record {
  unsaved = 1;
  are_unsaved = refl;
  as_many = refl;
  forgets_nothing = (kept, tt);
  onward = went;
  true_then = λ good. All-nil (WasTrue keys);
  true_of = λ good. All-nil (λ (m : Moment). Held ended.past.objects keys m.knowns);
  taught = λ holds. tt;
  rest = λ holds memory. learnt holds;
  last_is = λ holds whole. absurd whole;
}

-- or if memory ran out in it
pub moments_broken : (keys : List Key) (most : ℕ) (grounds : Grounds) (begun ended : Moment) (made : ℕ) → AllZip IsKept begun.knowns ended.knowns
    → (grounds.good → WentOn keys begun.past ended.past) → made ≤ 1 → AreMoments keys most grounds begun ended (Ok stops.NoMemory) made []
moments_broken keys most grounds begun ended made kept went few = record {
  unsaved = made;
  are_unsaved = few;
  as_many = omega arith;
  forgets_nothing = (kept, tt);
  onward = went;
  true_then = λ good. All-nil (WasTrue keys);
  true_of = λ good. All-nil (λ (m : Moment). Held ended.past.objects keys m.knowns);
  taught = λ holds. tt;
  rest = λ holds memory. absurd (memory refl);
  last_is = λ holds whole. absurd (whole refl);
}

pub moments_then : HearingIsBlind → OnwardTwice → PassingJoins → (keys : List Key) (most : ℕ) (grounds : Grounds) (begun mid ended : Moment) (stop : Stop)
    (result : Result Stop SaveFault) (m n : ℕ) (first second : List Moment) → stop ≢ stops.NoMemory → StaysTrue keys grounds.good mid ended
    → AreMoments keys most grounds begun mid (Ok stop) m first → AreMoments keys most grounds mid ended result n second
    → AreMoments keys most grounds begun ended result (m + n) (first ++ second)
moments_then blind twice joins keys most grounds begun mid ended stop result m n first second memory stays a b =
    let in_memory : IsInMemory (Ok stop) = λ is. memory (stop_is stop stops.NoMemory is) in
    let none = unsaved_none stop a.unsaved memory a.are_unsaved in
    let last = last_moment begun first in
    let rests = λ (holds : grounds.honest). subst (λ count. Learnt keys most last.past mid.past last.knowns mid.knowns count) none (a.rest holds in_memory) in
    record {
      unsaved = b.unsaved;
      are_unsaved = b.are_unsaved;
      as_many = let long = length-append first second in omega (arith, long, none, a.as_many, b.as_many);
      forgets_nothing = subst (λ ms. AreKept begun.knowns ms) (sym (append_assoc first second (ended ∷ [])))
          (kept_joined begun.knowns first mid (second ++ ended ∷ []) a.forgets_nothing b.forgets_nothing);
      onward = λ good. onward_joined twice joins keys begun.past mid.past ended.past first second (a.onward good) (b.onward good);
      true_then = λ good. All-append (WasTrue keys) first second (a.true_then good) (b.true_then good);
      true_of = λ good.
          All-append (λ (m : Moment). Held ended.past.objects keys m.knowns) first second
          (still_true keys grounds.good mid ended first stays good (a.true_of good)) (b.true_of good);
      taught = λ holds. taught_joined blind keys most begun first mid second (a.taught holds) (rests holds) (b.taught holds);
      rest = λ holds whole. rest_joined blind keys most begun first mid second ended b.unsaved (rests holds) (b.rest holds whole);
      last_is = λ holds whole. last_text keys begun first mid second ended (a.last_is holds memory) (b.last_is holds whole);
    }

-- the end of the run has no moment
pub moments_closed : HearingIsBlind → OnwardTwice → PassingJoins → (keys : List Key) (most : ℕ) (grounds : Grounds) (begun mid ended : Moment)
    (result last : Result Stop SaveFault) (m : ℕ) (moments : List Moment) → mid.knowns ≡ ended.knowns → (grounds.good → WentOn keys mid.past ended.past)
    → (grounds.honest → Learnt keys most mid.past ended.past mid.knowns ended.knowns 0) → ((count : ℕ) → AreUnsaved result count → AreUnsaved last count)
    → (IsInMemory last → IsInMemory result) → (IsWhole last → IsWhole result) → StaysTrue keys grounds.good mid ended
    → AreMoments keys most grounds begun mid result m moments → AreMoments keys most grounds begun ended last m moments
moments_closed blind twice joins keys most grounds begun mid ended result last m moments same went learnt still memory whole stays a = record {
  unsaved = a.unsaved;
  are_unsaved = still a.unsaved a.are_unsaved;
  as_many = a.as_many;
  forgets_nothing = kept_joined begun.knowns moments mid (ended ∷ []) a.forgets_nothing (subst (λ ks. AllZip IsKept mid.knowns ks) same (kept_itself mid.knowns), tt);
  onward = λ good. onward_last twice joins keys begun.past mid.past ended.past moments (a.onward good) (went good);
  true_then = a.true_then;
  true_of = λ good. still_true keys grounds.good mid ended moments stays good (a.true_of good);
  taught = a.taught;
  rest = λ holds in_memory.
      let before = last_moment begun moments in
      let none : a.unsaved + 0 ≡ a.unsaved = omega arith in
      subst (λ n. Learnt keys most before.past ended.past before.knowns ended.knowns n) none
      (learnt_then blind keys most before.past mid.past ended.past before.knowns mid.knowns ended.knowns a.unsaved 0 (a.rest holds (memory in_memory)) (learnt holds));
  last_is = λ holds done. same_text keys most mid ended (learnt holds) ∙ a.last_is holds (whole done);
}

-- under another premise that gives the first
pub moments_from : (keys : List Key) (most : ℕ) (before later : Grounds) (begun ended : Moment) (result : Result Stop SaveFault) (n : ℕ) (moments : List Moment)
    → (before.good → later.good) → (before.honest → later.honest) → AreMoments keys most later begun ended result n moments → AreMoments keys most before begun ended result n moments
moments_from keys most before later begun ended result n moments betters gives a = record {
  unsaved = a.unsaved;
  are_unsaved = a.are_unsaved;
  as_many = a.as_many;
  forgets_nothing = a.forgets_nothing;
  onward = λ good. a.onward (betters good);
  true_then = λ good. a.true_then (betters good);
  true_of = λ good. a.true_of (betters good);
  taught = λ holds. a.taught (gives holds);
  rest = λ holds. a.rest (gives holds);
  last_is = λ holds. a.last_is (gives holds);
}
