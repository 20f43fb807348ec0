-- What a server of the profile answers a probe: each question in turn moves its two objects as the profile says.
use Rattle.std.proofs.Common.{◌≡◌, ◌≢◌, ◌≤◌, ◌<◌, ◌⊎◌, ◌+◌, ℕ, zero, suc, pos, true, false, List, [], ◌∷◌, ◌++◌, map}
use Rattle.std.proofs.Common.{take, drop, length, Some, None, subst, refl, sym, ap, ◌∙◌, inl, inr, arith}
use Rattle.std.specs.List.{slice_get}
use Rattle.std.specs.Option.{is_some}
use Rattle.std.proofs.lemmas.Option.{same_Some}
use Rattle.kmip_objects.specs.Objects.{Object}
use Rattle.kmip_objects.specs.declared.key_state.KeyState.TheVariants.{PreActive, Active, Deactivated, Destroyed}
use Rattle.kmip_objects.specs.declared.step.Step.TheVariants as steps
use Rattle.kmip_batch_items.specs.declared.outcome.Outcome.{Outcome}
use Rattle.kmip_batch_items.specs.declared.outcome.Outcome.TheVariants as outcomes
use Rattle.kmip_batch_items.specs.declared.outcome.Outcome.TheVariants.{Created, Located, Attributes, Activated}
use Rattle.kmip_batch_items.specs.declared.outcome.Outcome.TheVariants.{Revoked, Failed}
use Rattle.kmip_batch_items.specs.declared.standard.TheConstants.{REASON_NON_UNIQUE_NAME, REASON_WRONG_STATE}
use Rattle.kmip_protocol.specs.Past.{Past}
use Rattle.kmip_objects.specs.Attributes.{attributes_of}
use Rattle.kmip_probe.specs.Asking.{next_inquiry}
use Rattle.kmip_probe.specs.Inquiries.{attributes_with, name_of}
use Rattle.kmip_probe.specs.Private.{HasServedNext}
use Rattle.kmip_probe.specs.Serving.{IsUnprobed, object_of, outcomes_of}
use Rattle.kmip_objects.specs.ObjectLaws.{ObjectLaws}
use Rattle.kmip_probe.specs.TwoObjects.{AreServed, AreStanding, state_at}
use Rattle.kmip_probe.specs.declared.answer.Answer.{Answer}
use Rattle.kmip_probe.specs.declared.answer.Answer.TheVariants.{Told}
use Rattle.kmip_probe.specs.declared.which.Which.TheVariants.{First, Second}
use Rattle.kmip_probe.proofs.ProbingLemmas.{up_to}
use Rattle.kmip_probe.proofs.TwoObjectsLemmas.{TwoStand, turned, comes, used, found, read, refused, taken}

-- ---- the two names

first_apart : (prefix : List ℕ) → name_of First prefix ≢ name_of Second prefix
first_apart [] same = absurd (omega (arith, same_Some _ _ (ap (λ xs. slice_get xs 1) same)))
first_apart (x ∷ prefix) same = first_apart prefix (ap (drop 1) same)

second_apart : (prefix : List ℕ) → name_of Second prefix ≢ name_of First prefix
second_apart prefix same = first_apart prefix (sym same)

-- ---- how they stand after so many answers

abbrev Two : List ℕ → List ℕ → List ℕ → ℕ → ℕ → List Object → Type 0
Two prefix first second count room objects =
    TwoStand room objects (attributes_with (name_of First prefix)) (attributes_with (name_of Second prefix)) first
    second (state_at First count) (state_at Second count)

stands : (prefix first second : List ℕ) (count : ℕ) (p : Past) → AreStanding prefix first second count p
    → Two prefix first second count p.room p.objects
stands prefix first second count p s =
    record {
      names_differ = s.names_differ;
      uids_differ = s.uids_differ;
      own_is = s.first_is;
      other_is = s.second_is;
      roomy = s.roomy;
    }

standing : (prefix first second : List ℕ) (count : ℕ) (p : Past) → Two prefix first second count p.room p.objects
    → AreStanding prefix first second count p
standing prefix first second count p s =
    record {
      names_differ = s.names_differ;
      uids_differ = s.uids_differ;
      first_is = s.own_is;
      second_is = s.other_is;
      roomy = s.roomy;
    }

-- ---- one more answer

abbrev until : List ℕ → List ℕ → List ℕ → ℕ → List Answer
until prefix first second count = map Told (take count (outcomes_of prefix first second))

-- one more question behind so many
abbrev Case : List ℕ → ℕ → Type 0
Case prefix count =
    (first second : List ℕ) (answer : Answer) (old new : Past) → AreStanding prefix first second count old
    → HasServedNext prefix (until prefix first second count) answer old new
    → AreServed prefix (until prefix first second count ++ answer ∷ []) new

-- it has this outcome
changed : (prefix first second : List ℕ) (before : List Answer) (wanted outcome : Outcome) (answer : Answer)
    (old new : Past)
    → before ++ Told wanted ∷ [] ≡ until prefix first second (length (before ++ Told wanted ∷ [])) → outcome ≡ wanted
    → answer ≡ Told outcome → new.room ≡ old.room
    → Two prefix first second (length (before ++ Told wanted ∷ [])) old.room new.objects
    → AreServed prefix (before ++ answer ∷ []) new
changed prefix first second before wanted outcome answer old new are is says room s =
    let count : ℕ = length (before ++ Told wanted ∷ []) in
    subst (λ a. AreServed prefix (before ++ a ∷ []) new) (sym (says ∙ ap (λ (o : Outcome). Told o) is)) (record {
      first = first;
      second = second;
      answers_are = are;
      standing = standing prefix first second count new
          (subst (λ r. Two prefix first second count r new.objects) (sym room) s);
    })

-- and no object changes
unchanged : (prefix first second : List ℕ) (before : List Answer) (wanted outcome : Outcome) (answer : Answer)
    (old new : Past)
    → before ++ Told wanted ∷ [] ≡ until prefix first second (length (before ++ Told wanted ∷ []))
    → (outcome ≡ wanted) × (new.objects ≡ old.objects)
    → answer ≡ Told outcome → new.room ≡ old.room
    → Two prefix first second (length (before ++ Told wanted ∷ [])) old.room old.objects
    → AreServed prefix (before ++ answer ∷ []) new
unchanged prefix first second before wanted outcome answer old new are (is, same) says room s =
    changed prefix first second before wanted outcome answer old new are is says room
    (subst (Two prefix first second (length (before ++ Told wanted ∷ [])) old.room) (sym same) s)

-- ---- the questions, in order

at_0 : ObjectLaws → (prefix : List ℕ) → Case prefix 0
at_0 l prefix first second answer old new s (outcome, step, says, room) =
    let t = stands prefix first second 0 old s in
    unchanged prefix first second (until prefix first second 0) (Located []) outcome answer old new refl
    (found l (Some (pos 5)) t step) says room t

at_1 : ObjectLaws → (prefix : List ℕ) → Case prefix 1
at_1 l prefix first second answer old new s (outcome, step, says, room) =
    let t = stands prefix first second 1 old s in
    unchanged prefix first second (until prefix first second 1) (Located []) outcome answer old new refl
    (found l (Some (pos 5)) (turned t) step) says room t

at_2 : ObjectLaws → (prefix : List ℕ) → Case prefix 2
at_2 l prefix first second answer old new s (outcome, step, says, room) =
    let t = stands prefix first second 2 old s in
    let (fresh, is, now) = comes l (second_apart prefix) t step in
    changed prefix fresh second (until prefix fresh second 2) (Created fresh) outcome answer old new refl is says room
    now

at_3 : ObjectLaws → (prefix : List ℕ) → Case prefix 3
at_3 l prefix first second answer old new s (outcome, step, says, room) =
    let t = stands prefix first second 3 old s in
    unchanged prefix first second (until prefix first second 3) (Failed (Some REASON_NON_UNIQUE_NAME)) outcome answer
    old new refl (used t step) says room t

at_4 : ObjectLaws → (prefix : List ℕ) → Case prefix 4
at_4 l prefix first second answer old new s (outcome, step, says, room) =
    let t = stands prefix first second 4 old s in
    unchanged prefix first second (until prefix first second 4) (Located (first ∷ [])) outcome answer old new refl
    (found l None t step) says room t

at_5 : ObjectLaws → (prefix : List ℕ) → Case prefix 5
at_5 l prefix first second answer old new s (outcome, step, says, room) =
    let t = stands prefix first second 5 old s in
    unchanged prefix first second (until prefix first second 5) (Located (first ∷ [])) outcome answer old new refl
    (found l (Some (pos 1)) t step) says room t

at_6 : ObjectLaws → (prefix : List ℕ) → Case prefix 6
at_6 l prefix first second answer old new s (outcome, step, says, room) =
    let t = stands prefix first second 6 old s in
    unchanged prefix first second (until prefix first second 6) (Located []) outcome answer old new refl
    (found l (Some (pos 4)) t step) says room t

at_7 : ObjectLaws → (prefix : List ℕ) → Case prefix 7
at_7 l prefix first second answer old new s (outcome, step, says, room) =
    let t = stands prefix first second 7 old s in
    unchanged prefix first second (until prefix first second 7) (Located (first ∷ [])) outcome answer old new refl
    (found l (Some (pos 5)) t step) says room t

at_8 : ObjectLaws → (prefix : List ℕ) → Case prefix 8
at_8 l prefix first second answer old new s (outcome, step, says, room) =
    let t = stands prefix first second 8 old s in
    unchanged prefix first second (until prefix first second 8)
    (Attributes first (attributes_of (object_of First prefix first PreActive))) outcome answer old new refl
    (read l t step) says room t

at_9 : ObjectLaws → (prefix : List ℕ) → Case prefix 9
at_9 l prefix first second answer old new s (outcome, step, says, room) =
    let t = stands prefix first second 9 old s in
    let (is, now) = taken l steps.Activate Active (second_apart prefix) refl refl t step in
    changed prefix first second (until prefix first second 9) (Activated first) outcome answer old new refl is says
    room now

at_10 : ObjectLaws → (prefix : List ℕ) → Case prefix 10
at_10 l prefix first second answer old new s (outcome, step, says, room) =
    let t = stands prefix first second 10 old s in
    unchanged prefix first second (until prefix first second 10) (Failed (Some REASON_WRONG_STATE)) outcome answer old
    new refl (refused l steps.Activate refl refl t step) says room t

at_11 : ObjectLaws → (prefix : List ℕ) → Case prefix 11
at_11 l prefix first second answer old new s (outcome, step, says, room) =
    let t = stands prefix first second 11 old s in
    let (is, now) = taken l steps.Revoke Deactivated (second_apart prefix) refl refl t step in
    changed prefix first second (until prefix first second 11) (Revoked first) outcome answer old new refl is says
    room now

at_12 : ObjectLaws → (prefix : List ℕ) → Case prefix 12
at_12 l prefix first second answer old new s (outcome, step, says, room) =
    let t = stands prefix first second 12 old s in
    unchanged prefix first second (until prefix first second 12) (Failed (Some REASON_WRONG_STATE)) outcome answer old
    new refl (refused l steps.Revoke refl refl t step) says room t

at_13 : ObjectLaws → (prefix : List ℕ) → Case prefix 13
at_13 l prefix first second answer old new s (outcome, step, says, room) =
    let t = stands prefix first second 13 old s in
    let (fresh, is, now) = comes l (first_apart prefix) (turned t) step in
    changed prefix first fresh (until prefix first fresh 13) (Created fresh) outcome answer old new refl is says room
    (turned now)

at_14 : ObjectLaws → (prefix : List ℕ) → Case prefix 14
at_14 l prefix first second answer old new s (outcome, step, says, room) =
    let t = stands prefix first second 14 old s in
    let (is, now) = taken l steps.Activate Active (first_apart prefix) refl refl (turned t) step in
    changed prefix first second (until prefix first second 14) (Activated second) outcome answer old new refl is says
    room (turned now)

at_15 : ObjectLaws → (prefix : List ℕ) → Case prefix 15
at_15 l prefix first second answer old new s (outcome, step, says, room) =
    let t = stands prefix first second 15 old s in
    unchanged prefix first second (until prefix first second 15) (Failed (Some REASON_WRONG_STATE)) outcome answer old
    new refl (refused l steps.Destroy refl refl (turned t) step) says room t

at_16 : ObjectLaws → (prefix : List ℕ) → Case prefix 16
at_16 l prefix first second answer old new s (outcome, step, says, room) =
    let t = stands prefix first second 16 old s in
    let (is, now) = taken l steps.Destroy Destroyed (second_apart prefix) refl refl t step in
    changed prefix first second (until prefix first second 16) (outcomes.Destroyed first) outcome answer old new refl
    is says room now

at_17 : ObjectLaws → (prefix : List ℕ) → Case prefix 17
at_17 l prefix first second answer old new s (outcome, step, says, room) =
    let t = stands prefix first second 17 old s in
    unchanged prefix first second (until prefix first second 17) (Failed (Some REASON_WRONG_STATE)) outcome answer old
    new refl (refused l steps.Destroy refl refl t step) says room t

at_18 : ObjectLaws → (prefix : List ℕ) → Case prefix 18
at_18 l prefix first second answer old new s (outcome, step, says, room) =
    let t = stands prefix first second 18 old s in
    unchanged prefix first second (until prefix first second 18) (Failed (Some REASON_NON_UNIQUE_NAME)) outcome answer
    old new refl (used t step) says room t

at_19 : ObjectLaws → (prefix : List ℕ) → Case prefix 19
at_19 l prefix first second answer old new s (outcome, step, says, room) =
    let t = stands prefix first second 19 old s in
    unchanged prefix first second (until prefix first second 19) (Located []) outcome answer old new refl
    (found l None t step) says room t

at_20 : ObjectLaws → (prefix : List ℕ) → Case prefix 20
at_20 l prefix first second answer old new s (outcome, step, says, room) =
    let t = stands prefix first second 20 old s in
    unchanged prefix first second (until prefix first second 20) (Located []) outcome answer old new refl
    (found l (Some (pos 1)) t step) says room t

at_21 : ObjectLaws → (prefix : List ℕ) → Case prefix 21
at_21 l prefix first second answer old new s (outcome, step, says, room) =
    let t = stands prefix first second 21 old s in
    unchanged prefix first second (until prefix first second 21) (Located (first ∷ [])) outcome answer old new refl
    (found l (Some (pos 4)) t step) says room t

at_22 : ObjectLaws → (prefix : List ℕ) → Case prefix 22
at_22 l prefix first second answer old new s (outcome, step, says, room) =
    let t = stands prefix first second 22 old s in
    unchanged prefix first second (until prefix first second 22) (Located (first ∷ [])) outcome answer old new refl
    (found l (Some (pos 5)) t step) says room t

at_23 : ObjectLaws → (prefix : List ℕ) → Case prefix 23
at_23 l prefix first second answer old new s (outcome, step, says, room) =
    let t = stands prefix first second 23 old s in
    let (is, now) = taken l steps.Revoke Deactivated (first_apart prefix) refl refl (turned t) step in
    changed prefix first second (until prefix first second 23) (Revoked second) outcome answer old new refl is says
    room (turned now)

at_24 : ObjectLaws → (prefix : List ℕ) → Case prefix 24
at_24 l prefix first second answer old new s (outcome, step, says, room) =
    let t = stands prefix first second 24 old s in
    let (is, now) = taken l steps.Destroy Destroyed (first_apart prefix) refl refl (turned t) step in
    changed prefix first second (until prefix first second 24) (outcomes.Destroyed second) outcome answer old new refl
    is says room (turned now)

-- ---- whichever comes next

-- what holds of five numbers, and of those behind them
fives : (P : ℕ → Type 0) (bound : ℕ) → P 0 → P 1 → P 2 → P 3 → P 4
    → ((n : ℕ) → n < bound → P (suc (suc (suc (suc (suc n)))))) → (n : ℕ) → n < bound + 5 → P n
fives P bound a b c d e behind zero less = a
fives P bound a b c d e behind (suc zero) less = b
fives P bound a b c d e behind (suc (suc zero)) less = c
fives P bound a b c d e behind (suc (suc (suc zero))) less = d
fives P bound a b c d e behind (suc (suc (suc (suc zero)))) less = e
fives P bound a b c d e behind (suc (suc (suc (suc (suc n))))) less = behind n (omega (arith, less))

case_at : ObjectLaws → (prefix : List ℕ) (count : ℕ) → count < 25 → Case prefix count
case_at l prefix =
    fives (Case prefix) 20 (at_0 l prefix) (at_1 l prefix) (at_2 l prefix) (at_3 l prefix) (at_4 l prefix)
    (fives _ 15 (at_5 l prefix) (at_6 l prefix) (at_7 l prefix) (at_8 l prefix) (at_9 l prefix)
    (fives _ 10 (at_10 l prefix) (at_11 l prefix) (at_12 l prefix) (at_13 l prefix) (at_14 l prefix)
    (fives _ 5 (at_15 l prefix) (at_16 l prefix) (at_17 l prefix) (at_18 l prefix) (at_19 l prefix)
    (fives _ 0 (at_20 l prefix) (at_21 l prefix) (at_22 l prefix) (at_23 l prefix) (at_24 l prefix)
    (λ n none. absurd (omega (arith, none)))))))

-- a question follows
follows : (prefix first second : List ℕ) (count : ℕ) → count < 25
    → is_some (next_inquiry (until prefix first second count)) ≡ true
follows prefix first second =
    fives (λ count. is_some (next_inquiry (until prefix first second count)) ≡ true) 20 refl refl refl refl refl
    (fives _ 15 refl refl refl refl refl
    (fives _ 10 refl refl refl refl refl
    (fives _ 5 refl refl refl refl refl
    (fives _ 0 refl refl refl refl refl
    (λ n none. absurd (omega (arith, none)))))))

-- ---- all of them

pub nothing_served : (prefix : List ℕ) (p : Past) → IsUnprobed prefix p → AreServed prefix [] p
nothing_served prefix p free =
    let enough = free.roomy in
    record {
      first = [];
      second = [];
      answers_are = refl;
      standing = record {
        names_differ = free.names_differ;
        uids_differ = free.uids_differ;
        first_is = free.first_is_free;
        second_is = free.second_is_free;
        roomy = omega (arith, enough);
      };
    }

pub one_served : ObjectLaws → (prefix : List ℕ) (answers : List Answer) (answer : Answer) (old new : Past)
    → length answers < 25 → AreServed prefix answers old
    → HasServedNext prefix answers answer old new → AreServed prefix (answers ++ answer ∷ []) new
one_served l prefix answers answer old new few s next =
    subst (λ xs. AreServed prefix (xs ++ answer ∷ []) new) (sym s.answers_are)
    (case_at l prefix (length answers) few s.first s.second answer old new s.standing
    (subst (λ xs. HasServedNext prefix xs answer old new) s.answers_are next))

pub goes_on : (prefix : List ℕ) (answers : List Answer) (p : Past) → length answers < 25 → AreServed prefix answers p
    → next_inquiry answers ≢ None
goes_on prefix answers p few s none =
    let some = follows prefix s.first s.second (length answers) few in
    let t : false ≡ true = sym (ap is_some (sym (ap next_inquiry s.answers_are) ∙ none)) ∙ some in absurd cc

pub all_served : (prefix : List ℕ) (answers : List Answer) (p : Past) → length answers ≡ 25 → AreServed prefix answers p
    → (first second : List ℕ) × (answers ≡ map Told (outcomes_of prefix first second))
all_served prefix answers p all s = (s.first, s.second, s.answers_are ∙ ap (until prefix s.first s.second) all)

pub none_served : (prefix : List ℕ) (answers : List Answer) (p : Past) → answers ≡ [] → IsUnprobed prefix p
    → AreServed prefix answers p
none_served prefix answers p none free = subst (λ xs. AreServed prefix xs p) (sym none) (nothing_served prefix p free)

-- where no question follows, or there are so many, all are answered
pub all_answered : (prefix : List ℕ) (answers : List Answer) (p : Past) → length answers ≤ 25
    → (next_inquiry answers ≡ None) ⊎ (length answers ≡ 25)
    → AreServed prefix answers p → (first second : List ℕ) × (answers ≡ map Told (outcomes_of prefix first second))
all_answered prefix answers p few (inr all) served = all_served prefix answers p all served
all_answered prefix answers p few (inl none) served =
    all_served prefix answers p (up_to (length answers) 25 few (omega arith)
    (λ less. goes_on prefix answers p less served none)) served
