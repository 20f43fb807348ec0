-- What a client of an older plan knows of a key stays true of the newest plan's key.
use Rattle.std.proofs.Common.{◌≡◌, ◌≢◌, ◌<◌, ◌∷◌, [], arith, Bool, Err, false, if◌then◌else◌, IfOk, inl, inr, List}
use Rattle.std.proofs.Common.{nat_eq, nat_lt, None, not, Ok, Option, refl, Result, Some, subst, suc, sym, true, zero, ℕ}
use Rattle.std.specs.Cmp.Lexicographic.{pointwise}
use Rattle.std.specs.Option.{is_some}
use Rattle.std.proofs.lemmas.Bool.{and_parts, cases_Bool, le-ltb, lt-ltb, ltb-true}
use Rattle.std.proofs.lemmas.List.Elements.{All-cons, All-nil}
use Rattle.std.proofs.lemmas.Slice.Eq.{bytes_eq-Decides}
use Rattle.kmip_batch_items.specs.declared.outcome.Outcome.{Outcome}
use Rattle.kmip_batch_items.specs.declared.outcome.Outcome.TheVariants.{Activated, Attributes, Created, Destroyed}
use Rattle.kmip_batch_items.specs.declared.outcome.Outcome.TheVariants.{Failed, Located, Revoked}
use Rattle.kmip_batch_items.specs.declared.reply.Reply.{Reply}
use Rattle.kmip_batch_items.specs.declared.standard.TheConstants.{OPERATION_LOCATE}
use Rattle.kmip_client.specs.Clients.{lost_working}
use Rattle.kmip_client.specs.Hearing.{has_failed, known_after_each, teach, with_news}
use Rattle.kmip_client.specs.Held.{Held, IsHeld, TrueOf}
use Rattle.kmip_client.specs.Knowledge.{chain_length, fresh_knowledge, is_working, lost_phase}
use Rattle.kmip_client.specs.Learning.{is_known, is_named, is_planned, learn, place_learnt, raise, step_learnt}
use Rattle.kmip_client.specs.Learning.{with_clash}
use Rattle.kmip_client.specs.Places.{GoesOnward}
use Rattle.kmip_client.specs.Saving.{knowledge_from, known_of}
use Rattle.kmip_client.specs.Shapes.{PhaseSuits}
use Rattle.kmip_client.specs.Truth.{TrueOutcome, TrueReply}
use Rattle.kmip_client.specs.declared.clash.Clash.{Clash}
use Rattle.kmip_client.specs.declared.clash.Clash.TheVariants as clashes
use Rattle.kmip_client.specs.declared.hear_fault.HearFault.{HearFault}
use Rattle.kmip_client.specs.declared.hear_fault.HearFault.TheVariants as faults
use Rattle.kmip_client.specs.declared.knowledge.Knowledge.{Knowledge}
use Rattle.kmip_objects.specs.Objects.{Object}
use Rattle.kmip_objects.specs.declared.attrs.Attrs.{Attrs}
use Rattle.kmip_objects.specs.declared.step.Step.{Step}
use Rattle.kmip_objects.specs.declared.step.Step.TheVariants as steps
use Rattle.kmip_plan.specs.Chains.{place_of, step_place}
use Rattle.kmip_plan.specs.Prolonging.{GoesOn}
use Rattle.kmip_plan.specs.TargetWords.{is_text}
use Rattle.kmip_plan.specs.declared.key.Key.{Key}
use Rattle.kmip_progress.specs.Suiting.{nothing_known}
use Rattle.kmip_progress.specs.declared.known.Known.{Known}
use Rattle.kmip_company.specs.Mixed.{IsKnownAmong}
use Rattle.kmip_company.specs.PrivateLawbook.{Lawbook}
use Rattle.kmip_company.proofs.MixedListLemmas.{same_some}
use Rattle.kmip_company.proofs.TruthLemmas.{suits_again}

-- ---- as objects go onward

pub true_on : (key : Key) (known : Known) (old new : List Object) → GoesOnward key old new → TrueOf old key known
    → TrueOf new key known
true_on key known old new on was = record {
  uid_true = λ uid is. on.uid_stays uid (was.uid_true uid is);
  done_true = omega (arith, was.done_true, on.never_falls);
  has_identifier = was.has_identifier;
}

pub known_on : (key : Key) (known : Knowledge) (old new : List Object) → GoesOnward key old new
    → IsKnownAmong old key known → IsKnownAmong new key known
known_on key known old new on was =
    record { holds = true_on key (known_of known) old new on was.holds; suits = was.suits; of_state = was.of_state }

-- ---- at the beginning

no_clash : (clash : Clash) → None ≡ Some clash → clash ≡ clashes.State
no_clash clash is = absurd cc

pub nothing_true : (objects : List Object) (key : Key) → TrueOf objects key nothing_known
nothing_true objects key =
    record {
      uid_true = λ uid is. absurd cc;
      done_true = omega arith;
      has_identifier = λ some.
          absurd (omega (arith, some));
    }

pub nothing_among : (objects : List Object) (key : Key) → IsKnownAmong objects key fresh_knowledge
nothing_among objects key = record { holds = nothing_true objects key; suits = refl; of_state = no_clash }

pub saved_among : (objects : List Object) (key : Key) (known : Known) → TrueOf objects key known
    → IsKnownAmong objects key (knowledge_from known)
saved_among objects key known holds =
    record { holds = holds; suits = suits_again known.identifier known.done; of_state = no_clash }

-- ---- what is learnt

-- what is known of a key of an older plan, after it was heard or not
abbrev pub IsLearnt : List Object → Key → Key → Knowledge → Type 0
IsLearnt objects own newest known =
    IsKnownAmong objects newest known × (newest.target ≡ own.target → known.clash ≡ None)

clash_none : (clash : Option Clash) → not (is_some clash) ≡ true → clash ≡ None
clash_none None h = refl
clash_none (Some clash) h = absurd cc

pub working_parts : (key : Key) (known : Knowledge) → is_working key known ≡ true → (known.done < chain_length key)
    × (known.clash ≡ None)
working_parts key known works =
    let parts = and_parts (nat_lt known.done (chain_length key)) (not (is_some known.clash)) works in
    (ltb-true known.done (chain_length key) parts.0, clash_none known.clash parts.1)

-- a key that the own plan works on, the newest does
pub works_newest : Lawbook → (own newest : Key) (known : Knowledge) → GoesOn newest own → is_working own known ≡ true
    → is_working newest known ≡ true
works_newest l own newest known goes works =
    let parts = working_parts own known works in
    let longer = l.plan.ways_no_shorter own.target newest.target goes.leads_on in
    rw (lt-ltb known.done (chain_length newest) (omega (arith, parts.0, longer)), parts.1) refl

clash_of : (clash : Option Clash) (c : Clash) → clash ≡ None → clash ≡ Some c → c ≡ clashes.State
clash_of clash c none is = absurd cc

held_learnt : (objects : List Object) (own newest : Key) (known : Knowledge) → IsHeld objects newest known
    → IsLearnt objects own newest known
held_learnt objects own newest known held = (
  record {
    holds = held.holds;
    suits = held.suits;
    of_state = λ clash is.
        clash_of known.clash clash held.no_clash is;
  },
  λ same. held.no_clash,
)

pub among_held : (objects : List Object) (newest : Key) (known : Knowledge) → IsKnownAmong objects newest known
    → known.clash ≡ None → IsHeld objects newest known
among_held objects newest known among none = record { holds = among.holds; no_clash = none; suits = among.suits }

-- a key alone, of which a reply with its name tells
abbrev told_of : Key → Outcome → Reply
told_of key outcome = record { operation = None; id = Some (OPERATION_LOCATE ∷ key.attrs.name); outcome = outcome }

same_name : (name : List ℕ) → pointwise nat_eq name name ≡ true
same_name name = (bytes_eq-Decides name name).1 refl

heard_alone : (key : Key) (outcome : Outcome) (known new : Knowledge) → is_working key known ≡ true
    → learn key outcome known ≡ Ok new
    → known_after_each (key ∷ []) (told_of key outcome ∷ []) (known ∷ []) ≡ new ∷ []
heard_alone key outcome known new works is = rw (same_name key.attrs.name, works, is) refl

true_alone : (objects : List Object) (key : Key) (outcome : Outcome) → TrueOutcome objects key outcome
    → TrueReply (key ∷ []) objects (told_of key outcome)
true_alone objects key outcome told =
    λ operation name k id named. by_test k (is_text name key.attrs.name) refl named where
      by_test : (k : Key) (b : Bool) → b ≡ b → if b then Some key else None ≡ Some k → TrueOutcome objects k outcome
      by_test k true same named = subst (λ x. TrueOutcome objects x outcome) (same_some key k named) told
      by_test k false same named = absurd cc

-- what a key that is held learns from what is true of it keeps it held
learn_held : Lawbook → (objects : List Object) (key : Key) (outcome : Outcome) (known new : Knowledge)
    → IsHeld objects key known → is_working key known ≡ true
    → TrueOutcome objects key outcome → learn key outcome known ≡ Ok new → IsHeld objects key new
learn_held l objects key outcome known new held works told is =
    let all = All-cons (TrueReply (key ∷ []) objects) (told_of key outcome) [] (true_alone objects key outcome told)
    (All-nil (TrueReply (key ∷ []) objects)) in
    let heard = l.client.heard objects (key ∷ []) (told_of key outcome ∷ []) (known ∷ []) (held, tt) all in
    (subst (λ knowns. Held objects (key ∷ []) knowns) (heard_alone key outcome known new works is) heard).0

abbrev ok : Knowledge → Result Knowledge HearFault
ok x = Ok x

same_ok : (x y : Knowledge) → ok x ≡ ok y → x ≡ y
same_ok x y is = cc

refused : {X : Type 0} (fault : HearFault) (new : Knowledge) → Err fault ≡ Ok new → X
refused fault new is = absurd cc

-- what a step at a place teaches
abbrev step_at_place : ℕ → List ℕ → Knowledge → Result Knowledge HearFault
step_at_place place uid known =
    if is_known known.identifier uid then Ok (raise place known) else Err faults.OtherIdentifier

no_less : (n : ℕ) → nat_lt n 0 ≡ false
no_less n = le-ltb n 0 (omega arith)

step_learns : Lawbook → (objects : List Object) (own newest : Key) (step : Step) (uid : List ℕ)
    (known new : Knowledge) → GoesOn newest own → IsHeld objects newest known
    → (step_learnt newest step uid known ≡ Ok new → IsHeld objects newest new)
    → step_learnt own step uid known ≡ Ok new → IsLearnt objects own newest new
step_learns l objects own newest step uid known new goes held newer is =
    by_place (step_place own.target step) refl where
      by_place : (place : ℕ) → step_place own.target step ≡ place → IsLearnt objects own newest new
      by_place zero none =
          elim (cases_Bool (is_known known.identifier uid)) [
            | inr other ↦ refused faults.OtherIdentifier new (rw other at is)
            | inl same ↦
                let stays : ok known ≡ ok new = rw (same, none, no_less known.done) at is in
                subst (λ k. IsLearnt objects own newest k) (same_ok known new stays)
                (held_learnt objects own newest known held)
          ]
      by_place (suc place) some =
          let same = l.plan.step_places own.target newest.target step goes.leads_on (omega (arith, some)) in
          held_learnt objects own newest new (newer (subst (λ n. step_at_place n uid known ≡ Ok new) (sym same) is))

-- what attributes teach, where the way goes through the state or not
clash_learnt : (objects : List Object) (own newest : Key) (known new : Knowledge) → IsHeld objects newest known
    → (newest.target ≢ own.target)
    → ok (with_clash clashes.State known) ≡ ok new → IsLearnt objects own newest new
clash_learnt objects own newest known new held differs is =
    subst (λ k. IsLearnt objects own newest k) (same_ok (with_clash clashes.State known) new is) (
      record {
        holds = record {
          uid_true = held.holds.uid_true;
          done_true = held.holds.done_true;
          has_identifier = held.holds.has_identifier;
        };
        suits = held.suits;
        of_state = λ clash e.
            sym (same_some clashes.State clash e);
      },
      λ same. absurd (differs same),
    )

some_or_none : {X : Type 0} (place : Option ℕ) (p : ℕ) → place ≡ None → place ≡ Some p → X
some_or_none place p none some = absurd cc

attributes_learn : Lawbook → (objects : List Object) (own newest : Key) (uid : List ℕ) (shown : Attrs)
    (known new : Knowledge) → GoesOn newest own → IsHeld objects newest known
    → is_working newest known ≡ true → TrueOutcome objects newest (Attributes uid shown)
    → learn own (Attributes uid shown) known ≡ Ok new → IsLearnt objects own newest new
attributes_learn l objects own newest uid shown known new goes held works told is =
    elim (cases_Bool (is_known known.identifier uid)) [
      | inr other ↦ refused faults.OtherIdentifier new (rw other at is)
      | inl same ↦ elim (cases_Bool (is_named newest shown)) [
        | inr other ↦ refused faults.OtherName new (rw (same, other) at alike)
        | inl named ↦ elim (cases_Bool (is_planned newest shown)) [
          | inr differs ↦
              let clash : learn newest (Attributes uid shown) known ≡ Ok (with_clash clashes.Attributes known) = rw
              (same, named, differs) refl in
              absurd (some_clash clashes.Attributes (newer (with_clash clashes.Attributes known) clash).no_clash)
          | inl planned ↦ by_place (place_of own.target told.1.state) refl same named planned
              (rw (same, named, planned, told.1.state_is) at alike)
        ]
      ]
    ]
  where
    some_clash : (clash : Clash) → Some clash ≢ None
    some_clash clash e = absurd cc

    newer : (k : Knowledge) → learn newest (Attributes uid shown) known ≡ Ok k → IsHeld objects newest k
    newer k e = learn_held l objects newest (Attributes uid shown) known k held works told e

    -- with the attributes of the newest plan, which are the same
    alike : learn (record own { attrs = newest.attrs }) (Attributes uid shown) known ≡ Ok new
    alike = subst (λ a. learn (record own { attrs = a }) (Attributes uid shown) known ≡ Ok new) (sym goes.attrs_same) is

    by_place : (place : Option ℕ) → place_of own.target told.1.state ≡ place → is_known known.identifier uid ≡ true
        → is_named newest shown ≡ true
        → is_planned newest shown ≡ true → ok (place_learnt (place_of own.target told.1.state) known) ≡ ok new
        → IsLearnt objects own newest new
    by_place None none same named planned was =
        clash_learnt objects own newest known new held
        (λ alike. some_or_none (place_of own.target told.1.state) told.1.place none
        (subst (λ t. place_of t told.1.state ≡ Some told.1.place) alike told.1.place_is))
        (rw none at was)
    by_place (Some place) at same named planned was =
        let there = l.plan.state_places own.target newest.target told.1.state place goes.leads_on at in
        held_learnt objects own newest new (newer new
        (rw (same, named, planned, told.1.state_is, there) (rw at at was)))

learns : Lawbook → (objects : List Object) (own newest : Key) (outcome : Outcome) (known new : Knowledge)
    → GoesOn newest own → IsHeld objects newest known
    → is_working newest known ≡ true → TrueOutcome objects newest outcome → learn own outcome known ≡ Ok new
    → IsLearnt objects own newest new
learns l objects own newest (Failed reason) known new goes held works told is =
    held_learnt objects own newest new (learn_held l objects newest (Failed reason) known new held works told is)
learns l objects own newest (Created uid) known new goes held works told is =
    held_learnt objects own newest new (learn_held l objects newest (Created uid) known new held works told is)
learns l objects own newest (Located uids) known new goes held works told is =
    held_learnt objects own newest new (learn_held l objects newest (Located uids) known new held works told is)
learns l objects own newest (Attributes uid shown) known new goes held works told is =
    attributes_learn l objects own newest uid shown known new goes held works told is
learns l objects own newest (Activated uid) known new goes held works told is =
    step_learns l objects own newest steps.Activate uid known new goes held
    (learn_held l objects newest (Activated uid) known new held works told) is
learns l objects own newest (Revoked uid) known new goes held works told is =
    step_learns l objects own newest steps.Revoke uid known new goes held
    (learn_held l objects newest (Revoked uid) known new held works told) is
learns l objects own newest (Destroyed uid) known new goes held works told is =
    step_learns l objects own newest steps.Destroy uid known new goes held
    (learn_held l objects newest (Destroyed uid) known new held works told) is

-- what is taught to a key keeps what is known of it
pub teaches : Lawbook → (objects : List Object) (own newest : Key) (outcome : Outcome) (known : Knowledge)
    → GoesOn newest own → IsLearnt objects own newest known
    → TrueOutcome objects newest outcome → IfOk (teach own outcome known)
    (λ lesson. IsLearnt objects own newest lesson.1)
teaches l objects own newest outcome known goes was told =
    elim (cases_Bool (is_working own known)) [
      | inr idle ↦ rw idle was
      | inl works ↦ rw works (by_lesson works (learn own outcome known) refl)
    ]
  where
    by_lesson : is_working own known ≡ true → (r : Result Knowledge HearFault) → learn own outcome known ≡ r
        → IfOk (with_news (has_failed outcome) known r) (λ lesson. IsLearnt objects own newest lesson.1)
    by_lesson works (Ok new) is =
        learns l objects own newest outcome known new goes
        (among_held objects newest known was.0 (working_parts own known works).1)
        (works_newest l own newest known goes works) told is
    by_lesson works (Err fault) is = tt

-- so does the loss of an answer
pub loses_among : (objects : List Object) (own newest : Key) (known : Knowledge) → IsLearnt objects own newest known
    → IsLearnt objects own newest (lost_working own known)
loses_among objects own newest known was =
    elim (cases_Bool (is_working own known)) [
      | inr idle ↦ rw idle was
      | inl works ↦ rw works (
        record {
          holds = record {
            uid_true = was.0.holds.uid_true;
            done_true = was.0.holds.done_true;
            has_identifier = was.0.holds.has_identifier;
          };
          suits = suits_again known.identifier known.done;
          of_state = was.0.of_state;
        },
        was.1,
      )
    ]
