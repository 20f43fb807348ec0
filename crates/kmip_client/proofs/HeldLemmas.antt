-- What is known stays true, as long as what comes back is.
use Rattle.std.proofs.Common.{◌≡◌, ◌≢◌, ℕ, ◌+◌, ◌≤◌, ◌<◌, Bool, true, false, ◌&&◌, nat_lt, ℤ, List, [], ◌∷◌, map, Option, Some, None, Result, Ok, Err, IfOk, OnErr, subst, refl, sym, ap, ◌∙◌, inl, inr, arith}
use Rattle.std.proofs.lemmas.Bool.{cases_Bool, ltb-false, eq-eqb}
use Rattle.std.proofs.lemmas.Bool.Decides.{Decides-int_eq}
use Rattle.std.specs.Option.{is_some, option_map_or, unwrap_or}
use Rattle.std.specs.Ordering.{int_eq}
use Rattle.kmip_objects.specs.Objects.{Object}
use Rattle.kmip_batch_items.specs.declared.outcome.Outcome.{Outcome}
use Rattle.kmip_batch_items.specs.declared.outcome.Outcome.TheVariants.{Created, Located, Attributes, Activated, Revoked, Destroyed, Failed}
use Rattle.kmip_batch_items.specs.declared.reply.Reply.{Reply}
use Rattle.kmip_objects.specs.declared.attrs.Attrs.{Attrs}
use Rattle.kmip_objects.specs.declared.standard.TheConstants.{OBJECT_TYPE_SYMMETRIC_KEY}
use Rattle.kmip_objects.specs.declared.step.Step.{Step}
use Rattle.kmip_objects.specs.declared.step.Step.TheVariants as steps
use Rattle.kmip_plan.specs.Chains.{step_place}
use Rattle.kmip_plan.specs.ChainLaws.{PlacesAreWithin, NextStepsStand}
use Rattle.kmip_plan.specs.Plans.{IsPlanned}
use Rattle.kmip_plan.specs.declared.key.Key.{Key}
use Rattle.kmip_client.specs.declared.hear_fault.HearFault.{HearFault}
use Rattle.kmip_client.specs.declared.hear_fault.HearFault.TheVariants as faults
use Rattle.kmip_client.specs.declared.heard.Heard.{Heard}
use Rattle.kmip_client.specs.declared.knowledge.Knowledge.{Knowledge}
use Rattle.kmip_client.specs.declared.phase.Phase.{Phase}
use Rattle.kmip_client.specs.declared.phase.Phase.TheVariants as phases
use Rattle.kmip_client.specs.declared.subject.Subject.{Subject}
use Rattle.kmip_client.specs.Clients.{lost_working, changed_at}
use Rattle.kmip_client.specs.Hearing.{subject_of, heard_about}
use Rattle.kmip_client.specs.Held.{IsHeld, Held}
use Rattle.kmip_client.specs.Justified.{MayAsk, Justified}
use Rattle.kmip_client.specs.Knowledge.{chain_length, fresh_knowledge, is_working, lose}
use Rattle.kmip_client.specs.Learning.{is_known, is_other, is_number, is_planned, is_named, raise, enter, state_learnt, attributes_learnt, created_learnt, none_learnt, one_learnt, located_learnt, step_learnt, learn}
use Rattle.kmip_client.specs.Places.{uid_of, position}
use Rattle.kmip_client.specs.Questions.{step_ask, phase_ask, request_about}
use Rattle.kmip_client.specs.Shapes.{PhaseSuits}
use Rattle.kmip_client.specs.Truth.{IsShown, StepIsDone, AreFound, TrueOutcome, TrueReply}
use Rattle.kmip_client.proofs.ClientLemmas.{fresh_holds, lost_keeps}
use Rattle.kmip_client.proofs.HeardLemmas.{heard_keeps, heard_view, working_parts}
use Rattle.kmip_client.proofs.LearningLemmas.{some_is, lost_suits, own_is, known_is, not_none, none_of, ok, same_ok, refused}

-- ---- nothing known, and an answer lost

nothing_held : (objects : List Object) (key : Key) → IsHeld objects key fresh_knowledge
nothing_held objects key = record {
  holds = record { uid_true = λ uid is. absurd (not_none None uid is refl); done_true = omega arith; has_identifier = λ some. absurd (omega arith) };
  no_clash = refl;
  suits = refl;
}

pub fresh_held : (objects : List Object) (keys : List Key) → Held objects keys (map (λ key. fresh_knowledge) keys)
fresh_held objects keys = fresh_holds (IsHeld objects) (nothing_held objects) keys

lost_is_held : (objects : List Object) (key : Key) (known : Knowledge) → IsHeld objects key known → IsHeld objects key (lose known)
lost_is_held objects key known held = record {
  holds = record { uid_true = held.holds.uid_true; done_true = held.holds.done_true; has_identifier = held.holds.has_identifier };
  no_clash = held.no_clash;
  suits = lost_suits known.identifier known.done;
}

pub lost_held : (objects : List Object) (keys : List Key) (knowns : List Knowledge) (place : ℕ) → Held objects keys knowns
    → Held objects keys (changed_at lost_working keys knowns place)
lost_held objects keys knowns place held = lost_keeps (IsHeld objects) (lost_is_held objects) keys knowns place held

-- ---- each outcome

held_by : (objects : List Object) (key : Key) (x new : Knowledge) → ok x ≡ Ok new → IsHeld objects key x → IsHeld objects key new
held_by objects key x new is held = subst (λ n. IsHeld objects key n) (same_ok x new is) held

gone_held : (objects : List Object) (key : Key) (place : ℕ) (known : Knowledge) → IsHeld objects key known → known.identifier ≢ None → 1 ≤ place
    → place ≤ position key objects → IsHeld objects key (record known { done = place; phase = phases.Go })
gone_held objects key place known held has from had = record {
  holds = record { uid_true = held.holds.uid_true; done_true = had; has_identifier = λ some. has };
  no_clash = held.no_clash;
  suits = (has, from);
}

-- the identifier is the object's
named_true : (objects : List Object) (key : Key) (uid own : List ℕ) → uid_of key objects ≡ Some uid → Some uid ≡ Some own → uid_of key objects ≡ Some own
named_true objects key uid own is same = is ∙ same

created_held : (objects : List Object) (key : Key) (uid : List ℕ) (known new : Knowledge) → IsHeld objects key known → StepIsDone objects key steps.Create uid
    → created_learnt uid known ≡ Ok new → IsHeld objects key new
created_held objects key uid known new held done is =
    elim (cases_Bool (is_other known.identifier uid)) [
      | inl other ↦ refused faults.OtherIdentifier new (rw other at is)
      | inr same ↦ elim (cases_Bool (nat_lt known.done 1)) [
        | inl first ↦ held_by objects key (record known { identifier = Some uid; done = 1; phase = phases.Go }) new (rw (same, first) at is) (record {
          holds = record { uid_true = λ own e. named_true objects key uid own done.uid_is e; done_true = done.done; has_identifier = λ some. some_is uid };
          no_clash = held.no_clash;
          suits = (some_is uid, omega arith);
        })
        | inr later ↦
            let some : known.identifier ≢ None = held.holds.has_identifier (ltb-false known.done 1 later) in
            held_by objects key (record known { identifier = Some uid }) new (rw (same, later) at is) (record {
              holds = record { uid_true = λ own e. named_true objects key uid own done.uid_is e; done_true = held.holds.done_true; has_identifier = λ from. some_is uid };
              no_clash = held.no_clash;
              suits = subst (λ o. PhaseSuits known.phase o known.done) (own_is known.identifier uid some same) held.suits;
            })
      ]
    ]

none_held : (objects : List Object) (key : Key) (known : Knowledge) → IsHeld objects key known → IsHeld objects key (none_learnt known)
none_held objects key known held =
    elim (cases_Bool (is_some known.identifier)) [
      | inl some ↦ rw some held
      | inr nothing ↦ rw nothing (record { holds = record { uid_true = held.holds.uid_true; done_true = held.holds.done_true; has_identifier = held.holds.has_identifier }; no_clash = held.no_clash; suits = none_of known.identifier nothing })
    ]

one_held : (objects : List Object) (key : Key) (uid : List ℕ) (known : Knowledge) → uid_of key objects ≡ Some uid → IsHeld objects key known
    → IsHeld objects key (one_learnt uid known)
one_held objects key uid known own held =
    elim (cases_Bool (is_some known.identifier)) [
      | inl some ↦ rw some held
      | inr nothing ↦ rw nothing (record { holds = record { uid_true = λ u e. named_true objects key uid u own e; done_true = held.holds.done_true; has_identifier = λ from. some_is uid }; no_clash = held.no_clash; suits = some_is uid })
    ]

located_held : (objects : List Object) (key : Key) (uids : List (List ℕ)) (known new : Knowledge) → IsHeld objects key known → AreFound (uid_of key objects) uids
    → located_learnt uids known ≡ Ok new → IsHeld objects key new
located_held objects key [] known new held found is = held_by objects key (none_learnt known) new is (none_held objects key known held)
located_held objects key (uid ∷ []) known new held found is =
    elim (cases_Bool (is_other known.identifier uid)) [
      | inl other ↦ refused faults.OtherIdentifier new (rw other at is)
      | inr same ↦ held_by objects key (one_learnt uid known) new (rw same at is) (one_held objects key uid known found held)
    ]
located_held objects key (uid ∷ other ∷ uids) known new held found is = absurd found

step_held : (objects : List Object) (key : Key) (step : Step) (uid : List ℕ) (known new : Knowledge) → IsHeld objects key known → StepIsDone objects key step uid
    → step_learnt key step uid known ≡ Ok new → IsHeld objects key new
step_held objects key step uid known new held done is =
    elim (cases_Bool (is_known known.identifier uid)) [
      | inr other ↦ refused faults.OtherIdentifier new (rw other at is)
      | inl own ↦ held_by objects key (raise (step_place key.target step) known) new (rw own at is)
          (elim (cases_Bool (nat_lt known.done (step_place key.target step))) [
            | inl more ↦ rw more (gone_held objects key (step_place key.target step) known held (not_none known.identifier uid (known_is known.identifier uid own)) done.in_chain done.done)
            | inr less ↦ rw less held
          ])
    ]

-- ---- what Get Attributes told

is_that : (own : ℕ) (told : Option ℕ) → told ≡ Some own → is_number own told ≡ true
is_that own told is = ap (is_number own) is ∙ eq-eqb own own refl

is_that_int : (own : ℤ) (told : Option ℤ) → told ≡ Some own → option_map_or (λ n. int_eq n own) told false ≡ true
is_that_int own told is = ap (λ t. option_map_or (λ n. int_eq n own) t false) is ∙ (Decides-int_eq own own).1 refl

both : (a b : Bool) → a ≡ true → b ≡ true → (a && b) ≡ true
both a b p q = rw (p, q) refl

shown_is_planned : (objects : List Object) (key : Key) (told : Attrs) → IsShown objects key told → is_planned key told ≡ true
shown_is_planned objects key told shown =
    let one = is_that OBJECT_TYPE_SYMMETRIC_KEY told.object_type shown.object_type_is in
    let two = is_that key.attrs.algorithm told.algorithm shown.algorithm_is in
    let three = is_that_int key.attrs.length told.length shown.length_is in
    let four = is_that_int key.attrs.usage told.usage shown.usage_is in
    rw (one, two, three, four) refl

entered_held : (objects : List Object) (key : Key) (place : ℕ) (known : Knowledge) → IsHeld objects key known → known.identifier ≢ None → 1 ≤ place
    → place ≤ position key objects → IsHeld objects key (enter place known)
entered_held objects key place known held has from had =
    elim (cases_Bool (nat_lt place known.done)) [
      | inl less ↦ rw less held
      | inr more ↦ rw more (gone_held objects key place known held has from had)
    ]

state_held : (objects : List Object) (key : Key) (told : Attrs) (known : Knowledge) → PlacesAreWithin → IsHeld objects key known → known.identifier ≢ None
    → IsShown objects key told → IsHeld objects key (state_learnt key told.state known)
state_held objects key told known within held has shown =
    rw (shown.state_is, shown.place_is)
    (entered_held objects key shown.place known held has (within key.target shown.state shown.place shown.place_is).0 shown.had)

attributes_held : (objects : List Object) (key : Key) (told : Attrs) (known new : Knowledge) → PlacesAreWithin → IsHeld objects key known → known.identifier ≢ None
    → IsShown objects key told → attributes_learnt key told known ≡ Ok new → IsHeld objects key new
attributes_held objects key told known new within held has shown is =
    elim (cases_Bool (is_named key told)) [
      | inr other ↦ refused faults.OtherName new (rw other at is)
      | inl own ↦ held_by objects key (state_learnt key told.state known) new (rw (own, shown_is_planned objects key told shown) at is)
          (state_held objects key told known within held has shown)
    ]

told_held : (objects : List Object) (key : Key) (uid : List ℕ) (told : Attrs) (known new : Knowledge) → PlacesAreWithin → IsHeld objects key known
    → IsShown objects key told → learn key (Attributes uid told) known ≡ Ok new → IsHeld objects key new
told_held objects key uid told known new within held shown is =
    elim (cases_Bool (is_known known.identifier uid)) [
      | inr other ↦ refused faults.OtherIdentifier new (rw other at is)
      | inl own ↦ attributes_held objects key told known new within held (not_none known.identifier uid (known_is known.identifier uid own)) shown (rw own at is)
    ]

pub learn_held : (objects : List Object) (key : Key) (outcome : Outcome) (known new : Knowledge) → PlacesAreWithin → IsHeld objects key known
    → TrueOutcome objects key outcome → learn key outcome known ≡ Ok new → IsHeld objects key new
learn_held objects key (Failed reason) known new within held so is = held_by objects key (lose known) new is (lost_is_held objects key known held)
learn_held objects key (Created uid) known new within held so is = created_held objects key uid known new held so is
learn_held objects key (Located uids) known new within held so is = located_held objects key uids known new held so is
learn_held objects key (Attributes uid told) known new within held so is = told_held objects key uid told known new within held so.1 is
learn_held objects key (Activated uid) known new within held so is = step_held objects key steps.Activate uid known new held so is
learn_held objects key (Revoked uid) known new within held so is = step_held objects key steps.Revoke uid known new held so is
learn_held objects key (Destroyed uid) known new within held so is = step_held objects key steps.Destroy uid known new held so is

pub held_after : (objects : List Object) (keys ks : List Key) (reply : Reply) (s : Option Subject) (knowns nexts : List Knowledge) (r : Result Heard HearFault)
    → PlacesAreWithin → ks ≡ keys → s ≡ subject_of ks reply.id → IfOk r (λ heard. heard_about ks reply s knowns ≡ Ok (heard, nexts)) → OnErr r (nexts ≡ knowns)
    → Held objects keys knowns → TrueReply keys objects reply → Held objects keys nexts
held_after objects keys ks reply s knowns nexts (Ok heard) within same about is kept held so =
    heard_keeps (IsHeld objects) keys reply knowns heard nexts
    (λ key known new for works learnt before. learn_held objects key reply.outcome known new within before (so for.0 for.1 key for.2 for.3) learnt)
    held (heard_view keys ks reply s knowns heard nexts same about is)
held_after objects keys ks reply s knowns nexts (Err fault) within same about is kept held so = subst (λ k. Held objects keys k) (sym kept) held

-- ---- what is asked

uid_known : (objects : List Object) (key : Key) (identifier : Option (List ℕ)) → ((uid : List ℕ) → identifier ≡ Some uid → uid_of key objects ≡ Some uid)
    → identifier ≢ None → uid_of key objects ≡ Some (unwrap_or identifier [])
uid_known objects key None so some = absurd (some refl)
uid_known objects key (Some uid) so some = so uid refl

may_step : (objects : List Object) (key : Key) (uid : List ℕ) (done : ℕ) (step : Step) → uid_of key objects ≡ Some uid → 1 ≤ done → done ≤ position key objects
    → step_place key.target step ≡ done + 1 → MayAsk objects key (step_ask key uid step)
may_step objects key uid done steps.Create own from had place = refl
may_step objects key uid done steps.Activate own from had place = record { uid_is = own; in_chain = omega arith; due = omega arith }
may_step objects key uid done steps.Revoke own from had place = (record { uid_is = own; in_chain = omega arith; due = omega arith }, refl)
may_step objects key uid done steps.Destroy own from had place = record { uid_is = own; in_chain = omega arith; due = omega arith }

may_phase : (objects : List Object) (key : Key) (phase : Phase) (identifier : Option (List ℕ)) (done : ℕ) → NextStepsStand
    → ((uid : List ℕ) → identifier ≡ Some uid → uid_of key objects ≡ Some uid) → done ≤ position key objects → PhaseSuits phase identifier done
    → done < chain_length key → MayAsk objects key (phase_ask key phase (unwrap_or identifier []) done)
may_phase objects key phases.Look identifier done law so had suits more = (refl, refl)
may_phase objects key phases.Make identifier done law so had suits more = refl
may_phase objects key phases.Check identifier done law so had suits more = uid_known objects key identifier so suits
may_phase objects key phases.Go identifier done law so had suits more =
    let next = law key.target done more in
    rw next.1 (may_step objects key (unwrap_or identifier []) done next.0 (uid_known objects key identifier so suits.0) suits.1 had next.2)

-- what a client that holds the truth asks about a key that it works on may be asked
pub held_may_ask : (objects : List Object) (key : Key) (known : Knowledge) → NextStepsStand → IsHeld objects key known → is_working key known ≡ true
    → MayAsk objects key (phase_ask key known.phase (unwrap_or known.identifier []) known.done)
held_may_ask objects key known law held works =
    may_phase objects key known.phase known.identifier known.done law held.holds.uid_true held.holds.done_true held.suits (working_parts key known works).0

pub question_justified : (keys : List Key) (objects : List Object) (key : Key) (known : Knowledge) → NextStepsStand → IsPlanned keys key
    → IsHeld objects key known → is_working key known ≡ true → Justified keys objects (request_about key known)
question_justified keys objects key known law planned held works = record {
  key = key;
  is_planned = planned;
  id_is = refl;
  may = held_may_ask objects key known law held works;
}
