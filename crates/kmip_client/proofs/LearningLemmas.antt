-- What is learnt keeps the shape of what is known, and takes nothing back.
use Rattle.std.proofs.Common.{◌≡◌, ◌≢◌, ℕ, ◌≤◌, ◌<◌, Bool, true, false, not, nat_eq, nat_lt, List, [], ◌∷◌, length, Option, Some, None, Result, Ok, Err, IfSome, IsTrue, subst, refl, sym, ap, ◌∙◌, inl, inr, arith}
use Rattle.std.proofs.lemmas.Bool.{and_parts, cases_Bool, ltb-true, ltb-false}
use Rattle.std.proofs.lemmas.Slice.Eq.{bytes_eq-Decides}
use Rattle.std.specs.Cmp.Lexicographic.{pointwise}
use Rattle.std.specs.Option.{is_some}
use Rattle.std.specs.List.{list_all}
use Rattle.kmip_batch_items.specs.Fits.{is_own, outcome_fits}
use Rattle.kmip_objects.specs.Ranges.{is_identifier}
use Rattle.kmip_objects.specs.declared.attrs.Attrs.{Attrs}
use Rattle.kmip_batch_items.specs.declared.outcome.Outcome.{Outcome}
use Rattle.kmip_batch_items.specs.declared.outcome.Outcome.TheVariants.{Created, Located, Attributes, Activated, Revoked, Destroyed, Failed}
use Rattle.kmip_objects.specs.declared.step.Step.{Step}
use Rattle.kmip_objects.specs.declared.step.Step.TheVariants as steps
use Rattle.kmip_plan.specs.Chains.{chain, place_of, step_place}
use Rattle.kmip_plan.specs.ChainLaws.{StepsAreWithin, PlacesAreWithin}
use Rattle.kmip_batch_items.specs.declared.standard.TheConstants.{OPERATION_CREATE, OPERATION_LOCATE}
use Rattle.kmip_plan.specs.declared.key.Key.{Key}
use Rattle.kmip_plan.specs.declared.target.Target.{Target}
use Rattle.kmip_client.specs.declared.clash.Clash.{Clash}
use Rattle.kmip_client.specs.declared.clash.Clash.TheVariants as clashes
use Rattle.kmip_client.specs.declared.hear_fault.HearFault.{HearFault}
use Rattle.kmip_client.specs.declared.hear_fault.HearFault.TheVariants.{OtherIdentifier, OtherName}
use Rattle.kmip_client.specs.declared.knowledge.Knowledge.{Knowledge}
use Rattle.kmip_client.specs.declared.phase.Phase.TheVariants as phases
use Rattle.kmip_client.specs.Knowledge.{chain_length, lose, lost_phase}
use Rattle.kmip_client.specs.Learning.{is_known, is_other, raise, enter, with_clash, is_planned, is_named, place_learnt, state_learnt, attributes_learnt, created_learnt, none_learnt, one_learnt, located_learnt, step_learnt, learn}
use Rattle.kmip_client.specs.Shapes.{PhaseSuits, IsKept}
use Rattle.kmip_client.specs.Private.{IsShaped}

-- both at once
abbrev pub GoesOn : Key → Knowledge → Knowledge → Type 0
GoesOn key old new = IsShaped key new × IsKept old new

pub kept_itself : (known : Knowledge) → IsKept known known
kept_itself known = record { identifier_kept = λ uid is. is; done_kept = omega arith }

pub some_is : (uid : List ℕ) → Some uid ≢ None
some_is uid e = absurd cc

pub lost_suits : (uid : Option (List ℕ)) (done : ℕ) → PhaseSuits (lost_phase uid) uid done
lost_suits None done = refl
lost_suits (Some uid) done = some_is uid

pub lost_goes_on : (key : Key) (known : Knowledge) → IsShaped key known → GoesOn key known (lose known)
lost_goes_on key known shaped = (
  record { few = shaped.few; suits = lost_suits known.identifier known.done; has_identifier = shaped.has_identifier; in_range = shaped.in_range; unsettled = shaped.unsettled },
  record { identifier_kept = λ uid is. is; done_kept = omega arith },
)

pub conflict_goes_on : (key : Key) (clash : Clash) (known : Knowledge) → IsShaped key known → known.done < chain_length key → GoesOn key known (with_clash clash known)
conflict_goes_on key clash known shaped more = (
  record { few = shaped.few; suits = shaped.suits; has_identifier = shaped.has_identifier; in_range = shaped.in_range; unsettled = λ some. more },
  record { identifier_kept = λ uid is. is; done_kept = omega arith },
)

-- a key that stands at a place of its chain
gone_to : (key : Key) (place : ℕ) (known : Knowledge) → IsShaped key known → known.clash ≡ None → known.identifier ≢ None
    → 1 ≤ place → place ≤ chain_length key → known.done ≤ place
    → GoesOn key known (record known { done = place; phase = phases.Go })
gone_to key place known shaped none has from within more = (
  record { few = within; suits = (has, from); has_identifier = λ some. has; in_range = shaped.in_range; unsettled = λ some. absurd (some none) },
  record { identifier_kept = λ uid is. is; done_kept = more },
)

entered_goes_on : (key : Key) (place : ℕ) (known : Knowledge) → IsShaped key known → known.clash ≡ None → known.identifier ≢ None
    → 1 ≤ place → place ≤ chain_length key → GoesOn key known (enter place known)
entered_goes_on key place known shaped none has from within =
    elim (cases_Bool (nat_lt place known.done)) [
      | inl less ↦ rw less (shaped, kept_itself known)
      | inr more ↦ rw more (gone_to key place known shaped none has from within (ltb-false place known.done more))
    ]

raised_goes_on : (key : Key) (place : ℕ) (known : Knowledge) → IsShaped key known → known.clash ≡ None → known.identifier ≢ None
    → place ≤ chain_length key → GoesOn key known (raise place known)
raised_goes_on key place known shaped none has within =
    elim (cases_Bool (nat_lt known.done place)) [
      | inl more ↦
          let above : known.done < place = ltb-true known.done place more in
          rw more (gone_to key place known shaped none has (omega arith) within (omega arith))
      | inr less ↦ rw less (shaped, kept_itself known)
    ]

-- ---- which identifier is meant

not_no : (b : Bool) → not b ≡ false → b ≡ true
not_no true h = refl
not_no false h = absurd cc

same_text : (s t : List ℕ) → pointwise nat_eq s t ≡ true → s ≡ t
same_text s t h = (bytes_eq-Decides s t).0 h

pub own_is : (own : Option (List ℕ)) (uid : List ℕ) → own ≢ None → is_other own uid ≡ false → own ≡ Some uid
own_is None uid some same = absurd (some refl)
own_is (Some own) uid some same = ap Some (same_text own uid (not_no (pointwise nat_eq own uid) same))

pub known_is : (own : Option (List ℕ)) (uid : List ℕ) → is_known own uid ≡ true → own ≡ Some uid
known_is None uid same = absurd cc
known_is (Some own) uid same = ap Some (same_text own uid same)

pub not_none : (own : Option (List ℕ)) (uid : List ℕ) → own ≡ Some uid → own ≢ None
not_none own uid is none = absurd cc

pub none_of : (own : Option (List ℕ)) → is_some own ≡ false → own ≡ None
none_of None h = refl
none_of (Some uid) h = absurd cc

-- a value that was learnt
abbrev pub ok : Knowledge → Result Knowledge HearFault
ok x = Ok x

pub same_ok : (x y : Knowledge) → ok x ≡ ok y → x ≡ y
same_ok x y is = cc

onward : (key : Key) (known x new : Knowledge) → ok x ≡ Ok new → GoesOn key known x → GoesOn key known new
onward key known x new is goes = subst (λ n. GoesOn key known n) (same_ok x new is) goes

pub refused : {X : Type 0} (fault : HearFault) (new : Knowledge) → Err fault ≡ Ok new → X
refused fault new is = absurd cc

-- ---- each outcome

keeps_own : (known : Knowledge) (uid : List ℕ) → is_other known.identifier uid ≡ false
    → (own : List ℕ) → known.identifier ≡ Some own → Some uid ≡ Some own
keeps_own known uid same own is = sym (own_is known.identifier uid (not_none known.identifier own is) same) ∙ is

-- the first step of a key that was just made
made_goes_on : (key : Key) (uid : List ℕ) (known : Knowledge) → IsShaped key known → known.clash ≡ None → IsTrue (is_identifier uid)
    → known.done < chain_length key → is_other known.identifier uid ≡ false → known.done < 1
    → GoesOn key known (record known { identifier = Some uid; done = 1; phase = phases.Go })
made_goes_on key uid known shaped none fits more same first = (
  record { few = omega arith; suits = (some_is uid, omega arith); has_identifier = λ some. some_is uid; in_range = fits; unsettled = λ some. absurd (some none) },
  record { identifier_kept = keeps_own known uid same; done_kept = omega arith },
)

renamed_goes_on : (key : Key) (uid : List ℕ) (known : Knowledge) → IsShaped key known → IsTrue (is_identifier uid)
    → is_other known.identifier uid ≡ false → 1 ≤ known.done
    → GoesOn key known (record known { identifier = Some uid })
renamed_goes_on key uid known shaped fits same from =
    let own = own_is known.identifier uid (shaped.has_identifier from) same in (
      record { few = shaped.few; suits = subst (λ o. PhaseSuits known.phase o known.done) own shaped.suits; has_identifier = λ some. some_is uid; in_range = fits; unsettled = shaped.unsettled },
      record { identifier_kept = keeps_own known uid same; done_kept = omega arith },
    )

created_goes_on : (key : Key) (uid : List ℕ) (known new : Knowledge) → IsShaped key known → known.clash ≡ None → IsTrue (is_identifier uid)
    → known.done < chain_length key → created_learnt uid known ≡ Ok new → GoesOn key known new
created_goes_on key uid known new shaped none fits more is =
    elim (cases_Bool (is_other known.identifier uid)) [
      | inl other ↦ refused OtherIdentifier new (rw other at is)
      | inr same ↦ elim (cases_Bool (nat_lt known.done 1)) [
        | inl first ↦ onward key known (record known { identifier = Some uid; done = 1; phase = phases.Go }) new (rw (same, first) at is)
            (made_goes_on key uid known shaped none fits more same (ltb-true known.done 1 first))
        | inr later ↦ onward key known (record known { identifier = Some uid }) new (rw (same, later) at is)
            (renamed_goes_on key uid known shaped fits same (ltb-false known.done 1 later))
      ]
    ]

none_goes_on : (key : Key) (known : Knowledge) → IsShaped key known → GoesOn key known (none_learnt known)
none_goes_on key known shaped =
    elim (cases_Bool (is_some known.identifier)) [
      | inl some ↦ rw some (shaped, kept_itself known)
      | inr nothing ↦ rw nothing (
        record { few = shaped.few; suits = none_of known.identifier nothing; has_identifier = shaped.has_identifier; in_range = shaped.in_range; unsettled = shaped.unsettled },
        record { identifier_kept = λ uid is. is; done_kept = omega arith },
      )
    ]

one_goes_on : (key : Key) (uid : List ℕ) (known : Knowledge) → IsShaped key known → IsTrue (is_identifier uid) → GoesOn key known (one_learnt uid known)
one_goes_on key uid known shaped fits =
    elim (cases_Bool (is_some known.identifier)) [
      | inl some ↦ rw some (shaped, kept_itself known)
      | inr nothing ↦ rw nothing (
        record { few = shaped.few; suits = some_is uid; has_identifier = λ some. some_is uid; in_range = fits; unsettled = shaped.unsettled },
        record { identifier_kept = λ own is. absurd (not_none known.identifier own is (none_of known.identifier nothing)); done_kept = omega arith },
      )
    ]

located_goes_on : (key : Key) (uids : List (List ℕ)) (known new : Knowledge) → IsShaped key known → IsTrue (list_all is_identifier uids)
    → known.done < chain_length key → located_learnt uids known ≡ Ok new → GoesOn key known new
located_goes_on key [] known new shaped fits more is = onward key known (none_learnt known) new is (none_goes_on key known shaped)
located_goes_on key (uid ∷ []) known new shaped fits more is =
    elim (cases_Bool (is_other known.identifier uid)) [
      | inl other ↦ refused OtherIdentifier new (rw other at is)
      | inr same ↦ onward key known (one_learnt uid known) new (rw same at is)
          (one_goes_on key uid known shaped (and_parts (is_identifier uid) true fits).0)
    ]
located_goes_on key (uid ∷ other ∷ uids) known new shaped fits more is =
    onward key known (with_clash clashes.TwoObjects known) new is (conflict_goes_on key clashes.TwoObjects known shaped more)

place_goes_on : (key : Key) (place : Option ℕ) (known : Knowledge) → IsShaped key known → known.clash ≡ None → known.identifier ≢ None
    → known.done < chain_length key → IfSome place (λ p. (1 ≤ p) × (p ≤ chain_length key)) → GoesOn key known (place_learnt place known)
place_goes_on key None known shaped none has more within = conflict_goes_on key clashes.State known shaped more
place_goes_on key (Some place) known shaped none has more within = entered_goes_on key place known shaped none has within.0 within.1

if_within : (target : Target) (state : ℕ) (place : Option ℕ) → PlacesAreWithin → place_of target state ≡ place
    → IfSome place (λ p. (1 ≤ p) × (p ≤ length (chain target)))
if_within target state None within is = tt
if_within target state (Some place) within is = within target state place is

state_goes_on : (key : Key) (state : Option ℕ) (known : Knowledge) → PlacesAreWithin → IsShaped key known → known.clash ≡ None → known.identifier ≢ None
    → known.done < chain_length key → GoesOn key known (state_learnt key state known)
state_goes_on key None known within shaped none has more = conflict_goes_on key clashes.State known shaped more
state_goes_on key (Some state) known within shaped none has more =
    place_goes_on key (place_of key.target state) known shaped none has more (if_within key.target state (place_of key.target state) within refl)

attributes_goes_on : (key : Key) (told : Attrs) (known new : Knowledge) → PlacesAreWithin → IsShaped key known → known.clash ≡ None → known.identifier ≢ None
    → known.done < chain_length key → attributes_learnt key told known ≡ Ok new → GoesOn key known new
attributes_goes_on key told known new within shaped none has more is =
    elim (cases_Bool (is_named key told)) [
      | inr other ↦ refused OtherName new (rw other at is)
      | inl own ↦ elim (cases_Bool (is_planned key told)) [
        | inl planned ↦ onward key known (state_learnt key told.state known) new (rw (own, planned) at is)
            (state_goes_on key told.state known within shaped none has more)
        | inr differs ↦ onward key known (with_clash clashes.Attributes known) new (rw (own, differs) at is)
            (conflict_goes_on key clashes.Attributes known shaped more)
      ]
    ]

told_goes_on : (key : Key) (uid : List ℕ) (told : Attrs) (known new : Knowledge) → PlacesAreWithin → IsShaped key known → known.clash ≡ None
    → known.done < chain_length key → learn key (Attributes uid told) known ≡ Ok new → GoesOn key known new
told_goes_on key uid told known new within shaped none more is =
    elim (cases_Bool (is_known known.identifier uid)) [
      | inr other ↦ refused OtherIdentifier new (rw other at is)
      | inl own ↦ attributes_goes_on key told known new within shaped none (not_none known.identifier uid (known_is known.identifier uid own)) more (rw own at is)
    ]

step_goes_on : (key : Key) (step : Step) (uid : List ℕ) (known new : Knowledge) → StepsAreWithin → IsShaped key known → known.clash ≡ None
    → step_learnt key step uid known ≡ Ok new → GoesOn key known new
step_goes_on key step uid known new within shaped none is =
    elim (cases_Bool (is_known known.identifier uid)) [
      | inr other ↦ refused OtherIdentifier new (rw other at is)
      | inl own ↦ onward key known (raise (step_place key.target step) known) new (rw own at is)
          (raised_goes_on key (step_place key.target step) known shaped none (not_none known.identifier uid (known_is known.identifier uid own)) (within key.target step))
    ]

pub learn_goes_on : (key : Key) (asked : Option ℕ) (outcome : Outcome) (known new : Knowledge) → StepsAreWithin → PlacesAreWithin
    → IsShaped key known → known.clash ≡ None → known.done < chain_length key → outcome_fits asked outcome ≡ true
    → learn key outcome known ≡ Ok new → GoesOn key known new
learn_goes_on key asked (Failed reason) known new steps_in places_in shaped none more fits is = onward key known (lose known) new is (lost_goes_on key known shaped)
learn_goes_on key asked (Created uid) known new steps_in places_in shaped none more fits is =
    created_goes_on key uid known new shaped none (and_parts (is_own OPERATION_CREATE asked) (is_identifier uid) fits).1 more is
learn_goes_on key asked (Located uids) known new steps_in places_in shaped none more fits is =
    located_goes_on key uids known new shaped (and_parts (is_own OPERATION_LOCATE asked) (list_all is_identifier uids) fits).1 more is
learn_goes_on key asked (Attributes uid told) known new steps_in places_in shaped none more fits is =
    told_goes_on key uid told known new places_in shaped none more is
learn_goes_on key asked (Activated uid) known new steps_in places_in shaped none more fits is = step_goes_on key steps.Activate uid known new steps_in shaped none is
learn_goes_on key asked (Revoked uid) known new steps_in places_in shaped none more fits is = step_goes_on key steps.Revoke uid known new steps_in shaped none is
learn_goes_on key asked (Destroyed uid) known new steps_in places_in shaped none more fits is = step_goes_on key steps.Destroy uid known new steps_in shaped none is
