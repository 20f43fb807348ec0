-- What a reply teaches about a key takes back no identifier and no count.
use Rattle.std.proofs.Common.{◌≡◌, ℕ, true, false, nat_eq, nat_lt, List, [], ◌∷◌, is_some, Option, Some, None, Result, Ok, Err, subst, refl, sym, ap, ◌∙◌, ◌⊎◌, inl, inr, arith, if◌then◌else◌}
use Rattle.std.specs.Cmp.Lexicographic.{pointwise}
use Rattle.std.proofs.lemmas.Bool.{cases_Bool, ltb-true, ltb-false}
use Rattle.std.proofs.lemmas.Slice.Eq.{bytes_eq-Decides}
use Rattle.kmip_objects.specs.declared.attrs.Attrs.{Attrs}
use Rattle.kmip_objects.specs.declared.step.Step.{Step}
use Rattle.kmip_objects.specs.declared.step.Step.TheVariants as steps
use Rattle.kmip_batch_items.specs.declared.outcome.Outcome.{Outcome}
use Rattle.kmip_batch_items.specs.declared.outcome.Outcome.TheVariants as outcomes
use Rattle.kmip_plan.specs.Chains.{place_of, step_place}
use Rattle.kmip_plan.specs.declared.key.Key.{Key}
use Rattle.kmip_client.specs.Knowledge.{lose}
use Rattle.kmip_client.specs.Learning.{attributes_learnt, created_learnt, enter, is_known, is_named, is_other, is_planned, learn, none_learnt, one_learnt, place_learnt, raise, state_learnt, step_learnt, with_clash}
use Rattle.kmip_client.specs.declared.clash.Clash.{Clash}
use Rattle.kmip_client.specs.declared.clash.Clash.TheVariants as clashes
use Rattle.kmip_client.specs.declared.hear_fault.HearFault.{HearFault}
use Rattle.kmip_client.specs.declared.hear_fault.HearFault.TheVariants as faults
use Rattle.kmip_client.specs.declared.knowledge.Knowledge.{Knowledge}
use Rattle.kmip_client.specs.declared.phase.Phase.TheVariants as phases
use Rattle.kmip_client.specs.Shapes.{IsKept}

pub kept_itself : (known : Knowledge) → IsKept known known
kept_itself known = record { identifier_kept = λ uid is. is; done_kept = omega arith }

-- ---- more steps, or the same

raise_kept : (known : Knowledge) (place : ℕ) (identifier : Option (List ℕ)) → ((uid : List ℕ) → known.identifier ≡ Some uid → identifier ≡ Some uid)
    → IsKept known (raise place (record known { identifier = identifier }))
raise_kept known place identifier kept = elim (cases_Bool (nat_lt known.done place)) [
  | inl more ↦ let further = ltb-true known.done place more in rw more (record { identifier_kept = kept; done_kept = omega (arith, further) })
  | inr less ↦ rw less (record { identifier_kept = kept; done_kept = omega arith })
]

enter_kept : (known : Knowledge) (place : ℕ) → IsKept known (enter place known)
enter_kept known place = elim (cases_Bool (nat_lt place known.done)) [
  | inl less ↦ rw less (kept_itself known)
  | inr more ↦ rw more (record { identifier_kept = λ uid is. is; done_kept = ltb-false place known.done more })
]

clash_kept : (known : Knowledge) (clash : Clash) → IsKept known (with_clash clash known)
clash_kept known clash = record { identifier_kept = λ uid is. is; done_kept = omega arith }

place_kept : (known : Knowledge) (place : Option ℕ) → IsKept known (place_learnt place known)
place_kept known None = clash_kept known clashes.State
place_kept known (Some place) = enter_kept known place

state_kept : (key : Key) (known : Knowledge) (state : Option ℕ) → IsKept known (state_learnt key state known)
state_kept key known None = clash_kept known clashes.State
state_kept key known (Some state) = place_kept known (place_of key.target state)

-- ---- what each outcome teaches

abbrev pub ok : Knowledge → Result Knowledge HearFault
ok x = Ok x

same_ok : (x y : Knowledge) → ok x ≡ ok y → x ≡ y
same_ok x y is = cc

no_fault : {X : Type 0} (fault : HearFault) (x : Knowledge) → Err fault ≡ ok x → X
no_fault fault x is = absurd cc

own_kept : (known : Option (List ℕ)) (uid : List ℕ) → is_other known uid ≡ false → (own : List ℕ) → known ≡ Some own → Some uid ≡ Some own
own_kept None uid other own is = absurd cc
own_kept (Some mine) uid other own is = by_same (cases_Bool (pointwise nat_eq mine uid)) where
  by_same : (pointwise nat_eq mine uid ≡ true) ⊎ (pointwise nat_eq mine uid ≡ false) → Some uid ≡ Some own
  by_same (inl same) = sym (ap (λ u. Some u) ((bytes_eq-Decides mine uid).0 same)) ∙ is
  by_same (inr apart) = let t : true ≡ false = rw apart at other in absurd cc

created_kept : (known next : Knowledge) (uid : List ℕ) → created_learnt uid known ≡ ok next → IsKept known next
created_kept known next uid learnt = elim (cases_Bool (is_other known.identifier uid)) [
  | inl other ↦ no_fault faults.OtherIdentifier next (rw other at learnt)
  | inr own ↦
      subst (IsKept known) (same_ok (raise 1 (record known { identifier = Some uid })) next (rw own at learnt))
      (raise_kept known 1 (Some uid) (own_kept known.identifier uid own))
]

none_kept : (known : Knowledge) (found : Option (List ℕ)) → IsKept known (if is_some found then known else record known { phase = phases.Make })
none_kept known (Some uid) = kept_itself known
none_kept known None = record { identifier_kept = λ uid is. is; done_kept = omega arith }

one_kept : (known : Knowledge) (uid : List ℕ) (found : Option (List ℕ)) → known.identifier ≡ found
    → IsKept known (if is_some found then known else record known { identifier = Some uid; phase = phases.Check })
one_kept known uid (Some own) is = kept_itself known
one_kept known uid None is = record {
  identifier_kept = λ own same. let t : None ≡ Some own = sym is ∙ same in absurd cc;
  done_kept = omega arith;
}

located_kept : (key : Key) (known next : Knowledge) (uids : List (List ℕ)) → learn key (outcomes.Located uids) known ≡ ok next → IsKept known next
located_kept key known next [] learnt = subst (IsKept known) (same_ok (none_learnt known) next learnt) (none_kept known known.identifier)
located_kept key known next (uid ∷ []) learnt = elim (cases_Bool (is_other known.identifier uid)) [
  | inl other ↦ no_fault faults.OtherIdentifier next (rw other at learnt)
  | inr own ↦ subst (IsKept known) (same_ok (one_learnt uid known) next (rw own at learnt)) (one_kept known uid known.identifier refl)
]
located_kept key known next (uid ∷ other ∷ uids) learnt =
    subst (IsKept known) (same_ok (with_clash clashes.TwoObjects known) next learnt) (clash_kept known clashes.TwoObjects)

step_kept : (key : Key) (known next : Knowledge) (step : Step) (uid : List ℕ) → step_learnt key step uid known ≡ ok next → IsKept known next
step_kept key known next step uid learnt = elim (cases_Bool (is_known known.identifier uid)) [
  | inl own ↦
      subst (IsKept known) (same_ok (raise (step_place key.target step) known) next (rw own at learnt))
      (raise_kept known (step_place key.target step) known.identifier (λ mine is. is))
  | inr other ↦ no_fault faults.OtherIdentifier next (rw other at learnt)
]

attributes_kept : (key : Key) (known next : Knowledge) (told : Attrs) → attributes_learnt key told known ≡ ok next → IsKept known next
attributes_kept key known next told learnt = elim (cases_Bool (is_named key told)) [
  | inr other ↦ no_fault faults.OtherName next (rw other at learnt)
  | inl named ↦ elim (cases_Bool (is_planned key told)) [
    | inl planned ↦ subst (IsKept known) (same_ok (state_learnt key told.state known) next (rw (named, planned) at learnt)) (state_kept key known told.state)
    | inr other ↦ subst (IsKept known) (same_ok (with_clash clashes.Attributes known) next (rw (named, other) at learnt)) (clash_kept known clashes.Attributes)
  ]
]

pub learn_kept : (key : Key) (known next : Knowledge) (outcome : Outcome) → learn key outcome known ≡ ok next → IsKept known next
learn_kept key known next (outcomes.Failed reason) learnt =
    subst (IsKept known) (same_ok (lose known) next learnt) (record { identifier_kept = λ uid is. is; done_kept = omega arith })
learn_kept key known next (outcomes.Created uid) learnt = created_kept known next uid learnt
learn_kept key known next (outcomes.Located uids) learnt = located_kept key known next uids learnt
learn_kept key known next (outcomes.Attributes uid told) learnt = elim (cases_Bool (is_known known.identifier uid)) [
  | inl own ↦ attributes_kept key known next told (rw own at learnt)
  | inr other ↦ no_fault faults.OtherIdentifier next (rw other at learnt)
]
learn_kept key known next (outcomes.Activated uid) learnt = step_kept key known next steps.Activate uid learnt
learn_kept key known next (outcomes.Revoked uid) learnt = step_kept key known next steps.Revoke uid learnt
learn_kept key known next (outcomes.Destroyed uid) learnt = step_kept key known next steps.Destroy uid learnt
