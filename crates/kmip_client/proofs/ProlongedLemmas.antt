-- What holds of a key holds of one that goes on from it.
use Rattle.std.proofs.Common.{◌≡◌, ◌<◌, ℕ, true, List, [], ◌∷◌, Some, refl, ap, sym, ◌∙◌, arith}
use Rattle.kmip_objects.specs.Objects.{Object}
use Rattle.kmip_batch_items.specs.Operations.{operation_of}
use Rattle.kmip_objects.specs.Attributes.{by_name}
use Rattle.kmip_batch_items.specs.declared.outcome.Outcome.{Outcome}
use Rattle.kmip_batch_items.specs.declared.outcome.Outcome.TheVariants.{Created, Located, Attributes, Activated, Revoked, Destroyed, Failed}
use Rattle.kmip_batch_items.specs.declared.ask.Ask.{Ask}
use Rattle.kmip_batch_items.specs.declared.ask.Ask.TheVariants as asks
use Rattle.kmip_objects.specs.declared.attrs.Attrs.{Attrs}
use Rattle.kmip_objects.specs.declared.key_attrs.KeyAttrs.{KeyAttrs}
use Rattle.kmip_batch_items.specs.declared.request.Request.{Request}
use Rattle.kmip_objects.specs.declared.step.Step.{Step}
use Rattle.kmip_objects.specs.declared.step.Step.TheVariants as steps
use Rattle.kmip_plan.specs.Chains.{step_place, is_revoked}
use Rattle.kmip_plan.specs.ChainLaws.{ReachedIsNoLess, StepsKeepTheirPlaces, StatesKeepTheirPlaces, PlacesAndSteps, RevokesAreOfTheRevoked}
use Rattle.kmip_plan.specs.Laws.{OldKeysAreFound}
use Rattle.kmip_plan.specs.Plans.{IsLawful}
use Rattle.kmip_plan.specs.Prolonging.{GoesOn, Prolongs}
use Rattle.kmip_plan.specs.declared.key.Key.{Key}
use Rattle.kmip_plan.specs.declared.target.Target.{Target}
use Rattle.kmip_client.specs.Justified.{StepIsDue, MayAsk, Justified}
use Rattle.kmip_client.specs.Truth.{IsShown, StepIsDone, TrueOutcome}
use Rattle.kmip_client.proofs.SavingLemmas.{same_uid, further}

-- the laws of ways that lead on
pub record Ways : Type 0 where
  pub reached : ReachedIsNoLess
  pub places : StepsKeepTheirPlaces
  pub state_places : StatesKeepTheirPlaces

-- ---- what may be asked

due_of : Ways → (objects : List Object) (new old : Key) (step : Step) (uid : List ℕ) → GoesOn new old → StepIsDue objects old step uid → StepIsDue objects new step uid
due_of ways objects new old step uid on due =
    let same : step_place new.target step ≡ step_place old.target step =
    ways.places old.target new.target step on.leads_on (omega (arith, due.in_chain)) in
    record {
      uid_is = same_uid objects new old on.attrs_same ∙ due.uid_is;
      in_chain = omega (arith, same, due.in_chain);
      due = omega (arith, same, due.due, further objects new old ways.reached on);
    }

-- a chain in which a Revoke may be due is that of a target that is revoked
abbrev DueIsRevoked : Type 0
DueIsRevoked = (target : Target) → 1 < step_place target steps.Revoke → is_revoked target ≡ true

pub due_is_revoked : PlacesAndSteps → RevokesAreOfTheRevoked → DueIsRevoked
due_is_revoked places revoke target some =
    revoke target (step_place target steps.Revoke) ((places target (step_place target steps.Revoke) steps.Revoke (omega (arith, some))).1 refl)

may_of : Ways → DueIsRevoked → (objects : List Object) (new old : Key) (ask : Ask) → GoesOn new old → MayAsk objects old ask → MayAsk objects new ask
may_of ways revoked objects new old (asks.Create attrs) on may = may ∙ sym on.attrs_same
may_of ways revoked objects new old (asks.Locate mask filter) on may =
    (may.0, may.1 ∙ ap (λ (a : KeyAttrs). by_name a.name) (sym on.attrs_same))
may_of ways revoked objects new old (asks.GetAttributes uid) on may = same_uid objects new old on.attrs_same ∙ may
may_of ways revoked objects new old (asks.Activate uid) on may = due_of ways objects new old steps.Activate uid on may
may_of ways revoked objects new old (asks.Revoke uid code) on may =
    (due_of ways objects new old steps.Revoke uid on may.0, may.1 ∙ sym (on.reason_same (revoked old.target may.0.in_chain)))
may_of ways revoked objects new old (asks.Destroy uid) on may = due_of ways objects new old steps.Destroy uid on may

pub justified_of : Ways → DueIsRevoked → OldKeysAreFound → (objects : List Object) (new old : List Key) (request : Request) → IsLawful new → Prolongs new old
    → Justified old objects request → Justified new objects request
justified_of ways revoked found objects new old request lawful on justified =
    let (newer, planned, same, goes) = found new old justified.key lawful on justified.is_planned in
    record {
      key = newer;
      is_planned = planned;
      id_is = justified.id_is ∙ ap (λ name. Some (operation_of request.ask ∷ name)) (sym same);
      may = may_of ways revoked objects newer justified.key request.ask goes justified.may;
    }

-- ---- what is said

done_of : Ways → (objects : List Object) (new old : Key) (step : Step) (uid : List ℕ) → GoesOn new old → StepIsDone objects old step uid → StepIsDone objects new step uid
done_of ways objects new old step uid on done =
    let same : step_place new.target step ≡ step_place old.target step = ways.places old.target new.target step on.leads_on done.in_chain in
    record {
      uid_is = same_uid objects new old on.attrs_same ∙ done.uid_is;
      in_chain = omega (arith, same, done.in_chain);
      done = omega (arith, same, done.done, further objects new old ways.reached on);
    }

shown_of : Ways → (objects : List Object) (new old : Key) (shown : Attrs) → GoesOn new old → IsShown objects old shown → IsShown objects new shown
shown_of ways objects new old shown on is = record {
  object_type_is = is.object_type_is;
  name_is = is.name_is ∙ ap (λ (a : KeyAttrs). Some a.name) (sym on.attrs_same);
  algorithm_is = is.algorithm_is ∙ ap (λ (a : KeyAttrs). Some a.algorithm) (sym on.attrs_same);
  length_is = is.length_is ∙ ap (λ (a : KeyAttrs). Some a.length) (sym on.attrs_same);
  usage_is = is.usage_is ∙ ap (λ (a : KeyAttrs). Some a.usage) (sym on.attrs_same);
  state = is.state;
  state_is = is.state_is;
  place = is.place;
  place_is = ways.state_places old.target new.target is.state is.place on.leads_on is.place_is;
  had = omega (arith, is.had, further objects new old ways.reached on);
}

pub outcome_of : Ways → (objects : List Object) (new old : Key) (outcome : Outcome) → GoesOn new old → TrueOutcome objects old outcome → TrueOutcome objects new outcome
outcome_of ways objects new old (Created uid) on so = done_of ways objects new old steps.Create uid on so
outcome_of ways objects new old (Located []) on so = tt
outcome_of ways objects new old (Located (uid ∷ [])) on so = same_uid objects new old on.attrs_same ∙ so
outcome_of ways objects new old (Located (uid ∷ other ∷ uids)) on so = absurd so
outcome_of ways objects new old (Attributes uid shown) on so = (same_uid objects new old on.attrs_same ∙ so.0, shown_of ways objects new old shown on so.1)
outcome_of ways objects new old (Activated uid) on so = done_of ways objects new old steps.Activate uid on so
outcome_of ways objects new old (Revoked uid) on so = done_of ways objects new old steps.Revoke uid on so
outcome_of ways objects new old (Destroyed uid) on so = done_of ways objects new old steps.Destroy uid on so
outcome_of ways objects new old (Failed reason) on so = tt
