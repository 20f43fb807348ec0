-- Objects that go onward.
use Rattle.std.proofs.Common.{◌≡◌, ℕ, zero, suc, List, [], ◌∷◌, Some, subst, refl, sym, arith}
use Rattle.std.specs.List.{slice_get}
use Rattle.kmip_objects.specs.Objects.{Object}
use Rattle.kmip_batch_items.specs.declared.outcome.Outcome.{Outcome}
use Rattle.kmip_batch_items.specs.declared.outcome.Outcome.TheVariants.{Created, Located, Attributes, Activated, Revoked, Destroyed, Failed}
use Rattle.kmip_batch_items.specs.declared.reply.Reply.{Reply}
use Rattle.kmip_batch_items.specs.declared.ask.Ask.{Ask}
use Rattle.kmip_batch_items.specs.declared.ask.Ask.TheVariants as asks
use Rattle.kmip_objects.specs.declared.attrs.Attrs.{Attrs}
use Rattle.kmip_batch_items.specs.declared.request.Request.{Request}
use Rattle.kmip_objects.specs.declared.step.Step.{Step}
use Rattle.kmip_objects.specs.declared.step.Step.TheVariants as steps
use Rattle.kmip_plan.specs.Laws.{KeysAreFound, FoundKeysStand}
use Rattle.kmip_plan.specs.Plans.{IsLawful, IsPlanned, key_named}
use Rattle.kmip_plan.specs.declared.key.Key.{Key}
use Rattle.kmip_client.specs.declared.knowledge.Knowledge.{Knowledge}
use Rattle.kmip_client.specs.Held.{IsHeld, Held}
use Rattle.kmip_client.specs.Justified.{StepIsDue, MayAsk, Justified}
use Rattle.kmip_client.specs.Places.{GoesOnward, Onward}
use Rattle.kmip_client.specs.Truth.{IsShown, StepIsDone, TrueOutcome, TrueReply}

pub stays_itself : (key : Key) (objects : List Object) → GoesOnward key objects objects
stays_itself key objects = record { uid_stays = λ uid is. is; never_falls = omega arith }

pub onward_twice : (key : Key) (old between new : List Object) → GoesOnward key old between → GoesOnward key between new → GoesOnward key old new
onward_twice key old between new first second = record {
  uid_stays = λ uid is. second.uid_stays uid (first.uid_stays uid is);
  never_falls = omega (arith, first.never_falls, second.never_falls);
}

due_on : (key : Key) (old new : List Object) (step : Step) (uid : List ℕ) → GoesOnward key old new → StepIsDue old key step uid → StepIsDue new key step uid
due_on key old new step uid on due = record {
  uid_is = on.uid_stays uid due.uid_is;
  in_chain = due.in_chain;
  due = omega (arith, due.due, on.never_falls);
}

may_on : (key : Key) (old new : List Object) (ask : Ask) → GoesOnward key old new → MayAsk old key ask → MayAsk new key ask
may_on key old new (asks.Create attrs) on may = may
may_on key old new (asks.Locate mask filter) on may = may
may_on key old new (asks.GetAttributes uid) on may = on.uid_stays uid may
may_on key old new (asks.Activate uid) on may = due_on key old new steps.Activate uid on may
may_on key old new (asks.Revoke uid code) on may = (due_on key old new steps.Revoke uid on may.0, may.1)
may_on key old new (asks.Destroy uid) on may = due_on key old new steps.Destroy uid on may

pub justified_on : (keys : List Key) (old new : List Object) (request : Request) → Onward keys old new → Justified keys old request → Justified keys new request
justified_on keys old new request on justified = record {
  key = justified.key;
  is_planned = justified.is_planned;
  id_is = justified.id_is;
  may = may_on justified.key old new request.ask (on justified.key justified.is_planned) justified.may;
}

done_on : (key : Key) (old new : List Object) (step : Step) (uid : List ℕ) → GoesOnward key old new → StepIsDone old key step uid → StepIsDone new key step uid
done_on key old new step uid on done = record {
  uid_is = on.uid_stays uid done.uid_is;
  in_chain = done.in_chain;
  done = omega (arith, done.done, on.never_falls);
}

shown_on : (key : Key) (old new : List Object) (shown : Attrs) → GoesOnward key old new → IsShown old key shown → IsShown new key shown
shown_on key old new shown on is = record {
  object_type_is = is.object_type_is;
  name_is = is.name_is;
  algorithm_is = is.algorithm_is;
  length_is = is.length_is;
  usage_is = is.usage_is;
  state = is.state;
  state_is = is.state_is;
  place = is.place;
  place_is = is.place_is;
  had = omega (arith, is.had, on.never_falls);
}

outcome_on : (key : Key) (old new : List Object) (outcome : Outcome) → GoesOnward key old new → TrueOutcome old key outcome → TrueOutcome new key outcome
outcome_on key old new (Created uid) on so = done_on key old new steps.Create uid on so
outcome_on key old new (Located []) on so = tt
outcome_on key old new (Located (uid ∷ [])) on so = on.uid_stays uid so
outcome_on key old new (Located (uid ∷ other ∷ uids)) on so = absurd so
outcome_on key old new (Attributes uid shown) on so = (on.uid_stays uid so.0, shown_on key old new shown on so.1)
outcome_on key old new (Activated uid) on so = done_on key old new steps.Activate uid on so
outcome_on key old new (Revoked uid) on so = done_on key old new steps.Revoke uid on so
outcome_on key old new (Destroyed uid) on so = done_on key old new steps.Destroy uid on so
outcome_on key old new (Failed reason) on so = tt

named_planned : (keys : List Key) (name : List ℕ) (key : Key) → FoundKeysStand → key_named name keys ≡ Some key → IsPlanned keys key
named_planned keys name key stand named = subst (λ n. key_named n keys ≡ Some key) (sym (stand keys name key named).0) named

pub true_on : (keys : List Key) (old new : List Object) (reply : Reply) → FoundKeysStand → Onward keys old new → TrueReply keys old reply → TrueReply keys new reply
true_on keys old new reply stand on so = λ operation name key id named.
    outcome_on key old new reply.outcome (on key (named_planned keys name key stand named)) (so operation name key id named)

held_on : (old new : List Object) (key : Key) (known : Knowledge) → GoesOnward key old new → IsHeld old key known → IsHeld new key known
held_on old new key known on held = record {
  holds = record {
    uid_true = λ uid is. on.uid_stays uid (held.holds.uid_true uid is);
    done_true = omega (arith, held.holds.done_true, on.never_falls);
    has_identifier = held.holds.has_identifier;
  };
  no_clash = held.no_clash;
  suits = held.suits;
}

each_on : (keys : List Key) (knowns : List Knowledge) (old new : List Object) → ((place : ℕ) (key : Key) → slice_get keys place ≡ Some key → GoesOnward key old new)
    → Held old keys knowns → Held new keys knowns
each_on [] [] old new on held = tt
each_on [] (known ∷ knowns) old new on held = absurd held
each_on (key ∷ keys) [] old new on held = absurd held
each_on (key ∷ keys) (known ∷ knowns) old new on held =
    (held_on old new key known (on zero key refl) held.0, each_on keys knowns old new (λ place k is. on (suc place) k is) held.1)

pub all_held_on : (keys : List Key) (knowns : List Knowledge) (old new : List Object) → KeysAreFound → IsLawful keys → Onward keys old new
    → Held old keys knowns → Held new keys knowns
all_held_on keys knowns old new found lawful on held = each_on keys knowns old new (λ place key is. on key (found keys place key lawful is)) held
