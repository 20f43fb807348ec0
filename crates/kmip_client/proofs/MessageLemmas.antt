-- What is learnt of several replies, and what that keeps.
use Rattle.std.proofs.Common.{◌≡◌, ℕ, true, List, [], ◌∷◌, Result, Ok, Err, IfOk, OnOk, OnErr, IsTrue, subst, refl, sym, ◌∙◌, arith}
use Rattle.std.proofs.lemmas.Bool.{and_parts}
use Rattle.std.proofs.lemmas.List.Elements.{All-nil, All-head, All-tail}
use Rattle.std.specs.List.{All, AllZip}
use Rattle.kmip_objects.specs.Objects.{Object}
use Rattle.kmip_batch_items.specs.BatchItems.{answer_fits}
use Rattle.kmip_batch_items.specs.Fits.{outcome_fits}
use Rattle.kmip_batch_items.specs.declared.reply.Reply.{Reply}
use Rattle.kmip_messages.specs.Items.{replies_in}
use Rattle.kmip_plan.specs.ChainLaws.{StepsAreWithin, PlacesAreWithin}
use Rattle.kmip_plan.specs.declared.key.Key.{Key}
use Rattle.kmip_client.specs.declared.hear_fault.HearFault.{HearFault}
use Rattle.kmip_client.specs.declared.knowledge.Knowledge.{Knowledge}
use Rattle.kmip_client.specs.declared.heard.Heard.{Heard}
use Rattle.kmip_client.specs.Clients.{working_count, VerdictsStay}
use Rattle.kmip_client.specs.Hearing.{heard_in, heard_of, known_after_each, known_after_reply, subject_of}
use Rattle.kmip_client.specs.Held.{Held}
use Rattle.kmip_client.specs.Private.{AreShaped}
use Rattle.kmip_client.specs.Shapes.{IsKept}
use Rattle.kmip_client.specs.Truth.{TrueReply, TrueMessage}
use Rattle.kmip_client.proofs.HeardLemmas.{all_kept, kept_after, shaped_after, stays_after}
use Rattle.kmip_client.proofs.HeldLemmas.{held_after}

said_ok : (h : Result (Heard × List Knowledge) HearFault) (knowns : List Knowledge) → IfOk (heard_of h) (λ x. h ≡ Ok (x, known_after_reply h knowns))
said_ok (Ok heard) knowns = refl
said_ok (Err fault) knowns = tt

said_err : (h : Result (Heard × List Knowledge) HearFault) (knowns : List Knowledge) → OnErr (heard_of h) (known_after_reply h knowns ≡ knowns)
said_err (Ok heard) knowns = tt
said_err (Err fault) knowns = refl

outcome_of : (r : Reply) → answer_fits r ≡ true → outcome_fits r.operation r.outcome ≡ true
outcome_of r fits = (and_parts _ (outcome_fits r.operation r.outcome) fits).1

-- the shape of what is known after one reply, and that nothing was taken back
pub record Kept (keys : List Key) (knowns nexts : List Knowledge) (next : ℕ) : Type 0 where
  pub shaped : AreShaped keys nexts next (working_count keys nexts)
  pub kept : AllZip IsKept knowns nexts
  pub stays : VerdictsStay keys knowns nexts

kept_on : {knowns mids nexts : Knowledge} → IsKept knowns mids → IsKept mids nexts → IsKept knowns nexts
kept_on first second = record {
  identifier_kept = λ uid is. second.identifier_kept uid (first.identifier_kept uid is);
  done_kept = omega (arith, first.done_kept, second.done_kept);
}

all_kept_on : (knowns mids nexts : List Knowledge) → AllZip IsKept knowns mids → AllZip IsKept mids nexts → AllZip IsKept knowns nexts
all_kept_on [] [] [] first second = tt
all_kept_on [] [] (c ∷ nexts) first second = absurd second
all_kept_on [] (b ∷ mids) nexts first second = absurd first
all_kept_on (a ∷ knowns) [] nexts first second = absurd first
all_kept_on (a ∷ knowns) (b ∷ mids) [] first second = absurd second
all_kept_on (a ∷ knowns) (b ∷ mids) (c ∷ nexts) first second = (kept_on first.0 second.0, all_kept_on knowns mids nexts first.1 second.1)

stay_on : (keys : List Key) (knowns mids nexts : List Knowledge) → VerdictsStay keys knowns mids → VerdictsStay keys mids nexts → VerdictsStay keys knowns nexts
stay_on keys knowns mids nexts first second = λ place settled.
    second place (λ is. settled (sym (first place settled) ∙ is)) ∙ first place settled

kept_by_one : (keys : List Key) (reply : Reply) (knowns : List Knowledge) (next working : ℕ) → StepsAreWithin → PlacesAreWithin → answer_fits reply ≡ true
    → AreShaped keys knowns next working → Kept keys knowns (known_after_reply (heard_in keys reply knowns) knowns) next
kept_by_one keys reply knowns next working steps_in places_in fits shaped =
    let h = heard_in keys reply knowns in
    let nexts = known_after_reply h knowns in
    let fine = outcome_of reply fits in record {
      shaped = shaped_after keys keys reply (subject_of keys reply.id) knowns nexts next working (working_count keys nexts) (heard_of h)
          steps_in places_in fine refl refl shaped (said_ok h knowns) (said_err h knowns) refl;
      kept = kept_after keys keys reply (subject_of keys reply.id) knowns nexts next working (heard_of h) steps_in places_in fine refl refl shaped
          (said_ok h knowns) (said_err h knowns);
      stays = stays_after keys keys reply (subject_of keys reply.id) knowns nexts (heard_of h) refl refl (said_ok h knowns) (said_err h knowns);
    }

pub kept_by_each : (keys : List Key) (replies : List Reply) (knowns : List Knowledge) (next working : ℕ) → StepsAreWithin → PlacesAreWithin
    → All (λ r. IsTrue (answer_fits r)) replies → AreShaped keys knowns next working → Kept keys knowns (known_after_each keys replies knowns) next
kept_by_each keys [] knowns next working steps_in places_in fits shaped = record {
  shaped = record { lawful = shaped.lawful; each = shaped.each; turn = shaped.turn; counted = refl };
  kept = all_kept knowns;
  stays = λ place settled. refl;
}
kept_by_each keys (reply ∷ replies) knowns next working steps_in places_in fits shaped =
    let nexts = known_after_reply (heard_in keys reply knowns) knowns in
    let last = known_after_each keys replies nexts in
    let first = kept_by_one keys reply knowns next working steps_in places_in (All-head (λ r. IsTrue (answer_fits r)) reply replies fits) shaped in
    let more = kept_by_each keys replies nexts next (working_count keys nexts) steps_in places_in (All-tail (λ r. IsTrue (answer_fits r)) reply replies fits)
    first.shaped in record {
      shaped = more.shaped;
      kept = all_kept_on knowns nexts last first.kept more.kept;
      stays = stay_on keys knowns nexts last first.stays more.stays;
    }

pub held_by_each : (objects : List Object) (keys : List Key) (replies : List Reply) (knowns : List Knowledge) → PlacesAreWithin → Held objects keys knowns
    → All (TrueReply keys objects) replies → Held objects keys (known_after_each keys replies knowns)
held_by_each objects keys [] knowns places_in held so = held
held_by_each objects keys (reply ∷ replies) knowns places_in held so =
    let h = heard_in keys reply knowns in
    let nexts = known_after_reply h knowns in
    held_by_each objects keys replies nexts places_in
    (held_after objects keys keys reply (subject_of keys reply.id) knowns nexts (heard_of h) places_in refl refl (said_ok h knowns) (said_err h knowns) held
    (All-head (TrueReply keys objects) reply replies so))
    (All-tail (TrueReply keys objects) reply replies so)

-- ---- after a call that may have refused the message

pub kept_by_message : {A : Type 0} (keys ks : List Key) (given : List ℕ) (knowns nexts : List Knowledge) (next working : ℕ) (r : Result A HearFault)
    → StepsAreWithin → PlacesAreWithin → ks ≡ keys → OnOk r (nexts ≡ known_after_each ks (replies_in given) knowns)
    → OnOk r (All (λ x. IsTrue (answer_fits x)) (replies_in given)) → OnErr r (nexts ≡ knowns) → AreShaped keys knowns next working
    → Kept keys knowns nexts next
kept_by_message keys ks given knowns nexts next working (Ok heard) steps_in places_in same is fits unchanged shaped =
    let own : nexts ≡ known_after_each keys (replies_in given) knowns = subst (λ k. nexts ≡ known_after_each k (replies_in given) knowns) same is in
    subst (λ k. Kept keys knowns k next) (sym own) (kept_by_each keys (replies_in given) knowns next working steps_in places_in fits shaped)
kept_by_message keys ks given knowns nexts next working (Err fault) steps_in places_in same is fits unchanged shaped =
    subst (λ k. Kept keys knowns k next) (sym unchanged)
    (kept_by_each keys [] knowns next working steps_in places_in (All-nil (λ x. IsTrue (answer_fits x))) shaped)

pub held_by_message : {A : Type 0} (objects : List Object) (keys ks : List Key) (given : List ℕ) (knowns nexts : List Knowledge) (r : Result A HearFault)
    → PlacesAreWithin → ks ≡ keys → OnOk r (nexts ≡ known_after_each ks (replies_in given) knowns) → OnErr r (nexts ≡ knowns)
    → Held objects keys knowns → TrueMessage keys objects given → Held objects keys nexts
held_by_message objects keys ks given knowns nexts (Ok heard) places_in same is unchanged held so =
    let own : nexts ≡ known_after_each keys (replies_in given) knowns = subst (λ k. nexts ≡ known_after_each k (replies_in given) knowns) same is in
    subst (λ k. Held objects keys k) (sym own) (held_by_each objects keys (replies_in given) knowns places_in held so)
held_by_message objects keys ks given knowns nexts (Err fault) places_in same is unchanged held so = subst (λ k. Held objects keys k) (sym unchanged) held
