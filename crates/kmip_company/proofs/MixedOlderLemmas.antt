-- A good company of an older plan is good among clients of several.
use Rattle.std.proofs.Common.{◌≡◌, ◌∙◌, ◌∷◌, [], ap, arith, List, None, Option, slice_get, Some, subst, suc, sym, zero}
use Rattle.std.proofs.Common.{ℕ}
use Rattle.std.specs.List.{AllZip}
use Rattle.std.specs.Option.{option_map}
use Rattle.std.proofs.lemmas.List.Elements.{All-weaker}
use Rattle.kmip_client.specs.Clients.{ClientState}
use Rattle.kmip_client.specs.Held.{IsHeld, TrueOf, TrueProgress}
use Rattle.kmip_client.specs.Places.{uid_of}
use Rattle.kmip_client.specs.declared.clash.Clash.{Clash}
use Rattle.kmip_client.specs.declared.clash.Clash.TheVariants as clashes
use Rattle.kmip_client.specs.declared.knowledge.Knowledge.{Knowledge}
use Rattle.kmip_objects.specs.Objects.{Object, object_named}
use Rattle.kmip_objects.specs.declared.key_attrs.KeyAttrs.{KeyAttrs}
use Rattle.kmip_plan.specs.Plans.{IsLawful}
use Rattle.kmip_plan.specs.Prolonging.{GoesOn, Prolongs}
use Rattle.kmip_plan.specs.declared.key.Key.{Key}
use Rattle.kmip_progress.specs.declared.known.Known.{Known}
use Rattle.kmip_protocol.specs.Laws.{IsReached}
use Rattle.kmip_protocol.specs.Past.{Past}
use Rattle.kmip_protocol.specs.Sound.{Sound}
use Rattle.kmip_server.specs.declared.effect.Effect.{Effect}
use Rattle.kmip_company.specs.Companies.{Company}
use Rattle.kmip_company.specs.Mixed.{AllBeside, IsGoodMixed, IsKnownAmong, IsOlderMember, KnowsAmong}
use Rattle.kmip_company.specs.PrivateLawbook.{Lawbook}
use Rattle.kmip_company.specs.Safety.{IsGoodCompany, IsMember}
use Rattle.kmip_company.proofs.MixedListLemmas.{same_some}

-- what holds of each key of the old plan holds, in another form, of the key that the newest has there
beside_newest : {X : Type 0} (P Q : Key → X → Type 0) (keys old : List Key) (xs : List X)
    → ((newest key : Key) (x : X) → GoesOn newest key → P key x → Q newest x)
    → Prolongs keys old → AllZip P old xs → AllBeside Q keys xs
beside_newest P Q keys [] [] each on zip = λ place key x here there. absurd cc
beside_newest P Q keys [] (x ∷ xs) each on zip = absurd zip
beside_newest P Q keys (k ∷ old) [] each on zip = absurd zip
beside_newest P Q [] (k ∷ old) (x ∷ xs) each on zip = absurd on
beside_newest {X} P Q (newest ∷ keys) (k ∷ old) (x ∷ xs) each on zip =
    by_place (beside_newest P Q keys old xs each on.1 zip.1) where
      by_place : AllBeside Q keys xs → (place : ℕ) (key : Key) (y : X) → slice_get (newest ∷ keys) place ≡ Some key
          → slice_get (x ∷ xs) place ≡ Some y → Q key y
      by_place rest zero key y here there =
          subst (Q key) (same_some x y there) (subst (λ j. Q j x) (same_some newest key here)
          (each newest k x on.0 zip.0))
      by_place rest (suc place) key y here there = rest place key y here there

same_uid : (objects : List Object) (newest old : Key) → GoesOn newest old → uid_of newest objects ≡ uid_of old objects
same_uid objects newest old goes =
    ap (λ (a : KeyAttrs). option_map (λ o. o.uid) (object_named a.name objects)) goes.attrs_same

true_newest : Lawbook → (objects : List Object) (newest old : Key) (known : Known) → GoesOn newest old
    → TrueOf objects old known → TrueOf objects newest known
true_newest l objects newest old known goes holds =
    let more = l.client.positions objects newest old goes in
    record {
      uid_true = λ uid is. same_uid objects newest old goes ∙ holds.uid_true uid is;
      done_true = omega (arith, holds.done_true, more);
      has_identifier = holds.has_identifier;
    }

none_is_some : (found : Option Clash) (clash : Clash) → found ≡ None → found ≡ Some clash → clash ≡ clashes.State
none_is_some found clash none some = absurd cc

known_newest : Lawbook → (objects : List Object) (newest old : Key) (known : Knowledge) → GoesOn newest old
    → IsHeld objects old known → IsKnownAmong objects newest known
known_newest l objects newest old known goes held = record {
  holds = true_newest l objects newest old _ goes held.holds;
  suits = held.suits;
  of_state = λ clash is. none_is_some known.clash clash held.no_clash is;
}

member_newest : Lawbook → (keys old : List Key) (objects : List Object) (c : ClientState) → Prolongs keys old
    → IsMember old objects c → IsOlderMember keys objects c
member_newest l keys old objects c on m =
    subst (λ ks. KnowsAmong keys objects ks c.knowns) (sym m.keys_are)
    (record {
      is_prolonged = on;
      knows = beside_newest (IsHeld objects) (IsKnownAmong objects) keys old c.knowns
          (λ newest key known goes held. known_newest l objects newest key known goes held) on m.held;
      agrees = λ place older newest known older_is here there same.
          beside_newest (IsHeld objects) (λ key (k : Knowledge). k.clash ≡ None) keys old c.knowns
          (λ n key k goes held. held.no_clash) on m.held place newest known here there;
    })

reached_newest : Lawbook → (keys old : List Key) (p : Past) (effect : Effect) → IsLawful keys → Prolongs keys old
    → IsReached old p effect → IsReached keys p effect
reached_newest l keys old p effect lawful on r =
    let (newest, planned, same, goes) = l.plan.old_found keys old r.0 lawful on r.1 in
    let at = l.plan.step_places r.0.target newest.target effect.step goes.leads_on r.3 in
    let more = l.client.positions p.objects newest r.0 goes in
    (newest, planned, r.2 ∙ sym same, omega (arith, at, r.3), omega (arith, at, r.4, more))

pub older_good : Lawbook → (keys old : List Key) (w : Company) → IsLawful keys → Prolongs keys old → Sound keys w.past
    → IsGoodCompany old w → IsGoodMixed keys w
older_good l keys old w lawful on sound good = record {
  sound = sound;
  members = All-weaker (IsMember old w.past.objects) (IsOlderMember keys w.past.objects)
      (λ c. member_newest l keys old w.past.objects c on) w.clients good.members;
  true_saved =
      All-weaker (TrueProgress w.past.objects old) (AllBeside (TrueOf w.past.objects) keys)
      (λ saved. beside_newest (TrueOf w.past.objects) (TrueOf w.past.objects) keys old saved
      (λ newest key known. true_newest l w.past.objects newest key known) on) w.saved good.true_saved;
  reached = All-weaker (IsReached old w.past) (IsReached keys w.past)
      (λ effect. reached_newest l keys old w.past effect lawful on) w.reported good.reached;
}
