-- A look is outside every plan, and a past that is sound stays so.
use Rattle.std.proofs.Common.{◌≡◌, ◌++◌, ℕ, true, false, List, [], ◌∷◌, None, Option, Result, Some, ap, sym, subst, ◌∙◌, inl, inr}
use Rattle.std.proofs.Common.{refl, arith, if◌then◌else◌}
use Rattle.std.specs.List.{All}
use Rattle.std.proofs.lemmas.Bool.{cases_Bool}
use Rattle.std.proofs.lemmas.List.Elements.{All-cons, All-nil, All-weaker}
use Rattle.kmip_objects.specs.Objects.{Object}
use Rattle.kmip_objects.specs.Ranges.{is_name}
use Rattle.kmip_batch_items.specs.declared.request.Request.{Request}
use Rattle.kmip_messages.specs.Items.{requests_in}
use Rattle.kmip_plan.specs.Plans.{IsLawful}
use Rattle.kmip_plan.specs.declared.key.Key.{Key}
use Rattle.kmip_client.specs.Places.{Onward}
use Rattle.kmip_client.specs.declared.knowledge.Knowledge.{Knowledge}
use Rattle.kmip_protocol.specs.declared.link_fault.LinkFault.{LinkFault}
use Rattle.kmip_protocol.specs.Amid.{ExchangedAmid}
use Rattle.kmip_protocol.specs.AmidLaws.{ExchangesAmidKeepSound}
use Rattle.kmip_protocol.specs.Laws.{StrangeIsOutside}
use Rattle.kmip_protocol.specs.Headline.{step_of_ask}
use Rattle.kmip_protocol.specs.Seen.{Seen}
use Rattle.kmip_protocol.specs.Sound.{HarmlessMessage, IsOutside, IsHarmless, Sound}
use Rattle.kmip_look.specs.Looks.{BeginsNoName, KeepsSound, StaysSound}
use Rattle.kmip_look.specs.PrivateAsking.{ask_of, is_asked, part_number, request_of, requests_of}
use Rattle.kmip_look.specs.declared.looked.Looked.{Looked}
use Rattle.kmip_look.specs.declared.part.Part.{Part}
use Rattle.kmip_look.specs.declared.part.Part.TheVariants.{Find, Tell}
use Rattle.kmip_look.proofs.AskedLemmas.{name_of}

-- ---- nothing was done, and one after the other

pub sound_still : (plan : List Key) (x : Seen) → x.amid plan → Sound plan x.past → StaysSound plan x x
sound_still plan x amid sound = record {
  still = amid;
  sound = sound;
  onward = λ key planned. record { uid_stays = λ uid is. is; never_falls = omega arith };
}

pub keeps_still : (mark : List ℕ) (x : Seen) → KeepsSound mark x x
keeps_still mark x = λ begins plan lawful amid sound. sound_still plan x amid sound

onward_twice : (plan : List Key) (first second third : List Object) → Onward plan first second → Onward plan second third
    → Onward plan first third
onward_twice plan first second third early late = λ key planned.
    let one = early key planned in
    let two = late key planned in
    record {
      uid_stays = λ uid is. two.uid_stays uid (one.uid_stays uid is);
      never_falls = omega (arith, one.never_falls, two.never_falls);
    }

pub sound_twice : (plan : List Key) (x y z : Seen) → StaysSound plan x y → StaysSound plan y z → StaysSound plan x z
sound_twice plan x y z early late = record {
  still = late.still;
  sound = late.sound;
  onward = onward_twice plan x.past.objects y.past.objects z.past.objects early.onward late.onward;
}

pub keeps_twice : (mark : List ℕ) (x y z : Seen) → KeepsSound mark x y → KeepsSound mark y z → KeepsSound mark x z
keeps_twice mark x y z early late = λ begins plan lawful amid sound.
    let one = early begins plan lawful amid sound in
    sound_twice plan x y z one (late begins plan lawful one.still one.sound)

-- ---- the requests of a look are outside the plan

own_name : (operation other : ℕ) (name own : List ℕ) → Some (operation ∷ name) ≡ Some (other ∷ own) → name ≡ own
own_name operation other name own is = cc

no_step_of : (part : Part) (key : Key) (known : Knowledge) → step_of_ask (ask_of part key known) ≡ None
no_step_of Find key known = refl
no_step_of Tell key known = refl

look_outside : StrangeIsOutside → (plan : List Key) (part : Part) (mark : List ℕ) (key : Key) (looked : Looked) → IsLawful plan
    → BeginsNoName mark → IsOutside plan (request_of part mark key looked)
look_outside law plan part mark key looked lawful begins =
    law plan (request_of part mark key looked) lawful (no_step_of part key looked.known) (λ operation other fits is.
    let own : mark ++ key.attrs.name ≡ other.attrs.name =
    own_name (part_number part) operation (mark ++ key.attrs.name) other.attrs.name is in
    let t : true ≡ false = sym (name_of other fits) ∙ ap is_name (sym own) ∙ begins key.attrs.name in absurd cc)

looks_outside : StrangeIsOutside → (plan : List Key) (part : Part) (mark : List ℕ) (keys : List Key) (lookeds : List Looked)
    → IsLawful plan → BeginsNoName mark → All (IsOutside plan) (requests_of part mark keys lookeds)
looks_outside law plan part mark [] lookeds lawful begins = All-nil (IsOutside plan)
looks_outside law plan part mark (key ∷ keys) [] lawful begins = All-nil (IsOutside plan)
looks_outside law plan part mark (key ∷ keys) (looked ∷ lookeds) lawful begins =
    let request : Request = request_of part mark key looked in
    let more : List Request = requests_of part mark keys lookeds in
    let rest : All (IsOutside plan) more = looks_outside law plan part mark keys lookeds lawful begins in
    elim (cases_Bool (is_asked part looked)) [
      | inl asked ↦ subst (λ b. All (IsOutside plan) (if b then request ∷ more else more)) (sym asked)
          (All-cons (IsOutside plan) request more (look_outside law plan part mark key looked lawful begins) rest)
      | inr idle ↦ subst (λ b. All (IsOutside plan) (if b then request ∷ more else more)) (sym idle) rest
    ]

-- ---- an exchange

pub exchanged_sound : ExchangesAmidKeepSound → (plan : List Key) (old new : Seen) (sent : List ℕ) (requests : List Request)
    (answer : Result (Option (List ℕ)) LinkFault) → requests_in sent ≡ requests → All (IsOutside plan) requests
    → (HarmlessMessage plan old.past.objects sent → new.amid plan × ExchangedAmid plan old.past sent answer new.past)
    → Sound plan old.past → StaysSound plan old new
exchanged_sound keep plan old new sent requests answer asks outside done sound =
    let may : HarmlessMessage plan old.past.objects sent =
    subst (λ rs. All (IsHarmless plan old.past.objects) rs) (sym asks)
    (All-weaker (IsOutside plan) (IsHarmless plan old.past.objects) (λ request one. inr one) requests outside) in
    let (still, exchanged) = done may in
    let kept = keep plan old.past new.past sent answer sound may exchanged in
    record { still = still; sound = kept.0; onward = kept.1 }

pub sound_by : StrangeIsOutside → (mark : List ℕ) (part : Part) (keys : List Key) (lookeds : List Looked) (requests : List Request) (old new : Seen)
    → requests ≡ requests_of part mark keys lookeds
    → ((plan : List Key) → All (IsOutside plan) requests → old.amid plan → Sound plan old.past → StaysSound plan old new)
    → KeepsSound mark old new
sound_by law mark part keys lookeds requests old new is put = λ begins plan lawful amid sound.
    put plan (subst (All (IsOutside plan)) (sym is) (looks_outside law plan part mark keys lookeds lawful begins)) amid sound
