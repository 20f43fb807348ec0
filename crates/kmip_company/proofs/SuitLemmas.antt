-- What is true of the objects of a sound past suits the plan.
use Rattle.std.proofs.Common.{◌≡◌, ◌≢◌, ◌≤◌, ◌&&◌, ◌||◌, ◌==◌, Bool, List, None, Option, Some, [], ◌∷◌, arith, false}
use Rattle.std.proofs.Common.{is_some, length, option_map, refl, slice_get, subst, suc, sym, true, zero, ℕ}
use Rattle.std.specs.List.{All}
use Rattle.std.specs.Option.{option_map_or}
use Rattle.std.proofs.lemmas.Bool.{le-leb}
use Rattle.std.proofs.lemmas.List.Elements.{All-weaker}
use Rattle.kmip_client.specs.Held.{TrueOf, TrueProgress}
use Rattle.kmip_client.specs.Places.{position, uid_of}
use Rattle.kmip_objects.specs.Objects.{Object, object_named}
use Rattle.kmip_objects.specs.Ranges.{is_identifier}
use Rattle.kmip_plan.specs.Chains.{chain, place_reached}
use Rattle.kmip_plan.specs.Plans.{IsLawful, IsPlanned}
use Rattle.kmip_plan.specs.declared.key.Key.{Key}
use Rattle.kmip_progress.specs.Suiting.{Suits, known_fits}
use Rattle.kmip_progress.specs.declared.known.Known.{Known}
use Rattle.kmip_protocol.specs.Past.{Past}
use Rattle.kmip_protocol.specs.Sound.{Sound}
use Rattle.kmip_company.specs.Companies.{Company}
use Rattle.kmip_company.specs.PrivateLawbook.{Lawbook}
use Rattle.kmip_company.specs.Safety.{IsGoodCompany}

-- no object has come further than its chain
within_chain : Lawbook → (key : Key) (objects : List Object) → position key objects ≤ length (chain key.target)
within_chain l key objects = by_found (object_named key.attrs.name objects) where
  by_found : (found : Option Object) → option_map_or (λ o. place_reached key.target o.state) found 0 ≤ length
      (chain key.target)
  by_found None = omega arith
  by_found (Some o) = l.plan.reached key.target o.state

abbrev some_text : List ℕ → Option (List ℕ)
some_text x = Some x

same_text : (x y : List ℕ) → some_text x ≡ some_text y → x ≡ y
same_text x y e = cc

-- the identifier of an object of the plan is one
fits_identifier : (keys : List Key) (p : Past) (key : Key) (uid : List ℕ) → Sound keys p → IsPlanned keys key
    → uid_of key p.objects ≡ Some uid → is_identifier uid ≡ true
fits_identifier keys p key uid sound planned is = by_found (object_named key.attrs.name p.objects) refl is where
  by_found : (found : Option Object) → object_named key.attrs.name p.objects ≡ found
      → option_map (λ o. o.uid) found ≡ Some uid → is_identifier uid ≡ true
  by_found None named uid_is = absurd cc
  by_found (Some o) named uid_is = subst (λ u. is_identifier u ≡ true) (same_text o.uid uid uid_is)
      (sound.objects key o planned named).identified

or_true : (b : Bool) → (b || true) ≡ true
or_true true = refl
or_true false = refl

-- a count wants an identifier, and each identifier is one
fits_known : (done : ℕ) (identifier : Option (List ℕ)) → (1 ≤ done → identifier ≢ None)
    → ((uid : List ℕ) → identifier ≡ Some uid → is_identifier uid ≡ true)
    → ((done == 0 || is_some identifier) && option_map_or is_identifier identifier true) ≡ true
fits_known zero None has fits = refl
fits_known (suc done) None has fits = absurd (has (omega arith) refl)
fits_known zero (Some uid) has fits = fits uid refl
fits_known (suc done) (Some uid) has fits =
    subst (λ b. (b && is_identifier uid) ≡ true) (sym (or_true (suc done == 0))) (fits uid refl)

known_suits : Lawbook → (keys : List Key) (p : Past) (key : Key) (known : Known) → Sound keys p → IsPlanned keys key
    → TrueOf p.objects key known → known_fits key known ≡ true
known_suits l keys p key known sound planned holds =
    let few = le-leb known.done (length (chain key.target))
    (omega (arith, holds.done_true, within_chain l key p.objects)) in
    let fits = fits_known known.done known.identifier holds.has_identifier
    (λ uid is. fits_identifier keys p key uid sound planned (holds.uid_true uid is)) in
    rw (few, fits) refl

-- each of these keys is one of the plan's
abbrev AreOf : List Key → List Key → Type 0
AreOf plan keys = (place : ℕ) (key : Key) → slice_get keys place ≡ Some key → IsPlanned plan key

progress_suits : Lawbook → (plan : List Key) (p : Past) (keys : List Key) (saved : List Known) → Sound plan p
    → AreOf plan keys → TrueProgress p.objects keys saved → Suits keys saved
progress_suits l plan p [] [] sound of holds = tt
progress_suits l plan p [] (known ∷ saved) sound of holds = absurd holds
progress_suits l plan p (key ∷ keys) [] sound of holds = absurd holds
progress_suits l plan p (key ∷ keys) (known ∷ saved) sound of holds = (
  known_suits l plan p key known sound (of zero key refl) holds.0,
  progress_suits l plan p keys saved sound
      (λ place k is. of (suc place) k is) holds.1,
)

pub saved_suits : Lawbook → (keys : List Key) (w : Company) → IsLawful keys → IsGoodCompany keys w
    → All (Suits keys) w.saved
saved_suits l keys w lawful good =
    All-weaker (TrueProgress w.past.objects keys) (Suits keys)
    (λ saved. progress_suits l keys w.past keys saved good.sound
    (λ place key is. l.plan.found keys place key lawful is)) w.saved good.true_saved
