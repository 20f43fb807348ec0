-- What was so of the known keys since the look began.
use Rattle.std.proofs.Common.{◌≡◌, true, false, List, [], ◌∷◌, sym, ap, ◌∙◌, inl, inr}
use Rattle.std.specs.List.{AllZip}
use Rattle.kmip_plan.specs.ChainLaws.{PlacesAreWithin}
use Rattle.kmip_protocol.specs.Past.{Names, Past}
use Rattle.kmip_look.specs.Looks.{IsSaid}
use Rattle.kmip_refresh.specs.Agreements.{agreement}
use Rattle.kmip_refresh.specs.KnownKeys.{KnownKey, judged_look, keys_of, looks_judged}
use Rattle.kmip_refresh.specs.Moments.{FinishedSince, StoodSince}
use Rattle.kmip_refresh.specs.Refreshing.{lookeds_of}
use Rattle.kmip_refresh.specs.declared.agreement.Agreement.TheVariants.{Agrees}
use Rattle.kmip_refresh.specs.declared.key_look.KeyLook.{KeyLook}
use Rattle.kmip_refresh.proofs.AgreementLemmas.{AreSettled, agreed, at_target, stood}

abbrev first_or : {A : Type 0} → A → List A → A
first_or other [] = other
first_or other (x ∷ xs) = x

abbrev left_of : {A : Type 0} → List A → List A
left_of [] = []
left_of (x ∷ xs) = xs

stood_one : (names : Names) (old new : Past) (k : KnownKey) (look : KeyLook) → look ≡ judged_look k look.looked
    → IsSaid names old new k.key look.looked
    → StoodSince names old new k look
stood_one names old new k look is (inl (told, so)) = λ agrees.
    let own : agreement k.key k.known look.looked ≡ Agrees = sym (ap (λ l. l.agreement) is) ∙ agrees in
    (so.0, so.1, so.2, stood so.0.objects k.key k.known look.looked (agreed k.key k.known look.looked own) so.3)
stood_one names old new k look is (inr (untold, shown)) = λ agrees.
    let own : agreement k.key k.known look.looked ≡ Agrees = sym (ap (λ l. l.agreement) is) ∙ agrees in
    let all = agreed k.key k.known look.looked own in
    let both : true ≡ false = sym all.told ∙ untold in absurd cc

pub all_stood : (names : Names) (old new : Past) (known : List KnownKey) (looks : List KeyLook)
    → looks ≡ looks_judged known (lookeds_of looks)
    → AllZip (IsSaid names old new) (keys_of known) (lookeds_of looks) → AllZip (StoodSince names old new) known looks
all_stood names old new [] [] is said = tt
all_stood names old new [] (look ∷ looks) is said = absurd said
all_stood names old new (k ∷ known) [] is said = absurd said
all_stood names old new (k ∷ known) (look ∷ looks) is said = (
  stood_one names old new k look (ap (first_or look) is) said.0,
  all_stood names old new known looks (ap left_of is) said.1,
)

pub all_finished : PlacesAreWithin → (names : Names) (old new : Past) (known : List KnownKey) (looks : List KeyLook)
    → AreSettled looks
    → AllZip (StoodSince names old new) known looks → AllZip (FinishedSince names old new) known looks
all_finished within names old new [] [] settled so = tt
all_finished within names old new [] (look ∷ looks) settled so = absurd so
all_finished within names old new (k ∷ known) [] settled so = absurd so
all_finished within names old new (k ∷ known) (look ∷ looks) settled so = (
  λ all. elim settled.0 [
    | inl agrees ↦
        let (then, before, after, stood) = so.0 agrees in
        inr (then, before, after, at_target within then.objects k.key k.known stood all)
    | inr gone ↦ inl gone
  ],
  all_finished within names old new known looks settled.1 so.1,
)
