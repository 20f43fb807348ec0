-- What follows if the server agrees: the key stood as the file says.
use Rattle.std.proofs.Common.{◌≡◌, ◌≤◌, ◌<◌, ◌⊎◌, ℕ, Bool, true, false, not, ◌&&◌, nat_eq, nat_le, nat_lt, List, [], ◌∷◌, length, Option, Some, None, Result, Ok, Err, refl, sym, ap, subst, ◌∙◌, inl, inr, arith, if◌then◌else◌}
use Rattle.std.specs.Bool.{⊤}
use Rattle.std.specs.Cmp.Lexicographic.{pointwise}
use Rattle.std.specs.Option.{is_some}
use Rattle.std.proofs.lemmas.Bool.{cases_Bool, leb-true, ltb-true, or_parts}
use Rattle.std.proofs.lemmas.Slice.Eq.{bytes_eq-Decides}
use Rattle.kmip_objects.specs.Attributes.{attributes_of}
use Rattle.kmip_objects.specs.Objects.{Object}
use Rattle.kmip_objects.specs.States.{state_number}
use Rattle.kmip_plan.specs.Chains.{chain, place_of}
use Rattle.kmip_plan.specs.ChainLaws.{PlacesAreWithin}
use Rattle.kmip_plan.specs.declared.key.Key.{Key}
use Rattle.kmip_progress.specs.declared.known.Known.{Known}
use Rattle.kmip_client.specs.Knowledge.{fresh_knowledge}
use Rattle.kmip_client.specs.Learning.{is_named, is_planned, one_learnt, place_learnt, state_learnt, with_clash}
use Rattle.kmip_client.specs.declared.clash.Clash.TheVariants as clashes
use Rattle.kmip_client.specs.declared.hear_fault.HearFault.{HearFault}
use Rattle.kmip_client.specs.declared.hear_fault.HearFault.TheVariants.{OtherName}
use Rattle.kmip_client.specs.declared.knowledge.Knowledge.{Knowledge}
use Rattle.kmip_client.specs.declared.phase.Phase.TheVariants as phases
use Rattle.kmip_look.specs.Standings.{IsThere, StandsSo, is_told}
use Rattle.kmip_look.specs.Standings as standings
use Rattle.kmip_look.specs.declared.looked.Looked.{Looked}
use Rattle.kmip_refresh.specs.Agreements.{agreement, counts_destroy, has, is_agreement, is_make, is_same_object, judgement_of}
use Rattle.kmip_refresh.specs.Moments.{IsObjectAfter, StoodAtLeast, StoodAtTarget}
use Rattle.kmip_refresh.specs.declared.agreement.Agreement.{Agreement}
use Rattle.kmip_refresh.specs.declared.agreement.Agreement.TheVariants.{Agrees, Unanswered, Gone, Contradicts}
use Rattle.kmip_refresh.specs.declared.judgement.Judgement.TheVariants as judgements
use Rattle.kmip_refresh.specs.declared.key_look.KeyLook.{KeyLook}

-- ---- what it is to agree

-- The server said of the key that its object is that of the file, and has come as far.
pub record IsAgreed (known : Known) (looked : Looked) : Type 0 where
  pub told : is_told looked.known ≡ true
  pub no_clash : is_some looked.known.clash ≡ false
  pub same : is_same_object known.identifier looked.known.identifier ≡ true
  pub far : nat_le known.done looked.known.done ≡ true

chosen : (told clash same far gone : Bool)
    → (if told then (if clash then Contradicts else if same && far then Agrees else if gone then Gone else Contradicts) else Unanswered) ≡ Agrees
    → (told ≡ true) × (clash ≡ false) × (same ≡ true) × (far ≡ true)
chosen false clash same far gone is = absurd cc
chosen true true same far gone is = absurd cc
chosen true false true true gone is = (refl, refl, refl, refl)
chosen true false true false true is = absurd cc
chosen true false true false false is = absurd cc
chosen true false false far true is = absurd cc
chosen true false false far false is = absurd cc

pub agreed : (key : Key) (known : Known) (looked : Looked) → agreement key known looked ≡ Agrees → IsAgreed known looked
agreed key known looked is =
    let (told, clash, same, far) = chosen (is_told looked.known) (is_some looked.known.clash) (is_same_object known.identifier looked.known.identifier)
    (nat_le known.done looked.known.done) (is_make looked.known.phase && counts_destroy key known) is in
    record { told = told; no_clash = clash; same = same; far = far }

-- ---- the object that was told

same_known : (own seen : Option (List ℕ)) (uid : List ℕ) → is_same_object own seen ≡ true → seen ≡ Some uid → own ≡ Some uid
same_known None seen uid same is = absurd cc
same_known (Some own) seen uid same is =
    let equal : pointwise nat_eq own uid ≡ true = subst (λ s. is_same_object (Some own) s ≡ true) is same in
    ap Some ((bytes_eq-Decides own uid).0 equal)

none_same : (own : Option (List ℕ)) → is_same_object own None ≡ true → ⊥
none_same None same = absurd cc
none_same (Some own) same = absurd cc

abbrev ok_or : Knowledge → Result Knowledge HearFault → Knowledge
ok_or other (Ok known) = known
ok_or other (Err fault) = other

learnt_parts : (named planned : Bool) (x y known : Knowledge)
    → ◌≡◌ {A = Result Knowledge HearFault} (if named then Ok (if planned then x else y) else Err OtherName) (Ok known)
    → is_some y.clash ≡ true → is_some known.clash ≡ false → (planned ≡ true) × (x ≡ known)
learnt_parts true true x y known is clash none = (refl, ap (ok_or x) is)
learnt_parts true false x y known is clash none =
    let same : y ≡ known = ap (ok_or y) is in
    let both : true ≡ false = sym clash ∙ ap (λ k. is_some k.clash) same ∙ none in absurd cc
learnt_parts false planned x y known is clash none = absurd cc

-- The state has a place, and this is known of the object.
pub record IsPlaced (place : Option ℕ) (uid : List ℕ) (known : Knowledge) : Type 0 where
  pub steps : ℕ
  pub place_is : place ≡ Some steps
  pub done_is : known.done ≡ steps
  pub identifier_is : known.identifier ≡ Some uid

placed : (place : Option ℕ) (uid : List ℕ) (known : Knowledge) → place_learnt place (one_learnt uid fresh_knowledge) ≡ known
    → is_some known.clash ≡ false → IsPlaced place uid known
placed None uid known is none =
    let both : true ≡ false = ap (λ k. is_some k.clash) is ∙ none in absurd cc
placed (Some steps) uid known is none = elim (cases_Bool (nat_lt steps 0)) [
  | inl less ↦ let under : steps < 0 = ltb-true steps 0 less in absurd (omega (arith, under))
  | inr more ↦
      let base : Knowledge = one_learnt uid fresh_knowledge in
      let now : Knowledge = record base { done = steps; phase = phases.Go } in
      let same : now ≡ known = ap (λ b. if b then base else now) (sym more) ∙ is in
      record {
        steps = steps;
        place_is = refl;
        done_is = ap (λ k. k.done) (sym same);
        identifier_is = ap (λ k. k.identifier) (sym same);
      }
]

stood_there : (objects : List Object) (key : Key) (known : Known) (looked : Looked) → IsAgreed known looked → IsThere objects key looked
    → StoodAtLeast objects key known
stood_there objects key known looked agrees there =
    let told = attributes_of there.object in
    let base = one_learnt there.uid fresh_knowledge in
    let (planned, state) = learnt_parts (is_named key told) (is_planned key told) (state_learnt key told.state base)
    (with_clash clashes.Attributes base) looked.known there.learnt refl agrees.no_clash in
    let at = placed (place_of key.target (state_number there.object.state)) there.uid looked.known state agrees.no_clash in
    let far : known.done ≤ looked.known.done = leb-true known.done looked.known.done agrees.far in
    record {
      uid = there.uid;
      identifier_is = same_known known.identifier looked.known.identifier there.uid agrees.same at.identifier_is;
      object = there.object;
      exists = there.stands;
      steps = at.steps;
      is_after = record { name_is = there.name_is; planned = planned; reached = at.place_is };
      at_least = subst (λ n. known.done ≤ n) at.done_is far;
    }

pub stood : (objects : List Object) (key : Key) (known : Known) (looked : Looked) → IsAgreed known looked → StandsSo objects key looked
    → StoodAtLeast objects key known
stood objects key known looked agrees (standings.absent none is shown) =
    absurd (none_same known.identifier (subst (λ k. is_same_object known.identifier k.identifier ≡ true) is agrees.same))
stood objects key known looked agrees (standings.several many is shown) =
    let both : true ≡ false = ap (λ k. is_some k.clash) (sym is) ∙ agrees.no_clash in absurd cc
stood objects key known looked agrees (standings.there t) = stood_there objects key known looked agrees t

-- ---- at its target

pub at_target : PlacesAreWithin → (objects : List Object) (key : Key) (known : Known) → StoodAtLeast objects key known
    → length (chain key.target) ≤ known.done → StoodAtTarget objects key known
at_target within objects key known s all =
    let (some, most) = within key.target (state_number s.object.state) s.steps s.is_after.reached in
    let is : s.steps ≡ length (chain key.target) = omega (arith, most, all, s.at_least) in
    record {
      uid = s.uid;
      identifier_is = s.identifier_is;
      object = s.object;
      exists = s.exists;
      is_after = subst (λ n. IsObjectAfter key n s.object) is s.is_after;
    }

-- ---- if the judgement is that it agrees

-- The server agrees about the key, or the key is gone.
abbrev pub IsSettled : KeyLook → Type 0
IsSettled look = (look.agreement ≡ Agrees) ⊎ (look.agreement ≡ Gone)

settled : (a : Agreement) → is_agreement Contradicts a ≡ false → is_agreement Unanswered a ≡ false → (a ≡ Agrees) ⊎ (a ≡ Gone)
settled Agrees c u = inl refl
settled Gone c u = inr refl
settled Unanswered c u = absurd cc
settled Contradicts c u = absurd cc

judged_parts : (c u g : Bool)
    → (if c then judgements.Contradicted else if u then judgements.Unanswered else if g then judgements.Contradicted else judgements.Agreed) ≡ judgements.Agreed
    → (c ≡ false) × (u ≡ false)
judged_parts true u g is = absurd cc
judged_parts false true g is = absurd cc
judged_parts false false g is = (refl, refl)

-- Each key is settled.
abbrev pub AreSettled : List KeyLook → Type 0
AreSettled [] = ⊤
AreSettled (look ∷ looks) = IsSettled look × AreSettled looks

all_settled : (looks : List KeyLook) → has Contradicts looks ≡ false → has Unanswered looks ≡ false → AreSettled looks
all_settled [] c u = tt
all_settled (look ∷ looks) c u =
    let (c_here, c_left) = or_parts (is_agreement Contradicts look.agreement) (has Contradicts looks) c in
    let (u_here, u_left) = or_parts (is_agreement Unanswered look.agreement) (has Unanswered looks) u in
    (settled look.agreement c_here u_here, all_settled looks c_left u_left)

pub agreed_settled : (looks : List KeyLook) → judgement_of looks ≡ judgements.Agreed → AreSettled looks
agreed_settled looks is =
    let (c, u) = judged_parts (has Contradicts looks) (has Unanswered looks) (has Gone looks && not (has Agrees looks)) is in
    all_settled looks c u
