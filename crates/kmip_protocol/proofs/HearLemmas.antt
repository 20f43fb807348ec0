-- What the reply to a question about a key teaches: what its outcome does, of that key alone. One that says "failed" and names no key
-- is lost, and that teaches the same.
use Rattle.std.proofs.Common.{◌≡◌, ◌<◌, ℕ, zero, suc, ◌+◌, Bool, true, false, nat_le, List, [], ◌∷◌, is_some, Option, Some, None, Result, Ok, slice_set, subst, refl, sym, ap, ◌∙◌, ◌⊎◌, inl, inr, arith}
use Rattle.std.specs.List.{slice_get, position_from}
use Rattle.std.specs.Option.{option_and_then, option_map_or}
use Rattle.std.proofs.lemmas.Bool.{cases_Bool, eq-eqb, le-leb}
use Rattle.std.proofs.lemmas.Iterator.Adapters.{position_from-zero}
use Rattle.std.proofs.lemmas.Option.{same_Some}
use Rattle.std.proofs.lemmas.Slice.Eq.{bytes_eq-Decides}
use Rattle.kmip_objects.specs.Objects.{Object}
use Rattle.kmip_batch_items.specs.Operations.{operation_of}
use Rattle.kmip_batch_items.specs.declared.outcome.Outcome.{Outcome}
use Rattle.kmip_batch_items.specs.declared.reply.Reply.{Reply}
use Rattle.kmip_batch_items.specs.declared.ask.Ask.{Ask}
use Rattle.kmip_batch_items.specs.declared.ask.Ask.TheVariants as asks
use Rattle.kmip_objects.specs.declared.step.Step.TheVariants as steps
use Rattle.kmip_plan.specs.Chains.{step_place}
use Rattle.kmip_plan.specs.Laws.{NamesAreDistinct}
use Rattle.kmip_plan.specs.Plans.{IsLawful}
use Rattle.kmip_plan.specs.TargetWords.{is_text}
use Rattle.kmip_plan.specs.declared.key.Key.{Key}
use Rattle.kmip_client.specs.declared.hear_fault.HearFault.{HearFault}
use Rattle.kmip_client.specs.declared.heard.Heard.{Heard}
use Rattle.kmip_client.specs.declared.news.News.{News}
use Rattle.kmip_client.specs.declared.knowledge.Knowledge.{Knowledge}
use Rattle.kmip_client.specs.Clients.{changed_at, changed_by, lost_working}
use Rattle.kmip_client.specs.Hearing.{is_asked_of, place_named, subject_at, subject_of, is_other_operation, has_failed, news_of, with_news, teach, with_heard, heard_by, heard_at, heard_in}
use Rattle.kmip_client.specs.Justified.{MayAsk}
use Rattle.kmip_client.specs.Knowledge.{is_working, lose}
use Rattle.kmip_client.specs.Learning.{learn}
use Rattle.kmip_protocol.specs.Moves.{HasFailed}
use Rattle.kmip_protocol.proofs.FilterLemmas.{same_text}

-- ---- the key with the name

first_at : {A : Type 0} (p : A → Bool) (from : ℕ) (xs : List A) (place : ℕ) (x : A) → slice_get xs place ≡ Some x → p x ≡ true
    → ((other : ℕ) (y : A) → slice_get xs other ≡ Some y → p y ≡ true → other ≡ place)
    → position_from p from xs ≡ Some (from + place)
first_at p from [] place x here holds alone = absurd cc
first_at p from (a ∷ xs) zero x here holds alone =
    let first : p a ≡ true = subst (λ v. p v ≡ true) (sym (same_Some a x here)) holds in
    let same : from ≡ from + 0 = omega arith in
    rw first (ap Some same)
first_at p from (a ∷ xs) (suc place) x here holds alone =
    elim (cases_Bool (p a)) [
      | inl first ↦ absurd (omega (arith, alone zero a refl first))
      | inr other ↦
          let same : from + 1 + place ≡ from + suc place = omega arith in
          let rest = first_at p (from + 1) xs place x here holds (λ j y there is. omega (arith, alone (suc j) y there is)) in
          rw other (rest ∙ ap Some same)
    ]

pub place_found : (keys : List Key) (place : ℕ) (key : Key) → NamesAreDistinct → IsLawful keys → slice_get keys place ≡ Some key
    → place_named key.attrs.name keys ≡ Some place
place_found keys place key distinct lawful here =
    let found = first_at (λ (k : Key). is_text key.attrs.name k.attrs.name) 0 keys place key here (same_text key.attrs.name key.attrs.name refl)
    (λ other k there is. distinct keys other place k key lawful there here (sym ((bytes_eq-Decides key.attrs.name k.attrs.name).0 is))) in
    let same : 0 + place ≡ place = omega arith in
    position_from-zero (λ (k : Key). is_text key.attrs.name k.attrs.name) keys ∙ found ∙ ap Some same

-- ---- whom the reply is about

step_of_chain : (b : ℕ) → 1 < b → nat_le 1 b ≡ true
step_of_chain b less = le-leb 1 b (omega (arith, less))

pub asked_of : (objects : List Object) (key : Key) (ask : Ask) → MayAsk objects key ask → is_asked_of key (operation_of ask) ≡ true
asked_of objects key (asks.Create attrs) may = refl
asked_of objects key (asks.Locate mask filter) may = refl
asked_of objects key (asks.GetAttributes uid) may = refl
asked_of objects key (asks.Activate uid) may = step_of_chain (step_place key.target steps.Activate) may.in_chain
asked_of objects key (asks.Revoke uid code) may = step_of_chain (step_place key.target steps.Revoke) may.0.in_chain
asked_of objects key (asks.Destroy uid) may = step_of_chain (step_place key.target steps.Destroy) may.in_chain

subject_is : (keys : List Key) (place operation : ℕ) (key : Key) (id : Option (List ℕ)) → NamesAreDistinct → IsLawful keys → slice_get keys place ≡ Some key
    → is_asked_of key operation ≡ true → id ≡ Some (operation ∷ key.attrs.name) → subject_of keys id ≡ Some (record { key = place; operation = operation })
subject_is keys place operation key id distinct lawful here asked is =
    let one : option_map_or (λ k. is_asked_of k operation) (slice_get keys place) false ≡ true =
    ap (λ k. option_map_or (λ x. is_asked_of x operation) k false) here ∙ asked in
    let there : subject_at keys operation place ≡ Some (record { key = place; operation = operation }) = rw one refl in
    ap (subject_of keys) is
    ∙ ap (λ p. option_and_then (λ place. subject_at keys operation place) p) (place_found keys place key distinct lawful here)
    ∙ there

same_operation : (told : Option ℕ) (operation : ℕ) → (told ≡ Some operation) ⊎ (told ≡ None) → is_other_operation told operation ≡ false
same_operation told operation (inl same) = by_same ∙ not_other where
  not_other : is_other_operation (Some operation) operation ≡ false
  not_other = rw (eq-eqb operation operation refl) refl

  by_same : is_other_operation told operation ≡ is_other_operation (Some operation) operation
  by_same = ap (λ t. is_other_operation t operation) same
same_operation told operation (inr none) = ap (λ t. is_other_operation t operation) none

-- ---- what it teaches

abbrev lesson : Outcome → Knowledge → Knowledge → News × Knowledge
lesson outcome known next = (news_of (has_failed outcome) (is_some known.identifier) known.done next, next)

teach_is : (key : Key) (outcome : Outcome) (known next : Knowledge) → is_working key known ≡ true → learn key outcome known ≡ Ok next
    → teach key outcome known ≡ Ok (lesson outcome known next)
teach_is key outcome known next works learnt = rw works (ap (with_news (has_failed outcome) known) learnt)

abbrev pub heard_from : ℕ → ℕ → Outcome → Knowledge → Knowledge → Heard
heard_from place operation outcome known next = record { key = place; operation = operation; news = (lesson outcome known next).0 }

pub heard_is : (keys : List Key) (knowns : List Knowledge) (place operation : ℕ) (key : Key) (known next : Knowledge) (reply : Reply) → NamesAreDistinct
    → IsLawful keys → slice_get keys place ≡ Some key → slice_get knowns place ≡ Some known → is_working key known ≡ true
    → is_asked_of key operation ≡ true → reply.id ≡ Some (operation ∷ key.attrs.name)
    → (reply.operation ≡ Some operation) ⊎ (reply.operation ≡ None) → learn key reply.outcome known ≡ Ok next
    → heard_in keys reply knowns ≡ Ok (heard_from place operation reply.outcome known next, slice_set knowns place next)
heard_is keys knowns place operation key known next reply distinct lawful here there works asked id_is operation_is learnt =
    let subject = subject_is keys place operation key reply.id distinct lawful here asked id_is in
    let own = same_operation reply.operation operation operation_is in
    let taught : heard_at keys (record { key = place; operation = operation }) reply.outcome knowns ≡ Ok (heard_from place operation reply.outcome known next, slice_set knowns place next) =
    ap (λ k. heard_by (record { key = place; operation = operation }) reply.outcome knowns k (slice_get knowns place)) here
    ∙ ap (λ k. heard_by (record { key = place; operation = operation }) reply.outcome knowns (Some key) k) there
    ∙ ap (with_heard (record { key = place; operation = operation }) knowns) (teach_is key reply.outcome known next works learnt) in
    rw (subject, own) taught

-- ---- an answer that is lost

-- the key is looked at again

pub lost_is : (keys : List Key) (knowns : List Knowledge) (place : ℕ) (key : Key) (known : Knowledge) → slice_get keys place ≡ Some key
    → slice_get knowns place ≡ Some known → is_working key known ≡ true → changed_at lost_working keys knowns place ≡ slice_set knowns place (lose known)
lost_is keys knowns place key known here there works =
    let lost : lost_working key known ≡ lose known = rw works refl in
    ap (λ k. changed_by lost_working knowns place k (slice_get knowns place)) here
    ∙ ap (λ k. changed_by lost_working knowns place (Some key) k) there
    ∙ ap (slice_set knowns place) lost

-- as it is where the server has not done what was asked
pub failed_learns : (key : Key) (outcome : Outcome) (known next : Knowledge) → HasFailed outcome → learn key outcome known ≡ Ok next → lose known ≡ next
failed_learns key outcome known next (reason, is) learnt = same_ok (lose known) next (sym (ap (λ o. learn key o known) is) ∙ learnt) where
  ok : Knowledge → Result Knowledge HearFault
  ok x = Ok x

  same_ok : (x y : Knowledge) → ok x ≡ ok y → x ≡ y
  same_ok x y is = cc
