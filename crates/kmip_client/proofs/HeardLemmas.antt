-- What was heard is about one key of the plan, whose name stands in the reply's id.
use Rattle.std.proofs.Common.{◌≡◌, ◌≢◌, ℕ, zero, suc, ◌+◌, ◌≤◌, ◌<◌, Bool, true, false, not, nat_lt, List, [], ◌∷◌, Option, Some, None, Result, Ok, Err, slice_set, subst, refl, sym, ap, ◌∙◌, ◌⊎◌, inl, inr, arith, IfOk, OnErr, if◌then◌else◌}
use Rattle.std.proofs.lemmas.Bool.{cases_Bool, and_parts, ltb-true}
use Rattle.std.proofs.lemmas.Iterator.Adapters.{position_from-zero}
use Rattle.std.specs.List.{AllZip, slice_get, position_from, find}
use Rattle.std.specs.Option.{is_some, option_map_or, option_and_then}
use Rattle.kmip_batch_items.specs.Fits.{outcome_fits}
use Rattle.kmip_batch_items.specs.declared.outcome.Outcome.{Outcome}
use Rattle.kmip_batch_items.specs.declared.reply.Reply.{Reply}
use Rattle.kmip_plan.specs.ChainLaws.{StepsAreWithin, PlacesAreWithin}
use Rattle.kmip_plan.specs.Plans.{key_named}
use Rattle.kmip_plan.specs.TargetWords.{is_text}
use Rattle.kmip_plan.specs.declared.key.Key.{Key}
use Rattle.kmip_client.specs.declared.clash.Clash.{Clash}
use Rattle.kmip_client.specs.declared.hear_fault.HearFault.{HearFault}
use Rattle.kmip_client.specs.declared.hear_fault.HearFault.TheVariants as faults
use Rattle.kmip_client.specs.declared.heard.Heard.{Heard}
use Rattle.kmip_client.specs.declared.news.News.{News}
use Rattle.kmip_client.specs.declared.news.News.TheVariants as news
use Rattle.kmip_client.specs.declared.knowledge.Knowledge.{Knowledge}
use Rattle.kmip_client.specs.declared.subject.Subject.{Subject}
use Rattle.kmip_client.specs.Clients.{changed_at, changed_by, lost_working, one_if, working_count, verdict_at, VerdictsStay}
use Rattle.kmip_client.specs.declared.verdict.Verdict.TheVariants.{Working}
use Rattle.kmip_client.specs.Hearing.{is_asked_of, place_named, subject_at, subject_of, is_other_operation, has_failed, news_of, with_news, teach, with_heard, heard_by, heard_about, heard_in}
use Rattle.kmip_client.specs.Knowledge.{chain_length, is_working, verdict_of}
use Rattle.kmip_client.specs.Learning.{learn}
use Rattle.kmip_client.specs.Private.{IsShaped, AreShaped}
use Rattle.kmip_client.specs.Shapes.{IsKept}
use Rattle.kmip_client.proofs.ClientLemmas.{at_both, set_both}
use Rattle.kmip_client.proofs.CountLemmas.{stay_with, count_with, not_working}
use Rattle.kmip_client.proofs.LearningLemmas.{GoesOn, kept_itself, learn_goes_on}

-- ---- the key with the name

same_place : (x y : ℕ) → Some x ≡ Some y → x ≡ y
same_place x y is = cc

same_subject : (x y : Subject) → Some x ≡ Some y → x ≡ y
same_subject x y is = cc

above : {A : Type 0} (p : A → Bool) (from : ℕ) (xs : List A) (place : ℕ) → position_from p from xs ≡ Some place → from ≤ place
above p from [] place is = absurd cc
above p from (a ∷ xs) place is =
    elim (cases_Bool (p a)) [
      | inl first ↦
          let here : from ≡ place = same_place from place (rw first at is) in
          omega arith
      | inr other ↦ omega (arith, above p (from + 1) xs place (rw other at is))
    ]

found_first : {A : Type 0} (p : A → Bool) (from : ℕ) (xs : List A) (first place : ℕ) (x : A) → position_from p from xs ≡ Some first → first ≡ from + place
    → slice_get xs place ≡ Some x → find p xs ≡ Some x
found_first p from [] first place x is sum here = absurd cc
found_first p from (a ∷ xs) first zero x is sum here =
    elim (cases_Bool (p a)) [
      | inl own ↦ rw own here
      | inr other ↦ absurd (omega (arith, above p (from + 1) xs first (rw other at is)))
    ]
found_first p from (a ∷ xs) first (suc place) x is sum here =
    elim (cases_Bool (p a)) [
      | inl own ↦ absurd (omega (arith, same_place from first (rw own at is)))
      | inr other ↦ rw other (found_first p (from + 1) xs first place x (rw other at is) (omega arith) here)
    ]

-- the reply's id is an operation and the name of the key
abbrev pub IsFor : List Key → Option (List ℕ) → Key → Type 0
IsFor keys id key = (operation : ℕ) × (name : List ℕ) × (id ≡ Some (operation ∷ name)) × (key_named name keys ≡ Some key)

subject_key : (place operation : ℕ) (asked : Bool) (subject : Subject)
    → (if asked then Some (record { key = place; operation = operation }) else None) ≡ Some subject → subject.key ≡ place
subject_key place operation true subject is = sym (ap (λ (s : Subject). s.key) (same_subject (record { key = place; operation = operation }) subject is))
subject_key place operation false subject is = absurd cc

for_name : (keys : List Key) (operation : ℕ) (name : List ℕ) (place : Option ℕ) (subject : Subject) (key : Key) → place_named name keys ≡ place
    → option_and_then (λ p. subject_at keys operation p) place ≡ Some subject → slice_get keys subject.key ≡ Some key → key_named name keys ≡ Some key
for_name keys operation name None subject key stands is here = absurd cc
for_name keys operation name (Some place) subject key stands is here =
    let own : subject.key ≡ place = subject_key place operation (option_map_or (λ k. is_asked_of k operation) (slice_get keys place) false) subject is in
    let from : place ≡ 0 + place = omega arith in
    found_first (λ (k : Key). is_text name k.attrs.name) 0 keys place place key
    (sym (position_from-zero (λ (k : Key). is_text name k.attrs.name) keys) ∙ stands) from (subst (λ p. slice_get keys p ≡ Some key) own here)

for_id : (keys : List Key) (id : Option (List ℕ)) (subject : Subject) (key : Key) → subject_of keys id ≡ Some subject → slice_get keys subject.key ≡ Some key
    → IsFor keys id key
for_id keys None subject key is here = absurd cc
for_id keys (Some []) subject key is here = absurd cc
for_id keys (Some (operation ∷ name)) subject key is here = (operation, name, refl, for_name keys operation name (place_named name keys) subject key refl is here)

-- ---- what was heard

-- the key that was heard about, what was known of it and what is known now
pub record WasHeard (keys : List Key) (reply : Reply) (knowns : List Knowledge) (heard : Heard) (nexts : List Knowledge) : Type 0 where
  pub key : Key
  pub known : Knowledge
  pub new : Knowledge
  pub key_is : slice_get keys heard.key ≡ Some key
  pub known_is : slice_get knowns heard.key ≡ Some known
  pub for_it : IsFor keys reply.id key
  pub teaches : teach key reply.outcome known ≡ Ok (heard.news, new)
  pub all : nexts ≡ slice_set knowns heard.key new

abbrev ok : Heard × List Knowledge → Result (Heard × List Knowledge) HearFault
ok x = Ok x

same_heard : (x y : Heard × List Knowledge) → ok x ≡ ok y → x ≡ y
same_heard x y is = cc

not_heard : {X : Type 0} (fault : HearFault) (y : Heard × List Knowledge) → Err fault ≡ ok y → X
not_heard fault y is = absurd cc

heard_once : (keys : List Key) (reply : Reply) (subject : Subject) (knowns : List Knowledge) (key : Key) (known : Knowledge) (t : Result (News × Knowledge) HearFault)
    (heard : Heard) (nexts : List Knowledge) → subject_of keys reply.id ≡ Some subject → slice_get keys subject.key ≡ Some key → slice_get knowns subject.key ≡ Some known
    → teach key reply.outcome known ≡ t → with_heard subject knowns t ≡ ok (heard, nexts) → WasHeard keys reply knowns heard nexts
heard_once keys reply subject knowns key known (Err fault) heard nexts about here there teaches is = not_heard fault (heard, nexts) is
heard_once keys reply subject knowns key known (Ok (news, new)) heard nexts about here there teaches is =
    let same = same_heard (record { key = subject.key; operation = subject.operation; news = news }, slice_set knowns subject.key new) (heard, nexts) is in
    let place : subject.key ≡ heard.key = ap (λ (p : Heard × List Knowledge). p.0.key) same in
    let told : news ≡ heard.news = ap (λ (p : Heard × List Knowledge). p.0.news) same in
    record {
      key = key;
      known = known;
      new = new;
      key_is = subst (λ p. slice_get keys p ≡ Some key) place here;
      known_is = subst (λ p. slice_get knowns p ≡ Some known) place there;
      for_it = for_id keys reply.id subject key about here;
      teaches = subst (λ n. teach key reply.outcome known ≡ Ok (n, new)) told teaches;
      all = subst (λ p. nexts ≡ slice_set knowns p new) place (sym (ap (λ (p : Heard × List Knowledge). p.1) same));
    }

heard_there : (keys : List Key) (reply : Reply) (subject : Subject) (knowns : List Knowledge) (key : Option Key) (known : Option Knowledge)
    (heard : Heard) (nexts : List Knowledge) → subject_of keys reply.id ≡ Some subject → slice_get keys subject.key ≡ key → slice_get knowns subject.key ≡ known
    → heard_by subject reply.outcome knowns key known ≡ ok (heard, nexts) → WasHeard keys reply knowns heard nexts
heard_there keys reply subject knowns None known heard nexts about here there is = not_heard faults.StrangerId (heard, nexts) is
heard_there keys reply subject knowns (Some key) None heard nexts about here there is = not_heard faults.StrangerId (heard, nexts) is
heard_there keys reply subject knowns (Some key) (Some known) heard nexts about here there is =
    heard_once keys reply subject knowns key known (teach key reply.outcome known) heard nexts about here there refl is

heard_of : (keys : List Key) (reply : Reply) (subject : Option Subject) (knowns : List Knowledge) (heard : Heard) (nexts : List Knowledge)
    → subject_of keys reply.id ≡ subject → heard_about keys reply subject knowns ≡ ok (heard, nexts) → WasHeard keys reply knowns heard nexts
heard_of keys reply None knowns heard nexts about is = not_heard faults.StrangerId (heard, nexts) is
heard_of keys reply (Some subject) knowns heard nexts about is =
    elim (cases_Bool (is_other_operation reply.operation subject.operation)) [
      | inl other ↦ not_heard faults.WrongOperation (heard, nexts) (rw other at is)
      | inr own ↦ heard_there keys reply subject knowns (slice_get keys subject.key) (slice_get knowns subject.key) heard nexts about refl refl (rw own at is)
    ]

pub was_heard : (keys : List Key) (reply : Reply) (knowns : List Knowledge) (heard : Heard) (nexts : List Knowledge)
    → heard_in keys reply knowns ≡ ok (heard, nexts) → WasHeard keys reply knowns heard nexts
was_heard keys reply knowns heard nexts is = heard_of keys reply (subject_of keys reply.id) knowns heard nexts refl is

-- ---- what it taught

abbrev pair : News × Knowledge → Result (News × Knowledge) HearFault
pair x = Ok x

same_pair : (x y : News × Knowledge) → pair x ≡ pair y → x ≡ y
same_pair x y is = cc

not_pair : {X : Type 0} (fault : HearFault) (y : News × Knowledge) → Err fault ≡ pair y → X
not_pair fault y is = absurd cc

-- a key that was worked on learnt the outcome, and another one nothing
abbrev pub WasTaught : Key → Outcome → Knowledge → Knowledge → Type 0
WasTaught key outcome known new = ((is_working key known ≡ true) × (learn key outcome known ≡ Ok new)) ⊎ (known ≡ new)

learnt_by : (key : Key) (outcome : Outcome) (known new : Knowledge) (told : News) (l : Result Knowledge HearFault) → is_working key known ≡ true
    → learn key outcome known ≡ l → with_news (has_failed outcome) known l ≡ pair (told, new) → WasTaught key outcome known new
learnt_by key outcome known new told (Err fault) works is said = not_pair fault (told, new) said
learnt_by key outcome known new told (Ok next) works is said =
    let same : next ≡ new = ap (λ (p : News × Knowledge). p.1) (same_pair (news_of (has_failed outcome) (is_some known.identifier) known.done next, next) (told, new) said) in
    inl (works, is ∙ ap (λ (k : Knowledge). Ok k) same)

pub was_taught : (key : Key) (outcome : Outcome) (known new : Knowledge) (told : News) → teach key outcome known ≡ pair (told, new)
    → WasTaught key outcome known new
was_taught key outcome known new told is =
    elim (cases_Bool (is_working key known)) [
      | inl works ↦ learnt_by key outcome known new told (learn key outcome known) works refl (rw works at is)
      | inr settled ↦ inr (ap (λ (p : News × Knowledge). p.1) (same_pair (news.Same, known) (told, new) (rw settled at is)))
    ]

-- ---- whatever learning keeps of one key hearing keeps of all

pub heard_keeps : (R : Key → Knowledge → Type 0) (keys : List Key) (reply : Reply) (knowns : List Knowledge) (heard : Heard) (nexts : List Knowledge)
    → ((key : Key) (known new : Knowledge) → IsFor keys reply.id key → is_working key known ≡ true → learn key reply.outcome known ≡ Ok new → R key known → R key new)
    → AllZip R keys knowns → heard_in keys reply knowns ≡ ok (heard, nexts) → AllZip R keys nexts
heard_keeps R keys reply knowns heard nexts keep each is =
    let h = was_heard keys reply knowns heard nexts is in
    let before = at_both R keys knowns heard.key h.key h.known each h.key_is h.known_is in
    let after : R h.key h.new = elim (was_taught h.key reply.outcome h.known h.new heard.news h.teaches) [
      | inl learnt ↦ keep h.key h.known h.new h.for_it learnt.0 learnt.1 before
      | inr same ↦ subst (λ k. R h.key k) same before
    ] in
    subst (λ ks. AllZip R keys ks) (sym h.all) (set_both R keys knowns heard.key h.key h.new each h.key_is after)

-- ---- the shape, and what is kept

working_clash : (clash : Option Clash) → not (is_some clash) ≡ true → clash ≡ None
working_clash None h = refl
working_clash (Some clash) h = absurd cc

pub working_parts : (key : Key) (known : Knowledge) → is_working key known ≡ true → (known.done < chain_length key) × (known.clash ≡ None)
working_parts key known works =
    let parts = and_parts (nat_lt known.done (chain_length key)) (not (is_some known.clash)) works in
    (ltb-true known.done (chain_length key) parts.0, working_clash known.clash parts.1)

learnt_goes_on : (key : Key) (reply : Reply) (known new : Knowledge) → StepsAreWithin → PlacesAreWithin → outcome_fits reply.operation reply.outcome ≡ true
    → is_working key known ≡ true → learn key reply.outcome known ≡ Ok new → IsShaped key known → GoesOn key known new
learnt_goes_on key reply known new steps_in places_in fits works is shaped =
    let parts = working_parts key known works in
    learn_goes_on key reply.operation reply.outcome known new steps_in places_in shaped parts.1 parts.0 fits is

pub heard_shaped : (keys : List Key) (reply : Reply) (knowns : List Knowledge) (heard : Heard) (nexts : List Knowledge) → StepsAreWithin → PlacesAreWithin
    → outcome_fits reply.operation reply.outcome ≡ true → AllZip IsShaped keys knowns → heard_in keys reply knowns ≡ ok (heard, nexts) → AllZip IsShaped keys nexts
heard_shaped keys reply knowns heard nexts steps_in places_in fits each is =
    heard_keeps IsShaped keys reply knowns heard nexts
    (λ key known new about works learnt shaped. (learnt_goes_on key reply known new steps_in places_in fits works learnt shaped).0) each is

pub all_kept : (knowns : List Knowledge) → AllZip IsKept knowns knowns
all_kept [] = tt
all_kept (known ∷ knowns) = (kept_itself known, all_kept knowns)

-- so it is where an answer is lost
lost_one : (key : Key) (known : Knowledge) → IsKept known (lost_working key known)
lost_one key known =
    elim (cases_Bool (is_working key known)) [
      | inl working ↦ rw working (record { identifier_kept = λ uid is. is; done_kept = omega arith })
      | inr settled ↦ rw settled (kept_itself known)
    ]

changed_kept : (knowns : List Knowledge) (place : ℕ) (key : Option Key) (known : Option Knowledge) → slice_get knowns place ≡ known
    → AllZip IsKept knowns (changed_by lost_working knowns place key known)
changed_kept knowns place None known there = all_kept knowns
changed_kept knowns place (Some key) None there = all_kept knowns
changed_kept knowns place (Some key) (Some known) there =
    set_both IsKept knowns knowns place known (lost_working key known) (all_kept knowns) there (lost_one key known)

pub lost_kept : (keys : List Key) (knowns : List Knowledge) (place : ℕ) → AllZip IsKept knowns (changed_at lost_working keys knowns place)
lost_kept keys knowns place = changed_kept knowns place (slice_get keys place) (slice_get knowns place) refl

pub heard_kept : (keys : List Key) (reply : Reply) (knowns : List Knowledge) (heard : Heard) (nexts : List Knowledge) → StepsAreWithin → PlacesAreWithin
    → outcome_fits reply.operation reply.outcome ≡ true → AllZip IsShaped keys knowns → heard_in keys reply knowns ≡ ok (heard, nexts) → AllZip IsKept knowns nexts
heard_kept keys reply knowns heard nexts steps_in places_in fits each is =
    let h = was_heard keys reply knowns heard nexts is in
    let before = at_both IsShaped keys knowns heard.key h.key h.known each h.key_is h.known_is in
    let after : IsKept h.known h.new = elim (was_taught h.key reply.outcome h.known h.new heard.news h.teaches) [
      | inl learnt ↦ (learnt_goes_on h.key reply h.known h.new steps_in places_in fits learnt.0 learnt.1 before).1
      | inr same ↦ subst (λ k. IsKept h.known k) same (kept_itself h.known)
    ] in
    subst (λ ks. AllZip IsKept knowns ks) (sym h.all) (set_both IsKept knowns knowns heard.key h.known h.new (all_kept knowns) h.known_is after)

-- ---- after a call that may have been refused

pub heard_view : (keys ks : List Key) (reply : Reply) (s : Option Subject) (knowns : List Knowledge) (heard : Heard) (nexts : List Knowledge) → ks ≡ keys
    → s ≡ subject_of ks reply.id → heard_about ks reply s knowns ≡ ok (heard, nexts) → heard_in keys reply knowns ≡ ok (heard, nexts)
heard_view keys ks reply s knowns heard nexts same about is =
    subst (λ k. heard_in k reply knowns ≡ ok (heard, nexts)) same (subst (λ x. heard_about ks reply x knowns ≡ ok (heard, nexts)) about is)

pub shaped_after : (keys ks : List Key) (reply : Reply) (s : Option Subject) (knowns nexts : List Knowledge) (next working left : ℕ) (r : Result Heard HearFault)
    → StepsAreWithin → PlacesAreWithin → outcome_fits reply.operation reply.outcome ≡ true → ks ≡ keys → s ≡ subject_of ks reply.id
    → AreShaped keys knowns next working → IfOk r (λ heard. heard_about ks reply s knowns ≡ Ok (heard, nexts)) → OnErr r (nexts ≡ knowns)
    → left ≡ working_count ks nexts → AreShaped keys nexts next left
shaped_after keys ks reply s knowns nexts next working left (Ok heard) steps_in places_in fits same about shaped is kept counted = record {
  lawful = shaped.lawful;
  each = heard_shaped keys reply knowns heard nexts steps_in places_in fits shaped.each (heard_view keys ks reply s knowns heard nexts same about is);
  turn = shaped.turn;
  counted = subst (λ k. left ≡ working_count k nexts) same counted;
}
shaped_after keys ks reply s knowns nexts next working left (Err fault) steps_in places_in fits same about shaped is kept counted = record {
  lawful = shaped.lawful;
  each = subst (λ k. AllZip IsShaped keys k) (sym kept) shaped.each;
  turn = shaped.turn;
  counted = subst (λ k. left ≡ working_count k nexts) same counted;
}

pub kept_after : (keys ks : List Key) (reply : Reply) (s : Option Subject) (knowns nexts : List Knowledge) (next working : ℕ) (r : Result Heard HearFault)
    → StepsAreWithin → PlacesAreWithin → outcome_fits reply.operation reply.outcome ≡ true → ks ≡ keys → s ≡ subject_of ks reply.id
    → AreShaped keys knowns next working → IfOk r (λ heard. heard_about ks reply s knowns ≡ Ok (heard, nexts)) → OnErr r (nexts ≡ knowns)
    → AllZip IsKept knowns nexts
kept_after keys ks reply s knowns nexts next working (Ok heard) steps_in places_in fits same about shaped is kept =
    heard_kept keys reply knowns heard nexts steps_in places_in fits shaped.each (heard_view keys ks reply s knowns heard nexts same about is)
kept_after keys ks reply s knowns nexts next working (Err fault) steps_in places_in fits same about shaped is kept =
    subst (λ k. AllZip IsKept knowns k) (sym kept) (all_kept knowns)

-- ---- a verdict that stands, and the count

taught_stays : (key : Key) (outcome : Outcome) (known new : Knowledge) → WasTaught key outcome known new → verdict_of key known ≢ Working
    → verdict_of key new ≡ verdict_of key known
taught_stays key outcome known new (inl learnt) settled = absurd (settled (not_working key known learnt.0))
taught_stays key outcome known new (inr same) settled = ap (λ k. verdict_of key k) (sym same)

pub stays_after : (keys ks : List Key) (reply : Reply) (s : Option Subject) (knowns nexts : List Knowledge) (r : Result Heard HearFault) → ks ≡ keys
    → s ≡ subject_of ks reply.id → IfOk r (λ heard. heard_about ks reply s knowns ≡ Ok (heard, nexts)) → OnErr r (nexts ≡ knowns) → VerdictsStay keys knowns nexts
stays_after keys ks reply s knowns nexts (Ok heard) same about is kept =
    let h = was_heard keys reply knowns heard nexts (heard_view keys ks reply s knowns heard nexts same about is) in
    subst (λ ks. VerdictsStay keys knowns ks) (sym h.all)
    (stay_with keys knowns heard.key h.key h.known h.new h.key_is h.known_is
    (taught_stays h.key reply.outcome h.known h.new (was_taught h.key reply.outcome h.known h.new heard.news h.teaches)))
stays_after keys ks reply s knowns nexts (Err fault) same about is kept = λ place settled. ap (λ k. verdict_at keys k place) kept

-- what is put where it stood changes nothing
pub put_again : {A : Type 0} (xs : List A) (place : ℕ) (x y : A) → slice_get xs place ≡ Some x → y ≡ x → slice_set xs place y ≡ xs
put_again [] place x y here same = refl
put_again (a ∷ xs) zero x y here same =
    let own : a ≡ x = cc in
    ap (λ b. b ∷ xs) (same ∙ sym own)
put_again (a ∷ xs) (suc place) x y here same = ap (λ zs. a ∷ zs) (put_again xs place x y here same)

-- the count after the one key was taught
pub count_after : (keys : List Key) (knowns : List Knowledge) (place working left : ℕ) (key : Key) (known new : Knowledge)
    → slice_get keys place ≡ Some key → slice_get knowns place ≡ Some known → working ≡ working_count keys knowns
    → left + one_if (is_working key known) ≡ working + one_if (is_working key new) → left ≡ working_count keys (slice_set knowns place new)
count_after keys knowns place working left key known new here there counted taught =
    omega (arith, count_with keys knowns place key known new here there, counted, taught)
