-- What was heard is about one key of the plan, whose name stands in the reply's id.
use Rattle.std.proofs.Common.{◌≡◌, ℕ, true, false, List, [], ◌∷◌, is_some, Option, Some, None, Result, Ok, Err, slice_set, subst, refl, sym, ap, ◌∙◌, ◌⊎◌, inl, inr}
use Rattle.std.specs.List.{slice_get}
use Rattle.std.specs.Option.{option_and_then, option_map_or}
use Rattle.std.proofs.lemmas.Bool.{cases_Bool}
use Rattle.std.proofs.lemmas.List.Quantifiers.{position-Some}
use Rattle.std.proofs.lemmas.Option.{get_or_from_slice_get}
use Rattle.std.proofs.lemmas.Slice.Eq.{bytes_eq-Decides}
use Rattle.kmip_batch_items.specs.declared.outcome.Outcome.{Outcome}
use Rattle.kmip_batch_items.specs.declared.reply.Reply.{Reply}
use Rattle.kmip_plan.specs.TargetWords.{is_text}
use Rattle.kmip_plan.specs.declared.key.Key.{Key}
use Rattle.kmip_client.specs.Knowledge.{is_working}
use Rattle.kmip_client.specs.Learning.{learn}
use Rattle.kmip_client.specs.declared.hear_fault.HearFault.{HearFault}
use Rattle.kmip_client.specs.declared.hear_fault.HearFault.TheVariants as faults
use Rattle.kmip_client.specs.declared.knowledge.Knowledge.{Knowledge}
use Rattle.kmip_client.specs.declared.heard.Heard.{Heard}
use Rattle.kmip_client.specs.declared.news.News.{News}
use Rattle.kmip_client.specs.declared.news.News.TheVariants as news
use Rattle.kmip_client.specs.Hearing.{has_failed, heard_about, heard_by, heard_in, is_asked_of, is_other_operation, news_of, place_named, subject_at, subject_of, teach, with_heard, with_news}

-- a key that was worked on learnt the outcome, and another one nothing
abbrev pub WasTaught : Key → Outcome → Knowledge → Knowledge → Type 0
WasTaught key outcome known new = ((is_working key known ≡ true) × (learn key outcome known ≡ Ok new)) ⊎ (new ≡ known)

-- The key that was heard about, what was known of it and what is known now.
pub record WasHeard (keys : List Key) (reply : Reply) (knowns : List Knowledge) (heard : Heard) (nexts : List Knowledge) : Type 0 where
  pub key : Key
  pub known : Knowledge
  pub new : Knowledge
  pub operation : ℕ
  pub key_is : slice_get keys heard.key ≡ Some key
  pub known_is : slice_get knowns heard.key ≡ Some known
  pub id_is : reply.id ≡ Some (operation ∷ key.attrs.name)
  pub taught : WasTaught key reply.outcome known new
  pub all : nexts ≡ slice_set knowns heard.key new

-- ---- what it taught

abbrev pair : News × Knowledge → Result (News × Knowledge) HearFault
pair x = Ok x

same_pair : (x y : News × Knowledge) → pair x ≡ pair y → x ≡ y
same_pair x y is = cc

not_pair : {X : Type 0} (fault : HearFault) (y : News × Knowledge) → Err fault ≡ pair y → X
not_pair fault y is = absurd cc

learnt_by : (key : Key) (outcome : Outcome) (known new : Knowledge) (told : News) (l : Result Knowledge HearFault) → is_working key known ≡ true
    → learn key outcome known ≡ l → with_news (has_failed outcome) known l ≡ pair (told, new) → WasTaught key outcome known new
learnt_by key outcome known new told (Err fault) works is said = not_pair fault (told, new) said
learnt_by key outcome known new told (Ok next) works is said =
    let same : next ≡ new = ap (λ (p : News × Knowledge). p.1) (same_pair (news_of (has_failed outcome) (is_some known.identifier) known.done next, next) (told, new) said) in
    inl (works, is ∙ ap (λ (k : Knowledge). Ok k) same)

was_taught : (key : Key) (outcome : Outcome) (known new : Knowledge) (told : News) → teach key outcome known ≡ pair (told, new)
    → WasTaught key outcome known new
was_taught key outcome known new told is = elim (cases_Bool (is_working key known)) [
  | inl works ↦ learnt_by key outcome known new told (learn key outcome known) works refl (rw works at is)
  | inr settled ↦ inr (sym (ap (λ (p : News × Knowledge). p.1) (same_pair (news.Same, known) (told, new) (rw settled at is))))
]

-- ---- what was heard

abbrev pub ok : Heard × List Knowledge → Result (Heard × List Knowledge) HearFault
ok x = Ok x

same_heard : (x y : Heard × List Knowledge) → ok x ≡ ok y → x ≡ y
same_heard x y is = cc

not_heard : {X : Type 0} (fault : HearFault) (y : Heard × List Knowledge) → Err fault ≡ ok y → X
not_heard fault y is = absurd cc

heard_once : (keys : List Key) (reply : Reply) (knowns : List Knowledge) (place operation : ℕ) (key : Key) (known : Knowledge)
    (t : Result (News × Knowledge) HearFault) (heard : Heard) (nexts : List Knowledge) → slice_get keys place ≡ Some key → slice_get knowns place ≡ Some known
    → reply.id ≡ Some (operation ∷ key.attrs.name) → teach key reply.outcome known ≡ t
    → with_heard (record { key = place; operation = operation }) knowns t ≡ ok (heard, nexts) → WasHeard keys reply knowns heard nexts
heard_once keys reply knowns place operation key known (Err fault) heard nexts here there id teaches is = not_heard fault (heard, nexts) is
heard_once keys reply knowns place operation key known (Ok (told, new)) heard nexts here there id teaches is =
    let same = same_heard (record { key = place; operation = operation; news = told }, slice_set knowns place new) (heard, nexts) is in
    let at : place ≡ heard.key = ap (λ (p : Heard × List Knowledge). p.0.key) same in
    record {
      key = key;
      known = known;
      new = new;
      operation = operation;
      key_is = subst (λ p. slice_get keys p ≡ Some key) at here;
      known_is = subst (λ p. slice_get knowns p ≡ Some known) at there;
      id_is = id;
      taught = was_taught key reply.outcome known new told teaches;
      all = subst (λ p. nexts ≡ slice_set knowns p new) at (sym (ap (λ (p : Heard × List Knowledge). p.1) same));
    }

named_at : (keys : List Key) (name : List ℕ) (place : ℕ) (key : Key) → place_named name keys ≡ Some place → slice_get keys place ≡ Some key → name ≡ key.attrs.name
named_at keys name place key is here =
    let passes = (position-Some (λ (k : Key). is_text name k.attrs.name) keys place key is).1 in
    (bytes_eq-Decides name key.attrs.name).0 (ap (λ (k : Key). is_text name k.attrs.name) (sym (get_or_from_slice_get keys place key key here)) ∙ passes)

heard_there : (keys : List Key) (reply : Reply) (knowns : List Knowledge) (place operation : ℕ) (name : List ℕ) (key : Option Key) (known : Option Knowledge)
    (heard : Heard) (nexts : List Knowledge) → slice_get keys place ≡ key → slice_get knowns place ≡ known
    → reply.id ≡ Some (operation ∷ name) → place_named name keys ≡ Some place
    → heard_by (record { key = place; operation = operation }) reply.outcome knowns key known ≡ ok (heard, nexts) → WasHeard keys reply knowns heard nexts
heard_there keys reply knowns place operation name None known heard nexts here there id named is = not_heard faults.StrangerId (heard, nexts) is
heard_there keys reply knowns place operation name (Some key) None heard nexts here there id named is = not_heard faults.StrangerId (heard, nexts) is
heard_there keys reply knowns place operation name (Some key) (Some known) heard nexts here there id named is =
    heard_once keys reply knowns place operation key known (teach key reply.outcome known) heard nexts here there
    (id ∙ ap (λ n. Some (operation ∷ n)) (named_at keys name place key named here)) refl is

heard_place : (keys : List Key) (reply : Reply) (knowns : List Knowledge) (operation : ℕ) (name : List ℕ) (place : Option ℕ) (heard : Heard) (nexts : List Knowledge)
    → reply.id ≡ Some (operation ∷ name) → place_named name keys ≡ place
    → heard_about keys reply (option_and_then (λ p. subject_at keys operation p) place) knowns ≡ ok (heard, nexts) → WasHeard keys reply knowns heard nexts
heard_place keys reply knowns operation name None heard nexts id named is = not_heard faults.StrangerId (heard, nexts) is
heard_place keys reply knowns operation name (Some place) heard nexts id named is =
    elim (cases_Bool (option_map_or (λ key. is_asked_of key operation) (slice_get keys place) false)) [
      | inl asked ↦ elim (cases_Bool (is_other_operation reply.operation operation)) [
        | inl other ↦ not_heard faults.WrongOperation (heard, nexts) (rw (asked, other) at is)
        | inr own ↦
            heard_there keys reply knowns place operation name (slice_get keys place) (slice_get knowns place) heard nexts refl refl id named (rw (asked, own) at is)
      ]
      | inr none ↦ not_heard faults.StrangerId (heard, nexts) (rw none at is)
    ]

heard_id : (keys : List Key) (reply : Reply) (knowns : List Knowledge) (id : Option (List ℕ)) (heard : Heard) (nexts : List Knowledge) → reply.id ≡ id
    → heard_about keys reply (subject_of keys id) knowns ≡ ok (heard, nexts) → WasHeard keys reply knowns heard nexts
heard_id keys reply knowns None heard nexts id is = not_heard faults.StrangerId (heard, nexts) is
heard_id keys reply knowns (Some []) heard nexts id is = not_heard faults.StrangerId (heard, nexts) is
heard_id keys reply knowns (Some (operation ∷ name)) heard nexts id is =
    heard_place keys reply knowns operation name (place_named name keys) heard nexts id refl is

pub was_heard : (keys : List Key) (reply : Reply) (knowns : List Knowledge) (heard : Heard) (nexts : List Knowledge)
    → heard_in keys reply knowns ≡ ok (heard, nexts) → WasHeard keys reply knowns heard nexts
was_heard keys reply knowns heard nexts is = heard_id keys reply knowns reply.id heard nexts refl is
