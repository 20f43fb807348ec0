-- What is learnt does not depend on what is asked next, and an answer that is lost changes nothing else.
use Rattle.std.proofs.Common.{◌≡◌, ℕ, zero, suc, Bool, nat_lt, List, [], ◌∷◌, map, Option, Some, None, Result, Ok, Err, slice_set, option_map, sym, ap, refl, ◌∙◌, inl, inr}
use Rattle.std.proofs.lemmas.Bool.{cases_Bool}
use Rattle.std.specs.List.{slice_get}
use Rattle.std.specs.Option.{is_some}
use Rattle.kmip_batch_items.specs.declared.message_fault.MessageFault.{MessageFault}
use Rattle.kmip_messages.specs.Batches.{replies_read}
use Rattle.kmip_objects.specs.declared.attrs.Attrs.{Attrs}
use Rattle.kmip_batch_items.specs.declared.outcome.Outcome.{Outcome}
use Rattle.kmip_batch_items.specs.declared.outcome.Outcome.TheVariants.{Created, Located, Attributes, Activated, Revoked, Destroyed, Failed}
use Rattle.kmip_batch_items.specs.declared.reply.Reply.{Reply}
use Rattle.kmip_objects.specs.declared.step.Step.{Step}
use Rattle.kmip_objects.specs.declared.step.Step.TheVariants as steps
use Rattle.kmip_plan.specs.Chains.{place_of, step_place}
use Rattle.kmip_plan.specs.declared.key.Key.{Key}
use Rattle.kmip_client.specs.Clients.{changed_at, changed_by, lost_working}
use Rattle.kmip_client.specs.Hearing.{has_failed, hear_all, heard_about, heard_by, heard_in, is_other_operation, known_after_each, known_after_reply, subject_of, teach, with_heard, with_news}
use Rattle.kmip_client.specs.Knowledge.{is_working}
use Rattle.kmip_client.specs.Learning.{attributes_learnt, created_learnt, enter, is_known, is_named, is_other, is_planned, learn, located_learnt, place_learnt, raise, state_learnt, step_learnt}
use Rattle.kmip_client.specs.declared.hear_fault.HearFault.{HearFault}
use Rattle.kmip_client.specs.declared.news.News.{News}
use Rattle.kmip_client.specs.declared.knowledge.Knowledge.{Knowledge}
use Rattle.kmip_client.specs.declared.phase.Phase.{Phase}
use Rattle.kmip_client.specs.declared.subject.Subject.{Subject}
use Rattle.kmip_client.specs.Known.{Fact, fact_of, facts, heard, knowns_heard}

-- ---- one key

-- what a lesson leaves, or nothing where it is refused
abbrev fact_learnt : Result Knowledge HearFault → Option Fact
fact_learnt (Ok known) = Some (fact_of known)
fact_learnt (Err fault) = None

abbrev fact_taught : Result (News × Knowledge) HearFault → Option Fact
fact_taught (Ok lesson) = Some (fact_of lesson.1)
fact_taught (Err fault) = None

abbrev in_phase : Phase → Knowledge → Knowledge
in_phase phase known = record known { phase = phase }

raise_blind : (place : ℕ) (known : Knowledge) (phase : Phase) → fact_of (raise place (in_phase phase known)) ≡ fact_of (raise place known)
raise_blind place known phase =
    elim (cases_Bool (nat_lt known.done place)) [
      | inl more ↦ rw more refl
      | inr no_more ↦ rw no_more refl
    ]

enter_blind : (place : ℕ) (known : Knowledge) (phase : Phase) → fact_of (enter place (in_phase phase known)) ≡ fact_of (enter place known)
enter_blind place known phase =
    elim (cases_Bool (nat_lt place known.done)) [
      | inl less ↦ rw less refl
      | inr no_less ↦ rw no_less refl
    ]

place_blind : (place : Option ℕ) (known : Knowledge) (phase : Phase) → fact_of (place_learnt place (in_phase phase known)) ≡ fact_of (place_learnt place known)
place_blind None known phase = refl
place_blind (Some place) known phase = enter_blind place known phase

state_blind : (key : Key) (state : Option ℕ) (known : Knowledge) (phase : Phase)
    → fact_of (state_learnt key state (in_phase phase known)) ≡ fact_of (state_learnt key state known)
state_blind key None known phase = refl
state_blind key (Some state) known phase = place_blind (place_of key.target state) known phase

step_blind : (key : Key) (step : Step) (uid : List ℕ) (known : Knowledge) (phase : Phase)
    → fact_learnt (step_learnt key step uid (in_phase phase known)) ≡ fact_learnt (step_learnt key step uid known)
step_blind key step uid known phase =
    elim (cases_Bool (is_known known.identifier uid)) [
      | inl own ↦ rw own (ap Some (raise_blind (step_place key.target step) known phase))
      | inr other ↦ rw other refl
    ]

attributes_blind : (key : Key) (told : Attrs) (known : Knowledge) (phase : Phase)
    → fact_learnt (attributes_learnt key told (in_phase phase known)) ≡ fact_learnt (attributes_learnt key told known)
attributes_blind key told known phase =
    elim (cases_Bool (is_named key told)) [
      | inl named ↦
          elim (cases_Bool (is_planned key told)) [
            | inl planned ↦ rw (named, planned) (ap Some (state_blind key told.state known phase))
            | inr differs ↦ rw (named, differs) refl
          ]
      | inr other ↦ rw other refl
    ]

created_blind : (uid : List ℕ) (known : Knowledge) (phase : Phase)
    → fact_learnt (created_learnt uid (in_phase phase known)) ≡ fact_learnt (created_learnt uid known)
created_blind uid known phase =
    elim (cases_Bool (is_other known.identifier uid)) [
      | inl other ↦ rw other refl
      | inr own ↦ rw own (ap Some (raise_blind 1 (record known { identifier = Some uid }) phase))
    ]

located_blind : (uids : List (List ℕ)) (known : Knowledge) (phase : Phase)
    → fact_learnt (located_learnt uids (in_phase phase known)) ≡ fact_learnt (located_learnt uids known)
located_blind [] known phase =
    elim (cases_Bool (is_some known.identifier)) [
      | inl some ↦ rw some refl
      | inr none ↦ rw none refl
    ]
located_blind (uid ∷ []) known phase =
    elim (cases_Bool (is_other known.identifier uid)) [
      | inl other ↦ rw other refl
      | inr own ↦
          elim (cases_Bool (is_some known.identifier)) [
            | inl some ↦ rw (own, some) refl
            | inr none ↦ rw (own, none) refl
          ]
    ]
located_blind (uid ∷ other ∷ more) known phase = refl

learn_blind : (key : Key) (outcome : Outcome) (known : Knowledge) (phase : Phase)
    → fact_learnt (learn key outcome (in_phase phase known)) ≡ fact_learnt (learn key outcome known)
learn_blind key (Failed reason) known phase = refl
learn_blind key (Created uid) known phase = created_blind uid known phase
learn_blind key (Located uids) known phase = located_blind uids known phase
learn_blind key (Attributes uid told) known phase =
    elim (cases_Bool (is_known known.identifier uid)) [
      | inl own ↦ rw own (attributes_blind key told known phase)
      | inr other ↦ rw other refl
    ]
learn_blind key (Activated uid) known phase = step_blind key steps.Activate uid known phase
learn_blind key (Revoked uid) known phase = step_blind key steps.Revoke uid known phase
learn_blind key (Destroyed uid) known phase = step_blind key steps.Destroy uid known phase

with_news_is : (failed : Bool) (known : Knowledge) (l : Result Knowledge HearFault) → fact_taught (with_news failed known l) ≡ fact_learnt l
with_news_is failed known (Ok new) = refl
with_news_is failed known (Err fault) = refl

teach_phased : (key : Key) (outcome : Outcome) (known : Knowledge) (phase : Phase)
    → fact_taught (teach key outcome (in_phase phase known)) ≡ fact_taught (teach key outcome known)
teach_phased key outcome known phase =
    elim (cases_Bool (is_working key known)) [
      | inl works ↦
          rw works
          (with_news_is (has_failed outcome) (in_phase phase known) (learn key outcome (in_phase phase known))
          ∙ learn_blind key outcome known phase ∙ sym (with_news_is (has_failed outcome) known (learn key outcome known)))
      | inr settled ↦ rw settled refl
    ]

-- two that differ in the phase alone
phased : (x y : Knowledge) → fact_of x ≡ fact_of y → in_phase y.phase x ≡ y
phased x y same = ap (λ (f : Fact). the_knowledge f y.phase) same
  where
    the_knowledge : Fact → Phase → Knowledge
    the_knowledge f phase = record { identifier = f.identifier; done = f.done; phase = phase; clash = f.clash }

teach_blind : (key : Key) (outcome : Outcome) (x y : Knowledge) → fact_of x ≡ fact_of y → fact_taught (teach key outcome x) ≡ fact_taught (teach key outcome y)
teach_blind key outcome x y same =
    sym (teach_phased key outcome x y.phase) ∙ ap (λ k. fact_taught (teach key outcome k)) (phased x y same)

-- ---- all keys

map_set : {A B : Type 0} (f : A → B) (xs : List A) (place : ℕ) (y : A) → map f (slice_set xs place y) ≡ slice_set (map f xs) place (f y)
map_set f [] place y = refl
map_set f (x ∷ xs) zero y = refl
map_set f (x ∷ xs) (suc place) y = ap (λ zs. f x ∷ zs) (map_set f xs place y)

map_get : {A B : Type 0} (f : A → B) (xs : List A) (place : ℕ) → slice_get (map f xs) place ≡ option_map f (slice_get xs place)
map_get f [] place = refl
map_get f (x ∷ xs) zero = refl
map_get f (x ∷ xs) (suc place) = map_get f xs place

set_same : {A B : Type 0} (f : A → B) (xs : List A) (place : ℕ) (x y : A) → slice_get xs place ≡ Some x → f y ≡ f x → map f (slice_set xs place y) ≡ map f xs
set_same f [] place x y here same = refl
set_same f (a ∷ xs) zero x y here same =
    let own : a ≡ x = cc in
    ap (λ b. b ∷ map f xs) (same ∙ ap f (sym own))
set_same f (a ∷ xs) (suc place) x y here same = ap (λ zs. f a ∷ zs) (set_same f xs place x y here same)

fact_at : (xs ys : List Knowledge) (place : ℕ) → facts xs ≡ facts ys → option_map fact_of (slice_get xs place) ≡ option_map fact_of (slice_get ys place)
fact_at xs ys place same = sym (map_get fact_of xs place) ∙ ap (λ fs. slice_get fs place) same ∙ map_get fact_of ys place

lesson : News × Knowledge → Result (News × Knowledge) HearFault
lesson told = Ok told

set_blind : (xs ys : List Knowledge) (place : ℕ) (x y : Knowledge) → facts xs ≡ facts ys → fact_of x ≡ fact_of y
    → facts (slice_set xs place x) ≡ facts (slice_set ys place y)
set_blind xs ys place x y same one =
    map_set fact_of xs place x ∙ ap (λ fs. slice_set fs place (fact_of x)) same ∙ ap (λ f. slice_set (facts ys) place f) one
    ∙ sym (map_set fact_of ys place y)

some_fact : (x y : Fact) → Some x ≡ Some y → x ≡ y
some_fact x y is = cc

with_heard_blind : (subject : Subject) (xs ys : List Knowledge) (s t : Result (News × Knowledge) HearFault) → facts xs ≡ facts ys → fact_taught s ≡ fact_taught t
    → facts (known_after_reply (with_heard subject xs s) xs) ≡ facts (known_after_reply (with_heard subject ys t) ys)
with_heard_blind subject xs ys (Ok a) (Ok b) same one = set_blind xs ys subject.key a.1 b.1 same (some_fact (fact_of a.1) (fact_of b.1) one)
with_heard_blind subject xs ys (Ok a) (Err fault) same one = absurd cc
with_heard_blind subject xs ys (Err fault) (Ok b) same one = absurd cc
with_heard_blind subject xs ys (Err fault) (Err other) same one = same

heard_by_blind : (subject : Subject) (outcome : Outcome) (xs ys : List Knowledge) (key : Option Key) (x y : Option Knowledge) → facts xs ≡ facts ys
    → option_map fact_of x ≡ option_map fact_of y
    → facts (known_after_reply (heard_by subject outcome xs key x) xs) ≡ facts (known_after_reply (heard_by subject outcome ys key y) ys)
heard_by_blind subject outcome xs ys None x y same one = same
heard_by_blind subject outcome xs ys (Some key) None None same one = same
heard_by_blind subject outcome xs ys (Some key) None (Some y) same one = absurd cc
heard_by_blind subject outcome xs ys (Some key) (Some x) None same one = absurd cc
heard_by_blind subject outcome xs ys (Some key) (Some x) (Some y) same one =
    with_heard_blind subject xs ys (teach key outcome x) (teach key outcome y) same (teach_blind key outcome x y (some_fact (fact_of x) (fact_of y) one))

heard_about_blind : (keys : List Key) (reply : Reply) (subject : Option Subject) (xs ys : List Knowledge) → facts xs ≡ facts ys
    → facts (known_after_reply (heard_about keys reply subject xs) xs) ≡ facts (known_after_reply (heard_about keys reply subject ys) ys)
heard_about_blind keys reply None xs ys same = same
heard_about_blind keys reply (Some subject) xs ys same =
    elim (cases_Bool (is_other_operation reply.operation subject.operation)) [
      | inl other ↦ rw other same
      | inr own ↦
          rw own
          (heard_by_blind subject reply.outcome xs ys (slice_get keys subject.key) (slice_get xs subject.key) (slice_get ys subject.key) same
          (fact_at xs ys subject.key same))
    ]

each_blind : (keys : List Key) (replies : List Reply) (xs ys : List Knowledge) → facts xs ≡ facts ys
    → facts (known_after_each keys replies xs) ≡ facts (known_after_each keys replies ys)
each_blind keys [] xs ys same = same
each_blind keys (reply ∷ replies) xs ys same =
    each_blind keys replies (known_after_reply (heard_in keys reply xs) xs) (known_after_reply (heard_in keys reply ys) ys)
    (heard_about_blind keys reply (subject_of keys reply.id) xs ys same)

all_blind : (keys : List Key) (read : Result (List Reply) MessageFault) (xs ys : List Knowledge) → facts xs ≡ facts ys
    → facts (knowns_heard xs (hear_all keys xs read)) ≡ facts (knowns_heard ys (hear_all keys ys read))
all_blind keys (Ok replies) xs ys same = each_blind keys replies xs ys same
all_blind keys (Err fault) xs ys same = same

pub heard_blind : (keys : List Key) (xs ys : List Knowledge) (answer : Option (List ℕ)) → facts xs ≡ facts ys
    → facts (heard keys xs answer) ≡ facts (heard keys ys answer)
heard_blind keys xs ys None same = same
heard_blind keys xs ys (Some bytes) same = all_blind keys (replies_read bytes) xs ys same

-- ---- an answer that is lost

lost_one : (key : Key) (known : Knowledge) → fact_of (lost_working key known) ≡ fact_of known
lost_one key known =
    elim (cases_Bool (is_working key known)) [
      | inl works ↦ rw works refl
      | inr settled ↦ rw settled refl
    ]

changed_lost : (knowns : List Knowledge) (place : ℕ) (key : Option Key) (known : Option Knowledge) → slice_get knowns place ≡ known
    → facts (changed_by lost_working knowns place key known) ≡ facts knowns
changed_lost knowns place None known here = refl
changed_lost knowns place (Some key) None here = refl
changed_lost knowns place (Some key) (Some known) here = set_same fact_of knowns place known (lost_working key known) here (lost_one key known)

pub lost_facts : (keys : List Key) (knowns : List Knowledge) (place : ℕ) → facts (changed_at lost_working keys knowns place) ≡ facts knowns
lost_facts keys knowns place = changed_lost knowns place (slice_get keys place) (slice_get knowns place) refl
