-- What is sound for a plan is sound for each that prolongs it.
use Rattle.std.proofs.Common.{◌≡◌, ◌≤◌, ℕ, true, false, List, [], ◌∷◌, length, take, is_some, Option, Some, None, refl}
use Rattle.std.proofs.Common.{sym, ap, subst, ◌∙◌, inl, inr, arith}
use Rattle.std.proofs.lemmas.List.{length-take-le, take-take}
use Rattle.std.proofs.lemmas.List.Elements.{All-contains, All-weaker}
use Rattle.std.proofs.lemmas.Option.{same_Some}
use Rattle.kmip_objects.specs.Objects.{Object, object_named}
use Rattle.kmip_objects.specs.States.{state_number}
use Rattle.kmip_batch_items.specs.declared.reply.Reply.{Reply}
use Rattle.kmip_batch_items.specs.declared.request.Request.{Request}
use Rattle.kmip_plan.specs.Chains.{chain, or_zero, place_of, place_reached}
use Rattle.kmip_plan.specs.Laws.{FoundKeysStand}
use Rattle.kmip_plan.specs.Plans.{IsLawful, IsPlanned, key_fits, key_named}
use Rattle.kmip_plan.specs.Prolonging.{GoesOn, Prolongs}
use Rattle.kmip_plan.specs.Chains.{LeadsOn}
use Rattle.kmip_plan.specs.declared.key.Key.{Key}
use Rattle.kmip_plan.specs.declared.target.Target.{Target}
use Rattle.kmip_client.specs.Places.{position}
use Rattle.kmip_client.specs.Truth.{TrueOutcome}
use Rattle.kmip_protocol.specs.PrivateLawbook.{Lawbook}
use Rattle.kmip_protocol.specs.Past.{Past, steps_on, is_planned, AreAmong}
use Rattle.kmip_protocol.specs.Sound.{IsHarmless, IsObjectOf, NoneIsFurther, Sound, TrueAnswer}
use Rattle.kmip_protocol.proofs.OutsideLemmas.{outside_of, planned_fits}
use Rattle.kmip_protocol.proofs.ChangeLemmas.{place_in}
use Rattle.kmip_protocol.proofs.ReplyLemmas.{failed_true, same_name, some_place}

-- ---- the keys of both plans

-- a key of the new plan goes on from one of the old plan, or has a further name
data Origin (old : List Key) (key : Key) : Type 0 where
  goes_on : (was : Key) → key_named key.attrs.name old ≡ Some was → IsPlanned old was
      → was.attrs.name ≡ key.attrs.name → GoesOn key was → Origin old key
  is_further : key_named key.attrs.name old ≡ None → Origin old key

planned_as : FoundKeysStand → (keys : List Key) (name : List ℕ) (key : Key) → key_named name keys ≡ Some key
    → IsPlanned keys key
planned_as stand keys name key named =
    subst (λ n. key_named n keys ≡ Some key) (sym (stand keys name key named).0) named

origin_from : (l : Lawbook) (new old : List Key) (key : Key) (found : Option Key) → IsLawful new → Prolongs new old
    → IsPlanned new key
    → key_named key.attrs.name old ≡ found → Origin old key
origin_from l new old key None lawful on planned is = is_further is
origin_from l new old key (Some was) lawful on planned is =
    let had = planned_as l.plan.stand old key.attrs.name was is in
    let (newer, now, same, goes) = l.plan.old_found new old was lawful on had in
    let own : was.attrs.name ≡ key.attrs.name = (l.plan.stand old key.attrs.name was is).0 in
    let one : newer ≡ key = same_Some _ _ (sym now ∙ ap (λ name. key_named name new) (same ∙ own) ∙ planned) in
    goes_on was is had own (subst (λ k. GoesOn k was) one goes)

origin : (l : Lawbook) (new old : List Key) (key : Key) → IsLawful new → Prolongs new old → IsPlanned new key
    → Origin old key
origin l new old key lawful on planned = origin_from l new old key (key_named key.attrs.name old) lawful on planned refl

-- a name of the old plan is one of the new
still_named : (l : Lawbook) (new old : List Key) (name : List ℕ) (found : Option Key) → IsLawful new
    → Prolongs new old → key_named name old ≡ found
    → is_some found ≡ true → is_some (key_named name new) ≡ true
still_named l new old name None lawful on is some = absurd cc
still_named l new old name (Some was) lawful on is some =
    let (newer, now, same, goes) = l.plan.old_found new old was lawful on (planned_as l.plan.stand old name was is) in
    ap (λ n. is_some (key_named n new)) (sym (same ∙ (l.plan.stand old name was is).0)) ∙ ap is_some now

pub names_among : (l : Lawbook) (new old : List Key) → IsLawful new → Prolongs new old
    → AreAmong (is_planned old) (is_planned new)
names_among l new old lawful on = λ name is. still_named l new old name (key_named name old) lawful on refl is

none_of : (found : Option Key) → (is_some found ≡ true → false ≡ true) → found ≡ None
none_of None some = refl
none_of (Some key) some = let t : false ≡ true = some refl in absurd cc

-- ---- the objects and the effects

own_object : (l : Lawbook) (new old : Key) (o : Object) → GoesOn new old → IsObjectOf old o → IsObjectOf new o
own_object l new old o on own = record {
  identified = own.identified;
  attrs_are = own.attrs_are ∙ sym on.attrs_same;
  on_the_way = let e = l.plan.no_less old.target new.target o.state on.leads_on in let from = own.on_the_way in omega
      (arith, e, from);
}

same_place : (l : Lawbook) (new old : Key) (found : Option Object) → GoesOn new old
    → ((o : Object) → found ≡ Some o → IsObjectOf old o)
    → place_in new found ≡ place_in old found
same_place l new old None on its = refl
same_place l new old (Some o) on its =
    ap or_zero (l.plan.state_places old.target new.target (state_number o.state) (place_reached old.target o.state)
    on.leads_on
    (some_place (place_of old.target (state_number o.state)) (its o refl).on_the_way))

place_within : (l : Lawbook) (key : Key) (found : Option Object) → place_in key found ≤ length (chain key.target)
place_within l key None = omega arith
place_within l key (Some o) = l.plan.reached key.target o.state

-- the first steps of a way are those of each that it leads on to
first_steps : (target further : Target) (n : ℕ) → LeadsOn target further → n ≤ length (chain target)
    → take n (chain target) ≡ take n (chain further)
first_steps target further n on within =
    ap (take n) (sym on) ∙ take-take n (length (chain target)) (chain further) within

same_steps : (l : Lawbook) (new old : Key) (found : Option Object) → GoesOn new old
    → ((o : Object) → found ≡ Some o → IsObjectOf old o)
    → take (place_in old found) (chain old.target) ≡ take (place_in new found) (chain new.target)
same_steps l new old found on its =
    first_steps old.target new.target (place_in old found) on.leads_on (place_within l old found)
    ∙ ap (λ n. take n (chain new.target)) (sym (same_place l new old found on its))

objects_of : (l : Lawbook) (new old : List Key) (p : Past) (key : Key) (o : Object) → Sound old p
    → NoneIsFurther new old p.objects → IsPlanned new key
    → Origin old key → object_named key.attrs.name p.objects ≡ Some o → IsObjectOf key o
objects_of l new old p key o sound none planned (goes_on was named had same on) is =
    own_object l key was o on (sound.objects was o had (ap (λ name. object_named name p.objects) same ∙ is))
objects_of l new old p key o sound none planned (is_further not) is =
    let t : None ≡ Some o = sym (none key planned not) ∙ is in absurd cc

steps_of : (l : Lawbook) (new old : List Key) (p : Past) (key : Key) → Sound old p → NoneIsFurther new old p.objects
    → IsPlanned new key → Origin old key
    → steps_on key.attrs.name p.effects ≡ take (position key p.objects) (chain key.target)
steps_of l new old p key sound none planned (goes_on was named had same on) =
    ap (λ name. steps_on name p.effects) (sym same) ∙ sound.effects.planned was had
    ∙ ap (λ name. take (place_in was (object_named name p.objects)) (chain was.target)) same
    ∙ same_steps l key was (object_named key.attrs.name p.objects) on
    (λ o is. sound.objects was o had (ap (λ name. object_named name p.objects) same ∙ is))
steps_of l new old p key sound none planned (is_further not) =
    sound.effects.no_others key.attrs.name not
    ∙ ap (λ found. take (place_in key found) (chain key.target)) (sym (none key planned not))

others_of : (l : Lawbook) (new old : List Key) (name : List ℕ) → IsLawful new → Prolongs new old
    → key_named name new ≡ None → key_named name old ≡ None
others_of l new old name lawful on is =
    none_of (key_named name old) (λ some. ap is_some (sym is) ∙ names_among l new old lawful on name some)

-- ---- the replies

holds_of : (l : Lawbook) (old : List Key) (p : Past) (reply : Reply) (operation : ℕ) (name : List ℕ) (key : Key)
    → Sound old p
    → TrueAnswer old p.objects p.requests reply → reply.id ≡ Some (operation ∷ name) → name ≡ key.attrs.name
    → key_fits key ≡ true → Origin old key
    → TrueOutcome p.objects key reply.outcome
holds_of l old p reply operation name key sound answer id own fits (goes_on was named had same on) =
    l.client.told_of_prolonged p.objects key was reply.outcome on
    (answer.holds operation name was id (ap (λ n. key_named n old) own ∙ named))
holds_of l old p reply operation name key sound answer id own fits (is_further not) = elim (answer.echoes) [
  | inl failed ↦ failed_true p.objects key reply.outcome failed
  | inr echo ↦ elim (All-contains (IsHarmless old p.objects) p.requests echo.request sound.requests echo.asked) [
    | inl just ↦
        let asked : name ≡ just.key.attrs.name = same_name _ _ _ _ (sym id ∙ echo.id_is ∙ just.id_is) in
        let t : None ≡ Some just.key = sym not ∙ ap (λ n. key_named n old) (sym own ∙ asked)
        ∙ just.is_planned in absurd cc
    | inr outside ↦
        absurd (outside.no_key operation key (inr fits) (sym echo.id_is ∙ id ∙ ap (λ n. Some (operation ∷ n)) own))
  ]
]

answer_of : (l : Lawbook) (new old : List Key) (p : Past) (reply : Reply) → IsLawful new → Prolongs new old
    → Sound old p
    → TrueAnswer old p.objects p.requests reply → TrueAnswer new p.objects p.requests reply
answer_of l new old p reply lawful on sound answer = record {
  holds = λ operation name key id named.
      let planned = planned_as l.plan.stand new name key named in
      holds_of l old p reply operation name key sound answer id (sym (l.plan.stand new name key named).0)
      (planned_fits new key lawful planned) (origin l new old key lawful on planned);
  echoes = answer.echoes;
}

harmless_of : (l : Lawbook) (new old : List Key) (objects : List Object) (request : Request) → IsLawful new
    → Prolongs new old → IsHarmless old objects request → IsHarmless new objects request
harmless_of l new old objects request lawful on (inl just) =
    inl (l.client.asked_of_prolonged objects new old request lawful on just)
harmless_of l new old objects request lawful on (inr outside) = inr (outside_of new old request lawful outside)

pub prolonged_sound : (l : Lawbook) (new old : List Key) (p : Past) → IsLawful new → Prolongs new old
    → NoneIsFurther new old p.objects → Sound old p → Sound new p
prolonged_sound l new old p lawful on none sound = record {
  names = sound.names;
  uids = sound.uids;
  objects = λ key o planned is. objects_of l new old p key o sound none planned
      (origin l new old key lawful on planned) is;
  effects = record {
    planned = λ key planned. steps_of l new old p key sound none planned (origin l new old key lawful on planned);
    no_others = λ name is. sound.effects.no_others name (others_of l new old name lawful on is);
  };
  requests = All-weaker (IsHarmless old p.objects) (IsHarmless new p.objects)
      (λ request may. harmless_of l new old p.objects request lawful on may) p.requests sound.requests;
  replies = All-weaker (TrueAnswer old p.objects p.requests) (TrueAnswer new p.objects p.requests)
      (λ reply answer. answer_of l new old p reply lawful on sound answer) p.replies sound.replies;
}

-- ---- a plan between two

-- a name on which nothing took effect is on no object
no_object : (l : Lawbook) (keys : List Key) (p : Past) (key : Key) (found : Option Object) → Sound keys p
    → IsPlanned keys key
    → steps_on key.attrs.name p.effects ≡ [] → object_named key.attrs.name p.objects ≡ found → found ≡ None
no_object l keys p key None sound planned none is = refl
no_object l keys p key (Some o) sound planned none is =
    let from = (sound.objects key o planned is).on_the_way in
    let within = l.plan.reached key.target o.state in
    let steps : take (place_reached key.target o.state) (chain key.target) ≡ [] =
    ap (λ found. take (place_in key found) (chain key.target)) (sym is) ∙ sym (sound.effects.planned key planned)
    ∙ none in
    let long = length-take-le (place_reached key.target o.state) (chain key.target) within in
    let short : length (take (place_reached key.target o.state) (chain key.target)) ≡ 0 = ap (λ steps. length steps)
    steps in
    absurd (omega (arith, from, long, short))

pub none_further : (l : Lawbook) (last next keys : List Key) (p : Past) → IsLawful last → Prolongs last next
    → Sound keys p → Sound last p
    → NoneIsFurther next keys p.objects
none_further l last next keys p lawful on sound whole = λ key planned not.
    let (newer, now, same, goes) = l.plan.old_found last next key lawful on planned in
    let none : steps_on newer.attrs.name p.effects ≡ [] =
    ap (λ name. steps_on name p.effects) same ∙ sound.effects.no_others key.attrs.name not in
    ap (λ name. object_named name p.objects) (sym same)
    ∙ no_object l last p newer (object_named newer.attrs.name p.objects) whole now none refl
