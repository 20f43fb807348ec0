-- What a question that is served does is how the object of each name has changed.
use Rattle.std.proofs.Common.{◌≡◌, ◌≢◌, ℕ, true, false, nat_eq, List, [], ◌∷◌, ◌++◌, option_map, option_to_list, Option}
use Rattle.std.proofs.Common.{Some, None, refl, sym, ap, subst, ◌∙◌, inl, inr}
use Rattle.std.specs.Cmp.Lexicographic.{pointwise}
use Rattle.std.proofs.lemmas.Bool.{cases_Bool}
use Rattle.std.proofs.lemmas.Option.{same_Some}
use Rattle.std.proofs.lemmas.Slice.Eq.{bytes_eq-Decides}
use Rattle.kmip_objects.specs.Lifecycle.{after}
use Rattle.kmip_objects.specs.ObjectLaws.{IdentifiedIsNamed}
use Rattle.kmip_objects.specs.Objects.{Object, object_named, object_with, restated, all_restated, DistinctNames}
use Rattle.kmip_objects.specs.Objects.{DistinctUids}
use Rattle.kmip_batch_items.specs.declared.outcome.Outcome.{Outcome}
use Rattle.kmip_batch_items.specs.declared.ask.Ask.{Ask}
use Rattle.kmip_batch_items.specs.declared.ask.Ask.TheVariants as asks
use Rattle.kmip_objects.specs.declared.key_attrs.KeyAttrs.{KeyAttrs}
use Rattle.kmip_objects.specs.declared.key_state.KeyState.{KeyState}
use Rattle.kmip_objects.specs.declared.key_state.KeyState.TheVariants as states
use Rattle.kmip_objects.specs.declared.step.Step.{Step}
use Rattle.kmip_objects.specs.declared.step.Step.TheVariants as steps
use Rattle.kmip_server.specs.Again.{has_failed}
use Rattle.kmip_server.specs.ServerStep as rows
use Rattle.kmip_server.specs.ServerStep.{ServerStep, step_asked, success_of}
use Rattle.kmip_server.specs.Effects.{effect_of, effect_asked, effect_on}
use Rattle.kmip_protocol.specs.PrivateLawbook.{Lawbook}
use Rattle.kmip_protocol.specs.Moves.{Joins}
use Rattle.kmip_protocol.specs.Past.{change}
use Rattle.kmip_protocol.proofs.ChangeLemmas.{no_change, step_is_between}
use Rattle.kmip_protocol.proofs.MovingLemmas.{other_named, own_named}

nothing_done : (objects : List Object) → Joins objects objects None
nothing_done objects = λ name. ap (λ step. option_to_list step) (sym (no_change (object_named name objects)))

-- one step on the object of one name, the others being as they were
one_done : (old new : List Object) (own : List ℕ) (step : Step)
    → change (object_named own old) (object_named own new) ≡ Some step
    → ((name : List ℕ) → pointwise nat_eq name own ≡ false → object_named name new ≡ object_named name old)
    → Joins old new (Some (record { name = own; step = step }))
one_done old new own step changes others = λ name. elim (cases_Bool (pointwise nat_eq name own)) [
  | inl same ↦
      let is : name ≡ own = (bytes_eq-Decides name own).0 same in
      rw same (sym (ap (λ n. option_to_list (change (object_named n old) (object_named n new))) is
      ∙ ap (λ s. option_to_list s) changes))
  | inr apart ↦
      rw apart (ap (λ s. option_to_list s) (sym
      (ap (change (object_named name old)) (others name apart) ∙ no_change (object_named name old))))
]

created_done : (l : Lawbook) (objects : List Object) (uid : List ℕ) (attrs : KeyAttrs)
    → object_named attrs.name objects ≡ None
    → Joins objects (objects ++ record { uid = uid; attrs = attrs; state = states.PreActive } ∷ [])
    (Some (record { name = attrs.name; step = steps.Create }))
created_done l objects uid attrs free =
    let o : Object = record { uid = uid; attrs = attrs; state = states.PreActive } in
    one_done objects (objects ++ o ∷ []) attrs.name steps.Create
    (ap (λ found. change found (object_named attrs.name (objects ++ o ∷ []))) free
    ∙ ap (λ found. change None found) (own_named l objects o free))
    (λ name apart. other_named l name objects o (object_named name objects) refl apart)

-- an object of another name has another identifier, and is kept
kept_beside : (l : Lawbook) (objects : List Object) (uid : List ℕ) (state : KeyState) (o : Object) (name : List ℕ)
    (found : Option Object)
    → DistinctUids objects → object_with uid objects ≡ Some o → name ≢ o.attrs.name
    → object_named name objects ≡ found → option_map (restated uid state) found ≡ found
kept_beside l objects uid state o name None uids with_uid apart is = refl
kept_beside l objects uid state o name (Some x) uids with_uid apart is =
    ap (λ y. Some y) (l.objects.other_kept uid state x (λ same.
    let there : object_with x.uid objects ≡ Some x = l.objects.by_identifier name objects x uids is in
    let one : x ≡ o = same_Some _ _ (sym there ∙ ap (λ u. object_with u objects) same ∙ with_uid) in
    apart (sym (l.objects.named name objects x is).0 ∙ ap (λ y. y.attrs.name) one)))

not_named : (name own : List ℕ) → pointwise nat_eq name own ≡ false → name ≢ own
not_named name own apart = λ e. let t : true ≡ false = sym ((bytes_eq-Decides name own).1 e) ∙ apart in absurd cc

stepped_done : (l : Lawbook) (by_name : IdentifiedIsNamed) (objects : List Object) (step : Step) (uid : List ℕ)
    (o : Object) (state : KeyState) → DistinctNames objects → DistinctUids objects
    → object_with uid objects ≡ Some o → after o.state step ≡ Some state
    → Joins objects (all_restated uid state objects) (Some (record { name = o.attrs.name; step = step }))
stepped_done l by_name objects step uid o state names uids with_uid row =
    let was : object_named o.attrs.name objects ≡ Some o = by_name uid objects o names with_uid in
    let now : object_named o.attrs.name (all_restated uid state objects) ≡ Some (record o { state = state }) =
    l.objects.named_restated o.attrs.name uid state objects ∙ ap (option_map (restated uid state)) was
    ∙ ap (λ x. Some x) (l.objects.own_restated uid state o (l.objects.identified uid objects o with_uid).0) in
    one_done objects (all_restated uid state objects) o.attrs.name step
    (ap (λ found. change found (object_named o.attrs.name (all_restated uid state objects))) was
    ∙ ap (λ found. change (Some o) found) now
    ∙ step_is_between o.state state step row)
    (λ name apart. l.objects.named_restated name uid state objects
    ∙ kept_beside l objects uid state o name (object_named name objects) uids with_uid
    (not_named name o.attrs.name apart) refl)

effect_by : (objects : List Object) (asked : Option (Step × List ℕ)) (step : Step) (uid : List ℕ) (o : Object)
    → asked ≡ Some (step, uid)
    → object_with uid objects ≡ Some o → effect_on objects asked ≡ Some (record { name = o.attrs.name; step = step })
effect_by objects asked step uid o is with_uid =
    ap (effect_on objects) is ∙ ap (option_map (λ x. record { name = x.attrs.name; step = step })) with_uid

effect_is : (objects : List Object) (ask : Ask) (step : Step) (uid : List ℕ) (o : Object)
    → step_asked ask ≡ Some (step, uid)
    → object_with uid objects ≡ Some o → effect_asked objects ask ≡ Some (record { name = o.attrs.name; step = step })
effect_is objects (asks.Create attrs) step uid o asked with_uid = absurd cc
effect_is objects (asks.Locate mask filter) step uid o asked with_uid = absurd cc
effect_is objects (asks.GetAttributes own) step uid o asked with_uid = absurd cc
effect_is objects (asks.Activate own) step uid o asked with_uid =
    effect_by objects (step_asked (asks.Activate own)) step uid o asked with_uid
effect_is objects (asks.Revoke own code) step uid o asked with_uid =
    effect_by objects (step_asked (asks.Revoke own code)) step uid o asked with_uid
effect_is objects (asks.Destroy own) step uid o asked with_uid =
    effect_by objects (step_asked (asks.Destroy own)) step uid o asked with_uid

success_is : (step : Step) (uid : List ℕ) → has_failed (success_of step uid) ≡ false
success_is steps.Create uid = refl
success_is steps.Activate uid = refl
success_is steps.Revoke uid = refl
success_is steps.Destroy uid = refl

effect_is_of : (objects : List Object) (ask : Ask) (step : Step) (uid : List ℕ) (o : Object)
    → step_asked ask ≡ Some (step, uid)
    → object_with uid objects ≡ Some o → effect_of objects ask (success_of step uid) ≡ Some
    (record { name = o.attrs.name; step = step })
effect_is_of objects ask step uid o asked with_uid =
    rw (success_is step uid) (effect_is objects ask step uid o asked with_uid)

pub served_joins : (l : Lawbook) (by_name : IdentifiedIsNamed) (room : ℕ) (old new : List Object) (ask : Ask)
    (outcome : Outcome) → DistinctNames old → DistinctUids old
    → ServerStep room old ask outcome new → Joins old new (effect_of old ask outcome)
served_joins l by_name room old new ask outcome names uids (rows.name_taken h) = nothing_done old
served_joins l by_name room old new ask outcome names uids (rows.full h i) = nothing_done old
served_joins l by_name room old new ask outcome names uids (rows.created {attrs} {uid} free roomy uid_free fits) =
    created_done l old uid attrs free
served_joins l by_name room old new ask outcome names uids rows.searched = nothing_done old
served_joins l by_name room old new ask outcome names uids (rows.told h) = nothing_done old
served_joins l by_name room old new ask outcome names uids (rows.unknown h) = nothing_done old
served_joins l by_name room old new ask outcome names uids (rows.compromised h) = nothing_done old
served_joins l by_name room old new ask outcome names uids (rows.not_found h i) = nothing_done old
served_joins l by_name room old new ask outcome names uids (rows.wrong_state h i j) = nothing_done old
served_joins l by_name room old new ask outcome names uids
    (rows.done {step = step} {uid = uid} {o = o} {state = state} asked with_uid row) =
    subst (Joins old (all_restated uid state old)) (sym (effect_is_of old ask step uid o asked with_uid))
    (stepped_done l by_name old step uid o state names uids with_uid row)
