-- What the server's step answers a question is a refusal, or the success of the operation that it asks for.
use Rattle.std.proofs.Common.{◌≡◌, ℕ, ℤ, true, List, Option, Some, None, refl, sym, ap, ◌∙◌}
use Rattle.std.specs.Prelude.{option_and_then}
use Rattle.std.proofs.lemmas.Option.{some_pair_parts}
use Rattle.kmip_objects.specs.Objects.{Object}
use Rattle.kmip_objects.specs.declared.attrs.Attrs.{Attrs}
use Rattle.kmip_objects.specs.declared.key_attrs.KeyAttrs.{KeyAttrs}
use Rattle.kmip_objects.specs.declared.step.Step.{Step}
use Rattle.kmip_objects.specs.declared.step.Step.TheVariants as steps
use Rattle.kmip_batch_items.specs.declared.outcome.Outcome.{Outcome}
use Rattle.kmip_batch_items.specs.declared.outcome.Outcome.TheVariants as outcomes
use Rattle.kmip_batch_items.specs.declared.ask.Ask.{Ask}
use Rattle.kmip_batch_items.specs.declared.ask.Ask.TheVariants as asks
use Rattle.kmip_server.specs.ServerStep as rows
use Rattle.kmip_server.specs.ServerStep.{ServerStep, step_asked, success_of}
use Rattle.kmip_probe.specs.Answers.{is_of}
use Rattle.kmip_probe.specs.Inquiries.{ask_of}
use Rattle.kmip_probe.specs.declared.kind.Kind.{Kind}
use Rattle.kmip_probe.specs.declared.kind.Kind.TheVariants.{Locate, Create, GetAttributes, Activate, Revoke, Destroy}

-- ---- a question is of the kind that it was made by

of_create : (kind : Kind) (name : List ℕ) (uid : Option (List ℕ)) (attrs : KeyAttrs) (made : List ℕ) → ask_of kind name uid ≡ Some (asks.Create attrs)
    → is_of kind (outcomes.Created made) ≡ true
of_create (Locate mask) name uid attrs made is = absurd cc
of_create Create name uid attrs made is = refl
of_create GetAttributes name None attrs made is = absurd cc
of_create GetAttributes name (Some u) attrs made is = absurd cc
of_create Activate name None attrs made is = absurd cc
of_create Activate name (Some u) attrs made is = absurd cc
of_create Revoke name None attrs made is = absurd cc
of_create Revoke name (Some u) attrs made is = absurd cc
of_create Destroy name None attrs made is = absurd cc
of_create Destroy name (Some u) attrs made is = absurd cc

of_locate : (kind : Kind) (name : List ℕ) (uid : Option (List ℕ)) (mask : Option ℤ) (given : Attrs) (uids : List (List ℕ))
    → ask_of kind name uid ≡ Some (asks.Locate mask given) → is_of kind (outcomes.Located uids) ≡ true
of_locate (Locate its) name uid mask given uids is = refl
of_locate Create name uid mask given uids is = absurd cc
of_locate GetAttributes name None mask given uids is = absurd cc
of_locate GetAttributes name (Some u) mask given uids is = absurd cc
of_locate Activate name None mask given uids is = absurd cc
of_locate Activate name (Some u) mask given uids is = absurd cc
of_locate Revoke name None mask given uids is = absurd cc
of_locate Revoke name (Some u) mask given uids is = absurd cc
of_locate Destroy name None mask given uids is = absurd cc
of_locate Destroy name (Some u) mask given uids is = absurd cc

of_get : (kind : Kind) (name : List ℕ) (uid : Option (List ℕ)) (own : List ℕ) (attrs : Attrs) → ask_of kind name uid ≡ Some (asks.GetAttributes own)
    → is_of kind (outcomes.Attributes own attrs) ≡ true
of_get (Locate mask) name uid own attrs is = absurd cc
of_get Create name uid own attrs is = absurd cc
of_get GetAttributes name uid own attrs is = refl
of_get Activate name None own attrs is = absurd cc
of_get Activate name (Some u) own attrs is = absurd cc
of_get Revoke name None own attrs is = absurd cc
of_get Revoke name (Some u) own attrs is = absurd cc
of_get Destroy name None own attrs is = absurd cc
of_get Destroy name (Some u) own attrs is = absurd cc

-- and so is one that asks for a step
stepped : (kind : Kind) (step its : Step) (own uid : List ℕ) → is_of kind (success_of step own) ≡ true
    → ◌≡◌ {A = Option (Step × List ℕ)} (Some (step, own)) (Some (its, uid))
    → is_of kind (success_of its uid) ≡ true
stepped kind step its own uid holds is =
    let parts = some_pair_parts step its own uid is in
    sym (ap (λ s. is_of kind (success_of s uid)) parts.0) ∙ sym (ap (λ u. is_of kind (success_of step u)) parts.1) ∙ holds

of_step : (kind : Kind) (name : List ℕ) (known : Option (List ℕ)) (step : Step) (uid : List ℕ)
    → ◌≡◌ {A = Option (Step × List ℕ)} (option_and_then step_asked (ask_of kind name known)) (Some (step, uid)) → is_of kind (success_of step uid) ≡ true
of_step (Locate mask) name known step uid is = absurd cc
of_step Create name known step uid is = absurd cc
of_step GetAttributes name None step uid is = absurd cc
of_step GetAttributes name (Some u) step uid is = absurd cc
of_step Activate name None step uid is = absurd cc
of_step Activate name (Some u) step uid is = stepped Activate steps.Activate step u uid refl is
of_step Revoke name None step uid is = absurd cc
of_step Revoke name (Some u) step uid is = stepped Revoke steps.Revoke step u uid refl is
of_step Destroy name None step uid is = absurd cc
of_step Destroy name (Some u) step uid is = stepped Destroy steps.Destroy step u uid refl is

pub of_kind : (kind : Kind) (name : List ℕ) (known : Option (List ℕ)) (ask : Ask) (outcome : Outcome) (room : ℕ) (old new : List Object)
    → ask_of kind name known ≡ Some ask → ServerStep room old ask outcome new → is_of kind outcome ≡ true
of_kind kind name known ask outcome room old new asked (rows.name_taken h) = refl
of_kind kind name known ask outcome room old new asked (rows.full h i) = refl
of_kind kind name known ask outcome room old new asked (rows.created {attrs = a} {uid = u} h i j k) = of_create kind name known a u asked
of_kind kind name known ask outcome room old new asked (rows.searched {mask = m} {given = g}) = of_locate kind name known m g _ asked
of_kind kind name known ask outcome room old new asked (rows.told {uid = u} h) = of_get kind name known u _ asked
of_kind kind name known ask outcome room old new asked (rows.unknown h) = refl
of_kind kind name known ask outcome room old new asked (rows.compromised h) = refl
of_kind kind name known ask outcome room old new asked (rows.not_found h i) = refl
of_kind kind name known ask outcome room old new asked (rows.wrong_state h i j) = refl
of_kind kind name known ask outcome room old new asked (rows.done {step = s} {uid = u} h i j) =
    of_step kind name known s u (ap (option_and_then step_asked) asked ∙ h)
