-- What a question that is served does: the step that it takes, and on the object of which name.
-- Source: KMIP 2.1, Operations; Object Attributes, State.
use Rattle.std.specs.Prelude.{ℕ, List, Option, Some, None, option_map, if◌then◌else◌}
use Rattle.kmip_objects.specs.Objects.{Object, object_with}
use Rattle.kmip_batch_items.specs.declared.outcome.Outcome.{Outcome}
use Rattle.kmip_batch_items.specs.declared.ask.Ask.{Ask}
use Rattle.kmip_batch_items.specs.declared.ask.Ask.TheVariants as asks
use Rattle.kmip_objects.specs.declared.step.Step.{Step}
use Rattle.kmip_objects.specs.declared.step.Step.TheVariants as steps
use Rattle.kmip_server.specs.Again.{has_failed}
use Rattle.kmip_server.specs.ServerStep.{step_asked}
use Rattle.kmip_server.specs.declared.effect.Effect.{Effect}

-- a step on the object with an identifier, by the object's name
abbrev pub effect_on : List Object → Option (Step × List ℕ) → Option Effect
effect_on objects None = None
effect_on objects (Some asked) = option_map (λ o. record { name = o.attrs.name; step = asked.0 }) (object_with asked.1 objects)

-- the step that a question asks to be done, on the object of which name
abbrev pub effect_asked : List Object → Ask → Option Effect
effect_asked objects (asks.Create attrs) = Some (record { name = attrs.name; step = steps.Create })
effect_asked objects ask = effect_on objects (step_asked ask)

-- what a question did that was served: nothing where it failed or asks no step
abbrev pub effect_of : List Object → Ask → Outcome → Option Effect
effect_of objects ask outcome = if has_failed outcome then None else effect_asked objects ask
