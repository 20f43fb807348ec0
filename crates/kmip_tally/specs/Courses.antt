-- What a run asked about a key, and with which of its steps it is credited.
-- Source: own (metrics).
use Rattle.std.specs.Prelude.{◌&&◌, ltb, leb, List, Bool, true, false, filter}
use Rattle.kmip_batch_items.specs.declared.operation.Operation.{Operation}
use Rattle.kmip_batch_items.specs.declared.operation.Operation.TheVariants as operations
use Rattle.kmip_objects.specs.declared.step.Step.{Step}
use Rattle.kmip_objects.specs.declared.step.Step.TheVariants.{Create, Activate, Revoke, Destroy}
use Rattle.kmip_plan.specs.Chains.{chain, step_place}
use Rattle.kmip_plan.specs.declared.target.Target.{Target}
use Rattle.kmip_tally.specs.declared.asked.Asked.{Asked}
use Rattle.kmip_tally.specs.declared.course.Course.{Course}

-- Nothing was asked.
abbrev pub nothing_asked : Asked
nothing_asked = record { create = false; activate = false; revoke = false; destroy = false }

-- The operation was asked too.
abbrev pub asking : Operation → Asked → Asked
asking operations.Create asked = record { create = true; activate = asked.activate; revoke = asked.revoke; destroy = asked.destroy }
asking operations.Activate asked = record { create = asked.create; activate = true; revoke = asked.revoke; destroy = asked.destroy }
asking operations.Revoke asked = record { create = asked.create; activate = asked.activate; revoke = true; destroy = asked.destroy }
asking operations.Destroy asked = record { create = asked.create; activate = asked.activate; revoke = asked.revoke; destroy = true }
asking operation asked = asked

-- The step was asked for.
abbrev pub has_asked : Asked → Step → Bool
has_asked asked Create = asked.create
has_asked asked Activate = asked.activate
has_asked asked Revoke = asked.revoke
has_asked asked Destroy = asked.destroy

-- The run asked for the step, and it is known now, and was not known when the run began.
abbrev pub is_taken : Course → Target → Step → Bool
is_taken course target step =
    ltb course.before (step_place target step) && leb (step_place target step) course.known && has_asked course.asked step

-- The steps of the chain of a target that the run took.
abbrev pub steps_taken : Course → Target → List Step
steps_taken course target = filter (is_taken course target) (chain target)
