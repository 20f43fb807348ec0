-- The stages stay.
use Rattle.std.proofs.Common.{◌≡◌, map}
use Rattle.kmip_run_record.specs.declared.stage.Stage.{Stage}
use Rattle.kmip_run_record.specs.Stories.{StoryState}
use Rattle.kmip_run_record.proofs.findings.hear_parts.Given as goal

abbrev pub invariant-loop-part : goal.invariant-loop-part
invariant-loop-part l = map (λ (story : StoryState). story.stage) l.stories.items ≡ map (λ (story : StoryState). story.stage) l.fn.stories.items
