-- Nothing is lacking where as much is held as is needed.
use Rattle.std.proofs.Common.{length, is_some, refl, ap, ◌∙◌, arith}
use Rattle.kmip_frames.specs.Framing.{fault_in, size_needed}
use Rattle.kmip_frames.proofs.Sizes.{fault_size, size_needed_fault}
use Rattle.kmip_frames.proofs.Messages.{message_size}
use Rattle.kmip_frames.proofs.Steps.{some_of}
use Rattle.kmip_frames.proofs.framer.Framer.wants.Goals as goal

pub returns-clause-waiting : goal.returns-clause-waiting
returns-clause-waiting c = λ message.
    omega (arith, message_size c.args.self.now message, c.size_needed.ensures ∙ ap size_needed (c.as_slice.ensures.value ∙ c.self.view_is), c.len.ensures ∙ c.self.inside.held.ok.0 ∙ ap length c.self.view_is)

pub returns-clause-failed : goal.returns-clause-failed
returns-clause-failed c = λ some.
    let found = some_of (fault_in c.args.self.now) (is_some (fault_in c.args.self.now)) refl some in
    omega (arith, fault_size c.args.self.now found.0 found.1, size_needed_fault c.args.self.now found.0 found.1, c.size_needed.ensures ∙ ap size_needed (c.as_slice.ensures.value ∙ c.self.view_is), c.len.ensures ∙ c.self.inside.held.ok.0 ∙ ap length c.self.view_is)

pub returns-clause-value : goal.returns-clause-value
returns-clause-value c =
    let size = c.size_needed.ensures ∙ ap size_needed (c.as_slice.ensures.value ∙ c.self.view_is) in
    let held = c.len.ensures ∙ c.self.inside.held.ok.0 ∙ ap length c.self.view_is in
    rw (size, held) refl
