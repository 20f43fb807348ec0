-- From what a head says.
use Rattle.kmip_frames.proofs.Sizes.{fault_short, fault_size, fault_more, size_needed_short, size_needed_bounds}
use Rattle.kmip_frames.proofs.Sizes.{size_needed_fault, size_needed_more}
use Rattle.kmip_frames.proofs.Messages.{message_lawful, message_size, message_whole, fault_no_message}
use Rattle.kmip_frames.proofs.laws.the_laws_of_sizes_hold.Goals as goal

pub returns-clause-short : goal.returns-clause-short
returns-clause-short c = λ bytes short. (fault_short bytes short, size_needed_short bytes short)

pub returns-clause-bounds : goal.returns-clause-bounds
returns-clause-bounds c = size_needed_bounds

pub returns-clause-fault : goal.returns-clause-fault
returns-clause-fault c =
    λ bytes fault is. (fault_size bytes fault is, size_needed_fault bytes fault is, fault_no_message bytes fault is)

pub returns-clause-message : goal.returns-clause-message
returns-clause-message c = λ bytes. (λ is. (message_lawful bytes is, message_size bytes is), message_whole bytes)

pub returns-clause-more : goal.returns-clause-more
returns-clause-more c = λ bytes more long. (fault_more bytes more long, size_needed_more bytes more long)
