use Rattle.kmip_frames.proofs.Messages.{stream_once, fault_stays}
use Rattle.kmip_frames.proofs.laws.the_laws_of_streams_hold.Goals as goal

pub returns-clause-one_way : goal.returns-clause-one_way
returns-clause-one_way c = stream_once

pub returns-clause-fault : goal.returns-clause-fault
returns-clause-fault c = fault_stays
