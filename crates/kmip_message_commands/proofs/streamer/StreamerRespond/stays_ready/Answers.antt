use Rattle.kmip_message_commands.proofs.BytewiseLaws.{stays_ready}
use Rattle.kmip_message_commands.proofs.streamer.StreamerRespond.stays_ready.Goals as goal

pub returns : goal.returns
returns c = λ s message ready. stays_ready s message ready
