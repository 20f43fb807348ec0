-- It goes on from what is left.
use Rattle.kmip_scripted.proofs.runs.Part.after_crash.Goals as goal

pub returns : goal.returns
returns c = c.new.ensures
