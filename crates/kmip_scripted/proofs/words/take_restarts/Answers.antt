-- Word by word.
use Rattle.std.proofs.Common.{refl}
use Rattle.kmip_scripted.proofs.words.take_restarts.Goals as goal

pub loop-word-init : goal.loop-word-init
loop-word-init c = refl
