-- What the words that are left will do is what all were to do; what is done of them is a beginning.
use Rattle.std.proofs.Common.{◌≡◌, ℕ, List, false, length}
use Rattle.kmip_protocol.specs.Moves.{Delivered}
use Rattle.kmip_protocol.specs.Past.{Names}
use Rattle.kmip_scripted.specs.PrivateEarly.{AreOfEarlier, IsEarly}
use Rattle.kmip_scripted.specs.Scenes.{Scene, past_in}
use Rattle.kmip_scripted.specs.Words.{AreBegun, after_words}
use Rattle.kmip_scripted.proofs.scripted.Scripted.do_words.Given as goal

abbrev pub invariant-words : goal.invariant-words
invariant-words g l = record {
  all : after_words l.at_end l.self.words l.self ≡ after_words l.at_end l.fn.self.words l.fn.self;
  begun : (last : Scene) → AreBegun l.at_end l.self.words l.self last → AreBegun l.at_end l.fn.self.words l.fn.self last;
  delivered : (names : Names) → Delivered names (past_in l.fn.self) (past_in l.self);
  early : (names : Names) (asked : List (List ℕ)) → l.at_end ≡ false → AreOfEarlier asked l.fn.self.asked l.fn.self.words → IsEarly names asked l.fn.self l.self;
}

abbrev pub decreases-words : goal.decreases-words
decreases-words g l = length l.self.words
