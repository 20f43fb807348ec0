-- Private: what the words before an exchange deliver, where none of it is the message of the exchange.
-- Source: own (view): it may as well have happened before the message was asked.
use Rattle.std.specs.Prelude.{◌≡◌, ℕ, Bool, false, List, [], ◌∷◌, Result, OnErr, OnOk, ⊤}
use Rattle.kmip_protocol.specs.Moves.{Delivered}
use Rattle.kmip_protocol.specs.Past.{Names}
use Rattle.kmip_scripted.specs.declared.word.Word.{Word}
use Rattle.kmip_scripted.specs.declared.word.Word.TheVariants.{Again}
use Rattle.kmip_scripted.specs.Scenes.{Scene, past_in}
use Rattle.kmip_scripted.specs.Words.{AreBegun, message_at}

-- The link as if these messages alone had been asked.
abbrev pub asked_only : List (List ℕ) → Scene → Scene
asked_only asked s = record s { asked = asked }

-- The word delivers the same, whether these messages were asked or all were.
abbrev pub IsOfEarlier : List (List ℕ) → List (List ℕ) → Word → Type 0
IsOfEarlier asked all (Again number) = message_at number asked ≡ message_at number all
IsOfEarlier asked all word = ⊤

-- The words that repeat before the next exchange deliver the same, whether these messages were asked or
-- all were.
abbrev pub AreOfEarlier : List (List ℕ) → List (List ℕ) → List Word → Type 0
AreOfEarlier asked all [] = ⊤
AreOfEarlier asked all (Again number ∷ words) = (message_at number asked ≡ message_at number all) × AreOfEarlier asked all words
AreOfEarlier asked all (word ∷ words) = ⊤

-- What happened may happen where these messages alone were asked, and so for the words that are left.
pub record IsEarly (names : Names) (asked : List (List ℕ)) (old new : Scene) : Type 0 where
  pub delivered : Delivered names (past_in (asked_only asked old)) (past_in (asked_only asked new))
  pub earlier : AreOfEarlier asked new.asked new.words

-- Words were done, or a beginning of them where memory ran out, and nothing that may not happen.
pub record DoesWords {A E : Type 0} (at_end : Bool) (result : Result A E) (old new : Scene) : Type 0 where
  pub begun : OnErr result (AreBegun at_end old.words old new)
  pub delivered : (names : Names) → Delivered names (past_in old) (past_in new)
  pub early : OnOk result ((names : Names) (asked : List (List ℕ)) → at_end ≡ false
      → AreOfEarlier asked old.asked old.words → IsEarly names asked old new)
