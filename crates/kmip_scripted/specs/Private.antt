-- Private: definitions that only clauses of private functions cite.
-- Source: own (view): parts of the public definitions of this crate.
use Rattle.std.specs.Prelude.{ℕ, List, [], Option, ◌≡◌, ◌<◌, Bool, ◌∷◌, length, pos, Some, None, ◌+◌}
use Rattle.std.specs.List.{All, Contains}
use Rattle.kmip_messages.specs.Items.{parts_in, replies_in, requests_in, stops_in}
use Rattle.kmip_server.specs.Batching.{batch_reply}
use Rattle.kmip_protocol.specs.Calm.{AreTaken}
use Rattle.kmip_scripted.specs.declared.word.Word.{Word}
use Rattle.kmip_scripted.specs.Scenes.{Scene, past_in}
use Rattle.kmip_scripted.specs.Words.{after_words, AreBegun}
use Rattle.kmip_runs.specs.declared.run.Run.{Run}
use Rattle.kmip_scripted.specs.declared.runs.Part.{Part}
use Rattle.kmip_scripted.specs.Runs.{runs_from}
use Rattle.std.specs.Prelude.{◌++◌, refl}
use Rattle.std.proofs.Common.{◌∙◌, ap}
use Rattle.kmip_scripted.specs.Following.{Call, after_call, after_calls, Follows}

-- The requests of a message were all asked.
abbrev pub WasAsked : List ℕ → Scene → Type 0
WasAsked message s = All (Contains (past_in s).requests) (requests_in message)

-- A message was taken calmly: it was served once, with the replies of the link's server at the time 0.
abbrev pub IsTaken : List ℕ → Scene → Scene → Type 0
IsTaken message old new =
    AreTaken (stops_in message) (parts_in message) (replies_in (batch_reply old.stock message (pos 0))) (past_in old) (past_in new)

-- The first word, where there is one.
abbrev pub first_of : List Word → Option Word
first_of [] = None
first_of (word ∷ words) = Some word

-- One more word was done, and what the others will do is the same.
pub record StepsOn (at_end : Bool) (old new : Scene) : Type 0 where
  pub all : after_words at_end new.words new ≡ after_words at_end old.words old
  pub begun : (last : Scene) → AreBegun at_end new.words new last → AreBegun at_end old.words old last
  pub shorter : length new.words < length old.words

-- No word goes on.
pub record HasStopped (at_end : Bool) (old new : Scene) : Type 0 where
  pub same : new ≡ old
  pub is : new ≡ after_words at_end old.words old

-- The first run may make `count` exchanges more.
abbrev pub grown : ℕ → List Run → List Run
grown count [] = []
grown count (run ∷ runs) = record run { limit = count + run.limit } ∷ runs

-- The runs of the words that are left, where some of the first run's are taken.
abbrev pub left_of : ℕ → Part → List Word → List Run
left_of more part words = grown part.limit (runs_from more part.begun part.start words)

-- Calls, and then others, are all of them.
calls_append : (xs ys : List Call) (s : Scene) → after_calls ys (after_calls xs s) ≡ after_calls (xs ++ ys) s
calls_append [] ys s = refl
calls_append (x ∷ xs) ys s = calls_append xs ys (after_call x s)

-- A link follows itself, as the trait of links asks.
pub follows_itself : (s : Scene) → Follows s s
follows_itself s = record { calls = []; is = refl }

-- What calls make of what calls made, all of them made.
pub follows_twice : (x y z : Scene) → Follows x y → Follows y z → Follows x z
follows_twice x y z a b = record {
  calls = a.calls ++ b.calls;
  is = b.is ∙ ap (after_calls b.calls) a.is ∙ calls_append a.calls b.calls x;
}
