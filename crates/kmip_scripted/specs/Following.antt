-- What calls make of a link in memory: exchanges and ends of runs, one after the other.
-- Source: own (view).
use Rattle.std.specs.Prelude.{◌≡◌, ℕ, List, [], ◌∷◌}
use Rattle.kmip_scripted.specs.Scenes.{Scene}
use Rattle.kmip_scripted.specs.Words.{after_run, exchange}

-- A call of a link.
pub data Call : Type 0 where
  -- a request is exchanged
  Exchanges : List ℕ → Call
  -- a run ends
  Ends : Call

-- What a call makes of a link.
abbrev pub after_call : Call → Scene → Scene
after_call (Call.Exchanges request) s = (exchange request s).1
after_call Call.Ends s = after_run s

-- What calls make of a link, one after the other.
abbrev pub after_calls : List Call → Scene → Scene
after_calls [] s = s
after_calls (call ∷ calls) s = after_calls calls (after_call call s)

-- The second link is what some calls made of the first, each by the word that stood next.
pub record Follows (old new : Scene) : Type 0 where
  pub calls : List Call
  pub is : new ≡ after_calls calls old
