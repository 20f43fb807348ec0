-- Calls, one after the other.
use Rattle.std.proofs.Common.{◌≡◌, ℕ, List, [], ◌∷◌}
use Rattle.kmip_scripted.specs.Following.{Call, Follows}
use Rattle.kmip_scripted.specs.Scenes.{Scene}
use Rattle.kmip_scripted.specs.Words.{after_run, exchange}

-- one exchange, and the end of a run
pub follows_exchange : (request : List ℕ) (old new : Scene) → new ≡ (exchange request old).1 → Follows old new
follows_exchange request old new is = record { calls = Call.Exchanges request ∷ []; is = is }

pub follows_end : (old new : Scene) → new ≡ after_run old → Follows old new
follows_end old new is = record { calls = Call.Ends ∷ []; is = is }
