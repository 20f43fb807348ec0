-- Where the runs ended that were ended over a link: how many messages had been sent over it then.
-- Source: own (view): a run is no part of the standard.
use Rattle.std.specs.Prelude.{◌≡◌, ℕ, List, [], ◌∷◌, ◌++◌, Result, Ok, Err}
use Rattle.kmip_protocol.specs.declared.link_fault.LinkFault.{LinkFault}
use Rattle.kmip_protocol.specs.declared.link_fault.LinkFault.TheVariants.{Io, Frame, NoMemory}

-- one more run ended, after this many messages
abbrev pub EndedAt : ℕ → List ℕ → List ℕ → Type 0
EndedAt sent old new = new ≡ old ++ sent ∷ []

-- what the end of a run notes over an honest link; where memory runs out, nothing
abbrev pub Ended : {V : Type 0} → Result V LinkFault → ℕ → List ℕ → List ℕ → Type 0
Ended (Ok done) sent old new = EndedAt sent old new
Ended (Err Io) sent old new = EndedAt sent old new
Ended (Err Frame) sent old new = EndedAt sent old new
Ended (Err NoMemory) sent old new = new ≡ old
