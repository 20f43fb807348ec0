-- What may have happened where memory ran out in an exchange over a link in memory.
-- Source: own (view): what an exchange leaves that broke off, as the other clauses say what a whole one
-- leaves.
use Rattle.std.specs.Prelude.{◌⊎◌, ℕ, List}
use Rattle.kmip_protocol.specs.Exchanges.{with_asked}
use Rattle.kmip_protocol.specs.Moves.{Delivered}
use Rattle.kmip_protocol.specs.Past.{Names, Past}

-- The requests of the message joined those asked or not, and then what may happen happened.
abbrev pub IsWanting : Names → List ℕ → Past → Past → Type 0
IsWanting names sent old new = Delivered names old new ⊎ Delivered names (with_asked sent old) new
