-- Private: definitions that only clauses of private functions cite.
-- Source: own (view): parts of the public definitions of this crate.
use Rattle.std.specs.Prelude.{◌≡◌, ℕ, List, ◌++◌, Option}
use Rattle.std.specs.Io.KnownBytes.{Appends}

-- these first bytes of what was to be written were written, and the others are still to be
pub record Puts (before after : List ℕ) (shown written : Option (List ℕ)) : Type 0 where
  pub sent : List ℕ
  pub put : Appends shown written sent
  pub is : before ≡ sent ++ after
