-- How many keys a plan may have.
-- Source: own (limit).
use Rattle.std.specs.Prelude.{ℕ}

-- The most keys of a plan.
abbrev pub most_keys : ℕ
most_keys = 1000
