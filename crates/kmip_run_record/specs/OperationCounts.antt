-- How often something happened to each operation.
-- Source: own (view).
use Rattle.std.specs.Prelude.{ℕ, ◌+◌, ◌-◌, ◌^◌, min}
use Rattle.kmip_run_record.specs.declared.counts.Counts.{Counts}

-- One more. A count goes up to 2^64 - 1, and stays there.
abbrev pub one_more : ℕ → ℕ
one_more n = min (n + 1) (2 ^ 64 - 1)

-- It never happened.
abbrev pub no_counts : Counts
no_counts = record { create = 0; locate = 0; get_attributes = 0; activate = 0; revoke = 0; destroy = 0 }
