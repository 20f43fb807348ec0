-- Private: the numbers that are kept beside the verdicts.
-- Source: own (view).
use Rattle.std.specs.Prelude.{◌≡◌, ℕ, List, count_by}
use Rattle.kmip_client.specs.declared.verdict.Verdict.{Verdict}
use Rattle.kmip_tally.specs.Counting.{is_conflict, is_finished, is_working}

-- So many of the verdicts are each.
abbrev pub AreCounted : List Verdict → ℕ → ℕ → ℕ → Type 0
AreCounted verdicts finished working conflict =
    (finished ≡ count_by is_finished verdicts) × (working ≡ count_by is_working verdicts) × (conflict ≡ count_by is_conflict verdicts)
