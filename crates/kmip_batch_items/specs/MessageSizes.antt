-- How long numbers and texts are in a message, and which outcomes are short; of all else its format says it.
-- Source: KMIP 2.1, TTLV Encoding. Own (view): that a number is capped.
use Rattle.std.specs.Prelude.{◌≡◌, ℕ, ◌<◌, ◌≤◌}
use Rattle.kmip_ttlv.specs.Limits.{most_bytes}

-- The first number is the second, or both are more than a message may have.
abbrev pub IsCapped : ℕ → ℕ → Type 0
IsCapped n m = (m ≤ most_bytes → n ≡ m) × (most_bytes < m → most_bytes < n)
