-- How long a run waits before the next exchange, in milliseconds.
-- Source: own (choice): the standard does not say when to ask again.
use Rattle.std.specs.Prelude.{ℕ, zero, suc, ◌*◌, ◌^◌, min, max}

-- The longest wait: ten seconds, or the first wait where that is longer.
abbrev pub longest_wait : ℕ → ℕ
longest_wait first = max first 10000

-- The wait after `count` exchanges that brought nothing, with nothing known that has grown between them. It is
-- none at first, then the first wait, and twice as long each time, up to the longest.
abbrev pub wait_after : ℕ → ℕ → ℕ
wait_after first zero = 0
wait_after first (suc count) = min (first * 2 ^ count) (longest_wait first)
