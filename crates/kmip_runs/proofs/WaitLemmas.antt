-- The waits double.
use Rattle.std.proofs.Common.{◌≡◌, ◌≢◌, ◌≤◌, ◌<◌, ℕ, zero, suc, ◌+◌, ◌*◌, ◌^◌, min, max, ap, sym, ◌∙◌, arith}
use Rattle.std.proofs.Math.Nat.{le-mul_of_pos_right, mul_assoc, one-le-pow, pow-suc}
use Rattle.kmip_runs.specs.Waits.{longest_wait, wait_after}

-- twice what is cut at a bound, cut at it again
doubled : (a most wait twice fits : ℕ) → most ≤ fits → wait ≡ min a most → twice ≡ min (wait * 2) fits → min twice most ≡ min (a * 2) most
doubled a most wait twice fits less is two = omega (arith, less, is, two)

twice_more : (first count : ℕ) → first * 2 ^ suc count ≡ first * 2 ^ count * 2
twice_more first count = ap (λ p. first * p) (pow-suc 2 count) ∙ sym (mul_assoc first (2 ^ count) 2)

-- where it was not waited yet, or is never
pub first_wait : (first wait count : ℕ) → wait ≡ 0 → wait ≡ wait_after first count → first ≡ wait_after first (count + 1)
first_wait first wait zero none is = omega arith
first_wait first wait (suc count) none is =
    let e : suc count + 1 ≡ suc (suc count) = omega arith in
    let power = one-le-pow count 2 (omega arith) in
    let more = le-mul_of_pos_right {m = 2 ^ count} first (omega (arith, power)) in
    let twice = twice_more first count in
    rw e (omega (arith, none, is, more, twice))

-- and else
pub next : (first wait twice count : ℕ) → first < 2 ^ 64 → wait ≢ 0 → twice ≡ min (wait * 2) 18446744073709551615 → wait ≡ wait_after first count
    → min twice (max first 10000) ≡ wait_after first (count + 1)
next first wait twice zero fits some two is = absurd (some is)
next first wait twice (suc count) fits some two is =
    let e : suc count + 1 ≡ suc (suc count) = omega arith in
    rw (e, twice_more first count)
    (doubled (first * 2 ^ count) (longest_wait first) wait twice 18446744073709551615 (omega (arith, fits)) is two)
