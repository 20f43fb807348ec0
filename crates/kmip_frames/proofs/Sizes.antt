-- What a head says, and that bytes behind it change nothing.
use Rattle.std.proofs.Common.{◌≡◌, ℕ, ◌+◌, ◌%◌, ◌<◌, ◌≤◌, Bool, true, false, cond, not, eqb, ltb, List, ◌++◌, length, take, slice_index, Option, Some, None, is_some, inl, inr, refl, sym, ap, ◌∙◌, arith}
use Rattle.std.specs.Prelude.{◌&&◌}
use Rattle.std.proofs.lemmas.Bool.{ltb-false, lt-ltb, le-ltb, cases_lt}
use Rattle.std.proofs.lemmas.List.{length-append, take-append-le}
use Rattle.byteorder.specs.Endian.{big_number}
use Rattle.kmip_frames.specs.declared.frame_fault.FrameFault.{FrameFault}
use Rattle.kmip_frames.specs.declared.frame_fault.FrameFault.TheVariants as faults
use Rattle.kmip_frames.specs.Heads.{is_message_tag, length_in, head_fault}
use Rattle.kmip_frames.specs.Framing.{fault_in, size_needed}

-- a test that did not fail
passed : {A : Type 0} (b : Bool) (f : A) (r : Option A) → cond b (Some f) r ≡ None → (b ≡ false) × (r ≡ None)
passed true f r is = absurd cc
passed false f r is = (refl, is)

-- a lawful head says at most 8,192 bytes
lawful_small : (head : List ℕ) → head_fault head ≡ None → 8 + length_in head ≤ 8192
unfolding head_fault
lawful_small head is =
    let long : Option FrameFault = cond (ltb 8192 (8 + length_in head)) (Some faults.TooLong) None in
    let whole : Option FrameFault = cond (not (eqb (length_in head % 8) 0)) (Some faults.BadLength) long in
    let one = passed (not (is_message_tag (big_number 3 head) && eqb (slice_index head 3) 1)) faults.BadHead whole is in
    let two = passed (not (eqb (length_in head % 8) 0)) faults.BadLength long one.1 in
    let three = passed (ltb 8192 (8 + length_in head)) faults.TooLong None two.1 in
    ltb-false 8192 (8 + length_in head) three.0

pub fault_short : (s : List ℕ) → length s < 8 → fault_in s ≡ None
unfolding fault_in
fault_short s short = rw (lt-ltb (length s) 8 short) refl

pub fault_long : (s : List ℕ) → 8 ≤ length s → fault_in s ≡ head_fault (take 8 s)
unfolding fault_in
fault_long s long = rw (le-ltb (length s) 8 long) refl

pub size_needed_short : (s : List ℕ) → length s < 8 → size_needed s ≡ 8
unfolding size_needed
size_needed_short s short = rw (lt-ltb (length s) 8 short) refl

pub size_needed_lawful : (s : List ℕ) → 8 ≤ length s → head_fault (take 8 s) ≡ None → size_needed s ≡ 8 + length_in (take 8 s)
unfolding size_needed
size_needed_lawful s long lawful = rw (le-ltb (length s) 8 long, lawful) refl

-- a fault is that of a whole head
pub fault_size : (s : List ℕ) (fault : FrameFault) → fault_in s ≡ Some fault → 8 ≤ length s
fault_size s fault is = elim (cases_lt (length s) 8) [ inl short ↦ (let none = fault_short s short in absurd cc) | inr long ↦ long ]

pub size_needed_fault : (s : List ℕ) (fault : FrameFault) → fault_in s ≡ Some fault → size_needed s ≡ 8
unfolding size_needed
size_needed_fault s fault is =
    let long = fault_size s fault is in
    let bad : head_fault (take 8 s) ≡ Some fault = sym (fault_long s long) ∙ is in
    rw (le-ltb (length s) 8 long, bad) refl

-- what stands behind a whole head changes nothing
take_head : (s more : List ℕ) → 8 ≤ length s → take 8 (s ++ more) ≡ take 8 s
take_head s more long = take-append-le 8 s more long

longer : (s more : List ℕ) → 8 ≤ length s → 8 ≤ length (s ++ more)
longer s more long = omega (arith, length-append s more)

pub fault_more : (s more : List ℕ) → 8 ≤ length s → fault_in (s ++ more) ≡ fault_in s
fault_more s more long =
    fault_long (s ++ more) (longer s more long) ∙ ap head_fault (take_head s more long) ∙ sym (fault_long s long)

-- the size that a whole head says
size_needed_long : (s : List ℕ) → 8 ≤ length s → size_needed s ≡ cond (is_some (head_fault (take 8 s))) 8 (8 + length_in (take 8 s))
unfolding size_needed
size_needed_long s long = rw (le-ltb (length s) 8 long) refl

size_by_head : List ℕ → ℕ
size_by_head head = cond (is_some (head_fault head)) 8 (8 + length_in head)

pub size_needed_more : (s more : List ℕ) → 8 ≤ length s → size_needed (s ++ more) ≡ size_needed s
unfolding size_by_head
size_needed_more s more long =
    size_needed_long (s ++ more) (longer s more long) ∙ ap size_by_head (take_head s more long) ∙ sym (size_needed_long s long)

-- the bounds of a size
size_bounds : (head : List ℕ) (o : Option FrameFault) → head_fault head ≡ o → (8 ≤ cond (is_some o) 8 (8 + length_in head)) × (cond (is_some o) 8 (8 + length_in head) ≤ 8192)
size_bounds head None is = let small = lawful_small head is in (omega arith, small)
size_bounds head (Some fault) is = (omega arith, omega arith)

pub size_needed_bounds : (s : List ℕ) → (8 ≤ size_needed s) × (size_needed s ≤ 8192)
size_needed_bounds s = elim (cases_lt (length s) 8) [
  | inl short ↦ rw (size_needed_short s short) (omega arith, omega arith)
  | inr long ↦ rw (size_needed_long s long) (size_bounds (take 8 s) (head_fault (take 8 s)) refl)
]

pub size_needed_least : (s : List ℕ) → 8 ≤ size_needed s
size_needed_least s = (size_needed_bounds s).0

pub size_needed_most : (s : List ℕ) → size_needed s ≤ 8192
size_needed_most s = (size_needed_bounds s).1
