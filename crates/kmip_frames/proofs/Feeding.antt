-- What a framer takes of a piece, and what it holds then.
use Rattle.std.proofs.Common.{◌≡◌, ℕ, ◌+◌, ◌-◌, ◌<◌, ◌≤◌, ◌⊎◌, inl, inr, min, List, ◌++◌, length, take, drop, replicate, Option, Some, None, Ok, refl, sym, ap, subst, ◌∙◌, append_assoc, take-add, arith}
use Rattle.std.proofs.lemmas.Bool.{cases_lt}
use Rattle.std.proofs.lemmas.List.{length-append, length-take, length-drop, length-replicate, take-append-drop, take_all}
use Rattle.std.proofs.Math.Seq.{take-append-add}
use Rattle.kmip_frames.specs.declared.frame_fault.FrameFault.{FrameFault}
use Rattle.kmip_frames.specs.Streams.{IsMessage, BeginsWithNoMessage}
use Rattle.kmip_frames.specs.Framing.{fault_in, size_needed, count_taken, held_after, answer_after, feed, IsHeldAfter, IsHeld}
use Rattle.kmip_frames.specs.Calls.{further, IsFedAsTwo}
use Rattle.kmip_frames.proofs.Sizes.{fault_more, fault_size, size_needed_more, size_needed_fault, size_needed_least, size_needed_most}
use Rattle.kmip_frames.proofs.Messages.{message_whole, message_size, no_message}

-- no more is held than the present message takes
pub record IsWithin (held : List ℕ) : Type 0 where
  pub within : length held ≤ size_needed held

-- of a piece either all was taken, or so much that the head is whole
pub record Suffices (held piece : List ℕ) (count : ℕ) : Type 0 where
  pub enough : (8 ≤ length (held ++ take count piece)) ⊎ (length piece ≤ count)

pub is_within : (items held : List ℕ) → items ≡ held → length items ≤ size_needed items → IsWithin held
is_within items held is within = record { within = rw is at within }

pub pending_most : (held : List ℕ) (count : ℕ) → count ≡ length held → IsWithin held → count ≤ 8192
pending_most held count is w = omega (arith, size_needed_most held, w.within)

length_after : (held piece : List ℕ) (count : ℕ) → count ≤ length piece → length (held ++ take count piece) ≡ length held + count
length_after held piece count within = omega (arith, length-append held (take count piece), length-take count piece)

pub up_to : (held piece : List ℕ) (size count : ℕ) → 8 ≤ size → count ≡ min (length piece) (size - length held) → Suffices held piece count
up_to held piece size count least is = record {
  enough = elim (cases_lt count (length piece)) [
    | inl less ↦ inl (omega (arith, length_after held piece count (omega arith)))
    | inr all ↦ inr all
  ];
}

rejoined : (held piece : List ℕ) (count : ℕ) → (held ++ take count piece) ++ drop count piece ≡ held ++ piece
rejoined held piece count = append_assoc held (take count piece) (drop count piece) ∙ ap (λ s. held ++ s) (take-append-drop count piece)

-- then the head of what is held is that of all
pub same_fault : (held piece : List ℕ) (count : ℕ) → Suffices held piece count → fault_in (held ++ take count piece) ≡ fault_in (held ++ piece)
same_fault held piece count s = elim s.enough [
  | inl long ↦ sym (fault_more (held ++ take count piece) (drop count piece) long) ∙ ap fault_in (rejoined held piece count)
  | inr all ↦ ap (λ t. fault_in (held ++ t)) (take_all count piece all)
]

pub same_size_needed : (held piece : List ℕ) (count : ℕ) → Suffices held piece count → size_needed (held ++ take count piece) ≡ size_needed (held ++ piece)
same_size_needed held piece count s = elim s.enough [
  | inl long ↦ sym (size_needed_more (held ++ take count piece) (drop count piece) long) ∙ ap size_needed (rejoined held piece count)
  | inr all ↦ ap (λ t. size_needed (held ++ t)) (take_all count piece all)
]

pub taken_suffices : (held piece : List ℕ) → Suffices held piece (count_taken held piece)
taken_suffices held piece = up_to held piece (size_needed (held ++ piece)) (count_taken held piece) (size_needed_least (held ++ piece)) refl

-- a piece takes nothing of the room away
pub within_more : (held piece : List ℕ) → IsWithin held → length held ≤ size_needed (held ++ piece)
within_more held piece w = elim (cases_lt (length held) 8) [
  | inl short ↦ omega (arith, size_needed_least (held ++ piece))
  | inr long ↦ omega (arith, size_needed_more held piece long, w.within)
]

length_taken : (held piece : List ℕ) → length (held_after held piece) ≡ length held + count_taken held piece
length_taken held piece = length_after held piece (count_taken held piece) (omega arith)

pub after_within : (held piece : List ℕ) → IsWithin held → IsWithin (held_after held piece)
after_within held piece w = record {
  within = omega (arith, length_taken held piece, same_size_needed held piece (count_taken held piece) (taken_suffices held piece), within_more held piece w);
}

-- ---- the steps of `feed`: up to the end of the head, and then of the message

pub record AreSteps (held piece : List ℕ) (of_head of_body : ℕ) : Type 0 where
  pub count : of_head + of_body ≡ count_taken held piece
  pub held_is : (held ++ take of_head piece) ++ take of_body (drop of_head piece) ≡ held_after held piece

pub two_steps : (held piece : List ℕ) (of_head of_body : ℕ) → of_head ≡ min (length piece) (8 - length held)
    → of_body ≡ min (length (drop of_head piece)) (size_needed (held ++ take of_head piece) - length (held ++ take of_head piece)) → AreSteps held piece of_head of_body
two_steps held piece of_head of_body one two =
    let size : size_needed (held ++ take of_head piece) ≡ size_needed (held ++ piece) = same_size_needed held piece of_head (up_to held piece 8 of_head (omega arith) one) in
    let sum : of_head + of_body ≡ count_taken held piece =
    omega (arith, size, size_needed_least (held ++ piece), length-drop of_head piece, length_after held piece of_head (omega arith)) in
    record {
      count = sum;
      held_is = append_assoc held (take of_head piece) (take of_body (drop of_head piece)) ∙ ap (λ s. held ++ s) (sym (take-add of_head of_body piece)) ∙ ap (λ n. held ++ take n piece) sum;
    }

-- a head that is no message's is all that is taken
pub one_step : (held piece : List ℕ) (of_head : ℕ) (fault : FrameFault) → of_head ≡ min (length piece) (8 - length held)
    → fault_in (held ++ take of_head piece) ≡ Some fault → (fault_in (held ++ piece) ≡ Some fault) × (held ++ take of_head piece ≡ held_after held piece)
one_step held piece of_head fault one is =
    let s = up_to held piece 8 of_head (omega arith) one in
    let all : fault_in (held ++ piece) ≡ Some fault = sym (same_fault held piece of_head s) ∙ is in
    let size : size_needed (held ++ piece) ≡ 8 = size_needed_fault (held ++ piece) fault all in
    (all, ap (λ n. held ++ take n piece) (one ∙ ap (λ n. min (length piece) (n - length held)) (sym size)))

-- ---- what follows for a caller

pub after_whole : (held piece : List ℕ) → IsWithin held → fault_in (held ++ piece) ≡ None → count_taken held piece < length piece → IsMessage (held_after held piece)
after_whole held piece w lawful less =
    let s = taken_suffices held piece in
    message_whole (held_after held piece) (same_fault held piece (count_taken held piece) s ∙ lawful)
    (omega (arith, length_taken held piece, same_size_needed held piece (count_taken held piece) s, within_more held piece w))

pub takes_some : (held piece : List ℕ) → IsWithin held → fault_in held ≡ None → BeginsWithNoMessage held → 0 < length piece → 0 < count_taken held piece
takes_some held piece w lawful none some = elim (cases_lt (length held) (size_needed (held ++ piece))) [
  | inl less ↦ omega arith
  | inr full ↦ (
      let long : 8 ≤ length held = omega (arith, size_needed_least (held ++ piece)) in
      absurd (no_message held none (message_whole held lawful (omega (arith, size_needed_more held piece long, w.within)))))
]

pub is_held : (held : List ℕ) (o : Option FrameFault) → IsWithin held → fault_in held ≡ o → IsHeldAfter o held
is_held held None w is = elim (cases_lt (length held) 8) [
  | inl short ↦ inl short
  | inr long ↦ (
      let more : List ℕ = replicate (size_needed held - length held) 0 in
      inr (
        more,
        message_whole (held ++ more) (fault_more held more long ∙ is)
            (omega (arith, length-append held more, length-replicate {A = ℕ} (size_needed held - length held) 0, size_needed_more held more long, w.within)),
      ))
]
is_held held (Some fault) w is = omega (arith, size_needed_fault held fault is, fault_size held fault is, w.within)

pub pending_held : (held : List ℕ) → IsWithin held → IsHeld held
pending_held held w = is_held held (fault_in held) w refl

front_within : (held more : List ℕ) → IsMessage (held ++ more) → length held ≤ size_needed held
front_within held more message = elim (cases_lt (length held) 8) [
  | inl short ↦ omega (arith, size_needed_least held)
  | inr long ↦ omega (arith, message_size (held ++ more) message, size_needed_more held more long, length-append held more)
]

pub held_within : (held : List ℕ) (o : Option FrameFault) → IsHeldAfter o held → IsWithin held
held_within held (Some fault) h = record { within = omega (arith, size_needed_least held) }
held_within held None h = record {
  within = elim h [
    | inl short ↦ omega (arith, size_needed_least held)
    | inr whole ↦ front_within held whole.0 whole.1
  ];
}

-- ---- two pieces

left_joined : (held first second : List ℕ) (count : ℕ)
    → (held ++ take count first) ++ (drop count first ++ second) ≡ held ++ (first ++ second)
left_joined held first second count =
    sym (append_assoc (held ++ take count first) (drop count first) second) ∙ ap (λ s. s ++ second) (rejoined held first count) ∙ append_assoc held first second

-- the sizes alone: what is held, the two pieces, and what each step takes up to
sum_taken : (held first second size all count : ℕ) → count ≡ min first (size - held) → held + count ≤ all → (size ≡ all) ⊎ (first ≤ count)
    → min (first + second) (all - held) ≡ count + min (first - count + second) (all - (held + count))
sum_taken held first second size all count is room same = elim same [ inl one ↦ omega arith | inr whole ↦ omega arith ]

taken_twice : (held first second : List ℕ) → IsWithin held
    → count_taken held (first ++ second) ≡ count_taken held first + count_taken (held_after held first) (drop (count_taken held first) first ++ second)
taken_twice held first second w =
    let count = count_taken held first in
    let all = size_needed (held ++ (first ++ second)) in
    let s = taken_suffices held first in
    let size : size_needed (held_after held first ++ (drop count first ++ second)) ≡ all = ap size_needed (left_joined held first second count) in
    let room : length held + count ≤ all =
    omega (arith, size, length_taken held first, within_more (held_after held first) (drop count first ++ second) (after_within held first w)) in
    let same : (size_needed (held ++ first) ≡ all) ⊎ (length first ≤ count) = elim s.enough [
      | inl long ↦ inl (sym (same_size_needed held first count s) ∙ sym (size_needed_more (held_after held first) (drop count first ++ second) long) ∙ size)
      | inr whole ↦ inr whole
    ] in
    let sums = sum_taken (length held) (length first) (length second) (size_needed (held ++ first)) all count refl room same in
    omega (arith, sums, size, length_taken held first, length-append first second, length-append (drop count first) second, length-drop count first)

further_is : (o : Option FrameFault) (before count : ℕ) → answer_after None o (before + count) ≡ further before (answer_after None o count)
further_is None before count = refl
further_is (Some fault) before count = refl

answered : (before now : Option FrameFault) (n count : ℕ) → answer_after before now n ≡ Ok count → (before ≡ None) × (now ≡ None) × (n ≡ count)
answered None None n count is = (refl, refl, cc)
answered None (Some fault) n count is = absurd cc
answered (Some fault) now n count is = absurd cc

two_lawful : (held first second : List ℕ) → IsWithin held → fault_in held ≡ None → fault_in (held ++ first) ≡ None
    → IsFedAsTwo held first second (count_taken held first)
two_lawful held first second w before now =
    let count = count_taken held first in
    let one = held_after held first in
    let left = drop count first ++ second in
    let more = count_taken one left in
    let o = fault_in (held ++ (first ++ second)) in
    let joined = left_joined held first second count in
    let twice = taken_twice held first second w in
    let lawful : fault_in one ≡ None = same_fault held first count (taken_suffices held first) ∙ now in
    let whole : feed held (first ++ second) ≡ answer_after None o (count + more) =
    ap (λ x. answer_after x o (count_taken held (first ++ second))) before ∙ ap (answer_after None o) twice in
    let later : feed one left ≡ answer_after None o more =
    ap (λ x. answer_after x (fault_in (one ++ left)) more) lawful ∙ ap (λ x. answer_after None (fault_in x) more) joined in
    let size : length held + count_taken held (first ++ second) ≡ length one + more = omega (arith, twice, length_taken held first) in (
      whole ∙ further_is o count more ∙ ap (further count) (sym later),
      sym (take-append-add held (first ++ second) (count_taken held (first ++ second)))
          ∙ ap (λ n. take n (held ++ (first ++ second))) size
          ∙ ap (take (length one + more)) (sym joined)
          ∙ take-append-add one left more,
    )

pub two_pieces : (held first second : List ℕ) (count : ℕ) → IsHeld held → feed held first ≡ Ok count → IsFedAsTwo held first second count
two_pieces held first second count h is =
    let a = answered (fault_in held) (fault_in (held ++ first)) (count_taken held first) count is in
    subst (λ (n : ℕ). IsFedAsTwo held first second n) a.2 (two_lawful held first second (held_within held (fault_in held) h) a.0 a.1)
