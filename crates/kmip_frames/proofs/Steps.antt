-- The two steps of `feed`, up to the end of the head and then of the message, as the code tells them.
use Rattle.std.proofs.Common.{◌≡◌, ℕ, ◌+◌, ◌-◌, ◌<◌, ◌≤◌, min, Bool, true, false, List, ◌++◌, length, take, drop, Option, Some, None, is_some, Ok, Err, refl, sym, ap, ◌∙◌, arith}
use Rattle.std.proofs.lemmas.List.{take_rest, append-nil}
use Rattle.kmip_frames.specs.declared.frame_fault.FrameFault.{FrameFault}
use Rattle.kmip_frames.specs.Streams.{IsMessage, BeginsWithNoMessage}
use Rattle.kmip_frames.specs.Framing.{fault_in, size_needed, count_taken, held_after, answer_after, feed}
use Rattle.kmip_frames.proofs.Sizes.{fault_size, size_needed_fault, size_needed_more}
use Rattle.kmip_frames.proofs.Messages.{message_whole, lacks_no_message}
use Rattle.kmip_frames.proofs.Feeding.{IsWithin, is_within, up_to, same_fault, one_step, two_steps, after_whole, after_within, takes_some}

none_of : (o : Option FrameFault) (b : Bool) → b ≡ is_some o → b ≡ false → o ≡ None
none_of None b is test = refl
none_of (Some fault) b is test = absurd cc

pub some_of : (o : Option FrameFault) (b : Bool) → b ≡ is_some o → b ≡ true → (fault : FrameFault) × (o ≡ Some fault)
some_of None b is test = absurd cc
some_of (Some fault) b is test = (fault, refl)

no_some : (o : Option FrameFault) → ((fault : FrameFault) → o ≡ Some fault → ⊥) → o ≡ None
no_some None not = refl
no_some (Some fault) not = absurd (not fault refl)

-- a test of what is held, which a slice shows
pub tested_none : (held inside slice : List ℕ) (o : Option FrameFault) (b : Bool) → inside ≡ held → slice ≡ inside → o ≡ fault_in slice
    → b ≡ is_some o → b ≡ false → fault_in held ≡ None
tested_none held inside slice o b view shown asked is test = ap fault_in (sym (shown ∙ view)) ∙ sym asked ∙ none_of o b is test

pub tested_some : (held inside slice : List ℕ) (o : Option FrameFault) (b : Bool) → inside ≡ held → slice ≡ inside → o ≡ fault_in slice
    → b ≡ is_some o → b ≡ true → (fault : FrameFault) × (fault_in held ≡ Some fault)
tested_some held inside slice o b view shown asked is some =
    let found = some_of o b is some in
    (found.0, ap fault_in (sym (shown ∙ view)) ∙ sym asked ∙ found.1)

-- after a fault nothing is taken
pub failed_same : (held piece : List ℕ) (fault : FrameFault) → fault_in held ≡ Some fault → held ≡ held_after held piece
failed_same held piece fault is =
    let long = fault_size held fault is in
    let none : count_taken held piece ≡ 0 = omega (arith, long, size_needed_more held piece long, size_needed_fault held fault is) in
    sym (ap (λ n. held ++ take n piece) none ∙ append-nil held)

-- the first step: this was held, so much of the piece taken, and then this was held
pub record IsHeadTaken (held piece middle : List ℕ) (of_head : ℕ) : Type 0 where
  pub within : IsWithin held
  pub before : fault_in held ≡ None
  pub count : of_head ≡ min (length piece) (8 - length held)
  pub middle_is : middle ≡ held ++ take of_head piece

pub head_taken : (held inside piece middle : List ℕ) (of_head : ℕ) → inside ≡ held → length inside ≤ size_needed inside → fault_in held ≡ None
    → of_head ≡ min (length piece) (8 - length inside) → middle ≡ inside ++ take of_head piece → IsHeadTaken held piece middle of_head
head_taken held inside piece middle of_head view within before count items = record {
  within = is_within inside held view within;
  before = before;
  count = count ∙ ap (λ s. min (length piece) (8 - length s)) view;
  middle_is = items ∙ ap (λ s. s ++ take of_head piece) view;
}

-- the head is no message's
pub record IsRefused (held piece middle : List ℕ) (fault : FrameFault) : Type 0 where
  pub fault_is : fault_in (held ++ piece) ≡ Some fault
  pub held_is : middle ≡ held_after held piece
  pub answer : Err fault ≡ feed held piece
  pub within : length middle ≤ size_needed middle

pub refused : (held piece middle slice : List ℕ) (of_head : ℕ) (o : Option FrameFault) (fault : FrameFault) → IsHeadTaken held piece middle of_head
    → slice ≡ middle → o ≡ fault_in slice → o ≡ Some fault → IsRefused held piece middle fault
refused held piece middle slice of_head o fault f shown asked is =
    let bad : fault_in (held ++ take of_head piece) ≡ Some fault = ap fault_in (sym (shown ∙ f.middle_is)) ∙ sym asked ∙ is in
    let step = one_step held piece of_head fault f.count bad in
    let held_is : middle ≡ held_after held piece = f.middle_is ∙ step.1 in
    record {
      fault_is = step.0;
      held_is = held_is;
      answer = sym (ap (λ x. answer_after x (fault_in (held ++ piece)) (count_taken held piece)) f.before ∙ ap (λ x. answer_after None x (count_taken held piece)) step.0);
      within = rw held_is (after_within held piece f.within).within;
    }

-- both steps: so much was taken, and this is held
pub record IsTaken (held piece new : List ℕ) (count : ℕ) : Type 0 where
  pub within : IsWithin held
  pub before : fault_in held ≡ None
  pub lawful : fault_in (held ++ piece) ≡ None
  pub count_is : count ≡ count_taken held piece
  pub held_is : new ≡ held_after held piece

pub body_taken : (held piece middle shown again new : List ℕ) (of_head size of_body : ℕ) (o : Option FrameFault) → IsHeadTaken held piece middle of_head
    → shown ≡ middle → o ≡ fault_in shown → ((fault : FrameFault) → o ≡ Some fault → ⊥) → again ≡ middle → size ≡ size_needed again
    → of_body ≡ min (length (take (length piece - of_head) (drop of_head piece))) (size - length middle)
    → new ≡ middle ++ take of_body (take (length piece - of_head) (drop of_head piece)) → IsTaken held piece new (of_head + of_body)
body_taken held piece middle shown again new of_head size of_body o f is asked none same sized count items =
    let all : take (length piece - of_head) (drop of_head piece) ≡ drop of_head piece = take_rest piece of_head in
    let s = up_to held piece 8 of_head (omega arith) f.count in
    let steps = two_steps held piece of_head of_body f.count
    (count ∙ ap (λ t. min (length t) (size - length middle)) all
    ∙ ap (λ n. min (length (drop of_head piece)) (n - length middle)) (sized ∙ ap size_needed same)
    ∙ ap (λ t. min (length (drop of_head piece)) (size_needed t - length t)) f.middle_is) in
    record {
      within = f.within;
      before = f.before;
      lawful = sym (same_fault held piece of_head s) ∙ ap fault_in (sym (is ∙ f.middle_is)) ∙ sym asked ∙ no_some o none;
      count_is = steps.count;
      held_is = items ∙ ap (λ t. middle ++ take of_body t) all ∙ ap (λ t. t ++ take of_body (drop of_head piece)) f.middle_is ∙ steps.held_is;
    }

pub taken_answer : (held piece new : List ℕ) (count : ℕ) → IsTaken held piece new count → Ok count ≡ feed held piece
taken_answer held piece new count f = sym
    (ap (λ x. answer_after x (fault_in (held ++ piece)) (count_taken held piece)) f.before
    ∙ ap (λ x. answer_after None x (count_taken held piece)) f.lawful
    ∙ ap (answer_after None None) (sym f.count_is))

pub taken_front : (held piece new : List ℕ) (count : ℕ) → IsTaken held piece new count → (count ≤ length piece) × (new ≡ held ++ take count piece)
taken_front held piece new count f = rw f.count_is (omega arith, f.held_is)

pub taken_within : (held piece new : List ℕ) (count : ℕ) → IsTaken held piece new count → length new ≤ size_needed new
taken_within held piece new count f = rw f.held_is (after_within held piece f.within).within

pub taken_whole : (held piece new : List ℕ) (count : ℕ) → IsTaken held piece new count → count < length piece → IsMessage new
taken_whole held piece new count f less = rw f.held_is (after_whole held piece f.within f.lawful (rw f.count_is at less))

pub taken_some : (held piece new : List ℕ) (count : ℕ) → IsTaken held piece new count → BeginsWithNoMessage held → 0 < length piece → 0 < count
taken_some held piece new count f none some = rw f.count_is (takes_some held piece f.within f.before none some)

-- ---- whether a message waits, as `next` tests it

pub waits_none : (held inside slice : List ℕ) (len size : ℕ) → inside ≡ held → slice ≡ inside → len ≡ length inside → size ≡ size_needed slice → len < size
    → BeginsWithNoMessage held
waits_none held inside slice len size view shown counted sized less =
    lacks_no_message held (omega (arith, counted ∙ ap length view, sized ∙ ap size_needed (shown ∙ view)))

pub waits_whole : (held inside slice : List ℕ) (len size : ℕ) → inside ≡ held → length inside ≤ size_needed inside → slice ≡ inside → len ≡ length inside
    → size ≡ size_needed slice → size ≤ len → fault_in held ≡ None → IsMessage held
waits_whole held inside slice len size view within shown counted sized full lawful =
    let w = is_within inside held view within in
    message_whole held lawful (omega (arith, w.within, counted ∙ ap length view, sized ∙ ap size_needed (shown ∙ view)))
