-- One more question of a probe.
use Rattle.std.proofs.Common.{◌≡◌, ◌≢◌, ◌≤◌, ◌<◌, ◌+◌, ◌⊎◌, ℕ, zero, suc, nat_lt, Bool, true, false, List, [], ◌∷◌, ◌++◌, length, Option, Some, None, refl, sym, ap, subst, ◌∙◌, inl, inr, arith}
use Rattle.std.proofs.lemmas.List.Sums.{sum_by-cons}
use Rattle.std.proofs.lemmas.Option.{same_Some}
use Rattle.std.specs.Prelude.{sum_by, take, ◌&&◌, option_to_list, slice_get, if◌then◌else◌}
use Rattle.std.proofs.lemmas.Bool.{cases_Bool, ltb-true, ltb-false}
use Rattle.std.proofs.lemmas.List.{append_assoc, append-nil}
use Rattle.kmip_protocol.specs.Past.{Past}
use Rattle.kmip_probe.specs.Asking.{AreAnswers, IsNext, is_free_at, message_after, messages_from, next_inquiry}
use Rattle.kmip_probe.specs.Inquiries.{most_messages, most_sends}
use Rattle.kmip_probe.specs.Putting.{AreAsked, AreSentOnce}
use Rattle.kmip_probe.specs.Private.{HasAsked}
use Rattle.kmip_probe.specs.declared.answer.Answer.{Answer}
use Rattle.kmip_probe.specs.declared.inquiry.Inquiry.{Inquiry}
use Rattle.kmip_probe.specs.declared.inquiry.TheConstants.{INQUIRIES}

-- ---- what is sent, and what is heard

messages_more : (prefix : List ℕ) (before answers : List Answer) (answer : Answer)
    → messages_from prefix before (answers ++ answer ∷ []) ≡ messages_from prefix before answers ++ option_to_list (message_after prefix (before ++ answers))
messages_more prefix before [] answer =
    ap (λ xs. option_to_list (message_after prefix xs) ++ []) (sym (append-nil before)) ∙ append-nil (option_to_list (message_after prefix (before ++ [])))
messages_more prefix before (first ∷ answers) answer =
    ap (λ ms. option_to_list (message_after prefix before) ++ ms) (messages_more prefix (before ++ first ∷ []) answers answer)
    ∙ ap (λ xs. option_to_list (message_after prefix before) ++ (messages_from prefix (before ++ first ∷ []) answers ++ option_to_list (message_after prefix xs)))
    (append_assoc before (first ∷ []) answers)
    ∙ sym (append_assoc (option_to_list (message_after prefix before)) (messages_from prefix (before ++ first ∷ []) answers) (option_to_list (message_after prefix (before ++ first ∷ answers))))

answers_more : (prefix : List ℕ) (before answers : List Answer) (answer : Answer) (sent own : List (List ℕ)) (handed given : List (Option (List ℕ)))
    → AreAnswers prefix before answers sent handed → IsNext prefix (before ++ answers) (message_after prefix (before ++ answers)) answer own given
    → AreAnswers prefix before (answers ++ answer ∷ []) (sent ++ own) (handed ++ given)
answers_more prefix before [] answer sent own handed given (none, nothing) next = (
  own,
  [],
  given,
  [],
  ap (λ xs. xs ++ own) none ∙ sym (append-nil own),
  ap (λ xs. xs ++ given) nothing ∙ sym (append-nil given),
  subst (λ xs. IsNext prefix xs (message_after prefix xs) answer own given) (append-nil before) next,
  (refl, refl),
)
answers_more prefix before (first ∷ answers) answer sent own handed given (front, left, said, rest, is, was, asked, others) next = (
  front,
  left ++ own,
  said,
  rest ++ given,
  ap (λ xs. xs ++ own) is ∙ append_assoc front left own,
  ap (λ xs. xs ++ given) was ∙ append_assoc said rest given,
  asked,
  answers_more prefix (before ++ first ∷ []) answers answer left own rest given others
      (subst (λ xs. IsNext prefix xs (message_after prefix xs) answer own given) (sym (append_assoc before (first ∷ []) answers)) next),
)

pub asked_more : (prefix : List ℕ) (answers : List Answer) (answer : Answer) (old between new : Past) → AreAsked prefix answers old between
    → HasAsked prefix answers answer between new → AreAsked prefix (answers ++ answer ∷ []) old new
asked_more prefix answers answer old between new asked once = record {
  messages = asked.messages ++ once.messages;
  sent = once.sent ∙ ap (λ ms. ms ++ once.messages) asked.sent ∙ append_assoc old.sent asked.messages once.messages;
  given = asked.given ++ once.given;
  handed = once.handed ∙ ap (λ hs. hs ++ once.given) asked.handed ∙ append_assoc old.handed asked.given once.given;
  heard = answers_more prefix [] answers answer asked.messages once.messages asked.given once.given asked.heard once.next;
}

-- each message once
pub once_more : (prefix : List ℕ) (answers : List Answer) (answer : Answer) (old between new : Past) → AreSentOnce prefix answers old between
    → new.sent ≡ between.sent ++ option_to_list (message_after prefix answers) → AreSentOnce prefix (answers ++ answer ∷ []) old new
once_more prefix answers answer old between new first once =
    once ∙ ap (λ ms. ms ++ option_to_list (message_after prefix answers)) first
    ∙ append_assoc old.sent (messages_from prefix [] answers) (option_to_list (message_after prefix answers))
    ∙ ap (λ ms. old.sent ++ ms) (sym (messages_more prefix [] answers answer))

-- ---- how many messages there are at most

abbrev sends_of : List Inquiry → ℕ
sends_of xs = sum_by (λ inquiry. most_sends inquiry.1) xs

more_sends : (x : Inquiry) (xs : List Inquiry) → sends_of (x ∷ xs) ≡ most_sends x.1 + sends_of xs
more_sends x xs = sum_by-cons (λ (i : Inquiry). most_sends i.1) x xs

most_next : (xs : List Inquiry) (n : ℕ) (inquiry : Inquiry) → slice_get xs n ≡ Some inquiry → sends_of (take (suc n) xs) ≡ sends_of (take n xs) + most_sends inquiry.1
most_next [] n inquiry is = absurd cc
most_next (x ∷ xs) zero inquiry is =
    let same : most_sends x.1 ≡ most_sends inquiry.1 = ap (λ (i : Inquiry). most_sends i.1) (same_Some x inquiry is) in
    let one : sends_of (x ∷ []) ≡ most_sends x.1 + 0 = more_sends x [] in
    let none : sends_of (take 0 (x ∷ xs)) ≡ 0 = refl in
    omega (arith, same, one, none)
most_next (x ∷ xs) (suc n) inquiry is =
    let more = most_next xs n inquiry is in
    let one : sends_of (take (suc (suc n)) (x ∷ xs)) ≡ most_sends x.1 + sends_of (take (suc n) xs) = more_sends x (take (suc n) xs) in
    let less : sends_of (take (suc n) (x ∷ xs)) ≡ most_sends x.1 + sends_of (take n xs) = more_sends x (take n xs) in
    omega (arith, more, one, less)

nothing_taken : (n : ℕ) → sends_of (take n []) ≡ 0
nothing_taken zero = refl
nothing_taken (suc n) = refl

most_grows : (xs : List Inquiry) (m n : ℕ) → m ≤ n → sends_of (take m xs) ≤ sends_of (take n xs)
most_grows [] m n le =
    let none : sends_of (take m []) ≡ 0 = nothing_taken m in
    omega (arith, none)
most_grows (x ∷ xs) zero n le = let none : sends_of (take 0 (x ∷ xs)) ≡ 0 = refl in omega (arith, none)
most_grows (x ∷ xs) (suc m) zero le = absurd (omega (arith, le))
most_grows (x ∷ xs) (suc m) (suc n) le =
    let more = most_grows xs m n (omega (arith, le)) in
    let fewer : sends_of (take (suc m) (x ∷ xs)) ≡ most_sends x.1 + sends_of (take m xs) = more_sends x (take m xs) in
    let most : sends_of (take (suc n) (x ∷ xs)) ≡ most_sends x.1 + sends_of (take n xs) = more_sends x (take n xs) in
    omega (arith, more, fewer, most)

placed : (free : Bool) (found inquiry : Option Inquiry) → (if free then found else None) ≡ inquiry → inquiry ≢ None → found ≡ inquiry
placed true found inquiry is some = is
placed false found inquiry is some = absurd (some (sym is))

-- one question more
pub most_after : (answers : List Answer) (inquiry : Inquiry) → next_inquiry answers ≡ Some inquiry
    → most_messages (length answers + 1) ≡ most_messages (length answers) + most_sends inquiry.1
most_after answers inquiry next =
    let more : length answers + 1 ≡ suc (length answers) = omega arith in
    ap most_messages more
    ∙ most_next INQUIRIES (length answers) inquiry
    (placed (is_free_at answers 0 && is_free_at answers 1) (slice_get INQUIRIES (length answers)) (Some inquiry) next (λ none. absurd cc))

-- more questions need no fewer messages
pub most_upto : (count most : ℕ) → count ≤ most → most_messages count ≤ most_messages most
most_upto count most le = most_grows INQUIRIES count most le

-- ---- from nothing, and to the end

pub nothing_asked : (prefix : List ℕ) (answers : List Answer) (p : Past) → answers ≡ [] → AreAsked prefix answers p p
nothing_asked prefix [] p none = record {
  messages = [];
  sent = sym (append-nil p.sent);
  given = [];
  handed = sym (append-nil p.handed);
  heard = (refl, refl);
}
nothing_asked prefix (answer ∷ answers) p none = absurd cc

pub nothing_sent : (prefix : List ℕ) (answers : List Answer) (p : Past) → answers ≡ [] → AreSentOnce prefix answers p p
nothing_sent prefix [] p none = sym (append-nil p.sent)
nothing_sent prefix (answer ∷ answers) p none = absurd cc

none_behind : (free : Bool) (inquiry : Option Inquiry) → inquiry ≡ None → (if free then inquiry else None) ≡ None
none_behind true inquiry none = none
none_behind false inquiry none = refl

pub all_done : (answers : List Answer) → (next_inquiry answers ≡ None) ⊎ (length answers ≡ 25) → next_inquiry answers ≡ None
all_done answers (inl none) = none
all_done answers (inr all) = none_behind (is_free_at answers 0 && is_free_at answers 1) (slice_get INQUIRIES (length answers)) (ap (slice_get INQUIRIES) all)

at_place : {X : Type 0} (xs : List X) (n : ℕ) → n < length xs → slice_get xs n ≢ None
at_place [] n less none = absurd (omega (arith, less))
at_place (x ∷ xs) zero less none = absurd cc
at_place (x ∷ xs) (suc n) less none = at_place xs n (omega (arith, less)) none

-- a question follows as long as there are fewer answers, where both names are free
one_behind : (answers : List Answer) → is_free_at answers 0 ≡ true → is_free_at answers 1 ≡ true → length answers < 25 → next_inquiry answers ≢ None
one_behind answers first second few none =
    let there : next_inquiry answers ≡ slice_get INQUIRIES (length answers) = rw (first, second) refl in
    at_place INQUIRIES (length answers) few (sym there ∙ none)

-- a count that is at most another, and not below 25, is the other where that is at most 25
pub up_to : (count most : ℕ) → count ≤ most → most ≤ 25 → (count < 25 → ⊥) → count ≡ most
up_to count most fewer few all =
    elim (cases_Bool (nat_lt count 25)) [
      | inl less ↦ absurd (all (ltb-true count 25 less))
      | inr no_less ↦ omega (arith, ltb-false count 25 no_less, fewer, few)
    ]

pub so_many : (answers : List Answer) (most : ℕ) → is_free_at answers 0 ≡ true → is_free_at answers 1 ≡ true → length answers ≤ most → most ≤ 25
    → (next_inquiry answers ≡ None) ⊎ (length answers ≡ most) → length answers ≡ most
so_many answers most first second fewer few (inr all) = all
so_many answers most first second fewer few (inl none) = up_to (length answers) most fewer few (λ less. one_behind answers first second less none)
