-- Messages at the front of bytes, and that bytes are messages and a rest in one way only.
use Rattle.std.proofs.Common.{◌≡◌, ℕ, ◌+◌, ◌<◌, ◌≤◌, List, [], ◌∷◌, ◌++◌, length, take, Some, None, refl, sym, ap, ◌∙◌, append_assoc, arith}
use Rattle.std.specs.List.{AllByRecursion}
use Rattle.std.proofs.lemmas.List.{length-append, take_at, append-nil, append_cancel_left}
use Rattle.kmip_frames.specs.declared.frame_fault.FrameFault.{FrameFault}
use Rattle.kmip_frames.specs.Heads.{head_fault}
use Rattle.kmip_frames.specs.Streams.{IsMessage, BeginsWithNoMessage, joined, Stream}
use Rattle.kmip_frames.specs.Framing.{fault_in, size_needed}
use Rattle.kmip_frames.proofs.Sizes.{fault_long, fault_size, fault_more, size_needed_lawful, size_needed_more, size_needed_least}

pub message_lawful : (m : List ℕ) → IsMessage m → fault_in m ≡ None
message_lawful m is = fault_long m is.head ∙ is.lawful

pub message_size : (m : List ℕ) → IsMessage m → length m ≡ size_needed m
message_size m is = is.size ∙ sym (size_needed_lawful m is.head is.lawful)

-- bytes are a message, where they are as many as are needed and there is no fault
pub message_whole : (s : List ℕ) → fault_in s ≡ None → length s ≡ size_needed s → IsMessage s
message_whole s lawful whole =
    let long : 8 ≤ length s = omega (arith, size_needed_least s) in
    let good : head_fault (take 8 s) ≡ None = sym (fault_long s long) ∙ lawful in
    record { head = long; lawful = good; size = whole ∙ size_needed_lawful s long good }

-- a message at the front is all that is needed
front_size : (s m more : List ℕ) → s ≡ m ++ more → IsMessage m → length m ≡ size_needed s
front_size s m more is message = rw is (message_size m message ∙ sym (size_needed_more m more message.head))

front_lawful : (s m more : List ℕ) → s ≡ m ++ more → IsMessage m → fault_in s ≡ None
front_lawful s m more is message = rw is (fault_more m more message.head ∙ message_lawful m message)

pub lacks_no_message : (s : List ℕ) → length s < size_needed s → BeginsWithNoMessage s
lacks_no_message s lacks = λ m more is message.
    let size = front_size s m more is message in
    let whole : length s ≡ length m + length more = ap length is ∙ length-append m more in
    omega arith

pub fault_no_message : (s : List ℕ) (fault : FrameFault) → fault_in s ≡ Some fault → BeginsWithNoMessage s
fault_no_message s fault is = λ m more same message. let lawful = front_lawful s m more same message in cc

pub fault_stays : (s more : List ℕ) (fault : FrameFault) → fault_in s ≡ Some fault → (fault_in (s ++ more) ≡ Some fault) × BeginsWithNoMessage (s ++ more)
fault_stays s more fault is =
    let long = fault_size s fault is in
    let stays : fault_in (s ++ more) ≡ Some fault = fault_more s more long ∙ is in
    (stays, fault_no_message (s ++ more) fault stays)

-- what begins with no message is none
pub no_message : (s : List ℕ) → BeginsWithNoMessage s → ¬ (IsMessage s)
no_message s none message = none s [] (sym (append-nil s)) message

-- ---- one way only

same_front : (m n x y : List ℕ) → IsMessage m → IsMessage n → m ++ x ≡ n ++ y → (m ≡ n) × (x ≡ y)
same_front m n x y one other is =
    let size : length m ≡ length n = front_size (m ++ x) m x refl one ∙ sym (front_size (m ++ x) n y is other) in
    let same : m ≡ n = sym (take_at m x (length m) refl) ∙ ap (take (length m)) is ∙ take_at n y (length m) (sym size) in
    (same, append_cancel_left n x y (ap (λ s. s ++ x) (sym same) ∙ is))

pub one_way : (messages others : List (List ℕ)) (rest other : List ℕ) → AllByRecursion IsMessage messages → AllByRecursion IsMessage others
    → BeginsWithNoMessage rest → BeginsWithNoMessage other → joined messages ++ rest ≡ joined others ++ other → (messages ≡ others) × (rest ≡ other)
one_way [] [] rest other each every partial none is = (refl, is)
one_way [] (n ∷ ns) rest other each every partial none is = absurd (partial n (joined ns ++ other) (is ∙ append_assoc n (joined ns) other) every.0)
one_way (m ∷ ms) [] rest other each every partial none is = absurd (none m (joined ms ++ rest) (sym is ∙ append_assoc m (joined ms) rest) each.0)
one_way (m ∷ ms) (n ∷ ns) rest other each every partial none is =
    let same = same_front m n (joined ms ++ rest) (joined ns ++ other) each.0 every.0 (sym (append_assoc m (joined ms) rest) ∙ is ∙ append_assoc n (joined ns) other) in
    let later = one_way ms ns rest other each.1 every.1 partial none same.1 in
    (cc, later.1)

pub stream_once : (bytes : List ℕ) (messages others : List (List ℕ)) (rest other : List ℕ) → Stream bytes messages rest → Stream bytes others other
    → (messages ≡ others) × (rest ≡ other)
stream_once bytes messages others rest other one two =
    one_way messages others rest other one.each two.each one.partial two.partial (sym one.whole ∙ two.whole)
