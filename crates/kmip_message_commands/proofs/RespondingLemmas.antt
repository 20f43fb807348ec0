-- What a command wrote for the lines that it read so far, and which of them it refused.
use Rattle.std.proofs.Common.{◌≡◌, ℕ, ◌<◌, ◌≤◌, Bool, true, false, ◌||◌, ltb, cond, List, [], ◌∷◌, ◌++◌, Option, Some, None, IfSome, Result, Ok, Err, length, take, refl, sym, ap, subst, ◌∙◌, arith, append_assoc, append-nil, ne_eqb, take_all, length-take-le}
use Rattle.std.specs.Result.{IfErr, OnErr}
use Rattle.std.proofs.lemmas.Bool.{ltb-true, lt-ltb}
use Rattle.std.proofs.lemmas.Bool.Decides.{nat_tests}
use Rattle.std.specs.Io.KnownBytes.{Keeps, Appends}
use Rattle.std.proofs.KnownBytes.{Appends-nil, Appends-trans, Appends-kept}
use Rattle.hex.specs.Hex.{decode_of}
use Rattle.kmip_message_commands.specs.Judging.{Saying, nothing, too_long, no_hex, message, saying_of, saying_decoded, is_saying_refused, are_refused}
use Rattle.kmip_message_commands.specs.LineText.{saying_text, state_after_saying, lines_text}
use Rattle.kmip_message_commands.specs.Private.{state_after_lines, lines_read, Response, input_read, Responds, RespondsTo, BreaksOffAt}
use Rattle.kmip_message_commands.specs.Lines.{most_digits, lines_of}
use Rattle.kmip_message_commands.specs.Private.{most_kept, TakesFirst}
use Rattle.kmip_report.specs.Endings.{UnlessOutput}
use Rattle.kmip_message_commands.specs.Printing.{WroteFront}
use Rattle.kmip_report.specs.declared.command_fault.CommandFault.{CommandFault}
use Rattle.kmip_report.specs.declared.command_fault.CommandFault.TheVariants.{Input, Output, NoMemory}

-- a line of more digits than a message may have
saying_of-long : (line : List ℕ) → most_digits < length line → saying_of line ≡ too_long
saying_of-long line long =
    ap (λ b. cond b nothing (cond (ltb most_digits (length line)) too_long (saying_decoded (decode_of line)))) (ne_eqb (length line) 0 (λ none. absurd (omega (arith, none))))
    ∙ ap (λ b. cond b too_long (saying_decoded (decode_of line))) (lt-ltb most_digits (length line) long)

-- what is kept of a line says what the line does
saying_of-kept : (line : List ℕ) → saying_of (take most_kept line) ≡ saying_of line
saying_of-kept line = split (ltb most_digits (length line)) refl
  where
    split : (b : Bool) → ltb most_digits (length line) ≡ b → saying_of (take most_kept line) ≡ saying_of line
    split true is =
        let long : most_digits < length line = ltb-true _ _ is in
        let kept : length (take most_kept line) ≡ most_kept = length-take-le most_kept line (omega arith) in
        saying_of-long (take most_kept line) (omega arith) ∙ sym (saying_of-long line long)
    split false is =
        let short : length line ≤ most_kept = grind (arith, nat_tests) in
        ap saying_of (take_all most_kept line short)

or_assoc : (a b c : Bool) → (a || (b || c)) ≡ ((a || b) || c)
or_assoc true b c = refl
or_assoc false b c = refl

or_false : (b : Bool) → (b || false) ≡ b
or_false true = refl
or_false false = refl

-- ---- lines, and lines after them

pub text_joined : {S : Type 0} (r : Response S) (first : S) (front more : List (List ℕ))
    → lines_text r.text r.after first (front ++ more)
    ≡ lines_text r.text r.after first front ++ lines_text r.text r.after (state_after_lines r.after first front) more
text_joined r first [] more = refl
text_joined r first (line ∷ front) more =
    let next = state_after_saying r.after first (saying_of line) in
    ap (λ t. saying_text r.text first (saying_of line) ++ t) (text_joined r next front more)
    ∙ sym (append_assoc (saying_text r.text first (saying_of line)) (lines_text r.text r.after next front) (lines_text r.text r.after (state_after_lines r.after next front) more))

pub state_joined : {S : Type 0} (r : Response S) (first : S) (front more : List (List ℕ))
    → state_after_lines r.after first (front ++ more) ≡ state_after_lines r.after (state_after_lines r.after first front) more
state_joined r first [] more = refl
state_joined r first (line ∷ front) more = state_joined r (state_after_saying r.after first (saying_of line)) front more

refused_joined : (refuses : List ℕ → Bool) (front more : List (List ℕ)) → are_refused refuses (front ++ more) ≡ (are_refused refuses front || are_refused refuses more)
refused_joined refuses [] more = refl
refused_joined refuses (line ∷ front) more =
    ap (λ b. is_saying_refused refuses (saying_of line) || b) (refused_joined refuses front more)
    ∙ or_assoc (is_saying_refused refuses (saying_of line)) (are_refused refuses front) (are_refused refuses more)

-- before the first line
responds_none : {S : Type 0} (r : Response S) (first : S) (old : Option (List ℕ)) → Responds r [] first first old old false
responds_none r first old = record { text_is = Appends-nil old; state_is = refl; refused_is = refl }

-- one line more
responds_more : {S : Type 0} (r : Response S) (front : List (List ℕ)) (line seen : List ℕ) (first state next : S) (old now new : Option (List ℕ)) (refused refused' : Bool)
    → Responds r front first state old now refused → saying_of line ≡ saying_of seen
    → Appends now new (saying_text r.text state (saying_of seen)) → next ≡ state_after_saying r.after state (saying_of seen)
    → refused' ≡ (refused || is_saying_refused r.refuses (saying_of seen)) → Responds r (front ++ line ∷ []) first next old new refused'
responds_more r front line seen first state next old now new refused refused' h same written moved counted =
    let before = lines_text r.text r.after first front in
    let here : lines_text r.text r.after first (front ++ line ∷ []) ≡ before ++ saying_text r.text state (saying_of seen) =
    text_joined r first front (line ∷ [])
    ∙ ap (λ t. before ++ t) (append-nil (saying_text r.text (state_after_lines r.after first front) (saying_of line)))
    ∙ ap (λ s. before ++ saying_text r.text s (saying_of line)) (sym h.state_is)
    ∙ ap (λ y. before ++ saying_text r.text state y) same in
    record {
      text_is = subst (Appends old new) (sym here) (Appends-trans old now new before (saying_text r.text state (saying_of seen)) h.text_is written);
      state_is = moved ∙ ap (state_after_saying r.after state) (sym same) ∙ ap (λ s. state_after_saying r.after s (saying_of line)) h.state_is
          ∙ sym (state_joined r first front (line ∷ []));
      refused_is = counted ∙ ap (λ b. b || is_saying_refused r.refuses (saying_of seen)) h.refused_is
          ∙ ap (λ y. are_refused r.refuses front || is_saying_refused r.refuses y) (sym same)
          ∙ ap (λ b. are_refused r.refuses front || b) (sym (or_false (is_saying_refused r.refuses (saying_of line))))
          ∙ sym (refused_joined r.refuses front (line ∷ []));
    }

-- ---- the lines of a command, as far as they were responded to

-- how a command stands among its lines: its state before them and now, what its writer held before them and
-- holds now, and whether it refused one
pub record Standing (S : Type 0) : Type 0 where
  pub first : S
  pub state : S
  pub old : Option (List ℕ)
  pub now : Option (List ℕ)
  pub refused : Bool

-- before the first line
abbrev pub standing_first : {S : Type 0} → S → Option (List ℕ) → Standing S
standing_first first old = record { first = first; state = first; old = old; now = old; refused = false }

-- after one more line, with this state, this held by the writer, and whether a line was refused
abbrev pub standing_next : {S : Type 0} → Standing S → S → Option (List ℕ) → Bool → Standing S
standing_next s next new refused = record s { state = next; now = new; refused = refused }

-- these lines are left of all that are read
pub record HasResponded {S : Type 0} (r : Response S) (lines left : List (List ℕ)) (s : Standing S) : Type 0 where
  pub front : List (List ℕ)
  pub whole : lines ≡ front ++ left
  pub done : Responds r front s.first s.state s.old s.now s.refused

pub responded_none : {S : Type 0} (r : Response S) (lines : List (List ℕ)) (first : S) (old : Option (List ℕ))
    → HasResponded r lines lines (standing_first first old)
responded_none r lines first old = record { front = []; whole = refl; done = responds_none r first old }

one_line : {S : Type 0} (r : Response S) (lines left more : List (List ℕ)) (line seen : List ℕ) (s : Standing S) (next : S) (new : Option (List ℕ)) (refused : Bool)
    → HasResponded r lines left s → left ≡ line ∷ more → saying_of line ≡ saying_of seen
    → Appends s.now new (saying_text r.text s.state (saying_of seen)) → next ≡ state_after_saying r.after s.state (saying_of seen)
    → refused ≡ (s.refused || is_saying_refused r.refuses (saying_of seen)) → HasResponded r lines more (standing_next s next new refused)
one_line r lines left more line seen s next new refused h is same written moved counted = record {
  front = h.front ++ line ∷ [];
  whole = h.whole ∙ ap (λ l. h.front ++ l) is ∙ sym (append_assoc h.front (line ∷ []) more);
  done = responds_more r h.front line seen s.first s.state next s.old s.now new s.refused refused h.done same written moved counted;
}

-- all lines that are read
pub responded_all : {S : Type 0} (r : Response S) (lines : List (List ℕ)) (s : Standing S)
    → HasResponded r lines [] s → Responds r lines s.first s.state s.old s.now s.refused
responded_all r lines s h =
    subst (λ l. Responds r l s.first s.state s.old s.now s.refused) (sym (h.whole ∙ append-nil h.front)) h.done

-- a command that broke off
pub responded_front : {S : Type 0} (r : Response S) (lines left : List (List ℕ)) (s : Standing S) (new : Option (List ℕ))
    → HasResponded r lines left s → Keeps s.now new → WroteFront (lines_text r.text r.after s.first) lines [] s.old new
responded_front r lines left s new h kept = record {
  front = h.front;
  rest = left;
  whole = h.whole;
  written = subst (Appends s.old new) (sym (append-nil (lines_text r.text r.after s.first h.front))) (Appends-kept s.old s.now new _ h.done.text_is kept);
}

-- which lines are read from a line on
pub read_on : {S : Type 0} (r : Response S) (state next : S) (line seen : List ℕ) (lines : List (List ℕ)) (b : Bool)
    → saying_of line ≡ saying_of seen → next ≡ state_after_saying r.after state (saying_of seen) → r.over next ≡ b
    → lines_read r.after r.over state (line ∷ lines) ≡ line ∷ cond b [] (lines_read r.after r.over next lines)
read_on r state next line seen lines b same e is =
    let there : state_after_saying r.after state (saying_of line) ≡ next = ap (state_after_saying r.after state) same ∙ sym e in
    ap (λ s. line ∷ cond (r.over s) [] (lines_read r.after r.over s lines)) there ∙ ap (λ o. line ∷ cond o [] (lines_read r.after r.over next lines)) is

-- a line of which `seen` is what it says, where the command is over after it, or is not
pub line_read : {S : Type 0} (r : Response S) (b : Bool) (lines : List (List ℕ)) (rest later : List ℕ) (line seen : List ℕ) (s : Standing S) (next : S) (new : Option (List ℕ)) (refused : Bool)
    → HasResponded r lines (input_read r s.state rest) s → lines_of rest ≡ line ∷ lines_of later → saying_of line ≡ saying_of seen
    → Appends s.now new (saying_text r.text s.state (saying_of seen)) → next ≡ state_after_saying r.after s.state (saying_of seen)
    → refused ≡ (s.refused || is_saying_refused r.refuses (saying_of seen)) → r.over next ≡ b
    → HasResponded r lines (cond b [] (input_read r next later)) (standing_next s next new refused)
line_read r b lines rest later line seen s next new refused h taken same written moved counted is =
    one_line r lines _ _ line seen s next new refused h
    (ap (lines_read r.after r.over s.state) taken ∙ read_on r s.state next line seen (lines_of later) b same moved is) same written moved counted

-- ---- the lines of a reader, where its bytes are known

pub record Responding {S : Type 0} (r : Response S) (read left : Option (List ℕ)) (s : Standing S) : Type 0 where
  pub so_far : IfSome read (λ input. (rest : List ℕ) × (left ≡ Some rest) × HasResponded r (input_read r s.first input) (input_read r s.state rest) s)

pub Responding-none : {S : Type 0} (r : Response S) (read : Option (List ℕ)) (first : S) (old : Option (List ℕ)) → Responding r read read (standing_first first old)
Responding-none r None first old = record { so_far = tt }
Responding-none r (Some input) first old = record { so_far = (input, refl, responded_none r (input_read r first input) first old) }

-- what is left where the command is over, or is not
pub record RespondsOn {S : Type 0} (r : Response S) (b : Bool) (read left : Option (List ℕ)) (s : Standing S) : Type 0 where
  pub so_far : IfSome read (λ input. (rest : List ℕ) × (left ≡ Some rest) × HasResponded r (input_read r s.first input) (cond b [] (input_read r s.state rest)) s)

-- one more line
pub Responding-line : {S : Type 0} (r : Response S) (b : Bool) (read left later : Option (List ℕ)) (kept seen : List ℕ) (s : Standing S) (next : S) (mid new : Option (List ℕ)) (refused : Bool)
    → Responding r read left s → IfSome left (λ input. TakesFirst input kept later) → seen ≡ kept
    → Keeps s.now mid → Appends mid new (saying_text r.text s.state (saying_of seen)) → next ≡ state_after_saying r.after s.state (saying_of seen)
    → refused ≡ (s.refused || is_saying_refused r.refuses (saying_of seen)) → r.over next ≡ b → RespondsOn r b read later (standing_next s next new refused)
Responding-line r b None left later kept seen s next mid new refused h taken same p written moved counted is = record { so_far = tt }
Responding-line r b (Some input) left later kept seen s next mid new refused h taken same p written moved counted is =
    let rest = h.so_far.0 in
    let t : TakesFirst rest kept later = subst (λ (o : Option (List ℕ)). IfSome o (λ i. TakesFirst i kept later)) h.so_far.1 taken in
    let here : HasResponded r (input_read r s.first input) (input_read r s.state rest) (record s { now = mid }) = kept_there input rest h.so_far.2 in
    record { so_far = (t.after, t.left, line_read r b _ rest t.after t.line seen (record s { now = mid }) next new refused here t.lines (sym (ap saying_of (same ∙ t.is_kept) ∙ saying_of-kept t.line)) written moved counted is) }
  where
    kept_there : (input rest : List ℕ) → HasResponded r (input_read r s.first input) (input_read r s.state rest) s
        → HasResponded r (input_read r s.first input) (input_read r s.state rest) (record s { now = mid })
    kept_there input rest h = record {
      front = h.front;
      whole = h.whole;
      done = record { text_is = Appends-kept s.old s.now mid _ h.done.text_is p; state_is = h.done.state_is; refused_is = h.done.refused_is };
    }

pub Responding-goes_on : {S : Type 0} (r : Response S) (read left : Option (List ℕ)) (s : Standing S)
    → RespondsOn r false read left s → Responding r read left s
Responding-goes_on r read left s h = record { so_far = h.so_far }

pub Responding-over : {S : Type 0} (r : Response S) (read left : Option (List ℕ)) (s : Standing S)
    → RespondsOn r true read left s → RespondsTo r read s.first s.state s.old s.now s.refused
Responding-over r None left s h = tt
Responding-over r (Some input) left s h = responded_all r (input_read r s.first input) s h.so_far.2

-- at the end of the input
pub Responding-end : {S : Type 0} (r : Response S) (read left later : Option (List ℕ)) (s : Standing S) (mid new : Option (List ℕ))
    → Responding r read left s → IfSome left (λ input. (input ≡ []) × (later ≡ Some []))
    → Keeps s.now mid → Keeps mid new → RespondsTo r read s.first s.state s.old new s.refused
Responding-end r None left later s mid new h end p q = tt
Responding-end r (Some input) left later s mid new h end p q =
    let none = subst (λ (o : Option (List ℕ)). IfSome o (λ i. (i ≡ []) × (later ≡ Some []))) h.so_far.1 end in
    let all = responded_all r (input_read r s.first input) s (subst (λ i. HasResponded r (input_read r s.first input) (input_read r s.state i) s) none.0 h.so_far.2) in
    record {
      text_is = Appends-kept s.old mid new _ (Appends-kept s.old s.now mid _ all.text_is p) q;
      state_is = all.state_is;
      refused_is = all.refused_is;
    }

-- where it broke off
pub Responding-broken : {S : Type 0} (r : Response S) (read left : Option (List ℕ)) (s : Standing S) (new : Option (List ℕ))
    → Responding r read left s → Keeps s.now new → BreaksOffAt r read s.first s.old new
Responding-broken r None left s new h kept = tt
Responding-broken r (Some input) left s new h kept = responded_front r (input_read r s.first input) _ s new h.so_far.2 kept

-- a line keeps what holds between two messages
pub stays_ready_line : {S : Type 0} (after : S → List ℕ → S) (IsReady : S → Type 0) → ((s : S) (m : List ℕ) → IsReady s → IsReady (after s m))
    → (state next : S) (y : Saying) → IsReady state → next ≡ state_after_saying after state y → IsReady next
stays_ready_line after IsReady stays state next y ready is = subst IsReady (sym is) (still y)
  where
    still : (y : Saying) → IsReady (state_after_saying after state y)
    still nothing = ready
    still too_long = ready
    still no_hex = ready
    still (message bytes) = stays state bytes ready

-- a text that is made from nothing
pub made_whole : (cleared made text shown : List ℕ) → cleared ≡ [] → made ≡ cleared ++ text → shown ≡ made → shown ≡ text
made_whole cleared made text shown none is same = same ∙ is ∙ ap (λ t. t ++ text) none

-- what holds at any fault holds unless the writer failed
pub at_fault : {A : Type 0} (result : Result A CommandFault) (P : Type 0) → P → IfErr result (λ fault. UnlessOutput fault P)
at_fault (Ok a) P p = tt
at_fault (Err Input) P p = p
at_fault (Err Output) P p = tt
at_fault (Err NoMemory) P p = p

pub at_want : {A E : Type 0} (result : Result A E) (P : Type 0) → P → OnErr result P
at_want (Ok a) P p = tt
at_want (Err e) P p = p

-- what follows at any fault
pub follows : (fault : CommandFault) (P Q : Type 0) → (P → Q) → UnlessOutput fault P → UnlessOutput fault Q
follows Input P Q f p = f p
follows Output P Q f p = tt
follows NoMemory P Q f p = f p
