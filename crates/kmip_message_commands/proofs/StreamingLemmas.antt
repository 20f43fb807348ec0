-- `answer --stream`: what it writes for the lines of its input, and how it says that the stream ends.
use Rattle.std.proofs.Common.{◌≡◌, ℕ, Bool, true, false, not, ◌&&◌, ◌||◌, cond, eqb, List, [], ◌∷◌, ◌++◌, length, codes, Option, Some, None, IfSome, is_some, refl, sym, ap, subst, ◌∙◌, arith, append_assoc, append-nil, eqb-true, true≢false}
use Rattle.std.specs.Fmt.{decimal}
use Rattle.std.specs.Io.KnownBytes.{Appends}
use Rattle.std.proofs.KnownBytes.{Appends-nil, Appends-trans}
use Rattle.kmip_frames.proofs.ForCallers.{fault_short, nothing_so_far}
use Rattle.kmip_frames.specs.declared.frame_fault.FrameFault.{FrameFault}
use Rattle.kmip_frames.specs.Faults.{frame_fault_number, frame_fault_name}
use Rattle.kmip_frames.specs.Framing.{fault_in}
use Rattle.kmip_frames.specs.Streams.{BeginsWithNoMessage, Stream}
use Rattle.kmip_store.specs.Stock.{Stock}
use Rattle.kmip_message_commands.specs.AnswerText.{first_stock}
use Rattle.kmip_message_commands.specs.PrivateBytewise.{StreamState, is_over, piece_text, state_after_piece, streams}
use Rattle.kmip_message_commands.proofs.BytewiseLaws.{stays_over, stays_ready, nothing_waits}
use Rattle.kmip_message_commands.proofs.RespondingLemmas.{read_on}
use Rattle.kmip_message_commands.specs.Judging.{Saying, nothing, too_long, no_hex, message, saying_of, is_saying_refused, are_refused, has_refused_line}
use Rattle.kmip_message_commands.specs.Lines.{lines_of}
use Rattle.kmip_message_commands.specs.LineText.{saying_text, state_after_saying, lines_text}
use Rattle.kmip_message_commands.specs.Private.{state_after_lines, lines_read, input_read, Responds, RespondsTo, BreaksOffAt}
use Rattle.kmip_message_commands.specs.Printing.{WroteFront}
use Rattle.kmip_message_commands.specs.StreamText.{piece_of, pieces_of, stream_of, replies_text, end_by, end_of, stream_refusal_text, end_text, tail_text, is_refusal, is_whole_end, is_whole, stock_after_messages, GoesOn, IsPassedOver, IsTaken, IsTold, AreTold, IsWritten, IsAnswered, IsAllAnswered, IsStreamAnswered, IsBrokenOff}
use Rattle.kmip_message_commands.specs.declared.input_end.InputEnd.{InputEnd}
use Rattle.kmip_message_commands.specs.declared.input_end.InputEnd.TheVariants.{Whole, Cut, Refused}
use Rattle.kmip_message_commands.specs.declared.stream_outcome.StreamOutcome.{StreamOutcome}
use Rattle.kmip_message_commands.proofs.AdvancingLemmas.{piece_text_joined, piece_state_joined}
use Rattle.kmip_message_commands.proofs.MessagesLemmas.{fault_text, IsStreamed, is_streamed}

-- the line of a fault, from its parts
pub refusal_line : (fault : FrameFault) (number : ℕ) (name : List ℕ) → number ≡ frame_fault_number fault → name ≡ frame_fault_name fault
    → codes "stream refused: " ++ (decimal number ++ (codes " " ++ (name ++ codes "\n"))) ≡ stream_refusal_text fault
unfolding stream_refusal_text
refusal_line fault number name p q =
    ap (λ n. codes "stream refused: " ++ (decimal n ++ (codes " " ++ (name ++ codes "\n")))) p
    ∙ ap (λ n. codes "stream refused: " ++ (decimal (frame_fault_number fault) ++ (codes " " ++ (n ++ codes "\n")))) q
    ∙ grouped (codes "stream refused: ") (decimal (frame_fault_number fault)) (codes " ") (frame_fault_name fault) (codes "\n")
  where
    grouped : (a b c d e : List ℕ) → a ++ (b ++ (c ++ (d ++ e))) ≡ a ++ b ++ c ++ d ++ e
    grouped a b c d e = simp append_assoc

-- ---- the lines of the input

saying_moved : (s : StreamState) (y : Saying) → state_after_saying state_after_piece s y ≡ state_after_piece s (piece_of y)
saying_moved s nothing = refl
saying_moved s too_long = refl
saying_moved s no_hex = refl
saying_moved s (message bytes) = refl

saying_written : (s : StreamState) (y : Saying) → is_saying_refused (λ _. false) y ≡ false → saying_text piece_text s y ≡ piece_text s (piece_of y)
saying_written s nothing none = refl
saying_written s too_long none = absurd (true≢false none)
saying_written s no_hex none = absurd (true≢false none)
saying_written s (message bytes) none = refl

pub lines_moved : (s : StreamState) (lines : List (List ℕ)) → state_after_lines state_after_piece s lines ≡ state_after_piece s (pieces_of lines)
lines_moved s [] = refl
lines_moved s (line ∷ lines) =
    let piece = piece_of (saying_of line) in
    ap (λ s'. state_after_lines state_after_piece s' lines) (saying_moved s (saying_of line)) ∙ lines_moved (state_after_piece s piece) lines ∙ sym (piece_state_joined s piece (pieces_of lines))

none_first : (a b : Bool) → (a || b) ≡ false → (a ≡ false) × (b ≡ false)
none_first true b none = absurd (true≢false none)
none_first false b none = (refl, none)

pub lines_written : (s : StreamState) (lines : List (List ℕ)) → are_refused (λ _. false) lines ≡ false → lines_text piece_text state_after_piece s lines ≡ piece_text s (pieces_of lines)
lines_written s [] none = refl
lines_written s (line ∷ lines) none =
    let y = saying_of line in
    let both = none_first _ _ none in
    ap (λ t. t ++ lines_text piece_text state_after_piece (state_after_saying state_after_piece s y) lines) (saying_written s y both.0)
    ∙ ap (λ s'. piece_text s (piece_of y) ++ lines_text piece_text state_after_piece s' lines) (saying_moved s y)
    ∙ ap (λ t. piece_text s (piece_of y) ++ t) (lines_written (state_after_piece s (piece_of y)) lines both.1)
    ∙ sym (piece_text_joined s (piece_of y) (pieces_of lines))

-- ---- the whole input

-- what is left of a stream says how it ends by its front, where the rest was not looked at
same_end : (held unread : List ℕ) → fault_in (held ++ unread) ≡ fault_in held → (fault_in held ≡ None → unread ≡ []) → end_of held ≡ end_of (held ++ unread)
same_end held unread same all_read = split (fault_in held) refl
  where
    split : (o : Option FrameFault) → fault_in held ≡ o → end_of held ≡ end_of (held ++ unread)
    split (Some fault) is = ap (λ o. end_by o (length held)) is ∙ sym (ap (λ o. end_by o (length (held ++ unread))) (same ∙ is))
    split None is = ap end_of (sym (append-nil held)) ∙ ap (λ u. end_of (held ++ u)) (sym (all_read is))

-- a fault was written when it came, and a cut is written at the end
both_texts : (o : Option FrameFault) (left : ℕ) → fault_text o ++ tail_text (end_by o left) ≡ end_text (end_by o left)
both_texts (Some fault) left = append-nil (stream_refusal_text fault)
both_texts None left = split (eqb left 0)
  where
    split : (b : Bool) → tail_text (cond b Whole (Cut left)) ≡ end_text (cond b Whole (Cut left))
    split true = refl
    split false = refl

-- a stream that is not refused is not over
not_over : (o : Option FrameFault) (left : ℕ) → is_refusal (end_by o left) ≡ false → is_some o ≡ false
not_over (Some fault) left none = absurd (true≢false none)
not_over None left none = refl

-- after a fault no line changes anything
over_moved : (s : StreamState) (lines : List (List ℕ)) → is_over s ≡ true → state_after_lines state_after_piece s lines ≡ s
over_moved s lines over = lines_moved s lines ∙ (stays_over s (pieces_of lines) over).1

-- the lines that are read, and where all are
reads_all : (s : StreamState) (lines : List (List ℕ)) → is_over (state_after_lines state_after_piece s (lines_read state_after_piece is_over s lines)) ≡ false
    → lines_read state_after_piece is_over s lines ≡ lines
reads_all s [] not = refl
reads_all s (line ∷ lines) not = split (is_over after) refl (reads_all after lines)
  where
    after : StreamState
    after = state_after_saying state_after_piece s (saying_of line)

    split : (b : Bool) → is_over after ≡ b → (is_over (state_after_lines state_after_piece after (lines_read state_after_piece is_over after lines)) ≡ false → lines_read state_after_piece is_over after lines ≡ lines)
        → lines_read state_after_piece is_over s (line ∷ lines) ≡ line ∷ lines
    split true is later =
        let read = read_on streams s after line line lines true refl refl is in
        absurd (true≢false (sym is ∙ sym (ap (λ l. is_over (state_after_lines state_after_piece s l)) read) ∙ not))
    split false is later =
        let read = read_on streams s after line line lines false refl refl is in
        read ∙ ap (λ l. line ∷ l) (later (sym (ap (λ l. is_over (state_after_lines state_after_piece s l)) read) ∙ not))

-- where no line is refused, the lines that are not read would change nothing
read_moved : (s : StreamState) (lines : List (List ℕ)) → state_after_lines state_after_piece s (lines_read state_after_piece is_over s lines) ≡ state_after_lines state_after_piece s lines
read_moved s [] = refl
read_moved s (line ∷ lines) = split (is_over after) refl (read_moved after lines)
  where
    after : StreamState
    after = state_after_saying state_after_piece s (saying_of line)

    split : (b : Bool) → is_over after ≡ b → state_after_lines state_after_piece after (lines_read state_after_piece is_over after lines) ≡ state_after_lines state_after_piece after lines
        → state_after_lines state_after_piece s (lines_read state_after_piece is_over s (line ∷ lines)) ≡ state_after_lines state_after_piece s (line ∷ lines)
    split true is later = ap (state_after_lines state_after_piece s) (read_on streams s after line line lines true refl refl is) ∙ sym (over_moved after lines is)
    split false is later = ap (state_after_lines state_after_piece s) (read_on streams s after line line lines false refl refl is) ∙ later

read_written : (s : StreamState) (lines : List (List ℕ)) → are_refused (λ _. false) lines ≡ false
    → lines_text piece_text state_after_piece s (lines_read state_after_piece is_over s lines) ≡ lines_text piece_text state_after_piece s lines
read_written s [] none = refl
read_written s (line ∷ lines) none = split (is_over after) refl (read_written after lines (none_first _ _ none).1)
  where
    after : StreamState
    after = state_after_saying state_after_piece s (saying_of line)

    here : List ℕ
    here = saying_text piece_text s (saying_of line)

    split : (b : Bool) → is_over after ≡ b
        → lines_text piece_text state_after_piece after (lines_read state_after_piece is_over after lines) ≡ lines_text piece_text state_after_piece after lines
        → lines_text piece_text state_after_piece s (lines_read state_after_piece is_over s (line ∷ lines)) ≡ lines_text piece_text state_after_piece s (line ∷ lines)
    split true is later =
        ap (lines_text piece_text state_after_piece s) (read_on streams s after line line lines true refl refl is)
        ∙ ap (λ t. here ++ t) (sym (lines_written after lines (none_first _ _ none).1 ∙ (stays_over after (pieces_of lines) is).0))
    split false is later =
        ap (lines_text piece_text state_after_piece s) (read_on streams s after line line lines false refl refl is) ∙ ap (λ t. here ++ t) later

-- the first state, and the lines that are read from it
abbrev start : StreamState
start = (first_stock, [])

answered_whole : (input : List ℕ) (outcome : StreamOutcome) (state : StreamState) (old mid new : Option (List ℕ))
    → Appends old mid (lines_text piece_text state_after_piece start (lines_read state_after_piece is_over start (lines_of input)))
    → state ≡ state_after_lines state_after_piece start (lines_read state_after_piece is_over start (lines_of input))
    → outcome.has_refused ≡ are_refused (λ _. false) (lines_read state_after_piece is_over start (lines_of input))
    → outcome.end ≡ end_of state.1 → Appends mid new (tail_text outcome.end)
    → IsAnswered input outcome old new
answered_whole input outcome state old mid new written state_is refused_is end_is tail =
    let bytes = stream_of input in
    let run = is_streamed [] [] first_stock [] bytes (fault_short [] (omega arith)) nothing_waits nothing_so_far in
    let held : List ℕ = (state_after_piece (first_stock, []) bytes).1 in
    let here : state.1 ≡ held = ap (λ s. s.1) (state_is ∙ read_moved (first_stock, []) (lines_of input) ∙ lines_moved (first_stock, []) (lines_of input)) in
    record {
      messages = run.more;
      rest = held ++ run.unread;
      stream = run.stream;
      end = end_is ∙ ap end_of here ∙ same_end held run.unread run.fault run.all_read;
      lines = λ none.
          let not = not_over (fault_in state.1) (length state.1) (ap is_refusal (sym end_is) ∙ none) in
          refused_is ∙ ap (are_refused (λ _. false)) (reads_all start (lines_of input) (ap is_over (sym state_is) ∙ not));
      text = λ none.
          let all : lines_text piece_text state_after_piece start (lines_read state_after_piece is_over start (lines_of input)) ≡ replies_text first_stock run.more ++ fault_text (fault_in held) =
          read_written start (lines_of input) none ∙ lines_written (first_stock, []) (lines_of input) none ∙ run.texts in
          let both = Appends-trans old mid new _ (tail_text outcome.end) (subst (Appends old mid) all written) tail in
          let ends : outcome.end ≡ end_by (fault_in held) (length held) = end_is ∙ ap end_of here in
          subst (Appends old new)
          (append_assoc (replies_text first_stock run.more) (fault_text (fault_in held)) (tail_text outcome.end)
          ∙ ap (λ e. replies_text first_stock run.more ++ (fault_text (fault_in held) ++ tail_text e)) ends
          ∙ ap (λ t. replies_text first_stock run.more ++ t) (both_texts (fault_in held) (length held))
          ∙ ap (λ e. replies_text first_stock run.more ++ end_text e) (sym ends))
          both;
    }

-- ---- every input, line by line

-- what is to be shown of lines that are told
abbrev Told : List (List ℕ) → Type 0
Told lines = (s : StreamState) (text : List ℕ) (end : InputEnd) (refused : Bool)
    → text ≡ lines_text piece_text state_after_piece s (lines_read state_after_piece is_over s lines) ++ tail_text end
    → end ≡ end_of (state_after_lines state_after_piece s (lines_read state_after_piece is_over s lines)).1
    → refused ≡ are_refused (λ _. false) (lines_read state_after_piece is_over s lines)
    → fault_in s.1 ≡ None → BeginsWithNoMessage s.1 → AreTold lines s.0 s.1 text end refused

-- a line that changes nothing does not end the command
reads_on : (s : StreamState) (lines more : List (List ℕ)) → fault_in s.1 ≡ None
    → more ≡ cond (is_over s) [] (lines_read state_after_piece is_over s lines) → more ≡ lines_read state_after_piece is_over s lines
reads_on s lines more lawful is = is ∙ ap (λ o. cond (is_some o) [] (lines_read state_after_piece is_over s lines)) lawful

passed_over : (why : List ℕ) (lines : List (List ℕ)) → Told lines → (s : StreamState) (text : List ℕ) (end : InputEnd) (refused : Bool) (more : List (List ℕ))
    → text ≡ (why ++ lines_text piece_text state_after_piece s more) ++ tail_text end → end ≡ end_of (state_after_lines state_after_piece s more).1 → refused ≡ true
    → more ≡ lines_read state_after_piece is_over s lines → fault_in s.1 ≡ None → BeginsWithNoMessage s.1
    → IsPassedOver why (AreTold lines) s.0 s.1 text end refused
passed_over why lines later s text end refused more text_is end_is refused_is more_is lawful none = record {
  more = lines_text piece_text state_after_piece s more ++ tail_text end;
  others = are_refused (λ _. false) more;
  text_is = text_is ∙ append_assoc why (lines_text piece_text state_after_piece s more) (tail_text end);
  is_refused = refused_is;
  goes_on = later s _ end _ (ap (λ l. lines_text piece_text state_after_piece s l ++ tail_text end) more_is) (end_is ∙ ap (λ l. end_of (state_after_lines state_after_piece s l).1) more_is) (ap (are_refused (λ _. false)) more_is) lawful none;
}

-- a piece, and the lines after it
taken_piece : (piece : List ℕ) (lines : List (List ℕ)) → Told lines → (s : StreamState) (text : List ℕ) (end : InputEnd) (refused : Bool) (more : List (List ℕ))
    → text ≡ (piece_text s piece ++ lines_text piece_text state_after_piece (state_after_piece s piece) more) ++ tail_text end
    → end ≡ end_of (state_after_lines state_after_piece (state_after_piece s piece) more).1 → refused ≡ are_refused (λ _. false) more
    → more ≡ cond (is_over (state_after_piece s piece)) [] (lines_read state_after_piece is_over (state_after_piece s piece) lines)
    → fault_in s.1 ≡ None → BeginsWithNoMessage s.1 → IsTaken piece (AreTold lines) s.0 s.1 text end refused
taken_piece piece lines later s text end refused more text_is end_is refused_is more_is lawful none =
    record {
      messages = run.more;
      rest = after.1 ++ run.unread;
      more = fault_text (fault_in after.1) ++ (lines_text piece_text state_after_piece after more ++ tail_text end);
      stream = run.stream;
      text_is =
          text_is ∙ ap (λ t. (t ++ lines_text piece_text state_after_piece after more) ++ tail_text end) run.texts
          ∙ four (replies_text s.0 run.more) (fault_text (fault_in after.1)) (lines_text piece_text state_after_piece after more) (tail_text end);
      goes_on = split (fault_in after.1) refl;
    }
  where
    after : StreamState
    after = state_after_piece s piece

    run : IsStreamed s.1 piece [] s.0 (piece_text s piece) after
    run = is_streamed s.1 [] s.0 s.1 piece lawful none (record { whole = refl; each = tt })

    four : (a b c d : List ℕ) → ((a ++ b) ++ c) ++ d ≡ a ++ (b ++ (c ++ d))
    four a b c d = simp append_assoc

    split : (o : Option FrameFault) → fault_in after.1 ≡ o
        → GoesOn (fault_in (after.1 ++ run.unread)) (AreTold lines) (stock_after_messages s.0 run.more) (after.1 ++ run.unread)
        (fault_text (fault_in after.1) ++ (lines_text piece_text state_after_piece after more ++ tail_text end)) end refused
    split (Some fault) is =
        let none_more : more ≡ [] = more_is ∙ ap (λ o. cond (is_some o) [] (lines_read state_after_piece is_over after lines)) is in
        let refuses : end ≡ Refused fault = end_is ∙ ap (λ l. end_of (state_after_lines state_after_piece after l).1) none_more ∙ ap (λ o. end_by o (length after.1)) is in
        subst (λ o. GoesOn o (AreTold lines) (stock_after_messages s.0 run.more) (after.1 ++ run.unread) (fault_text (fault_in after.1) ++ (lines_text piece_text state_after_piece after more ++ tail_text end)) end refused)
        (sym (run.fault ∙ is)) (
          ap (λ o. fault_text o ++ (lines_text piece_text state_after_piece after more ++ tail_text end)) is
              ∙ ap (λ l. stream_refusal_text fault ++ (lines_text piece_text state_after_piece after l ++ tail_text end)) none_more
              ∙ ap (λ e. stream_refusal_text fault ++ tail_text e) refuses
              ∙ append-nil (stream_refusal_text fault),
          refuses,
          refused_is ∙ ap (are_refused (λ _. false)) none_more,
        )
    split None is =
        let all : more ≡ lines_read state_after_piece is_over after lines = reads_on after lines more is more_is in
        let nothing_left : after.1 ++ run.unread ≡ after.1 = ap (λ u. after.1 ++ u) (run.all_read is) ∙ append-nil after.1 in
        let text_here : fault_text (fault_in after.1) ++ (lines_text piece_text state_after_piece after more ++ tail_text end)
        ≡ lines_text piece_text state_after_piece after (lines_read state_after_piece is_over after lines) ++ tail_text end =
        ap (λ o. fault_text o ++ (lines_text piece_text state_after_piece after more ++ tail_text end)) is ∙ ap (λ l. lines_text piece_text state_after_piece after l ++ tail_text end) all in
        let told = later after _ end refused text_here (end_is ∙ ap (λ l. end_of (state_after_lines state_after_piece after l).1) all) (refused_is ∙ ap (are_refused (λ _. false)) all) is (stays_ready s piece none) in
        subst (λ o. GoesOn o (AreTold lines) (stock_after_messages s.0 run.more) (after.1 ++ run.unread) (fault_text (fault_in after.1) ++ (lines_text piece_text state_after_piece after more ++ tail_text end)) end refused)
        (sym (run.fault ∙ is))
        (subst (λ r. AreTold lines r (after.1 ++ run.unread) (fault_text (fault_in after.1) ++ (lines_text piece_text state_after_piece after more ++ tail_text end)) end refused) run.records
        (subst (λ h. AreTold lines after.0 h (fault_text (fault_in after.1) ++ (lines_text piece_text state_after_piece after more ++ tail_text end)) end refused) (sym nothing_left) told))

-- a line, by what it says
told_line : (y : Saying) (lines : List (List ℕ)) → Told lines → (s : StreamState) (text : List ℕ) (end : InputEnd) (refused : Bool) (more : List (List ℕ))
    → text ≡ (saying_text piece_text s y ++ lines_text piece_text state_after_piece (state_after_saying state_after_piece s y) more) ++ tail_text end
    → end ≡ end_of (state_after_lines state_after_piece (state_after_saying state_after_piece s y) more).1
    → refused ≡ (is_saying_refused (λ _. false) y || are_refused (λ _. false) more)
    → more ≡ cond (is_over (state_after_saying state_after_piece s y)) [] (lines_read state_after_piece is_over (state_after_saying state_after_piece s y) lines)
    → fault_in s.1 ≡ None → BeginsWithNoMessage s.1 → IsTold y (AreTold lines) s.0 s.1 text end refused
told_line nothing lines later s text end refused more text_is end_is refused_is more_is lawful none =
    let all = reads_on s lines more lawful more_is in
    later s text end refused (text_is ∙ ap (λ l. lines_text piece_text state_after_piece s l ++ tail_text end) all) (end_is ∙ ap (λ l. end_of (state_after_lines state_after_piece s l).1) all) (refused_is ∙ ap (are_refused (λ _. false)) all) lawful none
told_line too_long lines later s text end refused more text_is end_is refused_is more_is lawful none =
    passed_over (codes "refused: length\n") lines later s text end refused more text_is end_is refused_is (reads_on s lines more lawful more_is) lawful none
told_line no_hex lines later s text end refused more text_is end_is refused_is more_is lawful none =
    passed_over (codes "refused: hex\n") lines later s text end refused more text_is end_is refused_is (reads_on s lines more lawful more_is) lawful none
told_line (message piece) lines later s text end refused more text_is end_is refused_is more_is lawful none =
    taken_piece piece lines later s text end refused more text_is end_is refused_is more_is lawful none

are_told : (lines : List (List ℕ)) → Told lines
are_told [] s text end refused text_is end_is refused_is lawful none = (
  text_is ∙ ap tail_text end_is ∙ sym (ap (λ o. fault_text o ++ tail_text (end_of s.1)) lawful) ∙ both_texts (fault_in s.1) (length s.1) ∙ ap end_text (sym end_is),
  end_is,
  refused_is,
)
are_told (line ∷ lines) s text end refused text_is end_is refused_is lawful none =
    let y = saying_of line in
    let after = state_after_saying state_after_piece s y in
    let more = cond (is_over after) [] (lines_read state_after_piece is_over after lines) in
    told_line y lines (are_told lines) s text end refused more text_is end_is refused_is refl lawful none

-- the lines that are read are a front of all lines, and read again they are the same
read_front : (s : StreamState) (lines : List (List ℕ)) → (rest : List (List ℕ)) × (lines_read state_after_piece is_over s lines ++ rest ≡ lines)
read_front s [] = ([], refl)
read_front s (line ∷ lines) = split (is_over after) refl (read_front after lines)
  where
    after : StreamState
    after = state_after_saying state_after_piece s (saying_of line)

    split : (b : Bool) → is_over after ≡ b → (rest : List (List ℕ)) × (lines_read state_after_piece is_over after lines ++ rest ≡ lines)
        → (rest : List (List ℕ)) × (lines_read state_after_piece is_over s (line ∷ lines) ++ rest ≡ line ∷ lines)
    split true is later = (lines, ap (λ l. l ++ lines) (read_on streams s after line line lines true refl refl is))
    split false is later = (later.0, ap (λ l. l ++ later.0) (read_on streams s after line line lines false refl refl is) ∙ ap (λ l. line ∷ l) later.1)

read_again : (s : StreamState) (lines front rest : List (List ℕ)) → lines_read state_after_piece is_over s lines ≡ front ++ rest
    → lines_read state_after_piece is_over s front ≡ front
read_again s lines [] rest is = refl
read_again s [] (line ∷ front) rest is = absurd cc
read_again s (first ∷ lines) (line ∷ front) rest is = split (is_over after) refl (read_again after lines front rest)
  where
    after : StreamState
    after = state_after_saying state_after_piece s (saying_of line)

    same : first ≡ line
    same = cc

    others : cond (is_over after) [] (lines_read state_after_piece is_over after lines) ≡ front ++ rest
    others = let tail : cond (is_over (state_after_saying state_after_piece s (saying_of first))) [] (lines_read state_after_piece is_over (state_after_saying state_after_piece s (saying_of first)) lines) ≡ front ++ rest = cc in
        subst (λ l. cond (is_over (state_after_saying state_after_piece s (saying_of l))) [] (lines_read state_after_piece is_over (state_after_saying state_after_piece s (saying_of l)) lines) ≡ front ++ rest) same tail

    none_left : (front rest : List (List ℕ)) → [] ≡ front ++ rest → front ≡ []
    none_left [] rest is = refl
    none_left (x ∷ front) rest is = absurd cc

    split : (b : Bool) → is_over after ≡ b → (lines_read state_after_piece is_over after lines ≡ front ++ rest → lines_read state_after_piece is_over after front ≡ front)
        → lines_read state_after_piece is_over s (line ∷ front) ≡ line ∷ front
    split true is later =
        let none : front ≡ [] = none_left front rest (sym (ap (λ b. cond b [] (lines_read state_after_piece is_over after lines)) is) ∙ others) in
        read_on streams s after line line front true refl refl is ∙ ap (λ l. line ∷ l) (sym none)
    split false is later =
        read_on streams s after line line front false refl refl is
        ∙ ap (λ l. line ∷ l) (later (sym (ap (λ b. cond b [] (lines_read state_after_piece is_over after lines)) is) ∙ others))

-- what is said of lines all of which are read
told_all : (lines : List (List ℕ)) (text : List ℕ) (end : InputEnd) (refused : Bool)
    → text ≡ lines_text piece_text state_after_piece start (lines_read state_after_piece is_over start lines) ++ tail_text end
    → end ≡ end_of (state_after_lines state_after_piece start (lines_read state_after_piece is_over start lines)).1
    → refused ≡ are_refused (λ _. false) (lines_read state_after_piece is_over start lines) → AreTold lines first_stock [] text end refused
told_all lines text end refused text_is end_is refused_is =
    are_told lines start text end refused text_is end_is refused_is (fault_short [] (omega arith)) nothing_waits

-- from the first state on
from_start : (stock : Stock) (held : List ℕ) → (stock ≡ first_stock) × (held ≡ []) → (P : StreamState → Type 0) → P (stock, held) → P start
from_start stock held first P p = subst P (ap (λ r. (r, held)) first.0 ∙ ap (λ h. (first_stock, h)) first.1) p

pub stream_written : (read : Option (List ℕ)) (outcome : StreamOutcome) (stock : Stock) (held : List ℕ) (state : StreamState) (old mid new : Option (List ℕ))
    → (stock ≡ first_stock) × (held ≡ []) → RespondsTo streams read (stock, held) state old mid outcome.has_refused
    → outcome.end ≡ end_of state.1 → Appends mid new (tail_text outcome.end)
    → IfSome read (λ input. IsWritten input outcome old new)
stream_written None outcome stock held state old mid new first is end_is tail = tt
stream_written (Some input) outcome stock held state old mid new first is end_is tail =
    let all = from_start stock held first (λ s. Responds streams (input_read streams s input) s state old mid outcome.has_refused) is in
    let text = lines_text piece_text state_after_piece start (input_read streams start input) ++ tail_text outcome.end in
    record {
      text = text;
      written = Appends-trans old mid new _ (tail_text outcome.end) all.text_is tail;
      told = told_all (lines_of input) text outcome.end outcome.has_refused refl (end_is ∙ ap (λ s. end_of s.1) all.state_is) all.refused_is;
    }

pub stream_answered : (read : Option (List ℕ)) (outcome : StreamOutcome) (stock : Stock) (held : List ℕ) (state : StreamState) (old mid new : Option (List ℕ))
    → (stock ≡ first_stock) × (held ≡ []) → RespondsTo streams read (stock, held) state old mid outcome.has_refused
    → outcome.end ≡ end_of state.1 → Appends mid new (tail_text outcome.end)
    → IfSome read (λ input. IsAnswered input outcome old new)
stream_answered None outcome stock held state old mid new first is end_is tail = tt
stream_answered (Some input) outcome stock held state old mid new first is end_is tail =
    let all = from_start stock held first (λ s. Responds streams (input_read streams s input) s state old mid outcome.has_refused) is in
    answered_whole input outcome state old mid new all.text_is all.state_is all.refused_is end_is tail

-- ---- a stream that broke off

broken_off : (input tail : List ℕ) (old new : Option (List ℕ))
    → WroteFront (lines_text piece_text state_after_piece start) (input_read streams start input) tail old new → IsBrokenOff input tail old new
broken_off input tail old new w =
    let all = read_front start (lines_of input) in
    let again = read_again start (lines_of input) w.front w.rest w.whole in
    let end = end_of (state_after_lines state_after_piece start (lines_read state_after_piece is_over start w.front)).1 in
    record {
      front = w.front;
      rest = w.rest ++ all.0;
      lines = sym all.1 ∙ ap (λ l. l ++ all.0) w.whole ∙ append_assoc w.front w.rest all.0;
      text = lines_text piece_text state_after_piece start w.front;
      end = end;
      refused = are_refused (λ _. false) (lines_read state_after_piece is_over start w.front);
      told = told_all w.front (lines_text piece_text state_after_piece start w.front ++ tail_text end) end (are_refused (λ _. false) (lines_read state_after_piece is_over start w.front))
          (ap (λ l. lines_text piece_text state_after_piece start l ++ tail_text end) (sym again)) refl refl;
      written = w.written;
    }

-- no line was read
pub broken_first : (read old : Option (List ℕ)) → IfSome read (λ input. IsBrokenOff input [] old old)
broken_first None old = tt
broken_first (Some input) old =
    broken_off input [] old old (record { front = []; rest = input_read streams start input; whole = refl; written = Appends-nil old })

-- among the lines
pub broken_among : (read : Option (List ℕ)) (stock : Stock) (held : List ℕ) (old new : Option (List ℕ)) → (stock ≡ first_stock) × (held ≡ [])
    → BreaksOffAt streams read (stock, held) old new → IfSome read (λ input. IsBrokenOff input [] old new)
broken_among None stock held old new first is = tt
broken_among (Some input) stock held old new first is =
    broken_off input [] old new (from_start stock held first (λ s. WroteFront (lines_text piece_text state_after_piece s) (input_read streams s input) [] old new) is)

-- after the lines
pub broken_last : (read : Option (List ℕ)) (stock : Stock) (held : List ℕ) (state : StreamState) (old new : Option (List ℕ)) (refused : Bool)
    → (stock ≡ first_stock) × (held ≡ []) → RespondsTo streams read (stock, held) state old new refused → IfSome read (λ input. IsBrokenOff input [] old new)
broken_last None stock held state old new refused first is = tt
broken_last (Some input) stock held state old new refused first is =
    let all = from_start stock held first (λ s. Responds streams (input_read streams s input) s state old new refused) is in
    let text = lines_text piece_text state_after_piece start (input_read streams start input) in
    broken_off input [] old new (record {
      front = input_read streams start input;
      rest = [];
      whole = sym (append-nil (input_read streams start input));
      written = subst (Appends old new) (sym (append-nil text)) all.text_is;
    })

-- and then the line of a fault
pub broken_line : (read old mid new : Option (List ℕ)) (line : List ℕ) → IfSome read (λ input. IsBrokenOff input [] old mid) → Appends mid new line
    → IfSome read (λ input. IsBrokenOff input line old new)
broken_line None old mid new line is more = tt
broken_line (Some input) old mid new line is more = record {
  front = is.front;
  rest = is.rest;
  lines = is.lines;
  text = is.text;
  end = is.end;
  refused = is.refused;
  told = is.told;
  written = subst (λ t. Appends old new (t ++ line)) (append-nil is.text) (Appends-trans old mid new (is.text ++ []) line is.written more);
}

-- where nothing was refused and the stream is whole, it is messages to its end
whole_rest : (rest : List ℕ) (o : Option FrameFault) → is_whole_end (end_by o (length rest)) ≡ true → rest ≡ []
whole_rest rest (Some fault) whole = absurd (true≢false (sym whole))
whole_rest [] None whole = refl
whole_rest (x ∷ xs) None whole = split (eqb (length (x ∷ xs)) 0) refl whole
  where
    split : (b : Bool) → eqb (length (x ∷ xs)) 0 ≡ b → is_whole_end (cond b Whole (Cut (length (x ∷ xs)))) ≡ true → x ∷ xs ≡ []
    split true is whole = let none : length (x ∷ xs) ≡ 0 = eqb-true _ _ is in absurd (omega (arith, none))
    split false is whole = absurd (true≢false (sym whole))

whole_parts : (a b : Bool) → not (not a && b) ≡ false → (a ≡ false) × (b ≡ true)
whole_parts true b is = absurd (true≢false is)
whole_parts false true is = (refl, refl)
whole_parts false false is = absurd (true≢false is)

whole_end : (end : InputEnd) → is_whole_end end ≡ true → end ≡ Whole
whole_end Whole whole = refl
whole_end (Cut left) whole = absurd (true≢false (sym whole))
whole_end (Refused fault) whole = absurd (true≢false (sym whole))

all_answered : (input : List ℕ) (outcome : StreamOutcome) (old new : Option (List ℕ)) → not (is_whole outcome) ≡ false → IsAnswered input outcome old new → IsAllAnswered input old new
all_answered input outcome old new whole is =
    let parts = whole_parts outcome.has_refused (is_whole_end outcome.end) whole in
    let end = whole_end outcome.end parts.1 in
    let none = whole_rest is.rest (fault_in is.rest) (ap is_whole_end (sym is.end) ∙ parts.1) in
    let lines : has_refused_line input ≡ false = sym (is.lines (ap is_refusal end)) ∙ parts.0 in
    record {
      messages = is.messages;
      stream = subst (Stream (stream_of input) is.messages) none is.stream;
      lines = lines;
      text = subst (Appends old new) (ap (λ e. replies_text first_stock is.messages ++ end_text e) end ∙ append-nil (replies_text first_stock is.messages)) (is.text lines);
    }

pub any_answered : (read : Option (List ℕ)) (outcome : StreamOutcome) (old new : Option (List ℕ)) (refused : Bool) → refused ≡ not (is_whole outcome)
    → IfSome read (λ input. IsWritten input outcome old new) → IfSome read (λ input. IsAnswered input outcome old new) → IsStreamAnswered read old new refused
any_answered None outcome old new refused is lines stream = tt
any_answered (Some input) outcome old new refused is lines stream =
    record { outcome = outcome; refused_is = is; lines = lines; stream = stream; whole = λ none. all_answered input outcome old new (sym is ∙ none) stream }
