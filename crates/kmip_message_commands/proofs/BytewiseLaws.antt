-- Laws of `answer --stream` byte by byte.
use Rattle.std.proofs.Common.{◌≡◌, ℕ, ◌+◌, ◌≤◌, Bool, true, false, eqb, List, [], ◌∷◌, ◌++◌, length, take, drop, Option, Some, None, is_some, inl, inr, refl, sym, ap, subst, ◌∙◌, arith, append-nil, eq-eqb, true≢false}
use Rattle.std.proofs.lemmas.Bool.{cases_lt}
use Rattle.std.proofs.lemmas.List.{length-append, take_at, take-append-le, take-append-drop}
use Rattle.kmip_frames.proofs.ForCallers.{fault_short, fault_more, message_size, fault_no_message}
use Rattle.kmip_frames.specs.declared.frame_fault.FrameFault.{FrameFault}
use Rattle.kmip_frames.specs.Framing.{fault_in, size_needed}
use Rattle.kmip_frames.specs.Streams.{IsMessage, BeginsWithNoMessage}
use Rattle.kmip_store.specs.Stock.{Stock}
use Rattle.kmip_message_commands.specs.PrivateBytewise.{StreamState, is_over, IsReady, made_text, made, byte_text, state_after_byte, piece_text, state_after_piece}

-- what has no fault has none at its front
pub no_fault_front : (s more : List ℕ) → fault_in (s ++ more) ≡ None → fault_in s ≡ None
no_fault_front s more is = elim (cases_lt (length s) 8) [ inl short ↦ fault_short s short | inr long ↦ sym (fault_more s more long) ∙ is ]

-- a byte joins bytes that are no fault
pub byte_made : (stock : Stock) (held : List ℕ) (b : ℕ) (o : Option FrameFault) (whole : Bool) → fault_in held ≡ None → fault_in (held ++ b ∷ []) ≡ o
    → eqb (length (held ++ b ∷ [])) (size_needed (held ++ b ∷ [])) ≡ whole
    → (byte_text (stock, held) b ≡ made_text o whole stock (held ++ b ∷ [])) × (state_after_byte (stock, held) b ≡ made o whole stock (held ++ b ∷ []))
byte_made stock held b o whole lawful is size = rw (lawful, is, size) (refl, refl)

-- a byte joins a fault
pub byte_over : (s : StreamState) (b : ℕ) → is_over s ≡ true → (byte_text s b ≡ []) × (state_after_byte s b ≡ s)
byte_over s b over = rw over (refl, refl)

-- after a fault nothing is written, and nothing changes
pub stays_over : (s : StreamState) (bytes : List ℕ) → is_over s ≡ true → (piece_text s bytes ≡ []) × (state_after_piece s bytes ≡ s)
stays_over s [] over = (refl, refl)
stays_over s (b ∷ bytes) over =
    let one = byte_over s b over in
    let more = stays_over s bytes over in
    (ap (λ t. t ++ piece_text (state_after_byte s b) bytes) one.0 ∙ ap (λ s'. piece_text s' bytes) one.1 ∙ more.0, ap (λ s'. state_after_piece s' bytes) one.1 ∙ more.1)

pub nothing_waits : BeginsWithNoMessage []
nothing_waits m more is message =
    let none : 0 ≡ length m + length more = ap length is ∙ length-append m more in
    absurd (omega (arith, none, message.head))

-- a byte more, which makes no message of them
pub longer_waits : (held : List ℕ) (b : ℕ) → BeginsWithNoMessage held → ¬ (IsMessage (held ++ b ∷ [])) → BeginsWithNoMessage (held ++ b ∷ [])
longer_waits held b none not m [] is message = not (subst IsMessage (sym (is ∙ append-nil m)) message)
longer_waits held b none not m (c ∷ more) is message =
    let one : length (held ++ b ∷ []) ≡ length held + 1 = length-append held (b ∷ []) in
    let two : length (m ++ c ∷ more) ≡ length m + length (c ∷ more) = length-append m (c ∷ more) in
    let within : length m ≤ length held = omega (arith, one, two, ap length is) in
    let front : m ≡ take (length m) held = sym (take_at m (c ∷ more) (length m) refl) ∙ sym (ap (take (length m)) is) ∙ take-append-le (length m) held (b ∷ []) within in
    none (take (length m) held) (drop (length m) held) (sym (take-append-drop (length m) held)) (subst IsMessage front message)

-- no message waits after a byte, where none did before it
ready_byte : (stock : Stock) (held : List ℕ) (b : ℕ) (o : Option FrameFault) (whole : Bool) → fault_in held ≡ None → fault_in (held ++ b ∷ []) ≡ o
    → eqb (length (held ++ b ∷ [])) (size_needed (held ++ b ∷ [])) ≡ whole → BeginsWithNoMessage held → IsReady (made o whole stock (held ++ b ∷ []))
ready_byte stock held b (Some fault) whole lawful is size none = fault_no_message (held ++ b ∷ []) fault is
ready_byte stock held b None true lawful is size none = nothing_waits
ready_byte stock held b None false lawful is size none =
    longer_waits held b none (λ message. true≢false (sym (eq-eqb _ _ (message_size (held ++ b ∷ []) message)) ∙ size))

pub stays_ready : (s : StreamState) (bytes : List ℕ) → IsReady s → IsReady (state_after_piece s bytes)
stays_ready s [] ready = ready
stays_ready s (b ∷ bytes) ready = stays_ready (state_after_byte s b) bytes (split (fault_in s.1) refl)
  where
    split : (o : Option FrameFault) → fault_in s.1 ≡ o → IsReady (state_after_byte s b)
    split (Some fault) is = subst IsReady (sym (byte_over s b (ap is_some is)).1) ready
    split None is = subst IsReady (sym (byte_made s.0 s.1 b _ _ is refl refl).1) (ready_byte s.0 s.1 b _ _ is refl refl ready)
