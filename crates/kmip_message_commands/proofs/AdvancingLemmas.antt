-- `answer --stream`: what the framer takes of a piece is what its bytes say one by one.
use Rattle.std.proofs.Common.{◌≡◌, ℕ, ◌+◌, ◌-◌, ◌<◌, ◌≤◌, Bool, true, false, not, eqb, min, List, [], ◌∷◌, ◌++◌, ◌⊎◌, length, take, drop, Option, Some, None, Ok, is_some, inl, inr, refl, sym, ap, subst, ◌∙◌, arith, append_assoc, append-nil, eqb-true, eq-eqb, ne_eqb, take_all}
use Rattle.std.specs.Io.KnownBytes.{Appends}
use Rattle.std.proofs.KnownBytes.{Appends-nil, Appends-trans}
use Rattle.std.proofs.Math.Nat.{min_comm}
use Rattle.std.proofs.lemmas.Bool.{cases_lt}
use Rattle.std.proofs.lemmas.List.{length-append, take_at, take_min, take-append-drop}
use Rattle.kmip_frames.proofs.ForCallers.{fault_size, fault_more, size_needed_fault, size_needed_more, size_needed_least, message_lawful, message_size, message_whole, fault_stays}
use Rattle.kmip_frames.specs.declared.frame_fault.FrameFault.{FrameFault}
use Rattle.kmip_frames.specs.Framing.{answer_after, count_taken, fault_in, feed, size_needed, held_after}
use Rattle.kmip_frames.specs.Streams.{IsMessage, BeginsWithNoMessage}
use Rattle.kmip_store.specs.Stock.{Stock}
use Rattle.kmip_server.specs.Batching.{stock_after_batch}
use Rattle.kmip_message_commands.specs.AnswerText.{reply_text}
use Rattle.kmip_message_commands.specs.PrivateBytewise.{StreamState, is_over, byte_text, state_after_byte, piece_text, state_after_piece}
use Rattle.kmip_message_commands.proofs.BytewiseLaws.{no_fault_front, byte_made, stays_over, stays_ready}
use Rattle.kmip_message_commands.proofs.LineLemmas.{take_joined}
use Rattle.kmip_message_commands.specs.StreamText.{stream_refusal_text}

-- ---- bytes, and bytes after them

pub piece_text_joined : (s : StreamState) (xs ys : List ℕ) → piece_text s (xs ++ ys) ≡ piece_text s xs ++ piece_text (state_after_piece s xs) ys
piece_text_joined s [] ys = refl
piece_text_joined s (x ∷ xs) ys =
    ap (λ t. byte_text s x ++ t) (piece_text_joined (state_after_byte s x) xs ys)
    ∙ sym (append_assoc (byte_text s x) (piece_text (state_after_byte s x) xs) (piece_text (state_after_piece (state_after_byte s x) xs) ys))

pub piece_state_joined : (s : StreamState) (xs ys : List ℕ) → state_after_piece s (xs ++ ys) ≡ state_after_piece (state_after_piece s xs) ys
piece_state_joined s [] ys = refl
piece_state_joined s (x ∷ xs) ys = piece_state_joined (state_after_byte s x) xs ys

-- ---- what the framer takes

one_more : (held : List ℕ) (x : ℕ) (xs : List ℕ) → (held ++ x ∷ []) ++ xs ≡ held ++ x ∷ xs
one_more held x xs = append_assoc held (x ∷ []) xs

-- a front of bytes that begin with no message is not as many as are needed
not_whole : (h : List ℕ) → fault_in h ≡ None → ¬ (IsMessage h) → eqb (length h) (size_needed h) ≡ false
not_whole h lawful not = split (eqb (length h) (size_needed h)) refl
  where
    split : (b : Bool) → eqb (length h) (size_needed h) ≡ b → b ≡ false
    split true is = absurd (not (message_whole h lawful (eqb-true _ _ is)))
    split false is = refl

-- bytes that make no message yet
pub quiet : (stock : Stock) (held xs : List ℕ) → BeginsWithNoMessage (held ++ xs) → fault_in (held ++ xs) ≡ None
    → (piece_text (stock, held) xs ≡ []) × (state_after_piece (stock, held) xs ≡ (stock, held ++ xs))
quiet stock held [] none lawful = (refl, ap (λ h. (stock, h)) (sym (append-nil held)))
quiet stock held (x ∷ xs) none lawful =
    let all = one_more held x xs in
    let here = no_fault_front (held ++ x ∷ []) xs (ap fault_in all ∙ lawful) in
    let made = byte_made stock held x None false (no_fault_front held (x ∷ xs) lawful) here (not_whole (held ++ x ∷ []) here (none (held ++ x ∷ []) xs (sym all))) in
    let later = quiet stock (held ++ x ∷ []) xs (subst BeginsWithNoMessage (sym all) none) (ap fault_in all ∙ lawful) in (
      ap (λ t. t ++ piece_text (state_after_byte (stock, held) x) xs) made.0 ∙ ap (λ s. piece_text s xs) made.1 ∙ later.0,
      ap (λ s. state_after_piece s xs) made.1 ∙ later.1 ∙ ap (λ h. (stock, h)) all,
    )

-- bytes that end a message
pub answered : (stock : Stock) (held xs : List ℕ) → IsMessage (held ++ xs) → 0 < length xs
    → (piece_text (stock, held) xs ≡ reply_text stock (held ++ xs)) × (state_after_piece (stock, held) xs ≡ (stock_after_batch stock (held ++ xs), []))
answered stock held [] is some = absurd (omega arith)
answered stock held (x ∷ []) is some =
    let lawful = message_lawful (held ++ x ∷ []) is in
    let made = byte_made stock held x None true (no_fault_front held (x ∷ []) lawful) lawful (eq-eqb _ _ (message_size (held ++ x ∷ []) is)) in
    (append-nil _ ∙ made.0, made.1)
answered stock held (x ∷ y ∷ xs) is some =
    let h = held ++ x ∷ [] in
    let all = one_more held x (y ∷ xs) in
    let whole : IsMessage (h ++ y ∷ xs) = subst IsMessage (sym all) is in
    let here = no_fault_front h (y ∷ xs) (message_lawful (h ++ y ∷ xs) whole) in
    let made = byte_made stock held x None false (no_fault_front held (x ∷ y ∷ xs) (message_lawful (held ++ x ∷ y ∷ xs) is)) here (not_whole h here (partial h y xs whole)) in
    let later = answered stock h (y ∷ xs) whole (omega arith) in (
      ap (λ t. t ++ piece_text (state_after_byte (stock, held) x) (y ∷ xs)) made.0 ∙ ap (λ s. piece_text s (y ∷ xs)) made.1 ∙ later.0 ∙ ap (reply_text stock) all,
      ap (λ s. state_after_piece s (y ∷ xs)) made.1 ∙ later.1 ∙ ap (λ m. (stock_after_batch stock m, [])) all,
    )
  where
    partial : (h : List ℕ) (y : ℕ) (xs : List ℕ) → IsMessage (h ++ y ∷ xs) → ¬ (IsMessage h)
    partial h y xs whole front =
        let joined : length (h ++ y ∷ xs) ≡ length h + length (y ∷ xs) = length-append h (y ∷ xs) in
        let same : length (h ++ y ∷ xs) ≡ length h = message_size (h ++ y ∷ xs) whole ∙ size_needed_more h (y ∷ xs) front.head ∙ sym (message_size h front) in
        absurd (omega (arith, joined, same))

-- the bytes at which a fault is seen are eight
eight_bytes : (held : List ℕ) (x : ℕ) (fault : FrameFault) → fault_in held ≡ None → fault_in (held ++ x ∷ []) ≡ Some fault → length (held ++ x ∷ []) ≡ 8
eight_bytes held x fault lawful is =
    let long : 8 ≤ length (held ++ x ∷ []) = fault_size (held ++ x ∷ []) fault is in
    let more : length (held ++ x ∷ []) ≡ length held + 1 = length-append held (x ∷ []) in
    elim (cases_lt (length held) 8) [
      | inl short ↦ omega (arith, long, more)
      | inr whole ↦ (let same = sym (fault_more held (x ∷ []) whole) ∙ is in absurd cc)
    ]

-- and before them no message is whole
few_bytes : (h xs : List ℕ) (fault : FrameFault) → fault_in h ≡ None → fault_in (h ++ xs) ≡ Some fault → length h ≡ size_needed h → ⊥
few_bytes h xs fault now is whole = elim (cases_lt (length h) 8) [
  | inl short ↦ omega (arith, whole, size_needed_least h)
  | inr long ↦ (let same = sym (fault_more h xs long) ∙ is in absurd cc)
]

-- bytes that make a head which is no message's
pub refused : (stock : Stock) (held xs : List ℕ) (fault : FrameFault) → fault_in held ≡ None → fault_in (held ++ xs) ≡ Some fault
    → (piece_text (stock, held) xs ≡ stream_refusal_text fault) × (state_after_piece (stock, held) xs ≡ (stock, take 8 (held ++ xs)))
refused stock held [] fault lawful is = let same = ap fault_in (sym (append-nil held)) in absurd cc
refused stock held (x ∷ xs) fault lawful is = split (fault_in (held ++ x ∷ [])) refl (refused stock (held ++ x ∷ []) xs fault)
  where
    h : List ℕ
    h = held ++ x ∷ []

    all : h ++ xs ≡ held ++ x ∷ xs
    all = one_more held x xs

    split : (o : Option FrameFault) → fault_in h ≡ o
        → (fault_in h ≡ None → fault_in (h ++ xs) ≡ Some fault → (piece_text (stock, h) xs ≡ stream_refusal_text fault) × (state_after_piece (stock, h) xs ≡ (stock, take 8 (h ++ xs))))
        → (piece_text (stock, held) (x ∷ xs) ≡ stream_refusal_text fault) × (state_after_piece (stock, held) (x ∷ xs) ≡ (stock, take 8 (held ++ x ∷ xs)))
    split (Some other) now later =
        let same : Some other ≡ Some fault = sym (fault_stays h xs other now).0 ∙ ap fault_in all ∙ is in
        let made = byte_made stock held x (Some fault) _ lawful (now ∙ same) refl in
        let over = stays_over (stock, h) xs (ap is_some now) in
        let eight = eight_bytes held x other lawful now in (
          ap (λ t. t ++ piece_text (state_after_byte (stock, held) x) xs) made.0 ∙ ap (λ s. stream_refusal_text fault ++ piece_text s xs) made.1 ∙ ap (λ t. stream_refusal_text fault ++ t) over.0 ∙ append-nil (stream_refusal_text fault),
          ap (λ s. state_after_piece s xs) made.1 ∙ over.1 ∙ ap (λ b. (stock, b)) (sym (take_at h xs 8 eight) ∙ ap (take 8) all),
        )
    split None now later =
        let made = byte_made stock held x None false lawful now (ne_eqb _ _ (few_bytes h xs fault now (ap fault_in all ∙ is))) in
        let more = later now (ap fault_in all ∙ is) in (
          ap (λ t. t ++ piece_text (state_after_byte (stock, held) x) xs) made.0 ∙ ap (λ s. piece_text s xs) made.1 ∙ more.0,
          ap (λ s. state_after_piece s xs) made.1 ∙ more.1 ∙ ap (λ b. (stock, take 8 b)) all,
        )

-- what the framer holds then
pub held_of_fault : (held xs : List ℕ) (fault : FrameFault) → fault_in held ≡ None → fault_in (held ++ xs) ≡ Some fault → held_after held xs ≡ take 8 (held ++ xs)
held_of_fault held xs fault lawful is =
    let short : length held ≤ 8 = elim (cases_lt (length held) 8) [
      | inl short ↦ omega (arith, short)
      | inr whole ↦ (let same = sym (fault_more held xs whole) ∙ is in absurd cc)
    ] in
    let front = take_all 8 held short in
    ap (λ n. held ++ take (min (length xs) (n - length held)) xs) (size_needed_fault (held ++ xs) fault is)
    ∙ ap (λ n. held ++ take n xs) (min_comm (length xs) (8 - length held))
    ∙ ap (λ t. held ++ t) (take_min (8 - length held) xs)
    ∙ ap (λ h. h ++ take (8 - length h) xs) (sym front)
    ∙ take_joined 8 held xs

-- ---- an advance

-- what was written, and the state now, are those of the bytes that were taken
pub record Advances (s now : StreamState) (bytes : List ℕ) (old new : Option (List ℕ)) : Type 0 where
  pub text : Appends old new (piece_text s bytes)
  pub after : now ≡ state_after_piece s bytes

advances : (s now after : StreamState) (bytes text : List ℕ) (old new : Option (List ℕ)) → (piece_text s bytes ≡ text) × (state_after_piece s bytes ≡ after)
    → Appends old new text → now ≡ after → Advances s now bytes old new
advances s now after bytes text old new is written state =
    record { text = subst (Appends old new) (sym is.0) written; after = state ∙ sym is.1 }

pub advance_refused : (stock : Stock) (held held' piece : List ℕ) (fault : FrameFault) (old new : Option (List ℕ)) → fault_in held ≡ None
    → fault_in (held ++ piece) ≡ Some fault → held' ≡ held_after held piece → Appends old new (stream_refusal_text fault)
    → Advances (stock, held) (stock, held') (take (length piece) piece) old new
advance_refused stock held held' piece fault old new lawful is after written =
    subst (λ p. Advances (stock, held) (stock, held') p old new) (sym (take_all (length piece) piece (omega arith)))
    (advances (stock, held) (stock, held') (stock, take 8 (held ++ piece)) piece (stream_refusal_text fault) old new (refused stock held piece fault lawful is) written
    (ap (λ h. (stock, h)) (after ∙ held_of_fault held piece fault lawful is)))

-- a piece that was taken brought no bad head
pub taken_lawful : (held now piece : List ℕ) (count : ℕ) → Ok count ≡ feed held piece → now ≡ held ++ take count piece → fault_in now ≡ None
taken_lawful held now piece count fed taken =
    let whole = lawful (fault_in held) (fault_in (held ++ piece)) (count_taken held piece) fed in
    let cut = append_assoc held (take count piece) (drop count piece) ∙ ap (λ p. held ++ p) (take-append-drop count piece) in
    ap fault_in taken ∙ no_fault_front (held ++ take count piece) (drop count piece) (ap fault_in cut ∙ whole)
  where
    lawful : (before after : Option FrameFault) (n : ℕ) → Ok count ≡ answer_after before after n → after ≡ None
    lawful (Some fault) after n is = absurd cc
    lawful None (Some fault) n is = absurd cc
    lawful None None n is = refl

pub advance_quiet : (stock : Stock) (held held' now bytes : List ℕ) (old : Option (List ℕ)) → held' ≡ held ++ bytes
    → (fault_in held' ≡ None) × BeginsWithNoMessage held' × (now ≡ held') → Advances (stock, held) (stock, now) bytes old old
advance_quiet stock held held' now bytes old is hands =
    advances (stock, held) (stock, now) (stock, held ++ bytes) bytes [] old old
    (quiet stock held bytes (subst BeginsWithNoMessage is hands.1) (ap fault_in (sym is) ∙ hands.0)) (Appends-nil old) (ap (λ h. (stock, h)) (hands.2 ∙ is))

pub advance_answered : (stock stock' : Stock) (held held' now bytes reply : List ℕ) (old new : Option (List ℕ)) → BeginsWithNoMessage held → held' ≡ held ++ bytes
    → IsMessage held' × (reply ≡ held') × (now ≡ []) → Appends old new (reply_text stock reply) → stock' ≡ stock_after_batch stock reply
    → Advances (stock, held) (stock', now) bytes old new
advance_answered stock stock' held held' now bytes reply old new none is hands written moved =
    let whole : IsMessage (held ++ bytes) = subst IsMessage is hands.0 in
    let same : reply ≡ held ++ bytes = hands.1 ∙ is in
    advances (stock, held) (stock', now) (stock_after_batch stock (held ++ bytes), []) bytes (reply_text stock (held ++ bytes)) old new
    (answered stock held bytes whole (some bytes whole))
    (subst (λ m. Appends old new (reply_text stock m)) same written)
    (ap (λ s. (s, now)) (moved ∙ ap (stock_after_batch stock) same) ∙ ap (λ h. (stock_after_batch stock (held ++ bytes), h)) hands.2)
  where
    some : (bytes : List ℕ) → IsMessage (held ++ bytes) → 0 < length bytes
    some [] whole = absurd (none held [] (sym (append-nil held)) (subst IsMessage (append-nil held) whole))
    some (x ∷ xs) whole = omega arith

-- ---- the loop over a piece

-- the rest of a piece is left, and this was written for what stood before it
pub record HasAdvanced (first now : StreamState) (piece rest : List ℕ) (old new : Option (List ℕ)) : Type 0 where
  pub done : List ℕ
  pub written : Appends old new done
  pub texts : piece_text first piece ≡ done ++ piece_text now rest
  pub states : state_after_piece first piece ≡ state_after_piece now rest
  pub ready : BeginsWithNoMessage now.1

pub advanced_none : (first : StreamState) (piece : List ℕ) (old : Option (List ℕ)) → BeginsWithNoMessage first.1 → HasAdvanced first first piece piece old old
advanced_none first piece old ready = record { done = []; written = Appends-nil old; texts = refl; states = refl; ready = ready }

pub advanced_more : (first now next : StreamState) (piece rest : List ℕ) (count : ℕ) (old mid new : Option (List ℕ)) → HasAdvanced first now piece rest old mid
    → Appends mid new (piece_text now (take count rest)) → next ≡ state_after_piece now (take count rest)
    → HasAdvanced first next piece (drop count rest) old new
advanced_more first now next piece rest count old mid new h written state =
    let front = take count rest in
    let back = drop count rest in
    let cut : rest ≡ front ++ back = sym (take-append-drop count rest) in
    record {
      done = h.done ++ piece_text now front;
      written = Appends-trans old mid new h.done (piece_text now front) h.written written;
      texts = h.texts ∙ ap (λ r. h.done ++ piece_text now r) cut ∙ ap (λ t. h.done ++ t) (piece_text_joined now front back)
          ∙ ap (λ s. h.done ++ (piece_text now front ++ piece_text s back)) (sym state) ∙ sym (append_assoc h.done (piece_text now front) (piece_text next back));
      states = h.states ∙ ap (state_after_piece now) cut ∙ piece_state_joined now front back ∙ ap (λ s. state_after_piece s back) (sym state);
      ready = subst (λ s. BeginsWithNoMessage s.1) (sym state) (stays_ready now front h.ready);
    }

-- at the end of the piece, or after a fault, all is written
pub advanced_all : (first now : StreamState) (piece rest : List ℕ) (old new : Option (List ℕ)) → HasAdvanced first now piece rest old new
    → (length rest ≡ 0) ⊎ (is_over now ≡ true) → Appends old new (piece_text first piece) × (now ≡ state_after_piece first piece)
advanced_all first now piece rest old new h ended =
    let over = both rest ended in
    (subst (Appends old new) (sym (h.texts ∙ ap (λ t. h.done ++ t) over.0 ∙ append-nil h.done)) h.written, sym (h.states ∙ over.1))
  where
    both : (rest : List ℕ) → (length rest ≡ 0) ⊎ (is_over now ≡ true) → (piece_text now rest ≡ []) × (state_after_piece now rest ≡ now)
    both [] ended = (refl, refl)
    both (x ∷ xs) (inl none) = absurd (omega arith)
    both (x ∷ xs) (inr over) = stays_over now (x ∷ xs) over
