-- `answer --stream`: the messages that bytes make one by one are those of the stream.
use Rattle.std.proofs.Common.{◌≡◌, ℕ, Bool, true, false, eqb, List, [], ◌∷◌, ◌++◌, length, Option, Some, None, is_some, refl, sym, ap, subst, ◌∙◌, arith, append_assoc, append-nil, eqb-true, eq-eqb, true≢false}
use Rattle.kmip_frames.proofs.ForCallers.{fault_short, message_size, message_whole, fault_stays, IsSoFar, so_far_took, so_far_handed, so_far_ended}
use Rattle.kmip_frames.specs.declared.frame_fault.FrameFault.{FrameFault}
use Rattle.kmip_frames.specs.Framing.{fault_in, size_needed}
use Rattle.kmip_frames.specs.Streams.{BeginsWithNoMessage, Stream}
use Rattle.kmip_store.specs.Stock.{Stock}
use Rattle.kmip_server.specs.Batching.{stock_after_batch}
use Rattle.kmip_message_commands.specs.AnswerText.{reply_text}
use Rattle.kmip_message_commands.specs.PrivateBytewise.{StreamState, state_after_byte, piece_text, state_after_piece}
use Rattle.kmip_message_commands.proofs.BytewiseLaws.{byte_made, stays_over, nothing_waits, longer_waits}
use Rattle.kmip_message_commands.specs.StreamText.{replies_text, stream_refusal_text, stock_after_messages}

-- what is written where a head is no message's
abbrev pub fault_text : Option FrameFault → List ℕ
fault_text (Some fault) = stream_refusal_text fault
fault_text None = []

-- Behind the bytes `done`, which were messages and what was held, came further ones: more messages, this text, the records
-- and what is held now. Where that is a fault the rest was not looked at.
pub record IsStreamed (done bytes : List ℕ) (before : List (List ℕ)) (stock : Stock) (text : List ℕ) (after : StreamState) : Type 0 where
  pub more : List (List ℕ)
  pub unread : List ℕ
  pub stream : Stream (done ++ bytes) (before ++ more) (after.1 ++ unread)
  pub fault : fault_in (after.1 ++ unread) ≡ fault_in after.1
  pub all_read : fault_in after.1 ≡ None → unread ≡ []
  pub texts : text ≡ replies_text stock more ++ fault_text (fault_in after.1)
  pub records : after.0 ≡ stock_after_messages stock more

-- the same text, and the same held
retold : (done bytes : List ℕ) (before : List (List ℕ)) (stock : Stock) (text text' : List ℕ) (now now' : StreamState) → text' ≡ text → now' ≡ now
    → IsStreamed done bytes before stock text now → IsStreamed done bytes before stock text' now'
retold done bytes before stock text text' now now' p q is =
    subst (λ t. IsStreamed done bytes before stock t now') (sym p) (subst (λ s. IsStreamed done bytes before stock text s) (sym q) is)

-- the bytes of before and those after them, cut at another place
recut : (done bytes more : List ℕ) (before : List (List ℕ)) (stock : Stock) (text : List ℕ) (now : StreamState)
    → IsStreamed (done ++ bytes) more before stock text now → IsStreamed done (bytes ++ more) before stock text now
recut done bytes more before stock text now is = record {
  more = is.more;
  unread = is.unread;
  stream = subst (λ d. Stream d (before ++ is.more) (now.1 ++ is.unread)) (append_assoc done bytes more) is.stream;
  fault = is.fault;
  all_read = is.all_read;
  texts = is.texts;
  records = is.records;
}

-- a message was handed over before
one_before : (done bytes : List ℕ) (before : List (List ℕ)) (m : List ℕ) (stock : Stock) (text : List ℕ) (now : StreamState)
    → IsStreamed done bytes (before ++ m ∷ []) (stock_after_batch stock m) text now → IsStreamed done bytes before stock (reply_text stock m ++ text) now
one_before done bytes before m stock text now is = record {
  more = m ∷ is.more;
  unread = is.unread;
  stream = subst (λ ms. Stream (done ++ bytes) ms (now.1 ++ is.unread)) (append_assoc before (m ∷ []) is.more) is.stream;
  fault = is.fault;
  all_read = is.all_read;
  texts = ap (λ t. reply_text stock m ++ t) is.texts ∙ sym (append_assoc (reply_text stock m) (replies_text (stock_after_batch stock m) is.more) (fault_text (fault_in now.1)));
  records = is.records;
}

-- a fault: what follows is not looked at
at_fault : (done bytes : List ℕ) (before : List (List ℕ)) (stock : Stock) (held : List ℕ) (fault : FrameFault) → fault_in held ≡ Some fault
    → IsSoFar done before held → IsStreamed done bytes before stock (stream_refusal_text fault) (stock, held)
at_fault done bytes before stock held fault is so_far =
    let stays = fault_stays held bytes fault is in
    record {
      more = [];
      unread = bytes;
      stream = subst (λ ms. Stream (done ++ bytes) ms (held ++ bytes)) (sym (append-nil before)) (so_far_ended done before held bytes so_far stays.1);
      fault = stays.0 ∙ sym is;
      all_read = λ lawful. absurd (some_none (sym is ∙ lawful));
      texts = ap fault_text (sym is);
      records = refl;
    }
  where
    some_none : Some fault ≡ None → ⊥
    some_none same = absurd cc

-- no byte came
no_byte : (done : List ℕ) (before : List (List ℕ)) (stock : Stock) (held : List ℕ) → fault_in held ≡ None → BeginsWithNoMessage held
    → IsSoFar done before held → IsStreamed done [] before stock [] (stock, held)
no_byte done before stock held lawful none so_far = record {
  more = [];
  unread = [];
  stream = subst (λ ms. Stream (done ++ []) ms (held ++ [])) (sym (append-nil before)) (so_far_ended done before held [] so_far (subst BeginsWithNoMessage (sym (append-nil held)) none));
  fault = ap fault_in (append-nil held);
  all_read = λ _. refl;
  texts = ap fault_text (sym lawful);
  records = refl;
}

pub is_streamed : (done : List ℕ) (before : List (List ℕ)) (stock : Stock) (held bytes : List ℕ) → fault_in held ≡ None → BeginsWithNoMessage held
    → IsSoFar done before held → IsStreamed done bytes before stock (piece_text (stock, held) bytes) (state_after_piece (stock, held) bytes)
is_streamed done before stock held [] lawful none so_far = no_byte done before stock held lawful none so_far
is_streamed done before stock held (b ∷ bytes) lawful none so_far = split (fault_in h) refl (eqb (length h) (size_needed h)) refl
    (is_streamed (done ++ b ∷ []) (before ++ h ∷ []) (stock_after_batch stock h) [] bytes (fault_short [] (omega arith)) nothing_waits)
    (is_streamed (done ++ b ∷ []) before stock h bytes)
  where
    h : List ℕ
    h = held ++ b ∷ []

    took : IsSoFar (done ++ b ∷ []) before h
    took = so_far_took done before held (b ∷ []) so_far

    Goal : Type 0
    Goal = IsStreamed done (b ∷ bytes) before stock (piece_text (stock, held) (b ∷ bytes)) (state_after_piece (stock, held) (b ∷ bytes))

    split : (o : Option FrameFault) → fault_in h ≡ o → (whole : Bool) → eqb (length h) (size_needed h) ≡ whole
        → (IsSoFar (done ++ b ∷ []) (before ++ h ∷ []) []
        → IsStreamed (done ++ b ∷ []) bytes (before ++ h ∷ []) (stock_after_batch stock h) (piece_text (stock_after_batch stock h, []) bytes) (state_after_piece (stock_after_batch stock h, []) bytes))
        → (fault_in h ≡ None → BeginsWithNoMessage h → IsSoFar (done ++ b ∷ []) before h
        → IsStreamed (done ++ b ∷ []) bytes before stock (piece_text (stock, h) bytes) (state_after_piece (stock, h) bytes))
        → Goal
    split (Some fault) now whole size handed waits =
        let made = byte_made stock held b (Some fault) whole lawful now size in
        let over = stays_over (stock, h) bytes (ap is_some now) in
        recut done (b ∷ []) bytes before stock _ _ (retold (done ++ b ∷ []) bytes before stock (stream_refusal_text fault) _ (stock, h) _
        (ap (λ t. t ++ piece_text (state_after_byte (stock, held) b) bytes) made.0 ∙ ap (λ s. stream_refusal_text fault ++ piece_text s bytes) made.1 ∙ ap (λ t. stream_refusal_text fault ++ t) over.0 ∙ append-nil (stream_refusal_text fault))
        (ap (λ s. state_after_piece s bytes) made.1 ∙ over.1)
        (at_fault (done ++ b ∷ []) bytes before stock h fault now took))
    split None now true size handed waits =
        let made = byte_made stock held b None true lawful now size in
        recut done (b ∷ []) bytes before stock _ _ (retold (done ++ b ∷ []) bytes before stock _ _ _ _
        (ap (λ t. t ++ piece_text (state_after_byte (stock, held) b) bytes) made.0 ∙ ap (λ s. reply_text stock h ++ piece_text s bytes) made.1)
        (ap (λ s. state_after_piece s bytes) made.1)
        (one_before (done ++ b ∷ []) bytes before h stock _ _ (handed (so_far_handed (done ++ b ∷ []) before h took (message_whole h now (eqb-true _ _ size))))))
    split None now false size handed waits =
        let made = byte_made stock held b None false lawful now size in
        let ready = longer_waits held b none (λ whole. true≢false (sym (eq-eqb _ _ (message_size h whole)) ∙ size)) in
        recut done (b ∷ []) bytes before stock _ _ (retold (done ++ b ∷ []) bytes before stock _ _ _ _
        (ap (λ t. t ++ piece_text (state_after_byte (stock, held) b) bytes) made.0 ∙ ap (λ s. piece_text s bytes) made.1)
        (ap (λ s. state_after_piece s bytes) made.1)
        (waits now ready took))
