-- A stream in memory: its bytes are known, and so are those that were appended.
use Rattle.std.proofs.Common.{◌≡◌, ◌≢◌, ℕ, ℤ, List, ◌++◌, Some, inl, inr, refl, ap, subst, ◌∙◌, append_assoc}
use Rattle.std.proofs.lemmas.List.{append-nil}
use Rattle.kmip_frames.specs.Laws.{FaultsStay}
use Rattle.kmip_frames.specs.Streams.{joined}
use Rattle.kmip_store.specs.Stock.{Stock}
use Rattle.kmip_transport.specs.Serving.{Serves, ServesAll, BreaksOff}
use Rattle.kmip_transport.specs.Private.{LosesReply}
use Rattle.kmip_transport.specs.declared.stream_end.StreamEnd.{StreamEnd}
use Rattle.kmip_transport.specs.declared.stream_end.StreamEnd.TheVariants as ends

-- all messages were served
pub all_served : (now : ℤ) (end : StreamEnd) (s t : Stock) (input left before after : List ℕ) → FaultsStay
    → Serves now end s t (Some input) (Some left) (Some before) (Some after) → end ≢ ends.Io → end ≢ ends.NoMemory → ServesAll now end s t input before after
all_served now (ends.Ended size) s t input left before after stay so no_io no_memory = record {
  messages = so.messages;
  rest = so.rest;
  stream = record {
    whole = so.read ∙ ap (λ b. joined so.messages ++ so.rest ++ b) so.ends.2 ∙ append-nil (joined so.messages ++ so.rest);
    each = so.each;
    partial = so.ends.0.1;
  };
  ends = (so.ends.0.0, so.ends.1);
  records = so.records;
  written = so.written;
}
all_served now (ends.Frame fault) s t input left before after stay so no_io no_memory = record {
  messages = so.messages;
  rest = so.rest ++ left;
  stream = record {
    whole = so.read ∙ append_assoc (joined so.messages) so.rest left;
    each = so.each;
    partial = (stay so.rest left fault so.ends.0).1;
  };
  ends = (stay so.rest left fault so.ends.0).0;
  records = so.records;
  written = so.written;
}
all_served now ends.Io s t input left before after stay so no_io no_memory = absurd (no_io refl)
all_served now ends.NoMemory s t input left before after stay so no_io no_memory = absurd (no_memory refl)

-- memory ran out at a message
pub broke_off : (now : ℤ) (end : StreamEnd) (s t : Stock) (input left before after : List ℕ)
    → Serves now end s t (Some input) (Some left) (Some before) (Some after) → end ≡ ends.NoMemory → BreaksOff now s t input before after
broke_off now end s t input left before after served is =
    let so = subst (λ e. Serves now e s t (Some input) (Some left) (Some before) (Some after)) is served in record {
      messages = so.messages;
      next = so.rest;
      rest = left;
      read = so.read;
      each = so.each;
      records = elim so.records [ inl same ↦ inl same | inr (is, begun) ↦ inr (record { is = is; served = inr begun }) ];
      written = so.written;
    }

-- memory ran out at a reply
pub lost_reply : (now : ℤ) (Whole : Type 0) (s t : Stock) (input left before after : List ℕ) → Whole
    → LosesReply now Whole s t (Some input) (Some left) (Some before) (Some after) → BreaksOff now s t input before after
lost_reply now Whole s t input left before after whole lost = record {
  messages = lost.messages;
  next = lost.last;
  rest = left;
  read = lost.read;
  each = lost.each;
  records = inr (record { is = lost.is; served = inl lost.records });
  written = lost.written whole;
}
