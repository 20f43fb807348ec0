-- Messages that are served in turn, and how a stream of them ends.
use Rattle.std.proofs.Common.{◌≡◌, ◌≢◌, ◌+◌, ◌-◌, ◌*◌, ◌^◌, ◌≤◌, ◌<◌, ℕ, ℤ, Result, List, [], ◌∷◌, ◌++◌, length, Option, None, Some, IfSome, IsSome, IsSomeAnd, Ok, Err, inl, inr, refl, sym, ap, subst, ◌∙◌, append_assoc, arith}
use Rattle.std.specs.Io.KnownBytes.{Consumes, Appends, Keeps}
use Rattle.std.specs.List.{AllByRecursion}
use Rattle.std.proofs.KnownBytes.{Consumes-nil, Consumes-trans, Appends-nil, Appends-kept, Appends-trans}
use Rattle.std.proofs.lemmas.List.{append-nil, length-append}
use Rattle.std.proofs.lemmas.List.Concat.{flat_map-append}
use Rattle.kmip_frames.specs.declared.frame_fault.FrameFault.{FrameFault}
use Rattle.kmip_frames.specs.Framing.{fault_in}
use Rattle.kmip_frames.specs.Laws.{ShortBytesLackAHead, FaultsNeedNoMore}
use Rattle.kmip_frames.specs.Streams.{IsMessage, joined}
use Rattle.kmip_protocol.specs.declared.link_fault.LinkFault.{LinkFault}
use Rattle.kmip_protocol.specs.declared.link_fault.LinkFault.TheVariants as faults
use Rattle.kmip_messages.specs.Items.{parts_in, stops_in}
use Rattle.kmip_server.specs.Batching.{batch_reply, stock_after_batch, AreBegun}
use Rattle.kmip_server.specs.declared.effect.Effect.{Effect}
use Rattle.kmip_store.specs.Stock.{Stock}
use Rattle.kmip_ttlv.specs.Limits.{head_size}
use Rattle.kmip_transport.specs.Receiving.{IsUnfinished, Receives}
use Rattle.kmip_transport.specs.Serving.{stock_after_messages, replies_to, IsLeft, IsWritten, Serves}
use Rattle.kmip_transport.specs.Private.{ServesOne, LosesReply, EndsBy}
use Rattle.kmip_transport.specs.declared.stream_end.StreamEnd.{StreamEnd}
use Rattle.kmip_transport.specs.declared.stream_end.StreamEnd.TheVariants as ends

-- at the same time
pub serves_at : (now same : ℤ) (end : StreamEnd) (s t : Stock) (x y w v : Option (List ℕ)) → now ≡ same → Serves now end s t x y w v → Serves same end s t x y w v
serves_at now same end s t x y w v is served = subst (λ time. Serves time end s t x y w v) is served

pub loses_at : (now same : ℤ) (Whole : Type 0) (s t : Stock) (x y w v : Option (List ℕ)) → now ≡ same → LosesReply now Whole s t x y w v
    → LosesReply same Whole s t x y w v
loses_at now same Whole s t x y w v is lost = subst (λ time. LosesReply time Whole s t x y w v) is lost

-- ---- one message

-- a framer that held nothing
fresh : {M : Type 0} (bytes : M → List ℕ) (result : Result (Option M) LinkFault) (held new : List ℕ) (x y : Option (List ℕ)) → held ≡ []
    → Receives bytes result held new x y → Receives bytes result [] new x y
fresh bytes result held new x y none r = subst (λ h. Receives bytes result h new x y) none r

-- no bytes are neither a message nor a head that is no message's
pub nothing_unfinished : ShortBytesLackAHead → IsUnfinished []
nothing_unfinished short = (
  (short [] (omega arith)).0,
  λ message more is whole.
      let size : 0 ≡ length message + length more = ap length is ∙ length-append message more in
      let head : head_size ≤ length message = whole.head in
      omega arith,
)

-- the stream ended
pub stream_ended : {M : Type 0} (bytes : M → List ℕ) (now : ℤ) (s : Stock) (held new : List ℕ) (size : ℕ) (x y w : Option (List ℕ)) → held ≡ []
    → Receives bytes (Ok None) held new x y → size ≡ length new → Serves now (ends.Ended size) s s x y w w
stream_ended bytes now s held new size x y w none received is =
    let r = fresh bytes (Ok None) held new x y none received in
    record {
      messages = [];
      rest = r.read;
      read = r.consumed;
      each = tt;
      ends = (r.answered.0, is ∙ ap length r.answered.1, r.answered.2);
      records = refl;
      written = Appends-nil w;
    }

-- a head that is no message's
no_head : (now : ℤ) (end : StreamEnd) (s : Stock) (read : List ℕ) (o : Option FrameFault) (x y w : Option (List ℕ)) → FaultsNeedNoMore → fault_in read ≡ o
    → IsSome o → IfSome o (λ fault. end ≡ ends.Frame fault) → Consumes x y read → Serves now end s s x y w w
no_head now end s read None x y w law is some ended consumed = absurd cc
no_head now end s read (Some fault) x y w law is some ended consumed = rw ended (record {
  messages = [];
  rest = read;
  read = consumed;
  each = tt;
  ends = (is, (law read fault is).2);
  records = refl;
  written = Appends-nil w;
})

-- no message could be received
pub stream_failed : {M : Type 0} (bytes : M → List ℕ) (fault : LinkFault) (now : ℤ) (end : StreamEnd) (s : Stock) (held new : List ℕ) (x y w : Option (List ℕ))
    → FaultsNeedNoMore → held ≡ [] → Receives bytes (Err fault) held new x y → EndsBy fault (fault_in new) end → Serves now end s s x y w w
stream_failed bytes faults.Io now end s held new x y w law none received is =
    let r = fresh bytes (Err faults.Io) held new x y none received in
    rw is (record {
      messages = [];
      rest = r.read;
      read = r.consumed;
      each = tt;
      ends = r.answered.0;
      records = refl;
      written = inl (Appends-nil w);
    })
stream_failed bytes faults.Frame now end s held new x y w law none received is =
    let r = fresh bytes (Err faults.Frame) held new x y none received in
    no_head now end s r.read (fault_in r.read) x y w law refl r.answered.0.0
    (subst (λ b. IfSome (fault_in b) (λ fault. end ≡ ends.Frame fault)) r.answered.1 is) r.consumed
stream_failed bytes faults.NoMemory now end s held new x y w law none received is =
    let r = fresh bytes (Err faults.NoMemory) held new x y none received in
    rw is (record {
      messages = [];
      rest = r.read;
      read = r.consumed;
      each = tt;
      ends = inr r.answered.0;
      records = inl refl;
      written = Appends-nil w;
    })

abbrev failed : {M : Type 0} → LinkFault → Result (Option M) LinkFault
failed fault = Err fault

abbrev turned : Option StreamEnd → Result (Option StreamEnd) LinkFault
turned o = Ok o

-- an end is the end that is answered
pub same_end : (a b : StreamEnd) → turned (Some a) ≡ turned (Some b) → a ≡ b
same_end a b is = cc

frame_is_no_io : (o : Option FrameFault) (end : StreamEnd) → IsSome o → IfSome o (λ fault. end ≡ ends.Frame fault) → end ≢ ends.Io
frame_is_no_io None end some ended = absurd cc
frame_is_no_io (Some fault) end some ended = λ io. let both : ends.Frame fault ≡ ends.Io = sym ended ∙ io in absurd cc

-- what ends by another fault does not end by Io
-- a framer that is at fault says why
pub frame_has_fault : {M : Type 0} (bytes : M → List ℕ) (fault : LinkFault) (held new : List ℕ) (x y : Option (List ℕ))
    → Receives bytes (Err fault) held new x y → fault ≡ faults.Frame → IsSome (fault_in new)
frame_has_fault bytes faults.Io held new x y received is = absurd cc
frame_has_fault bytes faults.Frame held new x y received is = subst (λ b. IsSome (fault_in b)) (sym received.answered.1) received.answered.0.0
frame_has_fault bytes faults.NoMemory held new x y received is = absurd cc

pub failed_is_no_io : {M : Type 0} (bytes : M → List ℕ) (fault : LinkFault) (end : StreamEnd) (held new : List ℕ) (x y : Option (List ℕ))
    → Receives bytes (Err fault) held new x y → failed {M = M} fault ≢ failed faults.Io → EndsBy fault (fault_in new) end → end ≢ ends.Io
failed_is_no_io bytes faults.Io end held new x y received no_io ended = absurd (no_io refl)
failed_is_no_io bytes faults.Frame end held new x y received no_io ended =
    frame_is_no_io (fault_in new) end (frame_has_fault bytes faults.Frame held new x y received refl) ended
failed_is_no_io bytes faults.NoMemory end held new x y received no_io ended = λ io. let both : ends.NoMemory ≡ ends.Io = sym ended ∙ io in absurd cc

-- a message was received, and there was no memory to serve it
pub not_served : {M : Type 0} (bytes : M → List ℕ) (message : M) (sent : List ℕ) (now : ℤ) (s t : Stock) (held new : List ℕ)
    (x y w : Option (List ℕ)) → held ≡ [] → Receives bytes (Ok (Some message)) held new x y → sent ≡ bytes message
    → ((effects : List Effect) × AreBegun (stops_in sent) (parts_in sent) effects s t) → Serves now ends.NoMemory s t x y w w
not_served bytes message sent now s t held new x y w none received is (effects, begun) =
    let r = fresh bytes (Ok (Some message)) held new x y none received in
    record {
      messages = [];
      rest = r.read;
      read = r.consumed;
      each = tt;
      ends = inr r.answered.0;
      records = inr (r.answered.0, (effects, subst (λ m. AreBegun (stops_in m) (parts_in m) effects s t) (is ∙ r.answered.1) begun));
      written = Appends-nil w;
    }

-- a message was served, and its reply could not be written
pub not_written : {M : Type 0} (bytes : M → List ℕ) (message : M) (sent : List ℕ) (now : ℤ) (Whole : Type 0) (s t : Stock) (held new : List ℕ)
    (x y w v : Option (List ℕ)) → held ≡ [] → Receives bytes (Ok (Some message)) held new x y → sent ≡ bytes message → t ≡ stock_after_batch s sent
    → (Whole → Keeps w v) → LosesReply now Whole s t x y w v
not_written bytes message sent now Whole s t held new x y w v none received is served keeps =
    let r = fresh bytes (Ok (Some message)) held new x y none received in
    record {
      messages = [];
      last = r.read;
      read = r.consumed;
      each = tt;
      is = r.answered.0;
      records = served ∙ ap (stock_after_batch s) (is ∙ r.answered.1);
      written = λ (whole : Whole). Appends-kept w w v [] (Appends-nil w) (keeps whole);
    }

-- a message was served, and its reply written
pub served_one : {M : Type 0} (bytes : M → List ℕ) (message : M) (sent reply told : List ℕ) (now : ℤ) (s t : Stock) (held new : List ℕ) (x y w v : Option (List ℕ))
    → held ≡ [] → Receives bytes (Ok (Some message)) held new x y → sent ≡ bytes message → t ≡ stock_after_batch s sent
    → told ≡ reply → reply ≡ batch_reply s sent now → Appends w v told → ServesOne now s t x y w v
served_one bytes message sent reply told now s t held new x y w v none received is served told_is answered appended =
    let r = fresh bytes (Ok (Some message)) held new x y none received in
    record {
      message = r.read;
      read = r.consumed;
      is = r.answered.0;
      records = served ∙ ap (stock_after_batch s) (is ∙ r.answered.1);
      written = subst (Appends w v) (told_is ∙ answered ∙ ap (λ m. batch_reply s m now) (is ∙ r.answered.1)) appended;
    }

-- ---- messages in turn

pub stock_after_messages-append : (s : Stock) (a b : List (List ℕ)) → stock_after_messages s (a ++ b) ≡ stock_after_messages (stock_after_messages s a) b
stock_after_messages-append s [] b = refl
stock_after_messages-append s (m ∷ a) b = stock_after_messages-append (stock_after_batch s m) a b

pub replies_to-append : (now : ℤ) (s : Stock) (a b : List (List ℕ)) → replies_to now s (a ++ b) ≡ replies_to now s a ++ replies_to now (stock_after_messages s a) b
replies_to-append now s [] b = refl
replies_to-append now s (m ∷ a) b =
    ap (λ t. batch_reply s m now ++ t) (replies_to-append now (stock_after_batch s m) a b)
    ∙ sym (append_assoc (batch_reply s m now) (replies_to now (stock_after_batch s m) a) (replies_to now (stock_after_messages (stock_after_batch s m) a) b))

each_append : (a b : List (List ℕ)) → AllByRecursion IsMessage a → AllByRecursion IsMessage b → AllByRecursion IsMessage (a ++ b)
each_append [] b each every = every
each_append (m ∷ a) b each every = (each.0, each_append a b each.1 every)

-- the messages that were served so far, one a turn
pub record HasServed (now : ℤ) (turns : ℕ) (old new : Stock) (unread left before after : Option (List ℕ)) : Type 0 where
  pub messages : List (List ℕ)
  pub as_many : length messages ≡ turns
  pub read : Consumes unread left (joined messages)
  pub each : AllByRecursion IsMessage messages
  pub records : new ≡ stock_after_messages old messages
  pub written : Appends before after (replies_to now old messages)

pub HasServed-none : (now : ℤ) (s : Stock) (x w : Option (List ℕ)) → HasServed now 0 s s x x w w
HasServed-none now s x w = record { messages = []; as_many = refl; read = Consumes-nil x; each = tt; records = refl; written = Appends-nil w }

pub HasServed-one : (now : ℤ) (turns : ℕ) (s t u : Stock) (x y z w v k : Option (List ℕ)) → HasServed now turns s t x y w v → ServesOne now t u y z v k
    → HasServed now (turns + 1) s u x z w k
HasServed-one now turns s t u x y z w v k so one =
    let last = one.message ∷ [] in
    let more : joined (so.messages ++ last) ≡ joined so.messages ++ one.message =
    flat_map-append (λ m. m) so.messages last ∙ ap (λ b. joined so.messages ++ b) (append-nil one.message) in
    let replies : replies_to now s (so.messages ++ last) ≡ replies_to now s so.messages ++ batch_reply t one.message now =
    replies_to-append now s so.messages last
    ∙ ap (λ b. replies_to now s so.messages ++ b) (append-nil (batch_reply (stock_after_messages s so.messages) one.message now)
    ∙ ap (λ r. batch_reply r one.message now) (sym so.records)) in
    record {
      messages = so.messages ++ last;
      as_many = length-append so.messages last ∙ ap (λ n. n + 1) so.as_many;
      read = subst (Consumes x z) (sym more) (Consumes-trans x y z (joined so.messages) one.message so.read one.read);
      each = each_append so.messages last so.each (one.is, tt);
      records = one.records ∙ ap (λ r. stock_after_batch r one.message) so.records ∙ sym (stock_after_messages-append s so.messages last);
      written = subst (Appends w k) (sym replies) (Appends-trans w v k (replies_to now s so.messages) (batch_reply t one.message now) so.written one.written);
    }

-- what is written by the messages so far, and then by others
written_more : (now : ℤ) (end : StreamEnd) (s t : Stock) (a b : List (List ℕ)) (w v k : Option (List ℕ)) → t ≡ stock_after_messages s a
    → Appends w v (replies_to now s a) → IsWritten end b (Appends v k (replies_to now t b)) → IsWritten end (a ++ b) (Appends w k (replies_to now s (a ++ b)))
written_more now end s t a b w v k records one two =
    let all : Appends v k (replies_to now t b) → Appends w k (replies_to now s (a ++ b)) = λ (last : Appends v k (replies_to now t b)).
    let same : replies_to now s a ++ replies_to now t b ≡ replies_to now s (a ++ b) =
    ap (λ r. replies_to now s a ++ replies_to now r b) records ∙ sym (replies_to-append now s a b) in
    subst (Appends w k) same (Appends-trans w v k (replies_to now s a) (replies_to now t b) one last) in
    in_case end a b _ _ all two
  where
    in_case : (end : StreamEnd) (a b : List (List ℕ)) (P Q : Type 0) → (P → Q) → IsWritten end b P → IsWritten end (a ++ b) Q
    in_case (ends.Ended size) a b P Q all two = all two
    in_case (ends.Frame fault) a b P Q all two = all two
    in_case ends.Io a b P Q all (inl p) = inl (all p)
    in_case ends.Io a b P Q all (inr some) = inr (let size = length-append a b in omega arith)
    in_case ends.NoMemory a b P Q all two = all two

-- and then the end
pub served_then : (now : ℤ) (turns : ℕ) (end : StreamEnd) (s t u : Stock) (x y z w v k : Option (List ℕ)) → HasServed now turns s t x y w v
    → Serves now end t u y z v k → Serves now end s u x z w k
served_then now turns end s t u x y z w v k so last =
    let all : joined so.messages ++ (joined last.messages ++ last.rest) ≡ joined (so.messages ++ last.messages) ++ last.rest =
    sym (append_assoc (joined so.messages) (joined last.messages) last.rest)
    ∙ ap (λ b. b ++ last.rest) (sym (flat_map-append (λ m. m) so.messages last.messages)) in
    record {
      messages = so.messages ++ last.messages;
      rest = last.rest;
      read = subst (Consumes x z) all (Consumes-trans x y z (joined so.messages) (joined last.messages ++ last.rest) so.read last.read);
      each = each_append so.messages last.messages so.each last.each;
      ends = last.ends;
      records = subst (λ r. IsLeft end last.rest r u)
          (ap (λ r. stock_after_messages r last.messages) so.records ∙ sym (stock_after_messages-append s so.messages last.messages)) last.records;
      written = written_more now end s t so.messages last.messages w v k so.records so.written last.written;
    }

-- and then a message whose reply was not written
pub lost_then : (now : ℤ) (turns : ℕ) (Whole : Type 0) (s t u : Stock) (x y z w v k : Option (List ℕ)) → HasServed now turns s t x y w v
    → LosesReply now Whole t u y z v k → LosesReply now Whole s u x z w k
lost_then now turns Whole s t u x y z w v k so lost =
    let all : joined so.messages ++ (joined lost.messages ++ lost.last) ≡ joined (so.messages ++ lost.messages) ++ lost.last =
    sym (append_assoc (joined so.messages) (joined lost.messages) lost.last)
    ∙ ap (λ b. b ++ lost.last) (sym (flat_map-append (λ m. m) so.messages lost.messages)) in
    let same : replies_to now s so.messages ++ replies_to now t lost.messages ≡ replies_to now s (so.messages ++ lost.messages) =
    ap (λ r. replies_to now s so.messages ++ replies_to now r lost.messages) so.records ∙ sym (replies_to-append now s so.messages lost.messages) in
    record {
      messages = so.messages ++ lost.messages;
      last = lost.last;
      read = subst (Consumes x z) all (Consumes-trans x y z (joined so.messages) (joined lost.messages ++ lost.last) so.read lost.read);
      each = each_append so.messages lost.messages so.each lost.each;
      is = lost.is;
      records = lost.records ∙ ap (λ r. stock_after_batch (stock_after_messages r lost.messages) lost.last) so.records
          ∙ ap (λ r. stock_after_batch r lost.last) (sym (stock_after_messages-append s so.messages lost.messages));
      written = λ (whole : Whole). subst (Appends w k) same
          (Appends-trans w v k (replies_to now s so.messages) (replies_to now t lost.messages) so.written (lost.written whole));
    }

-- of a writer it is known then that it failed at a reply
pub lost_is_io : (now : ℤ) (Whole : Type 0) (s t : Stock) (x y w v : Option (List ℕ)) → ShortBytesLackAHead → LosesReply now Whole s t x y w v
    → Serves now ends.Io s t x y w v
lost_is_io now Whole s t x y w v short lost =
    let last = lost.last ∷ [] in
    let more : joined (lost.messages ++ last) ≡ joined lost.messages ++ lost.last =
    flat_map-append (λ m. m) lost.messages last ∙ ap (λ b. joined lost.messages ++ b) (append-nil lost.last) in
    record {
      messages = lost.messages ++ last;
      rest = [];
      read = subst (Consumes x y) (sym more ∙ sym (append-nil (joined (lost.messages ++ last)))) lost.read;
      each = each_append lost.messages last lost.each (lost.is, tt);
      ends = nothing_unfinished short;
      records = lost.records ∙ sym (stock_after_messages-append s lost.messages last);
      written = inr (let size = length-append lost.messages last in omega arith);
    }

-- nothing was read
pub no_framer : (now : ℤ) (s : Stock) (x w : Option (List ℕ)) → Serves now ends.NoMemory s s x x w w
no_framer now s x w = record {
  messages = [];
  rest = [];
  read = Consumes-nil x;
  each = tt;
  ends = inl refl;
  records = inl refl;
  written = Appends-nil w;
}

-- there were too many messages
pub too_many : (now : ℤ) (turns : ℕ) (s t : Stock) (x y w v : Option (List ℕ)) → ShortBytesLackAHead → HasServed now turns s t x y w v
    → Serves now ends.Io s t x y w v
too_many now turns s t x y w v short so = record {
  messages = so.messages;
  rest = [];
  read = subst (Consumes x y) (sym (append-nil (joined so.messages))) so.read;
  each = so.each;
  ends = nothing_unfinished short;
  records = so.records;
  written = inl so.written;
}

-- each message has a head
messages_size : (messages : List (List ℕ)) → AllByRecursion IsMessage messages → head_size * length messages ≤ length (joined messages)
messages_size [] each = omega arith
messages_size (m ∷ messages) each =
    let more : head_size * length messages ≤ length (joined messages) = messages_size messages each.1 in
    let head : head_size ≤ length m = each.0.head in
    let size : length (joined (m ∷ messages)) ≡ length m + length (joined messages) = length-append m (joined messages) in
    omega arith

-- so bytes that are bounded have no more messages than there are turns
pub not_too_many : (now : ℤ) (turns : ℕ) (s t : Stock) (x y w v : Option (List ℕ)) → HasServed now turns s t x y w v
    → IsSomeAnd x (λ bytes. length bytes < 2 ^ 64) → 2 ^ 64 - 1 ≤ turns → ⊥
not_too_many now turns s t None y w v so bounded many = absurd bounded
not_too_many now turns s t (Some bytes) None w v so bounded many = absurd so.read
not_too_many now turns s t (Some bytes) (Some left) w v so bounded many =
    let each : head_size * length so.messages ≤ length (joined so.messages) = messages_size so.messages so.each in
    let size : length bytes ≡ length (joined so.messages) + length left = ap length so.read ∙ length-append (joined so.messages) left in
    let count : length so.messages ≡ turns = so.as_many in
    omega arith
