-- Private: definitions that only clauses of private functions cite.
-- Source: own (view): parts of the public definitions of this crate.
use Rattle.std.specs.Prelude.{ℕ, List, Bool, true, false, [], Option, Some, None, Result, Ok, Err, ◌≡◌, ◌<◌, ◌++◌, length, IfErr, IsOk, ℤ, IfSome}
use Rattle.kmip_protocol.specs.declared.link_fault.LinkFault.{LinkFault}
use Rattle.kmip_protocol.specs.declared.link_fault.LinkFault.TheVariants as faults
use Rattle.std.specs.Io.KnownBytes.{Consumes, IsAtEnd, Appends}
use Rattle.kmip_frames.specs.Streams.{IsMessage, joined}
use Rattle.kmip_transport.specs.Receiving.{IsUnfinished, IsNoHead}
use Rattle.std.specs.List.{AllByRecursion}
use Rattle.kmip_frames.specs.declared.frame_fault.FrameFault.{FrameFault}
use Rattle.kmip_server.specs.Batching.{batch_reply, stock_after_batch}
use Rattle.kmip_store.specs.Stock.{Stock}
use Rattle.kmip_transport.specs.declared.stream_end.StreamEnd.{StreamEnd}
use Rattle.kmip_transport.specs.declared.stream_end.StreamEnd.TheVariants.{Frame, Io, NoMemory}
use Rattle.kmip_transport.specs.Serving.{stock_after_messages, replies_to}

-- Some bytes were read and joined those held; a reader that tells its bytes began with them, and has
-- lost them
pub record Takes (old new : List ℕ) (unread left : Option (List ℕ)) : Type 0 where
  pub read : List ℕ
  pub consumed : Consumes unread left read
  pub joined : new ≡ old ++ read

-- The message that waits is handed over, where one does
abbrev pub IsHandedOver : {M : Type 0} → (M → List ℕ) → Result (Option M) LinkFault → List ℕ → List ℕ → Type 0
IsHandedOver bytes (Ok (Some message)) old new = IsMessage old × (bytes message ≡ old) × (new ≡ [])
IsHandedOver bytes (Ok None) old new = IsUnfinished old × (new ≡ old)
IsHandedOver bytes (Err faults.Io) old new = ⊥
IsHandedOver bytes (Err faults.Frame) old new = IsNoHead old × (new ≡ old)
IsHandedOver bytes (Err faults.NoMemory) old new = IsMessage old × (new ≡ old)

-- What one read does to what is held: it adds what was read, or says why nothing was.
pub record ReadsOnce (IsSure : Type 0) (result : Result Bool LinkFault) (old new : List ℕ) (unread left : Option (List ℕ)) : Type 0 where
  -- what was read joined what was held
  pub taken : Takes old new unread left
  -- where the stream does not go on, it has ended, and nothing was read
  pub end : result ≡ Ok false → (new ≡ old) × IsAtEnd left
  -- it fails by Io alone, and then nothing was read
  pub refused : IfErr result (λ fault. (fault ≡ faults.Io) × (new ≡ old))
  -- a source that is sure does not fail
  pub sure : IsSure → IsOk result
  -- it has read something where the stream goes on
  pub grown : IsSure → result ≡ Ok true → length old < length new

-- One message was read and served, and its reply written
pub record ServesOne (now : ℤ) (old new : Stock) (unread left before after : Option (List ℕ)) : Type 0 where
  pub message : List ℕ
  pub read : Consumes unread left message
  pub is : IsMessage message
  pub records : new ≡ stock_after_batch old message
  pub written : Appends before after (batch_reply old message now)

-- Messages were served in turn, and the reply to the last one was not written. What takes all or
-- nothing holds the others.
pub record LosesReply (now : ℤ) (IsWhole : Type 0) (old new : Stock) (unread left before after : Option (List ℕ)) : Type 0 where
  pub messages : List (List ℕ)
  pub last : List ℕ
  pub read : Consumes unread left (joined messages ++ last)
  pub each : AllByRecursion IsMessage messages
  pub is : IsMessage last
  pub records : new ≡ stock_after_batch (stock_after_messages old messages) last
  pub written : IsWhole → Appends before after (replies_to now old messages)

-- How a stream ends by the fault of a call that receives, and by that of the head that is held
abbrev pub EndsBy : LinkFault → Option FrameFault → StreamEnd → Type 0
EndsBy faults.Io held end = end ≡ Io
EndsBy faults.Frame held end = IfSome held (λ fault. end ≡ Frame fault)
EndsBy faults.NoMemory held end = end ≡ NoMemory
