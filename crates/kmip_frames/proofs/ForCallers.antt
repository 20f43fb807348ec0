-- For the stream of kmip_message_commands: its lemmas are inductions over the bytes and the pieces of a stream, near no call of a
-- framer or of a law, and so no clause serves them.
use Rattle.std.proofs.Common.{◌≡◌, ℕ, ◌<◌, ◌≤◌, List, [], ◌∷◌, ◌++◌, length, Some, None, refl, sym, ap, ◌∙◌, append_assoc}
use Rattle.std.specs.List.{AllByRecursion}
use Rattle.std.proofs.lemmas.List.{append-nil}
use Rattle.std.proofs.lemmas.List.Concat.{flat_map-append}
use Rattle.kmip_frames.specs.declared.frame_fault.FrameFault.{FrameFault}
use Rattle.kmip_ttlv.specs.Limits.{head_size}
use Rattle.kmip_frames.specs.Streams.{IsMessage, BeginsWithNoMessage, joined, Stream}
use Rattle.kmip_frames.specs.Framing.{fault_in, size_needed}
use Rattle.kmip_frames.proofs.Sizes as sizes
use Rattle.kmip_frames.proofs.Messages as messages

-- ---- what is needed

pub fault_short : (s : List ℕ) → length s < head_size → fault_in s ≡ None
fault_short = sizes.fault_short

pub fault_size : (s : List ℕ) (fault : FrameFault) → fault_in s ≡ Some fault → head_size ≤ length s
fault_size = sizes.fault_size

pub fault_more : (s more : List ℕ) → head_size ≤ length s → fault_in (s ++ more) ≡ fault_in s
fault_more = sizes.fault_more

pub fault_no_message : (s : List ℕ) (fault : FrameFault) → fault_in s ≡ Some fault → BeginsWithNoMessage s
fault_no_message = messages.fault_no_message

pub fault_stays : (s more : List ℕ) (fault : FrameFault) → fault_in s ≡ Some fault → (fault_in (s ++ more) ≡ Some fault) × BeginsWithNoMessage (s ++ more)
fault_stays = messages.fault_stays

pub size_needed_fault : (s : List ℕ) (fault : FrameFault) → fault_in s ≡ Some fault → size_needed s ≡ head_size
size_needed_fault = sizes.size_needed_fault

pub size_needed_more : (s more : List ℕ) → head_size ≤ length s → size_needed (s ++ more) ≡ size_needed s
size_needed_more = sizes.size_needed_more

pub size_needed_least : (s : List ℕ) → head_size ≤ size_needed s
size_needed_least = sizes.size_needed_least

-- ---- a whole message

pub message_lawful : (m : List ℕ) → IsMessage m → fault_in m ≡ None
message_lawful = messages.message_lawful

pub message_size : (m : List ℕ) → IsMessage m → length m ≡ size_needed m
message_size = messages.message_size

pub message_whole : (s : List ℕ) → fault_in s ≡ None → length s ≡ size_needed s → IsMessage s
message_whole = messages.message_whole

-- ---- the messages that were handed over so far

-- of the bytes taken so far, these messages were handed over, and this is held
pub record IsSoFar (bytes : List ℕ) (messages : List (List ℕ)) (held : List ℕ) : Type 0 where
  pub whole : bytes ≡ joined messages ++ held
  pub each : AllByRecursion IsMessage messages

pub nothing_so_far : IsSoFar [] [] []
nothing_so_far = record { whole = refl; each = tt }

-- `feed` took more bytes
pub so_far_took : (bytes : List ℕ) (messages : List (List ℕ)) (held more : List ℕ) → IsSoFar bytes messages held → IsSoFar (bytes ++ more) messages (held ++ more)
so_far_took bytes messages held more s = record {
  whole = ap (λ b. b ++ more) s.whole ∙ append_assoc (joined messages) held more;
  each = s.each;
}

joined_more : (messages : List (List ℕ)) (message : List ℕ) → joined (messages ++ message ∷ []) ≡ joined messages ++ message
joined_more messages message = flat_map-append (λ m. m) messages (message ∷ []) ∙ ap (λ b. joined messages ++ b) (append-nil message)

each_append : (messages others : List (List ℕ)) → AllByRecursion IsMessage messages → AllByRecursion IsMessage others → AllByRecursion IsMessage (messages ++ others)
each_append [] others each every = every
each_append (m ∷ ms) others each every = (each.0, each_append ms others each.1 every)

-- `next` handed over what was held
pub so_far_handed : (bytes : List ℕ) (messages : List (List ℕ)) (held : List ℕ) → IsSoFar bytes messages held → IsMessage held → IsSoFar bytes (messages ++ held ∷ []) []
so_far_handed bytes messages held s is = record {
  whole = s.whole ∙ sym (joined_more messages held) ∙ sym (append-nil (joined (messages ++ held ∷ [])));
  each = each_append messages (held ∷ []) s.each (is, tt);
}

-- no whole message is at hand any more, where this was not read
pub so_far_ended : (bytes : List ℕ) (messages : List (List ℕ)) (held unread : List ℕ) → IsSoFar bytes messages held → BeginsWithNoMessage (held ++ unread)
    → Stream (bytes ++ unread) messages (held ++ unread)
so_far_ended bytes messages held unread s none = record {
  whole = ap (λ b. b ++ unread) s.whole ∙ append_assoc (joined messages) held unread;
  each = s.each;
  partial = none;
}
