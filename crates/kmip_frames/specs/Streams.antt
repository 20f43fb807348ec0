-- What a message is, and what a stream of them.
-- Source: KMIP 2.1, Message Structure; TTLV Encoding.
use Rattle.std.specs.Prelude.{◌≡◌, ℕ, ◌+◌, ◌≤◌, List, ◌++◌, length, take, None}
use Rattle.std.specs.List.{flat_map, AllByRecursion}
use Rattle.kmip_frames.specs.Heads.{length_in, head_fault}
use Rattle.kmip_ttlv.specs.Limits.{head_size}

-- The bytes are a message: a lawful head, and as many bytes after it as it says.
pub record IsMessage (bytes : List ℕ) : Type 0 where
  pub head : head_size ≤ length bytes
  pub lawful : head_fault (take head_size bytes) ≡ None
  pub size : length bytes ≡ head_size + length_in (take head_size bytes)

-- No whole message stands at the front of the bytes.
abbrev pub BeginsWithNoMessage : List ℕ → Type 0
BeginsWithNoMessage bytes = (message more : List ℕ) → bytes ≡ message ++ more → ¬ (IsMessage message)

-- the messages, one after the other
abbrev pub joined : List (List ℕ) → List ℕ
joined messages = flat_map (λ message. message) messages

-- The bytes are these messages joined, and then this rest, which begins with no whole message.
pub record Stream (bytes : List ℕ) (messages : List (List ℕ)) (rest : List ℕ) : Type 0 where
  pub whole : bytes ≡ joined messages ++ rest
  pub each : AllByRecursion IsMessage messages
  pub partial : BeginsWithNoMessage rest
