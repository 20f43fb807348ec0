-- However a framer is called, it hands over the messages of the stream.
use Rattle.std.proofs.Common.{◌≡◌, ℕ, List, [], ◌∷◌, ◌++◌, subst, append_assoc}
use Rattle.std.proofs.lemmas.List.{append-nil}
use Rattle.kmip_frames.specs.Streams.{BeginsWithNoMessage, Stream}
use Rattle.kmip_frames.specs.Calls.{Call, took, handed, Runs, all_taken, all_handed}
use Rattle.kmip_frames.proofs.Messages.{stream_once}
use Rattle.kmip_frames.proofs.ForCallers.{IsSoFar, nothing_so_far, so_far_took, so_far_handed, so_far_ended}

run_so_far : (bytes : List ℕ) (messages : List (List ℕ)) (old : List ℕ) (calls : List Call) (new : List ℕ) → IsSoFar bytes messages old → Runs old calls new
    → IsSoFar (bytes ++ all_taken calls) (messages ++ all_handed calls) new
run_so_far bytes messages old [] new s run = rw (append-nil bytes, append-nil messages) (subst (λ (held : List ℕ). IsSoFar bytes messages held) run s)
run_so_far bytes messages old (took more ∷ calls) new s run =
    rw (← append_assoc bytes more (all_taken calls)) (run_so_far (bytes ++ more) messages (old ++ more) calls new (so_far_took bytes messages old more s) run)
run_so_far bytes messages old (handed message ∷ calls) new s run =
    rw (run.1, ← append_assoc messages (old ∷ []) (all_handed calls)) (run_so_far bytes (messages ++ old ∷ []) [] calls new (so_far_handed bytes messages old s run.0) run.2)

pub run_stream : (calls : List Call) (held unread : List ℕ) → Runs [] calls held → BeginsWithNoMessage (held ++ unread)
    → Stream (all_taken calls ++ unread) (all_handed calls) (held ++ unread)
run_stream calls held unread run none = so_far_ended (all_taken calls) (all_handed calls) held unread (run_so_far [] [] [] calls held nothing_so_far run) none

pub runs_same : (calls others : List Call) (held other unread beyond : List ℕ) → Runs [] calls held → Runs [] others other
    → all_taken calls ++ unread ≡ all_taken others ++ beyond → BeginsWithNoMessage (held ++ unread) → BeginsWithNoMessage (other ++ beyond)
    → (all_handed calls ≡ all_handed others) × (held ++ unread ≡ other ++ beyond)
runs_same calls others held other unread beyond one two is none nothing =
    stream_once (all_taken others ++ beyond) (all_handed calls) (all_handed others) (held ++ unread) (other ++ beyond)
    (rw (← is) (run_stream calls held unread one none)) (run_stream others other beyond two nothing)
