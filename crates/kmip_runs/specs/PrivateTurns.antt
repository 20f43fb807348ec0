-- Private: what a turn promises, and the exchange of its message.
-- Source: own (view).
use Rattle.std.specs.Prelude.{IfErr, IfOk, IsOk, None, OnErr, OnOk, Option, Result, Some, length, option_map, ℕ, ◌++◌, ◌≡◌}
use Rattle.kmip_client.specs.Asking.{next_question}
use Rattle.kmip_client.specs.Clients.{AreSettled, ClientState}
use Rattle.kmip_client.specs.Justified.{JustifiedMessage}
use Rattle.kmip_client.specs.Known.{facts}
use Rattle.kmip_client.specs.declared.question.Question.{Question}
use Rattle.kmip_protocol.specs.Clean.{AreNoFewer}
use Rattle.kmip_protocol.specs.Past.{Names, is_planned}
use Rattle.kmip_protocol.specs.Seen.{Seen}
use Rattle.kmip_protocol.specs.Turns.{taught}
use Rattle.kmip_runs.specs.Driving.{IsGood, IsSettling, Keeps, KeepsFurther, Learnt, Nearer, TakesNothingBack, WentOn}
use Rattle.kmip_runs.specs.Losing.{ArePaid, left_for}
use Rattle.kmip_runs.specs.Private.{IsAnswered, IsBrokenOff, IsGivenUp, TakesTurn, messages_made}
use Rattle.kmip_runs.specs.declared.turn_fault.TurnFault.{TurnFault}

-- What one exchange at most keeps where all was good before, and its message may be asked.
pub record TriesWell {V : Type 0} (old : Seen) (client : ClientState) (done : Result V TurnFault) (new : Seen) (next : ClientState) : Type 0 where
  -- All is good after it.
  pub good : IsGood next new
  -- The objects have gone onward, and an image of the plan machine is one still.
  pub onward : WentOn client.keys old.past new.past
  -- What holds for a plan that prolongs the client's is kept.
  pub further : KeepsFurther client.keys (IsOk done) old new

-- What one exchange at most teaches, over a link that is honest for the names of the plan. `made` says how
-- many were made.
pub record TriesHonestly {V : Type 0} (made : V → ℕ) (old : Seen) (client : ClientState) (done : Result V TurnFault) (new : Seen) (next : ClientState) : Type 0 where
  -- The link is honest for them after it.
  pub stays_honest : new.honest (is_planned client.keys)
  -- The message that was sent asks about keys of the plan, and what is known then is what it taught.
  pub learnt : IfOk done (λ v. Learnt client.keys client.batch old.past new.past client.knowns next.knowns (made v))
  -- Where memory ran out, no fact was learnt, and the exchange was not made, or not heard.
  pub broken : IfErr done (λ fault. (facts next.knowns ≡ facts client.knowns) × IsBrokenOff client.keys client.batch old.past new.past fault)
  -- Nothing that was asked, sent or handed over is taken back.
  pub takes_nothing_back : TakesNothingBack client.keys old.past new.past

-- What one exchange at most makes of link and client. `follows` is that the link after it is what calls made
-- of the link before.
pub record Tries {V : Type 0} (made : V → ℕ) (old : Seen) (client : ClientState) (done : Result V TurnFault) (new : Seen) (next : ClientState) (follows : Type 0) : Type 0 where
  -- The plan stays, and no identifier or count is taken back.
  pub keeps : Keeps client next
  -- Over a calm link, with a client that was ready to settle, both are so still, and nearer the end.
  pub nearer : IsSettling client old → IfOk done (λ v. Nearer client next old new (made v))
  -- Where all was good before and nobody else asks, it is paid for.
  pub paid : IsGood client old → old.honest (is_planned client.keys)
      → IfOk done (λ v. ArePaid (made v) (left_for client old.past) (left_for next new.past) old.disturbances new.disturbances)
  -- A link that is honest for some names is so after it.
  pub honest : (names : Names) → old.honest names → new.honest names
  -- Over a link that is honest for some names no count of disturbed exchanges falls.
  pub counts : (names : Names) → old.honest names → AreNoFewer old.disturbances new.disturbances
  -- Over a link that is honest for some names it ends no run.
  pub ended : (names : Names) → old.honest names → new.ended ≡ old.ended
  -- Unless memory ran out, the link after it is what calls made of the link before.
  pub followed : OnOk done follows

-- The number of keys that the client's next message asks about; none if there is no message.
abbrev pub asked_count : ClientState → Option ℕ
asked_count c = option_map (λ question. length question.parts) (next_question c)

-- The number of messages of a turn that asked about this number of keys, if it sent one.
abbrev pub turn_count : Option ℕ → ℕ
turn_count None = 0
turn_count (Some asked) = 1

-- What a turn promises: it asks the next question, or there is none.
pub record MakesTurn (old : Seen) (client : ClientState) (done : Result (Option ℕ) TurnFault) (new : Seen) (next : ClientState) (follows : Type 0) : Type 0 where
  -- Of any link this holds.
  pub tries : Tries turn_count old client done new next follows
  -- Where all was good before, this holds.
  pub well : IsGood client old → TriesWell old client done new next
  -- Over a link that is honest for the names of the plan, this holds.
  pub honestly : old.honest (is_planned client.keys) → TriesHonestly turn_count old client done new next
  -- Where memory ran out, the client gave up the question at most.
  pub gives_up : IfErr done (IsGivenUp (old.honest (is_planned client.keys)) client next old.past new.past)
  -- Otherwise it returns the number of keys that its message asks about, or none.
  pub asked : IfOk done (λ asked. asked ≡ asked_count client)
  -- It asked its next question and learnt from what came, or had none.
  pub turned : IfOk done (λ asked. TakesTurn (old.honest (is_planned client.keys)) asked client next old.past new.past)
  -- It has none only where each key is settled.
  pub settled : IfOk done (λ asked. asked ≡ None → AreSettled next.keys next.knowns)

-- What the exchange of a question teaches, over a link that is honest for the names of the plan.
pub record PutsHonestly (question : Question) (old : Seen) (client : ClientState) (done : Result (Unit {0}) TurnFault) (new : Seen) (next : ClientState) : Type 0 where
  -- What any exchange teaches.
  pub tries : TriesHonestly (λ v. 1) old client done new next
  -- Where memory ran out, the message was sent if the exchange was made.
  pub sent : IfErr done (λ fault. new.past.sent ≡ old.past.sent ++ messages_made fault question.bytes)

-- What the exchange of a question promises.
pub record PutsQuestion (question : Question) (old : Seen) (client : ClientState) (done : Result (Unit {0}) TurnFault) (new : Seen) (next : ClientState) (follows : Type 0) : Type 0 where
  -- Of any link this holds.
  pub tries : Tries (λ v. 1) old client done new next follows
  -- Where all was good before, and the message may be asked, this holds.
  pub well : IsGood client old → JustifiedMessage client.keys old.past.objects question.bytes → TriesWell old client done new next
  -- Over a link that is honest for the names of the plan, this holds.
  pub honestly : old.honest (is_planned client.keys) → PutsHonestly question old client done new next
  -- Where memory ran out, the client learnt that no answer came.
  pub lost : OnErr done (next ≡ taught question None client)
  -- Else it learnt from what came.
  pub answered : OnOk done (IsAnswered (old.honest (is_planned client.keys)) question client next old.past new.past)
