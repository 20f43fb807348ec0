-- What answering a message promises.
-- Source: own (view).
use Rattle.std.specs.Prelude.{◌≡◌, ℤ, ℕ, List, Result, IfOk, OnErr, OnOk}
use Rattle.kmip_messages.specs.Items.{parts_in, replies_in, stops_in}
use Rattle.kmip_store.specs.Stock.{Stock, IsKept}
use Rattle.kmip_server.specs.Batching.{batch_reply, effects_in, stock_after_batch, AreBegun, AreServedInTurn}
use Rattle.kmip_server.specs.Shown.{HasLawfulObjects}
use Rattle.kmip_server.specs.declared.effect.Effect.{Effect}

-- A message is answered at a time in seconds since the start of 1970, or memory runs out.
pub record Handles {V E : Type 0} (bytes : V → List ℕ) (message : List ℕ) (now : ℤ) (result : Result V E) (old new : Stock) : Type 0 where
  -- The bytes of the reply are `batch_reply` of the records, the message and the time: the replies to
  -- the questions in turn, and to those after the first failure only with the option Continue.
  pub reply : IfOk result (λ r. bytes r ≡ batch_reply old message now)
  -- The records after it are those that the answered questions leave (`stock_after_batch`).
  pub after : OnOk result (new ≡ stock_after_batch old message)
  -- Where memory ran out, some of the first questions were served, not all of them, and no reply is
  -- written. So nothing has happened where there is one question.
  pub begun : OnErr result ((effects : List Effect) × AreBegun (stops_in message) (parts_in message) effects old new)
  -- The room stays, however the call ends.
  pub room : new.room ≡ old.room
  -- The records are kept before the call (`IsKept`).
  pub kept_before : IsKept old.rows old.room
  -- The records are kept after the call, whatever the message, and however the call ends.
  pub kept : IsKept new.rows new.room
  -- So the objects are lawful before the call: names and identifiers are distinct, they are at most as
  -- many as the room, and each is in its ranges.
  pub objects_before : HasLawfulObjects old
  -- So the objects are lawful after the call, whatever the message, and however the call ends.
  pub objects : HasLawfulObjects new
  -- The message is served question by question, each once, and what the bytes of the reply say are the
  -- replies to these questions. A request is a step of the server, and its reply says the outcome, with
  -- the operation and the id of the request. A question that is refused leaves the records, and its
  -- reply is Failed with what the refusal carries and the reason of its fault. Nothing else is answered.
  pub served : IfOk result (λ r. AreServedInTurn (stops_in message) (parts_in message) (replies_in (bytes r))
      (effects_in old message) old new)
