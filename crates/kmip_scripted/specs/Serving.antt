-- What a message does that arrives at the server of a link.
-- Source: own (view), over KMIP 2.1, Message Structure; Operations.
use Rattle.std.specs.Prelude.{◌≡◌, pos, ℕ, List, [], ◌∷◌, ◌++◌}
use Rattle.kmip_messages.specs.Items.{parts_in, stops_in}
use Rattle.kmip_server.specs.Batching.{AreBegun, batch_reply, effects_in, stock_after_batch}
use Rattle.kmip_server.specs.declared.effect.Effect.{Effect}
use Rattle.kmip_scripted.specs.Scenes.{Scene}

-- The message is served once, at the time 0: its reply joins those given, and what it did joins the
-- effects.
abbrev pub with_served : List ℕ → Scene → Scene
with_served message s = record s {
  stock = stock_after_batch s.stock message;
  given = s.given ++ batch_reply s.stock message (pos 0) ∷ [];
  effects = s.effects ++ effects_in s.stock message;
}

-- Memory ran out while the message was served: some of its first questions are served, not all of them,
-- and no reply is given.
abbrev pub IsHalfServed : List ℕ → Scene → Scene → Type 0
IsHalfServed message s new =
    (more : List Effect) × (new ≡ record s { stock = new.stock; effects = s.effects ++ more })
    × AreBegun (stops_in message) (parts_in message) more s.stock new.stock
