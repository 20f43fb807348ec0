-- What the server answers the questions of a message in turn, and what its records are after them.
-- Source: KMIP 2.1, Message Structure, Batch Error Continuation Option; Operations. That the questions after
-- a failure are left where there is no option is own (choice).
use Rattle.std.specs.Prelude.{◌≡◌, ℕ, ℤ, Bool, true, false, ◌&&◌, ◌⊎◌, List, [], ◌∷◌, ◌++◌, Option, None, Ok, Err, option_to_list, if◌then◌else◌}
use Rattle.kmip_ttlv.specs.Spelling.{canon}
use Rattle.kmip_objects.specs.Objects.{Object}
use Rattle.kmip_batch_items.specs.BatchItems.{Question}
use Rattle.kmip_batch_items.specs.declared.reply.Reply.{Reply}
use Rattle.kmip_messages.specs.Items.{parts_in, stops_in}
use Rattle.kmip_messages.specs.Written.{replies_item}
use Rattle.kmip_store.specs.Stock.{Stock}
use Rattle.kmip_server.specs.Again.{has_failed}
use Rattle.kmip_server.specs.Effects.{effect_of}
use Rattle.kmip_server.specs.Messages.{IsServedBy}
use Rattle.kmip_server.specs.Serving.{reply_to, stock_after_read}
use Rattle.kmip_server.specs.Shown.{objects_in}
use Rattle.kmip_server.specs.declared.effect.Effect.{Effect}

-- the questions after this reply are left: it failed, and a failure stops them
abbrev pub is_last : Bool → Reply → Bool
is_last stops reply = stops && has_failed reply.outcome

-- the replies to the questions that are answered
abbrev pub replies_to : Bool → List Question → Stock → List Reply
replies_to stops [] s = []
replies_to stops (q ∷ qs) s =
    reply_to s q ∷ (if is_last stops (reply_to s q) then [] else replies_to stops qs (stock_after_read s q))

-- the records after the questions that are answered
abbrev pub stock_after_all : Bool → List Question → Stock → Stock
stock_after_all stops [] s = s
stock_after_all stops (q ∷ qs) s =
    if is_last stops (reply_to s q) then stock_after_read s q else stock_after_all stops qs (stock_after_read s q)

-- what a question did, by its reply
abbrev pub effect_by : List Object → Question → Reply → Option Effect
effect_by objects (Ok request) reply = effect_of objects request.ask reply.outcome
effect_by objects (Err refusal) reply = None

-- what the questions did that are answered, in order
abbrev pub effects_of : Bool → List Question → Stock → List Effect
effects_of stops [] s = []
effects_of stops (q ∷ qs) s =
    option_to_list (effect_by (objects_in s) q (reply_to s q))
    ++ (if is_last stops (reply_to s q) then [] else effects_of stops qs (stock_after_read s q))

-- the bytes of the reply to the bytes of a message, at a time in seconds since the start of 1970
unfoldable pub batch_reply : Stock → List ℕ → ℤ → List ℕ
batch_reply s message now = canon (replies_item (replies_to (stops_in message) (parts_in message) s) now)

-- the records after a message
unfoldable pub stock_after_batch : Stock → List ℕ → Stock
stock_after_batch s message = stock_after_all (stops_in message) (parts_in message) s

-- the steps that took effect as a message was served
unfoldable pub effects_in : Stock → List ℕ → List Effect
effects_in s message = effects_of (stops_in message) (parts_in message) s

-- The questions are served in turn, each once, with these replies, and these steps took effect. Those after a
-- failure that stops them are left.
abbrev pub AreServedInTurn : Bool → List Question → List Reply → List Effect → Stock → Stock → Type 0
AreServedInTurn stops [] [] effects old new = (effects ≡ []) × (new ≡ old)
AreServedInTurn stops [] (reply ∷ replies) effects old new = ⊥
AreServedInTurn stops (q ∷ qs) [] effects old new = ⊥
AreServedInTurn stops (q ∷ qs) (reply ∷ replies) effects old new =
    (between : Stock) × (more : List Effect) × IsServedBy q reply old between
    × (effects ≡ option_to_list (effect_by (objects_in old) q reply) ++ more)
    × (((is_last stops reply ≡ true) × (replies ≡ []) × (more ≡ []) × (new ≡ between))
    ⊎ ((is_last stops reply ≡ false) × AreServedInTurn stops qs replies more between new))

-- Some of the first questions are served in turn, not all of them, and no reply is written. So nothing
-- happens where there is one question. Own (choice).
abbrev pub AreBegun : Bool → List Question → List Effect → Stock → Stock → Type 0
AreBegun stops [] effects old new = ⊥
AreBegun stops (q ∷ qs) effects old new =
    ((effects ≡ []) × (new ≡ old))
    ⊎ ((reply : Reply) × (between : Stock) × (more : List Effect) × IsServedBy q reply old between
    × (effects ≡ option_to_list (effect_by (objects_in old) q reply) ++ more)
    × (is_last stops reply ≡ false) × AreBegun stops qs more between new)

-- a list of effects has grown by some of which this holds
abbrev pub GrownBy : (List Effect → Type 0) → List Effect → List Effect → Type 0
GrownBy P old new = (more : List Effect) × (new ≡ old ++ more) × P more
