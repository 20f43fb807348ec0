-- Private: definitions that only clauses of private functions cite.
-- Source: own (view): parts of the public definitions of this crate.
use Rattle.std.specs.Prelude.{◌≡◌, Bool, false, ◌⊎◌, List, [], ◌∷◌, ◌++◌, option_to_list}
use Rattle.kmip_batch_items.specs.BatchItems.{Question}
use Rattle.kmip_store.specs.Stock.{Stock}
use Rattle.kmip_server.specs.Serving.{reply_to, stock_after_read}
use Rattle.kmip_server.specs.Shown.{objects_in}
use Rattle.kmip_server.specs.declared.effect.Effect.{Effect}
use Rattle.kmip_server.specs.Batching.{is_last, effect_by}

-- Some of the first questions are served in turn, not all of them, each with the reply that the
-- server gives.
abbrev pub IsCutShort : Bool → List Question → List Effect → Stock → Stock → Type 0
IsCutShort stops [] effects old new = ⊥
IsCutShort stops (q ∷ qs) effects old new =
    ((effects ≡ []) × (new ≡ old))
    ⊎ ((more : List Effect) × (effects ≡ option_to_list (effect_by (objects_in old) q (reply_to old q)) ++ more)
    × (is_last stops (reply_to old q) ≡ false) × IsCutShort stops qs more (stock_after_read old q) new)

-- A question is served: the records are those that it leaves, and what it did is noted.
pub record NotesOne (question : Question) (old new : Stock) (before after : List Effect) : Type 0 where
  -- the records are those that the question leaves
  pub records : new ≡ stock_after_read old question
  -- what it did, if it did anything, is noted at the end of the list
  pub noted : after ≡ before ++ option_to_list (effect_by (objects_in old) question (reply_to old question))

-- Neither the records nor the list of what was done has changed.
abbrev pub LeavesAll : Stock → Stock → List Effect → List Effect → Type 0
LeavesAll old new before after = (new ≡ old) × (after ≡ before)
