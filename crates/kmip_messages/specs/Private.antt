-- Private: definitions that only clauses of private functions cite.
-- Source: own (view): parts of the public definitions of this crate.
use Rattle.std.specs.Prelude.{ℕ, ◌+◌, List, [], ◌∷◌, IsTrue}
use Rattle.kmip_ttlv.specs.Sizes.{size}
use Rattle.kmip_batch_items.specs.declared.reply.Reply.{Reply}
use Rattle.kmip_batch_items.specs.BatchItems.{answer_item, answer_fits}
use Rattle.kmip_batch_items.specs.Private.{IsBrief}

-- How many bytes the Batch Items of some replies take together
abbrev pub answers_size : List Reply → ℕ
answers_size [] = 0
answers_size (r ∷ rest) = size (answer_item r) + answers_size rest

-- A reply that can be written beside seven others of its kind: its values are in their ranges, and
-- its outcome is brief
pub record IsShort (r : Reply) : Type 0 where
  pub fits : IsTrue (answer_fits r)
  pub brief : IsBrief r.outcome
