-- What is in range of a question that was read.
-- Source: own (choice): the ranges of the fields.
use Rattle.std.specs.Prelude.{true, IfOk, IfErr, IsTrue}
use Rattle.std.specs.Option.{option_map_or}
use Rattle.kmip_batch_items.specs.BatchItems.{Question}
use Rattle.kmip_batch_items.specs.Ranges.{is_batch_id}
use Rattle.kmip_batch_items.specs.RequestFits.{request_fits}

-- The values of a request are in their ranges, and so is a Unique Batch Item ID that a refusal carries.
abbrev pub QuestionFits : Question → Type 0
QuestionFits q = IfOk q (λ r. IsTrue (request_fits r)) × IfErr q (λ e. IsTrue (option_map_or is_batch_id e.id true))
