-- The item of each message, and which have a written form.
-- Source: KMIP 2.1, Message Structure. Own (choice): Continue stands where two questions or more are asked,
-- and the ranges. Own (limit): one to eight Batch Items, and 8,192 bytes.
use Rattle.std.specs.Prelude.{ℕ, ◌+◌, ℤ, pos, Bool, ◌&&◌, nat_le, if◌then◌else◌, List, ◌++◌, length, map, Option, Some, None, Ok}
use Rattle.std.specs.List.{list_all}
use Rattle.kmip_ttlv.specs.Limits.{most_bytes}
use Rattle.kmip_ttlv.specs.Node.{Node, node}
use Rattle.kmip_ttlv.specs.Sizes.{size}
use Rattle.kmip_batch_items.specs.Formats.{inside}
use Rattle.kmip_batch_items.specs.declared.reply.Reply.{Reply}
use Rattle.kmip_batch_items.specs.declared.request.Request.{Request}
use Rattle.kmip_batch_items.specs.declared.standard.TheConstants.{TAG_REQUEST_MESSAGE, TAG_RESPONSE_MESSAGE, CONTINUE}
use Rattle.kmip_batch_items.specs.BatchItems.{question_item, answer_item, answer_fits}
use Rattle.kmip_batch_items.specs.RequestFits.{request_fits}
use Rattle.kmip_messages.specs.declared.batch.Batch.{Batch}
use Rattle.kmip_messages.specs.Headers.{header_format, reply_header_format}
use Rattle.kmip_messages.specs.Members.{may_have}

-- ---- requests

-- The Batch Error Continuation Option of this many questions. Where there are two or more it is Continue, so
-- that all are answered.
abbrev pub option_for : ℕ → Option ℕ
option_for there = if nat_le 2 there then Some CONTINUE else None

-- the written item of some requests, in their order
abbrev pub requests_item : List Request → Node
requests_item rs = node TAG_REQUEST_MESSAGE (inside (header_format.write (option_for (length rs), pos (length rs)) ++ map question_item rs))

-- the questions that some requests are, as they are read
abbrev pub batch_of : List Request → Batch
batch_of rs = record { option = option_for (length rs); items = map Ok rs }

-- whether some requests have a written form together: they are one to eight, with their values in range
abbrev pub requests_fit : List Request → Bool
requests_fit rs = may_have (length rs) && list_all request_fits rs

-- ---- replies

-- the written item of some replies, in their order, at a time in seconds
abbrev pub replies_item : List Reply → ℤ → Node
replies_item rs now = node TAG_RESPONSE_MESSAGE (inside ((reply_header_format now).write (pos (length rs)) ++ map answer_item rs))

-- Whether some replies have a written form together. They are one to eight, with their values in range, and
-- their message is not too long. The message has one length at all times.
abbrev pub replies_fit : List Reply → Bool
replies_fit rs = may_have (length rs) && list_all answer_fits rs && nat_le (size (replies_item rs (pos 0))) most_bytes
