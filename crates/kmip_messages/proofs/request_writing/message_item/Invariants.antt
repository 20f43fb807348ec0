-- The items so far, and those of the requests that are left, are all of them.
use Rattle.std.proofs.Common.{◌≡◌, ◌++◌, pos, drop, length, map}
use Rattle.kmip_ttlv.specs.View.{views}
use Rattle.kmip_batch_items.specs.BatchItems.{question_item}
use Rattle.kmip_messages.specs.Headers.{header_format}
use Rattle.kmip_messages.specs.Written.{option_for}
use Rattle.kmip_messages.proofs.request_writing.message_item.Given as goal

abbrev pub invariant-loop-request : goal.invariant-loop-request
invariant-loop-request l =
    views l.items.items ++ map question_item (drop l.request-index l.requests)
    ≡ header_format.write (option_for (length l.requests), pos (length l.requests)) ++ map question_item l.requests
