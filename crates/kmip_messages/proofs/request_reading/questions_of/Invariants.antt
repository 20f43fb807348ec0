-- What was read, and then what is left, is all of it.
use Rattle.std.proofs.Common.{◌≡◌, drop}
use Rattle.kmip_ttlv.specs.View.{views}
use Rattle.kmip_batch_items.specs.Siblings.{contents}
use Rattle.kmip_batch_items.specs.declared.standard.TheConstants.{TAG_BATCH_ITEM}
use Rattle.kmip_batch_items.specs.BatchItems.{question_at}
use Rattle.kmip_messages.specs.Members.{members_in}
use Rattle.kmip_messages.proofs.MemberLemmas.{with_front}
use Rattle.kmip_messages.proofs.request_reading.questions_of.Given as goal

abbrev pub invariant-loop-item : goal.invariant-loop-item
invariant-loop-item l =
    with_front l.questions.items (members_in question_at (contents TAG_BATCH_ITEM (views (drop l.item-index l.message))))
    ≡ members_in question_at (contents TAG_BATCH_ITEM (views l.message))
