-- The replies of a message: what is read of an item is what it says, and the written form of some replies says them.
use Rattle.std.proofs.Common.{◌≡◌, ℤ, pos, true, List, [], ◌∷◌, ◌++◌, map, length, IsTrue, refl, sym, subst}
use Rattle.std.specs.List.{list_all}
use Rattle.std.proofs.lemmas.Bool.{and_parts}
use Rattle.kmip_ttlv.specs.Node.{Node, node}
use Rattle.kmip_ttlv.proofs.ReadSteps.{Reads, reads-bind, reads-as}
use Rattle.kmip_batch_items.specs.declared.message_fault.MessageFault.TheVariants.{BatchCount}
use Rattle.kmip_batch_items.specs.Formats.{inside}
use Rattle.kmip_batch_items.specs.Siblings.{contents}
use Rattle.kmip_batch_items.proofs.FormatParts.{reads}
use Rattle.kmip_batch_items.proofs.ItemReads.{reads-guard}
use Rattle.kmip_batch_items.specs.declared.reply.Reply.{Reply}
use Rattle.kmip_batch_items.specs.declared.standard.TheConstants.{TAG_RESPONSE_MESSAGE, TAG_BATCH_ITEM}
use Rattle.kmip_batch_items.specs.BatchItems.{IsAnswer, answer_fits, answer_item}
use Rattle.kmip_batch_items.specs.ReplyFormats.{any_version_parts_format, answered_format}
use Rattle.kmip_batch_items.proofs.BatchItemLaws.{message-law, answer-law, answer_written}
use Rattle.kmip_messages.specs.Batches.{AreReplies, replies_at}
use Rattle.kmip_messages.specs.Headers.{reply_header_format, reply_header_parts_format}
use Rattle.kmip_messages.specs.Members.{may_have, is_count, SayEach}
use Rattle.kmip_messages.specs.Written.{replies_item}
use Rattle.kmip_messages.proofs.BatchLaws.{counts, counted}
use Rattle.kmip_messages.proofs.HeaderLaws.{reply_header-part, reply_header_is, is_reply_header}
use Rattle.kmip_messages.proofs.MemberLemmas.{reads-members_at, say_length, part_stands, items_stand}

replies_are : (n : Node) (message : List Node) (count : ℤ) (replies : List Reply) → n ≡ node TAG_RESPONSE_MESSAGE (inside message)
    → (reply_header_format (pos 0)).Says message count → is_count count (length (contents TAG_BATCH_ITEM message)) ≡ true
    → SayEach IsAnswer (contents TAG_BATCH_ITEM message) replies → AreReplies replies n
replies_are n message count replies is header all answers =
    let two = counts count (length (contents TAG_BATCH_ITEM message)) (length replies) all (say_length IsAnswer _ replies answers) in
    record {
      message = message;
      is_message = is;
      header = reply_header_is (pos 0) message (pos (length replies)) (subst ((reply_header_format (pos 0)).Says message) two.1 header);
      within = two.0;
      answers = answers;
    }

-- What is read of an item is the replies that it gives, and no others.
pub replies-law : (n : Node) → Reads (replies_at n) (λ rs. AreReplies rs n)
unfolding replies_at
replies-law n = reads-as (replies_at n) _ (λ rs. AreReplies rs n)
    (λ rs (message, is, (count, says, (_, all, answers))). replies_are n message count rs is says all answers)
    (λ rs p. (
      p.message,
      p.is_message,
      (
        pos (length rs),
        is_reply_header (pos 0) p.message (pos (length rs)) p.header,
        (tt, counted (length (contents TAG_BATCH_ITEM p.message)) (length rs) p.within (say_length IsAnswer _ rs p.answers), p.answers),
      ),
    ))
    (reads-bind _ _ _ _ (message-law TAG_RESPONSE_MESSAGE n) (λ message.
    reads-bind _ _ _ _ (reads (reply_header_format (pos 0)) (reply_header-part (pos 0)).good message) (λ count.
    reads-bind _ _ _ _ (reads-guard BatchCount (is_count count (length (contents TAG_BATCH_ITEM message)))) (λ all.
    reads-members_at answered_format.read IsAnswer message answer-law))))

-- ---- written

answers_written : (rs : List Reply) → list_all answer_fits rs ≡ true → SayEach IsAnswer (map (λ r. inside (answered_format.write r)) rs) rs
answers_written [] fit = tt
answers_written (r ∷ rest) fit =
    let parts = and_parts (answer_fits r) (list_all answer_fits rest) fit in
    ((answered_format.write r, refl, answer_written r parts.0), answers_written rest parts.1)

-- The written form of some replies, at any time, gives them.
pub replies_written : (rs : List Reply) (now : ℤ) → IsTrue (may_have (length rs)) → list_all answer_fits rs ≡ true → AreReplies rs (replies_item rs now)
unfolding reply_header_format reply_header_parts_format any_version_parts_format
replies_written rs now within fit =
    let says = part_stands (reply_header_format now) answered_format.write (pos (length rs)) rs (reply_header-part now) refl refl in
    let stand = items_stand (reply_header_format now) answered_format.write (pos (length rs)) rs (reply_header-part now) refl in
    record {
      message = (reply_header_format now).write (pos (length rs)) ++ map answer_item rs;
      is_message = refl;
      header = reply_header_is now ((reply_header_format now).write (pos (length rs)) ++ map answer_item rs) (pos (length rs)) says;
      within = within;
      answers = subst (λ cs. SayEach IsAnswer cs rs) (sym stand) (answers_written rs fit);
    }
