-- The laws of what bytes ask and say, by what is read of them.
use Rattle.std.proofs.Common.{◌≡◌, ℕ, true, List, [], ◌∷◌, map, Option, Result, Ok, Err, IsTrue, ◌==◌, refl, sym, ap, ◌∙◌}
use Rattle.std.specs.List.{All, filter_map}
use Rattle.std.specs.Result.{result_ok}
use Rattle.std.proofs.lemmas.Bool.{eq-eqb}
use Rattle.std.proofs.lemmas.List.Elements.{All-nil}
use Rattle.kmip_ttlv.specs.Binding.{◌>>=◌}
use Rattle.kmip_ttlv.specs.Node.{Node, tag_of}
use Rattle.kmip_ttlv.specs.Spelling.{canon}
use Rattle.kmip_batch_items.specs.declared.message_fault.MessageFault.{MessageFault}
use Rattle.kmip_batch_items.specs.declared.reply.Reply.{Reply}
use Rattle.kmip_batch_items.specs.declared.request.Request.{Request}
use Rattle.kmip_batch_items.specs.declared.standard.TheConstants.{TAG_REQUEST_MESSAGE, TAG_RESPONSE_MESSAGE}
use Rattle.kmip_batch_items.specs.BatchItems.{answer_fits}
use Rattle.kmip_batch_items.specs.Whole.{item_in}
use Rattle.kmip_messages.specs.declared.batch.Batch.{Batch}
use Rattle.kmip_messages.specs.Batches.{batch_at, batch_read, replies_at, replies_read}
use Rattle.kmip_messages.specs.Items.{parts_of, parts_in, requests_in, replies_of, replies_in}
use Rattle.kmip_messages.specs.Laws.{RequestsAreSpelled, WrittenAreAsked, RepliesFit, RepliesAreSpelled, WrittenAreSaid, RequestsAreNoReplies}
use Rattle.kmip_messages.specs.Written.{requests_item, replies_item}
use Rattle.kmip_messages.proofs.BatchLaws.{batch-law}
use Rattle.kmip_messages.proofs.ByteLemmas.{batch_read-law, batch_read-complete, written_asks, replies_read-law, replies_read-complete, replies_again, replies_in_range, said_is_read, read_is_said}
use Rattle.kmip_messages.proofs.ReplyLaws.{replies-law}

-- ---- requests

-- where all parts are requests and there is one, the message was read
read_as : (read : Result Batch MessageFault) (r : Request) (rest : List Request) → parts_of read ≡ map Ok (r ∷ rest)
    → (option : Option ℕ) × (read ≡ Ok (record { option = option; items = map Ok (r ∷ rest) }))
read_as (Ok b) r rest is = (b.option, ap (λ all. Ok (record { option = b.option; items = all })) is)
read_as (Err fault) r rest is = absurd cc

pub requests_are_spelled : RequestsAreSpelled
unfolding parts_in
requests_are_spelled bytes r rest octets = (
  λ asked.
      let read = read_as (batch_read bytes) r rest asked in
      let found = (batch_read-law bytes octets).sound _ read.1 in
      (found.0, found.1, (read.0, found.2)),
  λ spelled. ap parts_of (batch_read-complete bytes _ spelled.0 spelled.1 spelled.2.1),
)

pub written_are_asked : WrittenAreAsked
written_are_asked rs fit in_range = written_asks rs (requests_item rs) [] (canon (requests_item rs)) fit refl in_range refl refl

-- ---- replies

fit_of : (bytes : List ℕ) (rs : List Reply) → replies_in bytes ≡ rs → All (λ r. IsTrue (answer_fits r)) rs
fit_of bytes [] is = All-nil (λ r. IsTrue (answer_fits r))
fit_of bytes (r ∷ rest) is = replies_in_range bytes (r ∷ rest) (said_is_read bytes r rest is)

pub replies_fit : RepliesFit
replies_fit bytes = fit_of bytes (replies_in bytes) refl

pub replies_are_spelled : RepliesAreSpelled
replies_are_spelled bytes r rest octets = (
  λ said. (replies_read-law bytes octets).sound (r ∷ rest) (said_is_read bytes r rest said),
  λ spelled. read_is_said bytes (r ∷ rest) (replies_read-complete bytes (r ∷ rest) spelled.0 spelled.1 spelled.2),
)

pub written_are_said : WrittenAreSaid
written_are_said rs now fit in_range = read_is_said (canon (replies_item rs now)) rs (replies_again rs now fit in_range)

-- ---- one kind of message alone

no_reply_read : (m : Result Node MessageFault) (b : Batch) (rs : List Reply) → (m >>= batch_at) ≡ Ok b → (m >>= replies_at) ≡ Ok rs → ⊥
no_reply_read (Ok n) b rs asked said =
    let request = (batch-law n).sound b asked in
    let answer = (replies-law n).sound rs said in
    let same : TAG_REQUEST_MESSAGE ≡ TAG_RESPONSE_MESSAGE = ap tag_of (sym request.is_message ∙ answer.is_message) in
    let apart : (TAG_REQUEST_MESSAGE == TAG_RESPONSE_MESSAGE) ≡ true = eq-eqb TAG_REQUEST_MESSAGE TAG_RESPONSE_MESSAGE same in
    absurd cc
no_reply_read (Err fault) b rs asked said = absurd cc

no_replies : (bytes : List ℕ) (b : Batch) → batch_read bytes ≡ Ok b → (read : Result (List Reply) MessageFault) → replies_read bytes ≡ read → replies_of read ≡ []
unfolding batch_read replies_read
no_replies bytes b asked (Ok rs) said = absurd (no_reply_read (item_in bytes) b rs asked said)
no_replies bytes b asked (Err fault) said = refl

none_asked : (bytes : List ℕ) (read : Result Batch MessageFault) → batch_read bytes ≡ read → (r : Request) (rest : List Request)
    → filter_map result_ok (parts_of read) ≡ r ∷ rest → replies_of (replies_read bytes) ≡ []
none_asked bytes (Ok b) is r rest asked = no_replies bytes b is (replies_read bytes) refl
none_asked bytes (Err fault) is r rest asked = absurd cc

pub requests_are_no_replies : RequestsAreNoReplies
unfolding requests_in parts_in replies_in
requests_are_no_replies bytes r rest asked = none_asked bytes (batch_read bytes) refl r rest asked
