-- The lines, and then the end of the stream.
use Rattle.std.proofs.Common.{[], IfSome, rules, subst}
use Rattle.std.specs.Io.KnownBytes.{Appends}
use Rattle.kmip_report.specs.Endings.{UnlessOutput}
use Rattle.kmip_message_commands.specs.StreamText.{IsBrokenOff}
use Rattle.kmip_message_commands.proofs.RespondingLemmas.{made_whole, at_fault, follows}
use Rattle.kmip_message_commands.proofs.StreamingLemmas.{stream_written, stream_answered, broken_among, broken_first, broken_last}
use Rattle.kmip_message_commands.proofs.streaming.answer_stream.Goals as goal

pub returns-clause-lines : goal.returns-clause-lines
returns-clause-lines g c =
    let tail = made_whole _ _ _ _ c.new-tail.ensures.items c.in_ok-push_tail.ensures c.as_slice.ensures.value in
    stream_written _ _ _ _ _ _ _ _ c.in_ok-streamer.ensures c.in_ok-has_refused.ensures.whole c.end-end.ensures (subst (Appends _ _) tail c.in_ok-send.ensures.text)

pub returns-clause-stream : goal.returns-clause-stream
returns-clause-stream g c =
    let tail = made_whole _ _ _ _ c.new-tail.ensures.items c.in_ok-push_tail.ensures c.as_slice.ensures.value in
    stream_answered _ _ _ _ _ _ _ _ c.in_ok-streamer.ensures c.in_ok-has_refused.ensures.whole c.end-end.ensures (subst (Appends _ _) tail c.in_ok-send.ensures.text)

pub returns-in_err-has_refused-clause-broken : goal.returns-in_err-has_refused-clause-broken
returns-in_err-has_refused-clause-broken g c =
    let fault = c.in_err-has_refused.field-0.0 in
    let read = g.R.Read.remaining c.args.reader.now in
    let old = g.W.Write.contents c.args.writer.now in
    let new = g.W.Write.contents c.respond_to_lines.new.writer in
    let broken : UnlessOutput fault (IfSome read (λ input. IsBrokenOff input [] old new)) =
    follows fault _ _ (broken_among read _ _ old new c.in_ok-streamer.ensures) c.in_err-has_refused.ensures.broken in
    search (rules, broken)

pub returns-in_err-push_tail-clause-broken : goal.returns-in_err-push_tail-clause-broken
returns-in_err-push_tail-clause-broken g c =
    at_fault c.from_residual-in_err-push_tail.result _ (broken_last _ _ _ _ _ _ _ c.in_ok-streamer.ensures c.in_ok-has_refused.ensures.whole)

pub returns-in_err-streamer-clause-broken : goal.returns-in_err-streamer-clause-broken
returns-in_err-streamer-clause-broken g c = at_fault c.from_residual.result _ (broken_first _ _)
