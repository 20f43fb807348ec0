-- The lines, and then the end of the stream.
use Rattle.std.proofs.Common.{Some, [], ◌++◌, sym, ap, subst, ◌∙◌}
use Rattle.kmip_message_commands.specs.StreamText.{IsBrokenOff}
use Rattle.kmip_message_commands.proofs.RespondingLemmas.{made_whole, at_want}
use Rattle.kmip_message_commands.proofs.StreamingLemmas.{stream_written, stream_answered, broken_among, broken_first, broken_last}
use Rattle.kmip_message_commands.proofs.streaming.answer_stream_bytes.Goals as goal

pub returns-clause-lines : goal.returns-clause-lines
returns-clause-lines c =
    let tail = made_whole _ _ _ _ c.new-tail.ensures.items c.in_ok-push_tail.ensures c.as_slice.ensures.value in
    let after = c.respond_to_bytes.new.output.items in
    stream_written (Some c.args.input.now) _ _ _ _ (Some c.args.output.now.items) (Some after) (Some c.push_text.new.text.items) c.in_ok-streamer.ensures c.in_ok-has_refused.ensures.whole c.end-end.ensures (c.in_ok-push_text.ensures.ok ∙ ap (λ t. after ++ t) tail)

pub returns-clause-stream : goal.returns-clause-stream
returns-clause-stream c =
    let tail = made_whole _ _ _ _ c.new-tail.ensures.items c.in_ok-push_tail.ensures c.as_slice.ensures.value in
    let after = c.respond_to_bytes.new.output.items in
    stream_answered (Some c.args.input.now) _ _ _ _ (Some c.args.output.now.items) (Some after) (Some c.push_text.new.text.items) c.in_ok-streamer.ensures c.in_ok-has_refused.ensures.whole c.end-end.ensures (c.in_ok-push_text.ensures.ok ∙ ap (λ t. after ++ t) tail)

pub returns-in_err-has_refused-clause-broken : goal.returns-in_err-has_refused-clause-broken
returns-in_err-has_refused-clause-broken c =
    at_want c.from_residual-in_err-has_refused.result _ (broken_among (Some c.args.input.now) _ _ (Some c.args.output.now.items) (Some c.respond_to_bytes.new.output.items) c.in_ok-streamer.ensures c.in_err-has_refused.ensures.broken)

pub returns-in_err-push_tail-clause-broken : goal.returns-in_err-push_tail-clause-broken
returns-in_err-push_tail-clause-broken c =
    at_want c.from_residual-in_err-push_tail.result _ (broken_last (Some c.args.input.now) _ _ _ (Some c.args.output.now.items) (Some c.respond_to_bytes.new.output.items) _ c.in_ok-streamer.ensures c.in_ok-has_refused.ensures.whole)

pub returns-in_err-push_text-clause-broken : goal.returns-in_err-push_text-clause-broken
returns-in_err-push_text-clause-broken c =
    let before = broken_last (Some c.args.input.now) _ _ _ (Some c.args.output.now.items) (Some c.respond_to_bytes.new.output.items) _ c.in_ok-streamer.ensures c.in_ok-has_refused.ensures.whole in
    at_want c.from_residual-in_err-push_text.result _ (subst (λ o. IsBrokenOff c.args.input.now [] (Some c.args.output.now.items) (Some o)) (sym c.in_err-push_text.ensures.err) before)

pub returns-in_err-streamer-clause-broken : goal.returns-in_err-streamer-clause-broken
returns-in_err-streamer-clause-broken c = at_want c.from_residual.result _ (broken_first (Some c.args.input.now) (Some c.args.output.now.items))
