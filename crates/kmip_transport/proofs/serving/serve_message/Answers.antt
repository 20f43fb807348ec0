-- The ends of a stream, at one message.
use Rattle.std.proofs.Common.{ap, ◌∙◌}
use Rattle.std.proofs.Math.Facts.{to_z-of_z}
use Rattle.kmip_server.specs.Batching.{batch_reply}
use Rattle.kmip_transport.proofs.ServingLemmas.{stream_ended, stream_failed, failed_is_no_io, frame_has_fault, same_end}
use Rattle.kmip_transport.proofs.ServingLemmas.{not_served, not_written, served_one}
use Rattle.kmip_transport.proofs.serving.serve_message.Goals as goal

pub returns-in-Ok-None-clause-ended : goal.returns-in-Ok-None-clause-ended
returns-in-Ok-None-clause-ended g c =
    stream_ended _ _ _ _ _ _ _ _ _ c.requires (rw c.in-Ok-None.field-0-is at c.in-Ok-None.ensures.received)
    c.pending.ensures.value

pub end_by-requires : goal.end_by-requires
end_by-requires g c = frame_has_fault _ _ _ _ _ _ c.in-Err.ensures.received

pub returns-in-Err-clause-ended : goal.returns-in-Err-clause-ended
returns-in-Err-clause-ended g c =
    stream_failed _ _ _ _ _ _ _ _ _ _ c.the_laws_of_sizes_hold.ensures.fault c.requires c.in-Err.ensures.received
    c.end_by.ensures

pub returns-in_default-clause-ended : goal.returns-in_default-clause-ended
returns-in_default-clause-ended g c =
    not_served _ _ _ _ _ _ _ _ _ _ _ c.requires (rw c.in-Ok-Some.field-0-is at c.in-Ok-Some.ensures.received)
    c.as_slice.ensures.value c.in_default.ensures.begun

pub returns-in-Err-clause-sure : goal.returns-in-Err-clause-sure
returns-in-Err-clause-sure g c = λ sure is.
    failed_is_no_io _ _ _ _ _ _ _ c.in-Err.ensures.received (c.in-Err.ensures.sure sure) c.end_by.ensures
    (same_end _ _ is)

pub returns-clause-lost : goal.returns-clause-lost
returns-clause-lost g c =
    not_written _ _ _ _ _ _ _ _ _ _ _ _ _ c.requires (rw c.in-Ok-Some.field-0-is at c.in-Ok-Some.ensures.received)
    c.as_slice.ensures.value c.in-Ok.ensures.after
    c.in-Err-send.ensures.kept

pub returns-in-Ok-send-clause-one : goal.returns-in-Ok-send-clause-one
returns-in-Ok-send-clause-one g c =
    served_one _ _ _ _ _ _ _ _ _ _ _ _ _ _ c.requires (rw c.in-Ok-Some.field-0-is at c.in-Ok-Some.ensures.received)
    c.as_slice.ensures.value c.in-Ok.ensures.after
    c.as_slice-2.ensures.value (c.in-Ok.ensures.reply
    ∙ ap (batch_reply c.args.server.now c.as_slice.result.now) (to_z-of_z c.ranges.now)) c.in-Ok-send.ensures.sent
