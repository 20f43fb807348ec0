-- The texts of one request are that of the request.
use Rattle.std.proofs.Common.{ap, ◌∙◌, append-nil}
use Rattle.std.specs.Str.Lossy.{utf8_lossy}
use Rattle.kmip_trace.specs.Questions.{request_text, requests_text}
use Rattle.kmip_sim_command.proofs.words.request_word.Goals as goal

pub returns : goal.returns
returns c =
    let bytes = c.as_slice.ensures.value ∙ c.in_ok-bytes.ensures ∙ ap requests_text c.from_ref.ensures.value ∙ append-nil (request_text c.args.request.now) in
    c.in_ok-from_utf8_lossy.ensures.lossy ∙ ap utf8_lossy bytes
