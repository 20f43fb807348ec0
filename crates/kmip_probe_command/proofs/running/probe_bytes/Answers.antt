-- Want of memory leaves the text as it was.
use Rattle.std.proofs.Common.{◌≡◌, length, take, ap, subst, ◌∙◌}
use Rattle.kmip_probe_command.proofs.MidwayLemmas.{front_is_kept}
use Rattle.kmip_probe_command.proofs.running.probe_bytes.Goals as goal

pub returns-in-Err-clause-broken : goal.returns-in-Err-clause-broken
returns-in-Err-clause-broken g c =
    let ended = c.probe_to-ended.new.printer.text.items in
    let kept = subst (λ before. take (length before) ended ≡ before) (ap (λ v. v.items) c.replace.ensures.value)
    (front_is_kept _ _ _ _ _ c.in-Err.ensures.broken) in
    c.truncate.ensures.items ∙ ap (λ n. take n ended) (c.len-before.ensures ∙ c.args.output.now.ok.0) ∙ kept
