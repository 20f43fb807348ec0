-- Each line says one entry more.
use Rattle.std.proofs.Common.{◌∙◌, ◌+◌, ◌++◌, ◌∷◌, [], map, drop, ap, sym}
use Rattle.std.proofs.lemmas.List.{drop_all, drop_more}
use Rattle.std.proofs.lemmas.Result.{err_from_is_err_and}
use Rattle.kmip_ttlv.specs.Binding.{◌>>=◌}
use Rattle.kmip_progress.specs.Reading.{entry_in, entries_in}
use Rattle.kmip_progress.proofs.reading.entries_in.Goals as goal

pub loop-line-preserved : goal.loop-line-preserved
loop-line-preserved c =
    let format = c.args.format in
    let before = c.loop-line.entries.items in
    let left = map (λ line. line.now) (drop (c.loop-line.line-index + 1) c.args.lines.now) in
    let here = drop_more c.args.lines.now c.loop-line.line-index _ c.loop-line-test.true in
    let said = ap (entry_in format) (sym c.in_ok-words.ensures ∙ ap (map (λ word. word.now)) (sym c.as_slice.ensures.value)) ∙ c.in_ok-entry.ensures in
    ap (λ entries. entries_in format entries left) c.in_ok-push.ensures.items
    ∙ sym (ap (λ read. read >>= λ e. entries_in format (before ++ e ∷ []) left) said)
    ∙ sym (ap (λ lines. entries_in format before (map (λ line. line.now) lines)) here) ∙ c.loop-line.invariant

pub returns : goal.returns
returns c =
    let entries = c.loop-line.entries.items in
    sym c.loop-line.invariant
    ∙ ap (λ lines. entries_in c.args.format entries (map (λ line. line.now) lines)) (drop_all c.loop-line.line-index c.args.lines.now c.loop-line-test.false)

pub returns-in_err-words : goal.returns-in_err-words
returns-in_err-words c =
    let fault = err_from_is_err_and c.from_residual.result c.from_residual.ensures.1 in
    rw (fault.1, fault.2) tt

pub returns-in_err-push : goal.returns-in_err-push
returns-in_err-push c =
    let fault = err_from_is_err_and c.from_residual-in_err-push.result c.from_residual-in_err-push.ensures.1 in
    rw (fault.1, fault.2) tt
