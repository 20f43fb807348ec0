-- Head, lines and end.
use Rattle.std.proofs.Common.{◌≡◌, [], ◌∷◌, ◌++◌, codes, length, string_bytes, ◌∙◌, rules}
use Rattle.kmip_progress.specs.Private.{key_lines}
use Rattle.kmip_progress.specs.Saved.{saved_lines}
use Rattle.kmip_progress.specs.Texts.{end_line}
use Rattle.kmip_progress.proofs.SavedLemmas.{same_state}
use Rattle.kmip_progress.proofs.WritingLemmas.{whole}
use Rattle.kmip_progress.proofs.saved_text.SavedText.new.Goals as goal

pub returns-clause-saved : goal.returns-clause-saved
returns-clause-saved c =
    let keys = c.args.plan.now in
    let progress = c.args.progress.now in
    let bytes : string_bytes c.push_end.new.text
    ≡ (codes "kmip-progress 2" ++ 10 ∷ key_lines keys progress) ++ (end_line (length keys) ++ 10 ∷ []) = search rules in
    let same : c.into_bytes.result.items ≡ string_bytes c.push_end.new.text = search rules in
    let lines : c.push_saved_lines.new.lines.items ≡ saved_lines keys progress = search rules in
    same_state keys progress c.into_bytes.result.items c.push_saved_lines.new.lines.items
    (same ∙ bytes ∙ whole keys progress c.requires) lines
