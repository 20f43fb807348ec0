-- Head, lines and end.
use Rattle.std.proofs.Common.{◌≡◌, [], ◌∷◌, ◌++◌, codes, length, string_bytes, ◌∙◌, rules}
use Rattle.kmip_progress.specs.Private.{key_lines}
use Rattle.kmip_progress.specs.Texts.{end_line}
use Rattle.kmip_progress.proofs.WritingLemmas.{whole}
use Rattle.kmip_progress.proofs.writing.progress_text.Goals as goal

pub returns-clause-text : goal.returns-clause-text
returns-clause-text c =
    let keys = c.args.keys.now in
    let text : string_bytes c.push_end.new.text
    ≡ (codes "kmip-progress 2" ++ 10 ∷ key_lines keys c.args.known.now) ++ (end_line (length keys) ++ 10 ∷ []) = search rules in
    text ∙ whole keys c.args.known.now c.requires
