-- The text is UTF-8.
use Rattle.std.proofs.Common.{◌≡◌, true, rules}
use Rattle.std.proofs.lemmas.Str.{is_utf8-from_IsUtf8}
use Rattle.std.specs.Str.{is_utf8}
use Rattle.kmip_progress.proofs.words.is_spelt.Goals as goal

pub returns : goal.returns
returns c =
    let text : is_utf8 c.args.text.now ≡ true = is_utf8-from_IsUtf8 c.args.text.now c.utf8.text in
    search (rules, text)
