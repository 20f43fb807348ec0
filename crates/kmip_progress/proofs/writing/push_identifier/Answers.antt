-- An identifier is a text.
use Rattle.std.proofs.Common.{◌≡◌, true, rules}
use Rattle.std.proofs.lemmas.Str.{is_utf8-from_IsUtf8}
use Rattle.std.specs.Str.{is_utf8}
use Rattle.kmip_progress.proofs.writing.push_identifier.Goals as goal

pub returns-in_ok-push_hex-in-Some-clause-utf8 : goal.returns-in_ok-push_hex-in-Some-clause-utf8
returns-in_ok-push_hex-in-Some-clause-utf8 c =
    let text : is_utf8 c.as_str.result.now ≡ true = is_utf8-from_IsUtf8 c.as_str.result.now c.as_str.utf8 in
    search (rules, text)
