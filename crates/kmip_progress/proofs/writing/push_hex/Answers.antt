-- Hexadecimal is a text.
use Rattle.std.proofs.Common.{◌≡◌, sym, subst, rules}
use Rattle.std.specs.Str.{IsUtf8}
use Rattle.hex.specs.Hex.{encode_lower}
use Rattle.kmip_progress.proofs.WritingLemmas.{hex_is_text, not_refused}
use Rattle.kmip_progress.proofs.writing.push_hex.Goals as goal

pub unwrap-requires-2 : goal.unwrap-requires-2
unwrap-requires-2 c =
    let same : c.encode_to_slice.new.output ≡ encode_lower c.args.bytes.now = search rules in
    not_refused _ _ c.from_utf8.result (subst IsUtf8 (sym same) (hex_is_text c.args.bytes.now)) c.from_utf8.ensures.cases
