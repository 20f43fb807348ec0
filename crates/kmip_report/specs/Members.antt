-- What the values and the members of the code are in text and in JSON.
-- Source: own (text): what the program prints.
use Rattle.std.specs.Prelude.{ℕ, List, map}
use Rattle.std.specs.Fmt.{decimal, signed_decimal}
use Rattle.std.specs.Int.{w32, cast_unsigned}
use Rattle.serde_json.specs.Data.{Data, null, boolean, string, Members}
use Rattle.kmip_ttlv.specs.Showing.{plain_text, shown_truth}
use Rattle.kmip_report.specs.declared.datum.Datum.{Datum}
use Rattle.kmip_report.specs.declared.datum.Datum.TheVariants.{Null, Truth, Number, Signed, Mask, Text, Shown, Words, Lines, Numbers}
use Rattle.kmip_report.specs.declared.member.Member.{Member}
use Rattle.kmip_report.specs.Documents.{count, members, numbers_of, words_of}
use Rattle.kmip_report.specs.Pieces.{fed_lines, mask_digits, spaced, spaced_numbers}

-- The value in JSON.
abbrev pub data_of : Datum → Data
data_of (Null words) = null
data_of (Truth b) = boolean b
data_of (Number n) = count n
data_of (Signed n) = count (cast_unsigned w32 n)
data_of (Mask n) = count n
data_of (Text word) = string word.now
data_of (Shown word) = string word.now
data_of (Words words) = words_of (map (λ word. word.now) words.now)
data_of (Lines texts) = words_of (map (λ text. text.now) texts.now)
data_of (Numbers numbers) = numbers_of numbers.now

-- The value in text.
abbrev pub text_of : Datum → List ℕ
text_of (Null words) = words.now
text_of (Truth b) = shown_truth b
text_of (Number n) = decimal n
text_of (Signed n) = signed_decimal n
text_of (Mask n) = mask_digits n
text_of (Text word) = word.now
text_of (Shown word) = plain_text word.now
text_of (Words words) = spaced (map (λ word. word.now) words.now)
text_of (Lines texts) = fed_lines (map (λ text. text.now) texts.now)
text_of (Numbers numbers) = spaced_numbers numbers.now

-- The name of a member, and its value.
abbrev pub pair_of : Member → List ℕ × Data
pair_of m = (m.name.now, data_of m.value)
