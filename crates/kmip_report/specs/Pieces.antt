-- A line of a report is a list of pieces, and a report is a list of lines.
-- Source: own (text): what the program prints.
use Rattle.std.specs.Prelude.{ℕ, ℤ, Bool, true, false, List, [], ◌∷◌, ◌++◌, codes, Option, Some, None}
use Rattle.std.specs.Fmt.{decimal, signed_decimal}
use Rattle.std.specs.Int.{w32, cast_unsigned, to_be_bytes}
use Rattle.std.specs.List.{flat_map}
use Rattle.hex.specs.Hex.{encode_lower}
use Rattle.serde_json.specs.Data.{Data, null, boolean, string}
use Rattle.kmip_ttlv.specs.Showing.{plain_text, shown_truth}
use Rattle.kmip_report.specs.declared.form.Form.{Form}
use Rattle.kmip_report.specs.declared.form.Form.TheVariants.{Text, Json}
use Rattle.kmip_report.specs.Documents.{count, document, members, words_of}

-- What a piece adds to the text of its line, and which members it adds to the document.
pub record Piece : Type 0 where
  pub text : List ℕ
  pub members : List (List ℕ × Data)

-- A value in both forms: in text its front and then the value, in JSON one member.
abbrev pub told : List ℕ → List ℕ → List ℕ → Data → Piece
told front name text value = record { text = front ++ text; members = (name, value) ∷ [] }

-- Words in text alone.
abbrev pub said : List ℕ → Piece
said words = record { text = words; members = [] }

-- A member in JSON alone.
abbrev pub noted : List ℕ → Data → Piece
noted name value = record { text = []; members = (name, value) ∷ [] }

-- A space and a text.
abbrev pub spaced_word : List ℕ → List ℕ
spaced_word word = codes " " ++ word

-- Texts, each after a space.
abbrev pub spaced : List (List ℕ) → List ℕ
spaced words = flat_map spaced_word words

-- A line feed and a line.
abbrev pub fed_line : List ℕ → List ℕ
fed_line line = codes "\n" ++ line

-- Lines, each after a line feed.
abbrev pub fed_lines : List (List ℕ) → List ℕ
fed_lines texts = flat_map fed_line texts

-- A space and a number in decimal.
abbrev pub spaced_number : ℕ → List ℕ
spaced_number n = codes " " ++ decimal n

-- Numbers in decimal, each after a space.
abbrev pub spaced_numbers : List ℕ → List ℕ
spaced_numbers ns = flat_map spaced_number ns

-- A text that is printed as it is.
abbrev pub word : List ℕ → List ℕ → List ℕ → Piece
word front name text = told front name text (string text)

-- A text in plain characters in text, and as it is in JSON.
abbrev pub shown : List ℕ → List ℕ → List ℕ → Piece
shown front name text = told front name (plain_text text) (string text)

-- No value: these words in text, and null in JSON.
abbrev pub absent : List ℕ → List ℕ → Piece
absent name words = told [] name words null

-- A text that is printed as it is, or these words if there is none.
abbrev pub word_or : List ℕ → List ℕ → List ℕ → Option (List ℕ) → Piece
word_or front name words None = absent name words
word_or front name words (Some text) = word front name text

-- A text in plain characters, or these words if there is none.
abbrev pub shown_or : List ℕ → List ℕ → List ℕ → Option (List ℕ) → Piece
shown_or front name words None = absent name words
shown_or front name words (Some text) = shown front name text

-- A number from 0.
abbrev pub number : List ℕ → List ℕ → ℕ → Piece
number front name n = told front name (decimal n) (count n)

-- A number from 0, or these words if there is none.
abbrev pub number_or : List ℕ → List ℕ → List ℕ → Option ℕ → Piece
number_or front name words None = absent name words
number_or front name words (Some n) = number front name n

-- An Integer of KMIP: in text with its sign, in JSON its 32 bits as a number from 0.
abbrev pub signed : List ℕ → List ℕ → ℤ → Piece
signed front name n = told front name (signed_decimal n) (count (cast_unsigned w32 n))

-- An Integer of KMIP, or these words if there is none.
abbrev pub signed_or : List ℕ → List ℕ → List ℕ → Option ℤ → Piece
signed_or front name words None = absent name words
signed_or front name words (Some n) = signed front name n

-- The eight hexadecimal digits of a mask.
abbrev pub mask_digits : ℕ → List ℕ
mask_digits n = encode_lower (to_be_bytes w32 n)

-- A usage mask: in text its hexadecimal digits, in JSON a number.
abbrev pub mask : List ℕ → List ℕ → ℕ → Piece
mask front name n = told front name (mask_digits n) (count n)

-- True or false.
abbrev pub truth : List ℕ → List ℕ → Bool → Piece
truth front name is_so = told front name (shown_truth is_so) (boolean is_so)

-- Texts: in text each after a space, in JSON an array.
abbrev pub words : List ℕ → List ℕ → List (List ℕ) → Piece
words front name texts = told front name (spaced texts) (words_of texts)

-- Lines: in text each after a line feed, in JSON an array.
abbrev pub listed : List ℕ → List ℕ → List (List ℕ) → Piece
listed front name texts = told front name (fed_lines texts) (words_of texts)

-- The piece if it is to be told in text, else its members in JSON alone.
abbrev pub told_if : Bool → Piece → Piece
told_if true piece = piece
told_if false piece = record { text = []; members = piece.members }

-- The texts of pieces, one after the other.
abbrev pub piece_texts : List Piece → List ℕ
piece_texts pieces = flat_map (λ (piece : Piece). piece.text) pieces

-- The members of pieces, in their order.
abbrev pub piece_members : List Piece → List (List ℕ × Data)
piece_members pieces = flat_map (λ (piece : Piece). piece.members) pieces

-- The line of pieces in text: their texts and a line feed.
unfoldable pub text_line : List Piece → List ℕ
text_line pieces = piece_texts pieces ++ codes "\n"

-- The version of the documents. It changes if a member changes its meaning or goes. Own (text).
abbrev pub format_version : ℕ
format_version = 1

-- The first member of each document.
abbrev pub version_member : List ℕ × Data
version_member = (codes "version", count format_version)

-- The line of pieces in JSON: the object of the version and then their members, and a line feed.
abbrev pub json_line : List Piece → List ℕ
json_line pieces = document (members (version_member ∷ piece_members pieces))

-- The line of pieces in a form.
abbrev pub line_in : Form → List Piece → List ℕ
line_in Text pieces = text_line pieces
line_in Json pieces = json_line pieces

-- A report in a form: its lines, one after the other.
abbrev pub report_in : Form → List (List Piece) → List ℕ
report_in form lines = flat_map (line_in form) lines
