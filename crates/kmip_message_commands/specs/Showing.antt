-- What `show` writes for a message, and which messages it refuses.
-- Source: own (text): what the program prints.
use Rattle.std.specs.Prelude.{ℕ, ◌==◌, Bool, true, not, List, [], ◌∷◌, ◌++◌, length, codes, if◌then◌else◌, Option, Some, None, Result, Ok, Err}
use Rattle.std.specs.Fmt.{decimal}
use Rattle.hex.specs.Hex.{encode_lower}
use Rattle.kmip_ttlv.specs.declared.ttlv_fault.TtlvFault.{TtlvFault}
use Rattle.kmip_ttlv.specs.Faults.{fault_number, fault_name, fault_offset}
use Rattle.kmip_ttlv.specs.Limits.{most_levels}
use Rattle.kmip_ttlv.specs.Node.{Node}
use Rattle.kmip_ttlv.specs.Reading.{item_at}
use Rattle.kmip_ttlv.specs.Showing.{shown_text}
use Rattle.kmip_ttlv.specs.Spelling.{canon}
use Rattle.kmip_message_commands.specs.declared.form.Form.{Form}
use Rattle.kmip_message_commands.specs.declared.form.Form.TheVariants.{Text, Canonical}
use Rattle.kmip_message_commands.specs.Judging.{has_refused}
use Rattle.kmip_message_commands.specs.LineText.{lines_text, input_text}

-- No item was read, or bytes stand after it.
abbrev pub leaves_bytes : ℕ → Result (Node × ℕ) TtlvFault → Bool
leaves_bytes len (Ok x) = not (x.1 == len)
leaves_bytes len (Err fault) = true

-- The bytes are not one item.
unfoldable pub is_no_item : List ℕ → Bool
is_no_item bytes = leaves_bytes (length bytes) (item_at most_levels 0 bytes)

-- An item as lines of text, or its one written form in hexadecimal and a line feed.
abbrev pub item_text : Form → Node → List ℕ
item_text Text item = shown_text item
item_text Canonical item = encode_lower (canon item) ++ 10 ∷ []

-- The line that says that bytes stand after an item of this size.
unfoldable pub extra_text : ℕ → List ℕ
extra_text size = codes "refused: extra at " ++ decimal size ++ codes "\n"

-- The offset of a fault. Want of memory has none, and is no refusal.
abbrev pub offset_text : Option ℕ → List ℕ
offset_text (Some at) = codes " at " ++ decimal at
offset_text None = []

-- The line of a fault: its number, its name and its place.
abbrev pub fault_text : TtlvFault → List ℕ
fault_text fault = codes "refused: " ++ decimal (fault_number fault) ++ codes " " ++ fault_name fault ++ offset_text (fault_offset fault) ++ codes "\n"

-- What is written for what was read of `len` bytes.
abbrev pub text_of_read : Form → ℕ → Result (Node × ℕ) TtlvFault → List ℕ
text_of_read form len (Ok x) = if x.1 == len then item_text form x.0 else extra_text x.1
text_of_read form len (Err fault) = fault_text fault

-- What is written for a message.
unfoldable pub show_text : Form → List ℕ → List ℕ
show_text form bytes = text_of_read form (length bytes) (item_at most_levels 0 bytes)

-- What `show` writes for lines.
abbrev pub shown_lines : Form → List (List ℕ) → List ℕ
shown_lines form lines = lines_text show_text (λ form message. form) form lines

-- What `show` writes for its whole input.
abbrev pub shown_input : Form → List ℕ → List ℕ
shown_input form input = input_text show_text (λ form message. form) form input

-- Whether a line of the input is no message, or no item.
abbrev pub has_no_item : List ℕ → Bool
has_no_item input = has_refused is_no_item input
