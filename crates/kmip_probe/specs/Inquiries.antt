-- What a probe asks about the objects of two names of its own.
-- Source: KMIP 2.1, Operations; Enumerations and Masks, Storage Status Mask. The names, the attributes and
-- the reason are own (choice).
use Rattle.std.specs.Prelude.{ℕ, Bool, ◌&&◌, nat_le, List, ◌++◌, length, take, sum_by, codes, Option, Some}
use Rattle.std.specs.Option.{option_map}
use Rattle.kmip_batch_items.specs.declared.ask.Ask.{Ask}
use Rattle.kmip_batch_items.specs.declared.ask.Ask.TheVariants as asks
use Rattle.kmip_objects.specs.Ranges.{is_name}
use Rattle.kmip_objects.specs.Attributes.{by_name}
use Rattle.kmip_objects.specs.declared.key_attrs.KeyAttrs.{KeyAttrs}
use Rattle.kmip_objects.specs.declared.standard.TheConstants.{ALGORITHM_AES, REVOCATION_UNSPECIFIED}
use Rattle.kmip_probe.specs.declared.inquiry.TheConstants.{INQUIRIES, PREFIX_MAX, KEY_BITS, KEY_USAGE, MOST_SENDS}
use Rattle.kmip_probe.specs.declared.kind.Kind.{Kind}
use Rattle.kmip_probe.specs.declared.kind.Kind.TheVariants.{Locate, Create, GetAttributes, Activate, Revoke, Destroy}
use Rattle.kmip_probe.specs.declared.which.Which.{Which}
use Rattle.kmip_probe.specs.declared.which.Which.TheVariants.{First, Second}

-- what a probe's names begin with: the name of a key, so short that each of them is one too
abbrev pub is_prefix : List ℕ → Bool
is_prefix s = is_name s && nat_le (length s) PREFIX_MAX

-- the two names of a probe
abbrev pub name_of : Which → List ℕ → List ℕ
name_of First prefix = prefix ++ codes "-1"
name_of Second prefix = prefix ++ codes "-2"

-- the attributes of an object with such a name: AES with 256 bits, to encrypt and decrypt
abbrev pub attributes_with : List ℕ → KeyAttrs
attributes_with name = record { name = name; algorithm = ALGORITHM_AES; length = KEY_BITS; usage = KEY_USAGE }

-- what is asked about the object with the name, where it has this identifier; nothing where none is known
-- that the question needs
abbrev pub ask_of : Kind → List ℕ → Option (List ℕ) → Option Ask
ask_of (Locate mask) name uid = Some (asks.Locate mask (by_name name))
ask_of Create name uid = Some (asks.Create (attributes_with name))
ask_of GetAttributes name uid = option_map asks.GetAttributes uid
ask_of Activate name uid = option_map asks.Activate uid
ask_of Revoke name uid = option_map (λ u. asks.Revoke u REVOCATION_UNSPECIFIED) uid
ask_of Destroy name uid = option_map asks.Destroy uid

-- the most times that a message with such a question is sent: a Locate is sent again while no reply comes
abbrev pub most_sends : Kind → ℕ
most_sends (Locate mask) = MOST_SENDS
most_sends Create = 1
most_sends GetAttributes = 1
most_sends Activate = 1
most_sends Revoke = 1
most_sends Destroy = 1

-- the most messages that are sent for this many of the first questions
abbrev pub most_messages : ℕ → ℕ
most_messages count = sum_by (λ inquiry. most_sends inquiry.1) (take count INQUIRIES)
