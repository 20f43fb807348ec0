-- The values that the attributes of an object may have.
-- Source: KMIP 2.1, Object Attributes and Enumerations. Own (choice): the ranges. Own (limit): 64 bytes, and
-- masks up to 1FF hexadecimal.
use Rattle.std.specs.Prelude.{ℕ, ℤ, pos, Bool, not, ◌&&◌, ◌||◌, ◌==◌, nat_le, int_lt, List, length, if◌then◌else◌}
use Rattle.std.specs.List.{list_all}
use Rattle.std.specs.Ordering.{int_eq}
use Rattle.kmip_objects.specs.declared.key_attrs.KeyAttrs.{KeyAttrs}
use Rattle.kmip_objects.specs.declared.standard.TheConstants.{ALGORITHM_AES, ALGORITHM_HMAC_SHA256, REVOCATION_UNSPECIFIED, REVOCATION_KEY_COMPROMISE, REVOCATION_CA_COMPROMISE, REVOCATION_PRIVILEGE_WITHDRAWN}

-- The most bytes of a name in a request, and of a Unique Identifier. Own (limit).
abbrev pub most_name_bytes : ℕ
most_name_bytes = 64

-- The greatest Cryptographic Usage Mask of a new key: all the bits that it may have. Own (limit).
abbrev pub most_usage : ℤ
most_usage = pos 0x1FF

-- whether this byte may be in a name: a printing ASCII character other than the space
abbrev pub is_name_byte : ℕ → Bool
is_name_byte b = nat_le 0x21 b && nat_le b 0x7E

-- whether this may be the name of a key in a request: 1 to 64 bytes, each 21 to 7E hexadecimal
abbrev pub is_name : List ℕ → Bool
is_name s = nat_le 1 (length s) && nat_le (length s) most_name_bytes && list_all is_name_byte s

-- whether this may be a Unique Identifier: 1 to 64 bytes
abbrev pub is_identifier : List ℕ → Bool
is_identifier s = nat_le 1 (length s) && nat_le (length s) most_name_bytes

-- whether this is an algorithm of the profile: AES or HMAC-SHA256
abbrev pub is_algorithm : ℕ → Bool
is_algorithm a = a == ALGORITHM_AES || a == ALGORITHM_HMAC_SHA256

-- whether this may be the length of an AES key in bits
abbrev pub is_aes_length : ℤ → Bool
is_aes_length l = int_eq l (pos 128) || int_eq l (pos 192) || int_eq l (pos 256)

-- Whether a key of this algorithm may have this length in bits: 128, 192 or 256 of AES, 256 of HMAC-SHA256.
abbrev pub is_length : ℕ → ℤ → Bool
is_length a l = if a == ALGORITHM_AES then is_aes_length l else a == ALGORITHM_HMAC_SHA256 && int_eq l (pos 256)

-- whether this may be the Cryptographic Usage Mask of a new key: 1 to 1FF hexadecimal
abbrev pub is_usage : ℤ → Bool
is_usage u = int_lt (pos 0) u && not (int_lt most_usage u)

-- whether this is a Revocation Reason Code: 1 to 7
abbrev pub is_revocation_code : ℕ → Bool
is_revocation_code c = nat_le REVOCATION_UNSPECIFIED c && nat_le c REVOCATION_PRIVILEGE_WITHDRAWN

-- Whether a Revocation Reason Code says that others may know the key: a compromise of the key or of its
-- authority. The source is KMIP 2.1, Enumerations, Revocation Reason Code.
abbrev pub is_compromise : ℕ → Bool
is_compromise code = code == REVOCATION_KEY_COMPROMISE || code == REVOCATION_CA_COMPROMISE

-- whether a key may be made with these attributes: each is in its range
abbrev pub attrs_fit : KeyAttrs → Bool
attrs_fit k = is_name k.name && is_algorithm k.algorithm && is_length k.algorithm k.length && is_usage k.usage
