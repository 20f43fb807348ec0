-- The values that the fields of a message may have, beside those of an object's attributes.
-- Source: KMIP 2.1, Message Structure. Own (choice): the ranges.
use Rattle.std.specs.Prelude.{ℕ, Bool, nat_le, List, length}

-- The most bytes of a Unique Batch Item ID. Own (limit).
abbrev pub most_batch_id_bytes : ℕ
most_batch_id_bytes = 128

-- whether these bytes may be a Unique Batch Item ID: at most 128
abbrev pub is_batch_id : List ℕ → Bool
is_batch_id s = nat_le (length s) most_batch_id_bytes
