-- How deep and how long an item may be, and how long its head is.
-- Source: KMIP 2.1, TTLV Encoding. Own (limit): 16 levels and 8,192 bytes, which bound the memory that a
-- message takes.
use Rattle.std.specs.Prelude.{ℕ}

-- The most levels of an item; an item without children has 1. Own (limit).
abbrev pub most_levels : ℕ
most_levels = 16

-- The most bytes of an item, and so of a message, with its head and its padding. Own (limit).
abbrev pub most_bytes : ℕ
most_bytes = 8192

-- the bytes of a head: a tag of three, a type of one and a length of four
abbrev pub head_size : ℕ
head_size = 8
