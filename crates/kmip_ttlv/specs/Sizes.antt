-- How many bytes an item takes, and which items have a written form.
-- Source: KMIP 2.1, TTLV Encoding. Own (limit): 16 levels and 8,192 bytes.
use Rattle.kmip_ttlv.specs.Limits.{head_size, most_bytes, most_levels}
use Rattle.std.specs.Prelude.{ℕ, ◌+◌, ◌≤◌, length}
use Rattle.kmip_ttlv.specs.Node.{Node, node, Content, structure, integer, long_integer, big_integer, enumeration, boolean, text_string, byte_string, date_time, interval, date_time_extended, Nodes, no_more, more}
use Rattle.kmip_ttlv.specs.Fitting.{IsInRange, HasWholeGroups, depth}
use Rattle.kmip_ttlv.specs.Spelling.{padding, canon}

-- the length of a value with its padding
abbrev pub padded : ℕ → ℕ
padded len = len + padding len

-- how many bytes the written form of an item takes
abbrev mutual
  pub size : Node → ℕ
  size (node tag content) = head_size + content_size content

  -- how many bytes the value takes, with its padding
  pub content_size : Content → ℕ
  content_size (structure items) = sizes items
  content_size (integer z) = 8
  content_size (long_integer z) = 8
  content_size (big_integer octets) = padded (length octets)
  content_size (enumeration n) = 8
  content_size (boolean b) = 8
  content_size (text_string text) = padded (length text)
  content_size (byte_string octets) = padded (length octets)
  content_size (date_time z) = 8
  content_size (interval n) = 8
  content_size (date_time_extended z) = 8

  -- how many bytes the items take together
  pub sizes : Nodes → ℕ
  sizes no_more = 0
  sizes (more n ns) = size n + sizes ns

-- The item has a written form: it is in range, and has at most 16 levels and at most 8,192 bytes.
abbrev pub Fits : Node → Type 0
Fits n = IsInRange n × (depth n ≤ most_levels) × (length (canon n) ≤ most_bytes)

-- An item of the code has a written form: the types of the code keep all ranges but the length of a Big
-- Integer. So a caller shows this, and `Fits` follows.
abbrev pub IsWritable : Node → Type 0
IsWritable n = HasWholeGroups n × (depth n ≤ most_levels) × (length (canon n) ≤ most_bytes)

-- ---- what the code returns
