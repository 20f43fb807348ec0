-- Which version the bytes of a message say that they have.
-- Source: KMIP 2.1, Message Structure (Protocol Version stands first in the header); TTLV Encoding.
use Rattle.std.specs.Prelude.{ℕ, nat_eq, Bool, ◌&&◌, List, take, drop, slice_get, Option, Some, None, if◌then◌else◌}
use Rattle.std.specs.Cmp.Lexicographic.{pointwise}
use Rattle.kmip_probe.specs.declared.protocol_version.ProtocolVersion.{ProtocolVersion}
use Rattle.kmip_probe.specs.declared.unread.TheConstants.{VERSION_HEAD, MINOR_HEAD}

-- the version of two numbers, where both are there
abbrev pub version_of : Option ℕ → Option ℕ → Option ProtocolVersion
version_of (Some major) (Some minor) = Some (record { major = major; minor = minor })
version_of major minor = None

-- a Protocol Version stands at its place in the header, and its numbers are below 256
abbrev pub has_version : List ℕ → Bool
has_version bytes = pointwise nat_eq (take 19 (drop 16 bytes)) VERSION_HEAD && pointwise nat_eq (take 15 (drop 36 bytes)) MINOR_HEAD

-- the version in the header of a message
abbrev pub version_in : List ℕ → Option ProtocolVersion
version_in bytes = if has_version bytes then version_of (slice_get bytes 35) (slice_get bytes 51) else None
