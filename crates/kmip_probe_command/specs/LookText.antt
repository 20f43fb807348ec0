-- What `probe` writes of a look at a name: why it could not be told whether the name is free.
-- Source: own (text): what the program prints.
use Rattle.std.specs.Prelude.{ℕ, List, [], ◌++◌, codes, Option, Some, None}
use Rattle.std.specs.Fmt.{decimal}
use Rattle.hex.specs.Hex.{encode_lower}
use Rattle.byteorder.specs.Endian.{big_bytes}
use Rattle.kmip_ttlv.specs.Faults.{fault_name, fault_offset}
use Rattle.kmip_ttlv.specs.declared.ttlv_fault.TtlvFault.{TtlvFault}
use Rattle.kmip_batch_items.specs.Faults.{message_fault_items, message_fault_name, message_fault_tag}
use Rattle.kmip_batch_items.specs.declared.message_fault.MessageFault.{MessageFault}
use Rattle.kmip_batch_items.specs.declared.message_fault.MessageFault.TheVariants.{Version}
use Rattle.kmip_batch_items.specs.declared.outcome.Outcome.{Outcome}
use Rattle.kmip_batch_items.specs.declared.outcome.Outcome.TheVariants.{Failed}
use Rattle.kmip_message_commands.specs.Showing.{offset_text}
use Rattle.kmip_probe.specs.declared.protocol_version.ProtocolVersion.{ProtocolVersion}
use Rattle.kmip_probe.specs.declared.unread.Unread.{Unread}

-- The tag that a fault is about, as six hexadecimal digits, where there is one.
abbrev pub tag_text : Option ℕ → List ℕ
tag_text (Some tag) = codes " " ++ encode_lower (big_bytes 3 tag)
tag_text None = []

-- What is wrong with the items, where there is a fault of them.
abbrev pub items_text : Option TtlvFault → List ℕ
items_text (Some fault) = codes ": " ++ fault_name fault ++ offset_text (fault_offset fault)
items_text None = []

-- A fault of a reply: its name, and what it is about.
abbrev pub fault_text : MessageFault → List ℕ
fault_text fault = message_fault_name fault ++ tag_text (message_fault_tag fault) ++ items_text (message_fault_items fault)

-- The version that a server answers in.
abbrev pub version_text : ProtocolVersion → List ℕ
version_text version = codes "Version: it answers in KMIP " ++ decimal version.major ++ codes "." ++ decimal version.minor

-- Why a reply can't be read: another version, where its number is known, or else the fault.
abbrev pub reason_text : MessageFault → Option ProtocolVersion → List ℕ
reason_text Version (Some version) = version_text version
reason_text fault version = fault_text fault

-- That the server's reply can't be read, and why.
abbrev pub unread_text : Unread → List ℕ
unread_text unread = codes "the server's reply can't be read (" ++ reason_text unread.fault unread.version ++ codes ")"

-- That the look was refused, with the number of the Result Reason where there is one.
abbrev pub refused_text : Option ℕ → List ℕ
refused_text (Some reason) = codes "refused, reason " ++ decimal reason
refused_text None = codes "refused"

-- That the look was answered by no reply that tells it, or by one that can't be read.
abbrev pub silent_text : Option Unread → List ℕ
silent_text (Some unread) = unread_text unread
silent_text None = codes "no reply"

-- Why it could not be told whether a name is free.
abbrev pub why_text : Option Outcome → Option Unread → List ℕ
why_text (Some (Failed reason)) unread = refused_text reason
why_text outcome unread = silent_text unread
