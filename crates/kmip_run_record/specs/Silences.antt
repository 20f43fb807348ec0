-- Why an exchange brought no reply, by the first bytes that came, the last failure of the streams, and the fault of the
-- link.
-- Source: KMIP 2.1, TTLV Encoding; RFC 9112 (a status line begins with `HTTP/`); RFC 8446 (records of TLS). The choice
-- between them is own.
use Rattle.std.specs.Prelude.{ℕ, ◌+◌, ◌==◌, ◌&&◌, ◌||◌, nat_eq, nat_le, nat_lt, Bool, true, false, List, [], ◌∷◌, length, drop, take, codes, Option, Some, None, unwrap_or, if◌then◌else◌}
use Rattle.std.specs.Int.{w32, from_be_bytes}
use Rattle.std.specs.List.{starts_with}
use Rattle.kmip_batch_items.specs.declared.message_fault.MessageFault.{MessageFault}
use Rattle.kmip_batch_items.specs.declared.message_fault.MessageFault.TheVariants as message_faults
use Rattle.kmip_probe.specs.Unreadable.{version_in}
use Rattle.kmip_probe.specs.declared.protocol_version.ProtocolVersion.{ProtocolVersion}
use Rattle.kmip_protocol.specs.declared.link_fault.LinkFault.{LinkFault}
use Rattle.kmip_protocol.specs.declared.link_fault.LinkFault.TheVariants as faults
use Rattle.kmip_run_record.specs.declared.failure.Failure.{Failure}
use Rattle.kmip_run_record.specs.declared.failure.Failure.TheVariants.{Late, Closed}
use Rattle.kmip_run_record.specs.declared.peer_talk.PeerTalk.{PeerTalk}
use Rattle.kmip_run_record.specs.declared.peer_talk.PeerTalk.TheVariants.{Nothing, Kmip, Tls, Http, Other}
use Rattle.kmip_run_record.specs.declared.silence.Silence.{Silence}
use Rattle.kmip_run_record.specs.declared.silence.Silence.TheVariants as silences

-- The bytes are the known ones, as far as both go.
abbrev pub begins_as : List ℕ → List ℕ → Bool
begins_as first known = starts_with nat_eq first known || starts_with nat_eq known first

-- A record of TLS has this type: a change of ciphers, an alert or a handshake.
abbrev pub is_record : ℕ → Bool
is_record kind = nat_le 0x14 kind && nat_le kind 0x16

-- A record of TLS begins so.
abbrev pub is_tls : List ℕ → Bool
is_tls [] = false
is_tls (kind ∷ []) = is_record kind
is_tls (kind ∷ version ∷ rest) = is_record kind && version == 0x03

-- What first bytes, of which there are some, are the beginning of.
abbrev pub known_talk : List ℕ → PeerTalk
known_talk first =
    if begins_as first (0x42 ∷ 0x00 ∷ 0x7B ∷ []) then Kmip
    else if begins_as first (codes "HTTP/") then Http
    else if is_tls first then Tls
    else Other

-- What first bytes are the beginning of.
abbrev pub talk_of : List ℕ → PeerTalk
talk_of [] = Nothing
talk_of (byte ∷ bytes) = known_talk (byte ∷ bytes)

-- Why a head of a message that takes so many bytes is refused: they are too many, or it is not KMIP.
abbrev pub silence_by_size : ℕ → Silence
silence_by_size size = if nat_lt 8192 size then silences.TooLong size else silences.NoKmip Kmip

-- Why a head that begins as one of a message is refused. Its last four bytes are the length of what follows.
abbrev pub head_silence : List ℕ → Silence
head_silence head =
    if nat_lt (length head) 8 then silences.NoKmip Kmip else silence_by_size (from_be_bytes w32 (take 4 (drop 4 head)) + 8)

-- Why no message came, by what the peer speaks.
abbrev pub silence_by : PeerTalk → List ℕ → Option Failure → Option LinkFault → Silence
silence_by talk first failure (Some faults.NoMemory) = silences.NoMemory
silence_by Kmip first failure (Some faults.Frame) = head_silence first
silence_by Kmip first failure (Some faults.Io) = silences.Failed (unwrap_or failure Late)
silence_by Kmip first failure None = silences.Cut
silence_by Nothing first failure (Some faults.Frame) = silences.NoKmip Nothing
silence_by Nothing first failure (Some faults.Io) = silences.Failed (unwrap_or failure Late)
silence_by Nothing first failure None = silences.Failed Closed
silence_by talk first failure fault = silences.NoKmip talk

-- Why no message came.
abbrev pub silence_of : List ℕ → Option Failure → Option LinkFault → Silence
silence_of first failure fault = silence_by (talk_of first) first failure fault

-- The version of bytes that are not a message of replies, if that is why.
abbrev pub version_told : MessageFault → List ℕ → Option ProtocolVersion
version_told message_faults.Version reply = version_in reply
version_told fault reply = None
