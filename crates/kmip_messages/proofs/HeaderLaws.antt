-- The headers: what is read of them is what they say, and what is written says it.
use Rattle.std.proofs.Common.{ℕ, ℤ, List, Option, refl, subst}
use Rattle.std.proofs.lemmas.Bool.Decides.{Decides-int_eq}
use Rattle.kmip_ttlv.specs.Node.{Node, integer}
use Rattle.kmip_batch_items.specs.Formats.{integers, enumerations}
use Rattle.kmip_batch_items.specs.PrivateFormatLaws.{IsPart}
use Rattle.kmip_batch_items.specs.Occurrences.{Once}
use Rattle.kmip_batch_items.proofs.FormatParts.{required-part, optional-part, unread-part, structure-part, ranged-part, both-part, right-part}
use Rattle.kmip_batch_items.proofs.ItemReads.{integer_kind, enumeration_kind}
use Rattle.kmip_batch_items.specs.declared.standard.TheConstants.{TAG_PROTOCOL_VERSION_MAJOR, VERSION_MAJOR}
use Rattle.kmip_batch_items.specs.ReplyFormats.{any_version_parts_format}
use Rattle.kmip_batch_items.proofs.BatchItemLaws.{version-part, any_version-part, version_is, is_version}
use Rattle.kmip_messages.specs.Batches.{IsHeader, IsReplyHeader}
use Rattle.kmip_messages.specs.Headers.{option_format, header_parts_format, header_format, reply_header_parts_format, reply_header_format}

-- ---- of requests

option-part : IsPart option_format
unfolding option_format
option-part = ranged-part _ _ _ (optional-part enumerations _ enumeration_kind)

header_parts-part : IsPart header_parts_format
unfolding header_parts_format option_format
header_parts-part =
    right-part _ _ refl (structure-part _ _ version-part.good) (both-part _ _ refl option-part (required-part integers _ integer_kind))

pub header-part : IsPart header_format
unfolding header_format
header-part = structure-part _ _ header_parts-part.good

pub header_is : (message : List Node) (option : Option ℕ) (count : ℤ) → header_format.Says message (option, count) → IsHeader message option count
unfolding header_format header_parts_format option_format
header_is message option count (parts, stands, (version, ((has_option, in_range), has_count))) = record {
  parts = parts;
  stands = stands;
  version = version_is parts version;
  has_option = has_option;
  option_in_range = in_range;
  has_count = has_count;
}

pub is_header : (message : List Node) (option : Option ℕ) (count : ℤ) → IsHeader message option count → header_format.Says message (option, count)
unfolding header_format header_parts_format option_format
is_header message option count p = (p.parts, p.stands, (is_version p.parts p.version, ((p.has_option, p.option_in_range), p.has_count)))

-- ---- of replies

reply_header_parts-part : (now : ℤ) → IsPart (reply_header_parts_format now)
unfolding reply_header_parts_format
reply_header_parts-part now =
    right-part _ _ refl (structure-part _ _ any_version-part.good) (right-part _ _ refl (unread-part _ _ (refl, tt)) (required-part integers _ integer_kind))

pub reply_header-part : (now : ℤ) → IsPart (reply_header_format now)
unfolding reply_header_format
reply_header-part now = structure-part _ _ (reply_header_parts-part now).good

pub reply_header_is : (now : ℤ) (message : List Node) (count : ℤ) → (reply_header_format now).Says message count → IsReplyHeader message count
unfolding reply_header_format reply_header_parts_format any_version_parts_format
reply_header_is now message count (parts, stands, ((version, has_version, (numbers, (has_major, has_minor), same)), (_, has_count))) = record {
  parts = parts;
  stands = stands;
  version = version;
  minor = numbers.1;
  has_version = has_version;
  has_major = subst (λ z. Once TAG_PROTOCOL_VERSION_MAJOR (integer z) version) ((Decides-int_eq numbers.0 VERSION_MAJOR).0 same) has_major;
  has_minor = has_minor;
  has_count = has_count;
}

pub is_reply_header : (now : ℤ) (message : List Node) (count : ℤ) → IsReplyHeader message count → (reply_header_format now).Says message count
unfolding reply_header_format reply_header_parts_format any_version_parts_format
is_reply_header now message count p =
    (p.parts, p.stands, ((p.version, p.has_version, ((VERSION_MAJOR, p.minor), (p.has_major, p.has_minor), refl)), (tt, p.has_count)))
