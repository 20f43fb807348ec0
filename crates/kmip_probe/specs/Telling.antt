-- Which attributes of an object that was just made are told.
-- Source: KMIP 2.1, Operations, Get Attributes; Object Attributes. The order in which they are looked at is
-- own (choice).
use Rattle.std.specs.Prelude.{ℕ, ◌==◌, nat_eq, Bool, true, false, List, codes, Option, Some, None, option_map}
use Rattle.std.specs.Cmp.Lexicographic.{pointwise}
use Rattle.std.specs.Option.{option_or}
use Rattle.std.specs.Ordering.{int_eq}
use Rattle.kmip_batch_items.specs.declared.outcome.Outcome.{Outcome}
use Rattle.kmip_batch_items.specs.declared.outcome.Outcome.TheVariants.{Attributes, Failed}
use Rattle.kmip_objects.specs.States.{state_number}
use Rattle.kmip_objects.specs.declared.attrs.Attrs.{Attrs}
use Rattle.kmip_objects.specs.declared.standard.TheConstants.{ALGORITHM_AES, OBJECT_TYPE_SYMMETRIC_KEY}
use Rattle.kmip_objects.specs.declared.key_state.KeyState.TheVariants.{PreActive}
use Rattle.kmip_probe.specs.declared.attribute.Attribute.{Attribute}
use Rattle.kmip_probe.specs.declared.attribute.Attribute.TheVariants as names
use Rattle.kmip_probe.specs.declared.finding.Finding.{Finding}
use Rattle.kmip_probe.specs.declared.finding.Finding.TheVariants.{Kept, Broken, Untold}
use Rattle.kmip_probe.specs.declared.flaw.Flaw.{Flaw}
use Rattle.kmip_probe.specs.declared.flaw.Flaw.TheVariants.{Missing, Different, Refused}
use Rattle.kmip_probe.specs.declared.inquiry.TheConstants.{KEY_BITS, KEY_USAGE}

-- the flaw of an attribute: it is missing, or is another than it was made with
abbrev pub flaw_of : Attribute → Option Bool → Option Flaw
flaw_of attribute None = Some (Missing attribute)
flaw_of attribute (Some false) = Some (Different attribute)
flaw_of attribute (Some true) = None

-- the first flaw of the algorithm, the length and the usage
abbrev pub cryptographic_flaw : Attrs → Option Flaw
cryptographic_flaw told =
    option_or
    (option_or (flaw_of names.CryptographicAlgorithm (option_map (λ n. n == ALGORITHM_AES) told.algorithm))
    (flaw_of names.CryptographicLength (option_map (λ n. int_eq n KEY_BITS) told.length)))
    (flaw_of names.CryptographicUsageMask (option_map (λ n. int_eq n KEY_USAGE) told.usage))

-- the first flaw of the attributes of a new object with this name
abbrev pub first_flaw : List ℕ → Attrs → Option Flaw
first_flaw name told =
    option_or
    (option_or
    (option_or (flaw_of names.ObjectType (option_map (λ n. n == OBJECT_TYPE_SYMMETRIC_KEY) told.object_type))
    (flaw_of names.Name (option_map (λ n. pointwise nat_eq n name) told.name)))
    (cryptographic_flaw told))
    (flaw_of names.State (option_map (λ n. n == state_number PreActive) told.state))

-- no flaw is that the premise is kept
abbrev pub unless_flaw : Option Flaw → Finding
unless_flaw None = Kept
unless_flaw (Some flaw) = Broken flaw

-- what an answer to Get Attributes says of a new object with this name
abbrev pub attributes_told : List ℕ → Option Outcome → Finding
attributes_told name (Some (Attributes uid told)) = unless_flaw (first_flaw name told)
attributes_told name (Some (Failed reason)) = Broken Refused
attributes_told name outcome = Untold

-- the name of an attribute
abbrev pub attribute_text : Attribute → List ℕ
attribute_text names.ObjectType = codes "Object Type"
attribute_text names.Name = codes "Name"
attribute_text names.CryptographicAlgorithm = codes "Cryptographic Algorithm"
attribute_text names.CryptographicLength = codes "Cryptographic Length"
attribute_text names.CryptographicUsageMask = codes "Cryptographic Usage Mask"
attribute_text names.State = codes "State"
