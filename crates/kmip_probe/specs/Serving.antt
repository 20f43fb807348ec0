-- What a server of this profile answers a probe.
-- Source: KMIP 2.1, Operations; Object Attributes, State. Which reason answers which refusal is own (choice),
-- and what has to be so before is own (view).
use Rattle.std.specs.Prelude.{◌≡◌, ◌≤◌, ℕ, ◌+◌, List, [], ◌∷◌, length, Some, None}
use Rattle.kmip_objects.specs.Objects.{DistinctNames, DistinctUids, Object, object_named}
use Rattle.kmip_objects.specs.declared.key_state.KeyState.{KeyState}
use Rattle.kmip_objects.specs.declared.key_state.KeyState.TheVariants.{PreActive}
use Rattle.kmip_batch_items.specs.declared.outcome.Outcome.{Outcome}
use Rattle.kmip_batch_items.specs.declared.outcome.Outcome.TheVariants.{Created, Located, Attributes, Activated, Revoked, Destroyed, Failed}
use Rattle.kmip_batch_items.specs.declared.standard.TheConstants.{REASON_NON_UNIQUE_NAME, REASON_WRONG_STATE}
use Rattle.kmip_protocol.specs.Past.{Past}
use Rattle.kmip_objects.specs.Attributes.{attributes_of}
use Rattle.kmip_probe.specs.Inquiries.{attributes_with, name_of}
use Rattle.kmip_probe.specs.declared.which.Which.{Which}
use Rattle.kmip_probe.specs.declared.which.Which.TheVariants.{First, Second}

-- Names and identifiers are distinct, no object has a name of the probe, and there is room for two more.
pub record IsUnprobed (prefix : List ℕ) (p : Past) : Type 0 where
  pub names_differ : DistinctNames p.objects
  pub uids_differ : DistinctUids p.objects
  pub first_is_free : object_named (name_of First prefix) p.objects ≡ None
  pub second_is_free : object_named (name_of Second prefix) p.objects ≡ None
  pub roomy : length p.objects + 2 ≤ p.room

-- the object that a probe makes with a name
abbrev pub object_of : Which → List ℕ → List ℕ → KeyState → Object
object_of which prefix uid state = record { uid = uid; attrs = attributes_with (name_of which prefix); state = state }

-- all that is answered, one question after the other, where the two objects get these identifiers
abbrev pub outcomes_of : List ℕ → List ℕ → List ℕ → List Outcome
outcomes_of prefix first second =
    Located []
    ∷ Located []
    ∷ Created first
    ∷ Failed (Some REASON_NON_UNIQUE_NAME)
    ∷ Located (first ∷ [])
    ∷ Located (first ∷ [])
    ∷ Located []
    ∷ Located (first ∷ [])
    ∷ Attributes first (attributes_of (object_of First prefix first PreActive))
    ∷ Activated first
    ∷ Failed (Some REASON_WRONG_STATE)
    ∷ Revoked first
    ∷ Failed (Some REASON_WRONG_STATE)
    ∷ Created second
    ∷ Activated second
    ∷ Failed (Some REASON_WRONG_STATE)
    ∷ Destroyed first
    ∷ Failed (Some REASON_WRONG_STATE)
    ∷ Failed (Some REASON_NON_UNIQUE_NAME)
    ∷ Located []
    ∷ Located []
    ∷ Located (first ∷ [])
    ∷ Located (first ∷ [])
    ∷ Revoked second
    ∷ Destroyed second
    ∷ []
