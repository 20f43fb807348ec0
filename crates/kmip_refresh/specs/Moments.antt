-- What was so of a key at some moment since the call began.
-- Source: KMIP 2.1, Operations, Get Attributes; Object Attributes, State; own (view).
use Rattle.std.specs.Prelude.{◌≡◌, ◌≤◌, ◌⊎◌, ℕ, true, List, length, Some}
use Rattle.kmip_objects.specs.Attributes.{attributes_of}
use Rattle.kmip_objects.specs.Objects.{Object, object_with}
use Rattle.kmip_objects.specs.States.{state_number}
use Rattle.kmip_plan.specs.Chains.{chain, place_of}
use Rattle.kmip_plan.specs.declared.key.Key.{Key}
use Rattle.kmip_progress.specs.declared.known.Known.{Known}
use Rattle.kmip_client.specs.Learning.{is_planned}
use Rattle.kmip_protocol.specs.Past.{Names, Past}
use Rattle.kmip_look.specs.Moments.{IsLater}
use Rattle.kmip_refresh.specs.KnownKeys.{KnownKey}
use Rattle.kmip_refresh.specs.declared.agreement.Agreement.TheVariants.{Agrees, Gone}
use Rattle.kmip_refresh.specs.declared.key_look.KeyLook.{KeyLook}

-- This is the key's object: it has the key's name and the plan's attributes. Its state is reached after this number of
-- steps of the key's chain.
pub record IsObjectAfter (key : Key) (steps : ℕ) (object : Object) : Type 0 where
  pub name_is : object.attrs.name ≡ key.attrs.name
  pub planned : is_planned key (attributes_of object) ≡ true
  pub reached : place_of key.target (state_number object.state) ≡ Some steps

-- Among these objects the key's object has the identifier that the file has. It has come at least as far as the file
-- counts.
pub record StoodAtLeast (objects : List Object) (key : Key) (known : Known) : Type 0 where
  pub uid : List ℕ
  pub identifier_is : known.identifier ≡ Some uid
  pub object : Object
  pub exists : object_with uid objects ≡ Some object
  pub steps : ℕ
  pub is_after : IsObjectAfter key steps object
  pub at_least : known.done ≤ steps

-- Among these objects the key's object has the identifier that the file has, and it has reached the key's target.
pub record StoodAtTarget (objects : List Object) (key : Key) (known : Known) : Type 0 where
  pub uid : List ℕ
  pub identifier_is : known.identifier ≡ Some uid
  pub object : Object
  pub exists : object_with uid objects ≡ Some object
  pub is_after : IsObjectAfter key (length (chain key.target)) object

-- This held of the objects at some moment from the one past to the other.
abbrev pub HeldBetween : Names → Past → Past → (List Object → Type 0) → Type 0
HeldBetween names old new Holds = (then : Past) × IsLater names old then × IsLater names then new × Holds then.objects

-- If the server agrees about the key, the key stood so at some moment.
abbrev pub StoodSince : Names → Past → Past → KnownKey → KeyLook → Type 0
StoodSince names old new k look =
    look.agreement ≡ Agrees → HeldBetween names old new (λ objects. StoodAtLeast objects k.key k.known)

-- If the file counts all steps of the key, the key had reached its target at some moment, or it is gone.
abbrev pub FinishedSince : Names → Past → Past → KnownKey → KeyLook → Type 0
FinishedSince names old new k look =
    length (chain k.key.target) ≤ k.known.done
    → (look.agreement ≡ Gone) ⊎ HeldBetween names old new (λ objects. StoodAtTarget objects k.key k.known)
