-- Which objects a Locate finds.
-- Source: KMIP 2.1, Operations, Locate; Enumerations and Masks, Storage Status Mask.
use Rattle.std.specs.Prelude.{ℕ, ◌==◌, ℤ, Bool, not, ◌&&◌, List, map, filter, Option, bit_and}
use Rattle.std.specs.Int.{w32, cast_unsigned}
use Rattle.std.specs.Option.{option_map_or}
use Rattle.kmip_objects.specs.Attributes.{has_given}
use Rattle.kmip_objects.specs.Objects.{Object}
use Rattle.kmip_objects.specs.declared.attrs.Attrs.{Attrs}
use Rattle.kmip_objects.specs.declared.standard.TheConstants.{STORAGE_ON_LINE, STORAGE_DESTROYED}
use Rattle.kmip_objects.specs.declared.key_state.KeyState.{KeyState}
use Rattle.kmip_objects.specs.declared.key_state.KeyState.TheVariants.{Destroyed}

-- The bit of a Storage Status Mask that stands for objects of a state.
abbrev pub storage_bit : KeyState → ℕ
storage_bit Destroyed = STORAGE_DESTROYED
storage_bit state = STORAGE_ON_LINE

-- Objects of the state are searched: the mask, read as its bits in two's complement, has their bit. Without a
-- mask those on-line alone are.
abbrev pub is_searched : Option ℤ → KeyState → Bool
is_searched mask state = not (bit_and (option_map_or (cast_unsigned w32) mask STORAGE_ON_LINE) (storage_bit state) == 0)

-- A Locate finds the object: it is searched, and has every attribute that is given.
abbrev pub is_wanted : Option ℤ → Attrs → Object → Bool
is_wanted mask given o = is_searched mask o.state && has_given given o.attrs o.state

-- The identifiers of the objects that a Locate finds.
abbrev pub locate : Option ℤ → Attrs → List Object → List (List ℕ)
locate mask given objects = map (λ o. o.uid) (filter (is_wanted mask given) objects)
