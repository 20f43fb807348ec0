-- A search for an object whatever has become of it.
-- Source: KMIP 2.1, Enumerations and Masks, Storage Status Mask.
use Rattle.std.specs.Prelude.{◌+◌, ℤ, pos}
use Rattle.kmip_objects.specs.declared.standard.TheConstants.{STORAGE_ON_LINE, STORAGE_DESTROYED}

-- The Storage Status Mask under which a search looks in every state: on-line objects and destroyed ones.
abbrev pub every_state : ℤ
every_state = pos (STORAGE_ON_LINE + STORAGE_DESTROYED)
