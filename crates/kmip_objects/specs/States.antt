-- The numbers of the states.
-- Source: KMIP 2.1, Object Attributes, State.
use Rattle.std.specs.Prelude.{ℕ}
use Rattle.kmip_objects.specs.declared.key_state.KeyState.{KeyState}
use Rattle.kmip_objects.specs.declared.key_state.KeyState.TheVariants.{
  PreActive,
  Active,
  Deactivated,
  Compromised,
  Destroyed,
  DestroyedCompromised,
}

-- the number of a state
abbrev pub state_number : KeyState → ℕ
state_number PreActive = 1
state_number Active = 2
state_number Deactivated = 3
state_number Compromised = 4
state_number Destroyed = 5
state_number DestroyedCompromised = 6
