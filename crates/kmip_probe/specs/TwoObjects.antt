-- How the two objects of a probe stand after some answers, and the laws of the crates below.
-- Source: own (view).
use Rattle.std.specs.Prelude.{◌≡◌, ◌≤◌, ℕ, ◌+◌, List, [], ◌∷◌, map, take, length, Option, Some, None, option_map}
use Rattle.std.specs.Prelude.{get_or}
use Rattle.kmip_objects.specs.Objects.{DistinctNames, DistinctUids, object_named}
use Rattle.kmip_objects.specs.declared.key_state.KeyState.{KeyState}
use Rattle.kmip_objects.specs.declared.key_state.KeyState.TheVariants.{PreActive, Active, Deactivated, Destroyed}
use Rattle.kmip_protocol.specs.Past.{Past}
use Rattle.kmip_probe.specs.Inquiries.{name_of}
use Rattle.kmip_probe.specs.Serving.{object_of, outcomes_of}
use Rattle.kmip_probe.specs.declared.answer.Answer.{Answer}
use Rattle.kmip_probe.specs.declared.answer.Answer.TheVariants.{Told}
use Rattle.kmip_probe.specs.declared.which.Which.{Which}
use Rattle.kmip_probe.specs.declared.which.Which.TheVariants.{First, Second}

-- the state of an object of the probe after each number of answers; none where it is not made yet
abbrev pub states_of : Which → List (Option KeyState)
states_of First =
    None ∷ None ∷ None
    ∷ Some PreActive ∷ Some PreActive ∷ Some PreActive ∷ Some PreActive ∷ Some PreActive ∷ Some PreActive ∷ Some PreActive
    ∷ Some Active ∷ Some Active
    ∷ Some Deactivated ∷ Some Deactivated ∷ Some Deactivated ∷ Some Deactivated ∷ Some Deactivated
    ∷ Some Destroyed ∷ Some Destroyed ∷ Some Destroyed ∷ Some Destroyed ∷ Some Destroyed ∷ Some Destroyed ∷ Some Destroyed
    ∷ Some Destroyed ∷ Some Destroyed ∷ []
states_of Second =
    None ∷ None ∷ None ∷ None ∷ None ∷ None ∷ None ∷ None ∷ None ∷ None ∷ None ∷ None ∷ None ∷ None
    ∷ Some PreActive
    ∷ Some Active ∷ Some Active ∷ Some Active ∷ Some Active ∷ Some Active ∷ Some Active ∷ Some Active ∷ Some Active ∷ Some Active
    ∷ Some Deactivated
    ∷ Some Destroyed ∷ []

-- the state of an object of the probe after this number of answers
abbrev pub state_at : Which → ℕ → Option KeyState
state_at which count = get_or (states_of which) count None

-- one more object is to be made, or none
abbrev pub missing : Option KeyState → ℕ
missing None = 1
missing (Some state) = 0

-- Names and identifiers are distinct after this number of answers, and the two objects stand in their states.
-- There is room for those that are not made yet.
pub record AreStanding (prefix first second : List ℕ) (count : ℕ) (p : Past) : Type 0 where
  pub names_differ : DistinctNames p.objects
  pub uids_differ : DistinctUids p.objects
  pub first_is : object_named (name_of First prefix) p.objects ≡ option_map (object_of First prefix first) (state_at First count)
  pub second_is : object_named (name_of Second prefix) p.objects ≡ option_map (object_of Second prefix second) (state_at Second count)
  pub roomy : length p.objects + missing (state_at First count) + missing (state_at Second count) ≤ p.room

-- This many questions were answered as the profile answers them, and the two objects stand as they then do.
pub record AreServed (prefix : List ℕ) (answers : List Answer) (p : Past) : Type 0 where
  pub first : List ℕ
  pub second : List ℕ
  pub answers_are : answers ≡ map Told (take (length answers) (outcomes_of prefix first second))
  pub standing : AreStanding prefix first second (length answers) p
