-- What the options of the command line and their values ask for.
-- Source: own (view): how a contract sees a choice.
use Rattle.std.specs.Prelude.{◌≡◌, ℕ, List, Option, Some, None, option_map, string_bytes}
use Rattle.kmip_choices.specs.declared.detail.Detail.{Detail}
use Rattle.kmip_choices.specs.declared.choice.Choice.{Choice}
use Rattle.kmip_choices.specs.declared.choice.Choice.TheVariants.{Check, CheckAfter, Look, Probe, Run, Simulate}
use Rattle.kmip_choices.specs.declared.choice.Choice.TheVariants as choices
use Rattle.kmip_choices.specs.declared.format.Format.{Format}
use Rattle.kmip_choices.specs.declared.format.Format.TheVariants as formats

-- The choice is to check the plan at this path, after the one at the other path where there is one, and to
-- print what came of it in this form.
abbrev pub IsCheckOf : List ℕ → Option (List ℕ) → Format → Choice → Type 0
IsCheckOf plan None format (Check path form) = (string_bytes path ≡ plan) × (form ≡ format)
IsCheckOf plan (Some earlier) format (CheckAfter path other form) =
    (string_bytes path ≡ plan) × (string_bytes other ≡ earlier) × (form ≡ format)
IsCheckOf plan earlier format choice = ⊥

-- The choice is to simulate the plan at this path, and then the further one where there is one, over the
-- script at the other. It is to tell this much of it, and to ask about at most `batch` keys in a message. What
-- came of it is printed in this form.
abbrev pub IsSimulationOf : List ℕ → Option (List ℕ) → List ℕ → Detail → ℕ → Format → Choice → Type 0
IsSimulationOf plan further script detail batch format (Simulate path next other told most form) =
    (string_bytes path ≡ plan) × (option_map (λ text. string_bytes text) next ≡ further) × (string_bytes other ≡ script)
    × (told ≡ detail) × (most ≡ batch) × (form ≡ format)
IsSimulationOf plan further script detail batch format choice = ⊥

-- In which form what came of a choice is printed: the one that was asked for, and text where the command has
-- no other.
abbrev pub choice_format : Choice → Format
choice_format (Check path format) = format
choice_format (CheckAfter path other format) = format
choice_format (Simulate path next other told most format) = format
choice_format (Run options) = options.format
choice_format (choices.List options) = options.format
choice_format (Look options) = options.format
choice_format (Probe options) = options.format
choice_format choice = formats.Text
