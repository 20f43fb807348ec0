-- What `answer` and `show` write, where a reader and a writer tell their bytes.
-- Source: own (view): how a contract sees a reader and a writer.
use Rattle.std.specs.Prelude.{◌≡◌, ℕ, Bool, List, [], ◌++◌, Option, IfSome}
use Rattle.std.specs.Io.KnownBytes.{Appends}
use Rattle.kmip_report.specs.declared.command_fault.CommandFault.{CommandFault}
use Rattle.kmip_report.specs.Endings.{UnlessOutput}
use Rattle.kmip_message_commands.specs.Lines.{lines_of}

-- What is written is the text of what was read.
abbrev pub Prints : (List ℕ → List ℕ) → Option (List ℕ) → Option (List ℕ) → Option (List ℕ) → Type 0
Prints text read old new = IfSome read (λ input. Appends old new (text input))

-- The answer is the one about what was read.
abbrev pub Tells : (List ℕ → Bool) → Option (List ℕ) → Bool → Type 0
Tells is read answer = IfSome read (λ input. answer ≡ is input)

-- What was written is the text of some first ones of these things, and then `tail`.
pub record WroteFront {X : Type 0} (text : List X → List ℕ) (things : List X) (tail : List ℕ) (old new : Option (List ℕ)) : Type 0 where
  pub front : List X
  pub rest : List X
  pub whole : things ≡ front ++ rest
  pub written : Appends old new (text front ++ tail)

-- By this fault a command broke off: it wrote the text of some first ones of the lines that it was given,
-- and then a tail. Nothing is said where the writer failed.
abbrev pub BreaksOff : (List (List ℕ) → List ℕ) → (CommandFault → List ℕ) → Option (List ℕ) → Option (List ℕ) → Option (List ℕ) → CommandFault → Type 0
BreaksOff text tail read old new fault =
    UnlessOutput fault (IfSome read (λ input. WroteFront text (lines_of input) (tail fault) old new))

-- No line for a fault.
abbrev pub nothing_more : CommandFault → List ℕ
nothing_more fault = []
