-- The lines of what keeps a command from its work.
-- Source: own (text): what the program prints.
use Rattle.std.specs.Prelude.{◌≡◌, ◌⊎◌, ℕ, List, [], ◌∷◌, ◌++◌, codes, map, Option, Some, None, string_bytes}
use Rattle.std.specs.Fmt.{decimal}
use Rattle.std.specs.Io.KnownBytes.{Appends, Keeps}
use Rattle.serde_json.specs.Data.{null, string}
use Rattle.kmip_progress.specs.declared.progress_fault.ProgressFault.TheVariants.{OtherPlan}
use Rattle.kmip_report.specs.Endings.{FailsToPrint}
use Rattle.kmip_report.specs.FaultLines.{contradiction_line, fault_pieces, no_memory}
use Rattle.kmip_report.specs.Pieces.{Piece, line_in, noted, said, word}
use Rattle.kmip_report.specs.declared.command_fault.CommandFault.{CommandFault}
use Rattle.kmip_report.specs.declared.command_fault.CommandFault.TheVariants.{Output}
use Rattle.kmip_report.specs.declared.form.Form.{Form}
use Rattle.kmip_plan_report.specs.Refusals.{Site, plan_refusal, progress_refusal}
use Rattle.kmip_trouble.specs.Words.{cannot_word}
use Rattle.kmip_trouble.specs.declared.another_server.AnotherServer as another
use Rattle.kmip_trouble.specs.declared.contradiction.Contradiction.{Contradiction}
use Rattle.kmip_trouble.specs.declared.disagreement.Disagreement.{Disagreement}
use Rattle.kmip_trouble.specs.declared.obstacle.Obstacle.{Obstacle}
use Rattle.kmip_trouble.specs.declared.obstacle.Obstacle.TheVariants.{Cannot, TooLong, NoText, NoOrigin, NoPlan, InUse, NoPort, AnotherServer, Contradicted, NoProgress, OtherAttributes}
use Rattle.kmip_trouble.specs.declared.trouble.Trouble.{Trouble}
use Rattle.kmip_trouble.specs.declared.trouble.Trouble.TheVariants.{Refused, Io}

-- The line of a fault at a path: what went wrong, these words and then the path, and in JSON why.
abbrev pub fault_at : List ℕ → List ℕ → List ℕ → Option (List ℕ) → List Piece
fault_at fault between path why = fault_pieces fault between (Some path) why None

-- The line of a file at a path that has more bytes than a number with these digits.
unfoldable pub longer_than_line : List ℕ → List ℕ → List ℕ → List Piece
longer_than_line digits path why =
    noted (codes "fault") (string (codes "too long"))
    ∷ said (codes "longer than ")
    ∷ said digits
    ∷ said (codes " bytes")
    ∷ word (codes ": ") (codes "at") path
    ∷ noted (codes "why") (string why)
    ∷ noted (codes "cause") null
    ∷ []

-- The line of a file at a path that has more bytes than these.
abbrev pub too_long_line : ℕ → List ℕ → List Piece
too_long_line most path = longer_than_line (decimal most) path (codes "it has more than " ++ decimal most ++ codes " bytes")

-- The line of a file at a path whose bytes are read, but not as what they should be.
abbrev pub unreadable_line : List ℕ → List ℕ → List Piece
unreadable_line path why = fault_at (codes "cannot read") (codes " ") path (Some why)

-- Why a progress cannot be used on a server: it was saved against another one.
abbrev pub other_server_words : another.AnotherServer → List ℕ
other_server_words server = codes "it was saved against " ++ string_bytes server.before ++ codes "; this run is to use " ++ string_bytes server.now

-- The line of a progress that was saved against another server.
abbrev pub another_server_line : another.AnotherServer → List Piece
another_server_line server = fault_at (codes "progress of another server") (codes ": ") (string_bytes server.path) (Some (other_server_words server))

-- The names of the keys about which a server contradicts a progress.
abbrev pub names_of : List Disagreement → List (List ℕ)
names_of keys = map (λ (key : Disagreement). string_bytes key.name) keys

-- The line of a progress that the server contradicts.
abbrev pub contradicted_line : Contradiction → List Piece
contradicted_line found =
    contradiction_line (string_bytes found.path) (string_bytes found.server ++ codes " contradicts what it says") (names_of found.keys.items)

-- The line of a progress at a path that was saved for a key with other attributes, in which these words say the
-- difference.
abbrev pub other_attributes_line : List ℕ → List ℕ → List Piece
other_attributes_line path difference =
    progress_refusal OtherPlan (Some path) (Some (codes "it was saved for other attributes: key " ++ difference))

-- The line of what keeps a command from its work. Of a plan that is refused it has what is found there; of an error of
-- the system, why.
abbrev pub obstacle_line : Obstacle → Site → List Piece
obstacle_line (Cannot cannot place error) found = fault_at (cannot_word cannot) (codes " ") (string_bytes place.given) found.why
obstacle_line (TooLong place most) found = too_long_line most (string_bytes place.given)
obstacle_line (NoText place) found = unreadable_line (string_bytes place.given) (codes "it is not UTF-8 text")
obstacle_line (NoOrigin place) found = unreadable_line (string_bytes place.given) (codes "it does not say where a progress was saved")
obstacle_line (NoPlan path plan fault) found = plan_refusal fault (Some (string_bytes path)) found
obstacle_line (InUse path) found = fault_at (codes "progress in use") (codes ": ") (string_bytes path) None
obstacle_line NoPort found = fault_pieces (codes "cannot listen") (codes "") None None None
obstacle_line (AnotherServer server) found = another_server_line server
obstacle_line (Contradicted contradiction) found = contradicted_line contradiction
obstacle_line (NoProgress path fault) found = progress_refusal fault (Some (string_bytes path)) None
obstacle_line (OtherAttributes path difference) found = other_attributes_line (string_bytes path) (string_bytes difference)

-- The line of the obstacle was printed, with what is found of it, and nothing else.
abbrev pub TellsObstacle : Form → Obstacle → Option (List ℕ) → Option (List ℕ) → Type 0
TellsObstacle form obstacle old new = (found : Site) × Appends old new (line_in form (obstacle_line obstacle found))

-- The line of what keeps the command from its work was printed, and nothing else.
abbrev pub TellsTrouble : Form → Trouble → Option (List ℕ) → Option (List ℕ) → Type 0
TellsTrouble form (Refused obstacle) old new = TellsObstacle form obstacle old new
TellsTrouble form (Io error) old new = ⊥

-- The trouble was not printed. Memory ran out, and exactly the line of that was printed; or the printer failed. Where
-- the output had failed before, nothing was printed.
abbrev pub FailsToTell : Form → Trouble → CommandFault → CommandFault → Type 0 → Option (List ℕ) → Option (List ℕ) → Type 0
FailsToTell form (Refused obstacle) fault own_fault IsWhole old new = FailsToPrint (line_in form no_memory) fault own_fault IsWhole old new
FailsToTell form (Io error) fault own_fault IsWhole old new =
    FailsToPrint (line_in form no_memory) fault own_fault IsWhole old new ⊎ ((fault ≡ Output) × Keeps old new)
