-- Private: definitions that only clauses of private functions cite.
-- Source: own (view): parts of the public definitions of this crate.
use Rattle.std.specs.Prelude.{◌≡◌, ◌<◌, ◌⊎◌, ℕ, List, [], ◌∷◌, ◌++◌, codes, Option, Result, Ok, Err}
use Rattle.std.specs.Io.KnownBytes.{Appends}
use Rattle.kmip_report.specs.Documents.{words_of}
use Rattle.kmip_report.specs.Pieces.{Piece, noted, number, said}
use Rattle.kmip_report.specs.declared.command_fault.CommandFault.{CommandFault}
use Rattle.kmip_report.specs.declared.command_fault.CommandFault.TheVariants as faults
use Rattle.kmip_plan.specs.declared.key.Key.{Key}
use Rattle.kmip_scripted.specs.ScriptTexts.{IsScript}
use Rattle.kmip_scripted.specs.Words.{crashes, prolongings}
use Rattle.kmip_scripted.specs.declared.script_fault.ScriptFault.{ScriptFault}
use Rattle.kmip_scripted.specs.declared.script_fault.ScriptFault.TheVariants.{Line, NoMemory as ScriptNoMemory}
use Rattle.kmip_scripted.specs.declared.word.Word.{Word}
use Rattle.kmip_sim_command.specs.SimEnds.{IsRefusedFor, IsRun}
use Rattle.kmip_sim_command.specs.declared.sim_end.SimEnd.{SimEnd}
use Rattle.kmip_sim_command.specs.declared.sim_end.SimEnd.TheVariants.{CrashRefused, Ran}
use Rattle.kmip_simulation.specs.Simulating.{RefusesCrashOf}

-- What reading a script gives in which `prolong` has to stand so often, and no `crash` beside it.
abbrev pub GivesWords : List ℕ → ℕ → Result (List Word) ScriptFault → Type 0
GivesWords script prolonged (Ok words) =
    IsScript script words × (prolongings words ≡ prolonged) × (0 < prolonged → crashes words ≡ 0)
GivesWords script prolonged (Err (Line line)) = IsRefusedFor script prolonged line
GivesWords script prolonged (Err ScriptNoMemory) = Unit {0}

-- How these words ended for the keys of a plan: the disk of a run does not allow its crash, or their runs were
-- made.
abbrev pub Plays : ℕ → List Key → List Word → SimEnd → Type 0
Plays batch keys words (CrashRefused number) = RefusesCrashOf keys batch words number
Plays batch keys words (Ran simulation) = (simulation.words ≡ words) × IsRun batch keys words simulation.end simulation.link
Plays batch keys words end = ⊥

-- The line of a message of this number, which asks this in text, and these words in JSON.
abbrev pub ask_pieces : ℕ → List ℕ → List (List ℕ) → List Piece
ask_pieces n asked texts =
    number (codes "ask ") (codes "ask") n ∷ said (codes " ") ∷ said asked ∷ noted (codes "requests") (words_of texts) ∷ []

-- Memory ran out, and exactly the text and the line were printed; or the printer failed.
abbrev pub FailsAfter : List ℕ → List ℕ → CommandFault → CommandFault → Option (List ℕ) → Option (List ℕ) → Type 0
FailsAfter text line fault own_fault old new = ((fault ≡ faults.NoMemory) × Appends old new (text ++ line)) ⊎ (fault ≡ own_fault)
