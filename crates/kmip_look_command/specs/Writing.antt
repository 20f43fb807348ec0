-- What the command `look` does: it asks, and writes what was seen.
-- Source: own (view): how a contract sees a look and what is written of it.
use Rattle.std.specs.Prelude.{◌≡◌, ℕ, Bool, false, not, List, Option, Result, Ok, Err, IfOk}
use Rattle.std.specs.Io.KnownBytes.{Appends}
use Rattle.std.specs.List.{AllZip}
use Rattle.kmip_report.specs.Pieces.{report_in}
use Rattle.kmip_report.specs.declared.form.Form.{Form}
use Rattle.kmip_ttlv.specs.declared.no_memory.NoMemory.{NoMemory}
use Rattle.kmip_plan.specs.declared.key.Key.{Key}
use Rattle.kmip_protocol.specs.Past.{Names}
use Rattle.kmip_protocol.specs.Seen.{Seen}
use Rattle.kmip_report.specs.Endings.{IfWhole}
use Rattle.kmip_report.specs.declared.exit_status.ExitStatus.{ExitStatus}
use Rattle.kmip_look.specs.Looks.{IsTried, Looks}
use Rattle.kmip_look.specs.declared.looked.Looked.{Looked}
use Rattle.kmip_look_command.specs.LookReport.{are_all_finished, look_report}

-- Exactly the report of what was seen of each key was written, and it is refused unless each key is finished.
abbrev pub TellsLooked : Form → List Key → Result (List Looked) NoMemory → Option (List ℕ) → Option (List ℕ) → Bool → Type 0
TellsLooked form keys (Ok lookeds) old new refused =
    (refused ≡ not (are_all_finished keys lookeds)) × Appends old new (report_in form (look_report keys lookeds))
TellsLooked form keys (Err want) old new refused = ⊥

-- A look was made over the link, and what was seen of each key was written in this form. `given_up` says whether its
-- pause gave up.
pub record WritesLook (form : Form) (before : Seen) (keys : List Key) (mark : List ℕ) (after : Seen) (given_up : Bool) (status : ExitStatus) (old new : Option (List ℕ)) : Type 0 where
  -- What was seen of each key, or that memory ran out.
  pub looked : Result (List Looked) NoMemory
  -- It was seen by one look over the link, which `Looks` says all about. That holds however it ends.
  pub looks : Looks (λ lookeds. lookeds) keys mark before looked after
  -- Over a link that is honest for some names, and unless the pause gave up: it gives up no key that is not
  -- told, and that the server did not refuse, before at least four messages have asked about it.
  pub tried : (names : Names) → before.honest names → given_up ≡ false → IfOk looked (λ lookeds. AllZip (IsTried mark before.past after.past) keys lookeds)
  -- It never ends with `Usage`. If it ends with `Done` or `Refused`, exactly the report of what was seen
  -- is written; `Done` if each key is finished, and else `Refused`.
  pub whole : IfWhole status (TellsLooked form keys looked old new)
