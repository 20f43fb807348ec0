-- The report of the end of a run.
-- Source: own (text): what the program prints.
use Rattle.std.specs.Prelude.{◌≡◌, ℕ, ◌-◌, ◌^◌, nat_lt, min, Bool, true, false, not, List, [], ◌∷◌, ◌++◌, length, drop, slice_index, sum, codes, if◌then◌else◌, Option, Some, None, option_map}
use Rattle.std.specs.Fmt.{decimal}
use Rattle.std.specs.Io.KnownBytes.{Appends}
use Rattle.serde_json.specs.Data.{string}
use Rattle.kmip_plan.specs.declared.key.Key.{Key}
use Rattle.kmip_progress.specs.declared.known.Known.{Known}
use Rattle.kmip_client.specs.Clients.{ClientState}
use Rattle.kmip_client.specs.Saving.{progress}
use Rattle.kmip_client.specs.Verdicts.{finished_count, verdicts_of}
use Rattle.kmip_client.specs.declared.verdict.Verdict.{Verdict}
use Rattle.kmip_runs.specs.Stops.{is_all_finished, stop_name}
use Rattle.kmip_runs.specs.declared.stop.Stop.{Stop}
use Rattle.kmip_runs.specs.declared.stop.Stop.TheVariants as stops
use Rattle.kmip_report.specs.Documents.{count, text_or_null}
use Rattle.kmip_report.specs.FaultLines.{cause_word, fault_pieces}
use Rattle.kmip_report.specs.declared.cause.Cause.{Cause}
use Rattle.kmip_report.specs.Pieces.{Piece, noted, number, report_in, said}
use Rattle.kmip_choices.specs.declared.report.Report.{Report}
use Rattle.kmip_choices.specs.declared.report.Report.TheVariants.{Plain, Identifiers}
use Rattle.kmip_plan_report.specs.Listing.{key_line_with}
use Rattle.kmip_plan_report.specs.Standings.{Standing, standings}
use Rattle.kmip_run_command.specs.Causes.{cause_of}
use Rattle.kmip_run_command.specs.declared.run_end.RunEnd.{RunEnd}
use Rattle.kmip_run_command.specs.declared.run_end.RunEnd.TheVariants.{Unwritten, Stopped}
use Rattle.kmip_run_command.specs.declared.run_input.RunInput.{RunInput}
use Rattle.kmip_tally.specs.declared.run_tally.RunTally.{RunTally}

-- The line of a progress that could not be saved at the path, and in JSON the reason of the system.
abbrev pub unsaved_line : List ℕ → Option (List ℕ) → List Piece
unsaved_line path why = fault_pieces (codes "cannot write") (codes " ") (Some path) why None

-- Whether the text says the identifiers of objects.
abbrev pub tells_identifiers : Report → Bool
tells_identifiers Plain = false
tells_identifiers Identifiers = true

-- The line of a key that stands so: what `list` says of it, in text the identifier only if that is asked for, and in
-- JSON also the number of its steps that this run made.
unfoldable pub run_key_line : Report → Standing → ℕ → List Piece
run_key_line report standing made =
    key_line_with (tells_identifiers report) standing ++ noted (codes "steps") (count made) ∷ []

-- The lines of keys that stand so, in their order. A key that has no count of steps counts 0.
abbrev pub run_key_lines : Report → List Standing → List ℕ → List (List Piece)
run_key_lines report [] steps = []
run_key_lines report (standing ∷ standings) steps =
    run_key_line report standing (slice_index steps 0) ∷ run_key_lines report standings (drop 1 steps)

-- The sum of the counts of steps, or the greatest number of 64 bits if the sum does not fit.
abbrev pub all_steps : List ℕ → ℕ
all_steps steps = min (sum steps) (2 ^ 64 - 1)

-- The words of the stop in text, on a line of their own: why the run stopped, and after how many exchanges.
unfoldable pub stop_words : Stop → ℕ → List ℕ
stop_words stop exchanges = codes "\nstop " ++ stop_name stop ++ codes " " ++ decimal exchanges

-- The word of the stop in JSON. A run that stopped with `Limit` before its limit gave up.
abbrev pub end_word : Stop → ℕ → ℕ → List ℕ
end_word stops.Limit exchanges limit = if nat_lt exchanges limit then codes "GaveUp" else stop_name stops.Limit
end_word stop exchanges limit = stop_name stop

-- The last line: how many keys are finished, why the run stopped, and in JSON what was counted, and what stands in
-- the way.
unfoldable pub end_line_of : List ℕ → ℕ → ℕ → List ℕ → RunTally → Option Cause → List Piece
end_line_of end finished of stop tally cause =
    noted (codes "end") (string end)
    ∷ number (codes "finished ") (codes "finished") finished
    ∷ number (codes " of ") (codes "of") of
    ∷ said stop
    ∷ noted (codes "exchanges") (count tally.exchanges)
    ∷ noted (codes "lost") (count tally.lost)
    ∷ noted (codes "refused") (count tally.refused)
    ∷ noted (codes "unreadable") (count tally.unreadable)
    ∷ noted (codes "steps") (count (all_steps tally.steps.items))
    ∷ noted (codes "milliseconds") (count tally.milliseconds)
    ∷ noted (codes "cause") (text_or_null (option_map cause_word cause))
    ∷ []

-- The last line of a run that stopped so.
abbrev pub end_line : List Verdict → List Key → Stop → ℕ → ℕ → RunTally → List Piece
end_line verdicts keys stop exchanges limit tally =
    end_line_of (end_word stop exchanges limit) (finished_count verdicts) (length keys) (stop_words stop exchanges) tally
    (cause_of stop verdicts tally)

-- The lines by these verdicts.
abbrev pub stopped_lines : Report → List Verdict → List Key → List Known → Stop → ℕ → ℕ → RunTally → List (List Piece)
stopped_lines report verdicts keys knowns stop exchanges limit tally =
    run_key_lines report (standings keys knowns verdicts) tally.steps.items ++ end_line verdicts keys stop exchanges limit tally ∷ []

-- The report of a run that stopped where the client is this one.
abbrev pub stopped_report : Report → ClientState → Stop → ℕ → ℕ → RunTally → List (List Piece)
stopped_report report client stop exchanges limit tally =
    stopped_lines report (verdicts_of client.keys client.knowns) client.keys (progress client) stop exchanges limit tally

-- This holds of the report of a run that ended so, where the client is this one, for some counts of its exchanges,
-- and for some reason of the system. Nothing is said of these.
abbrev pub TellsEnd : RunInput → ClientState → RunEnd → (List (List Piece) → Type 0) → Type 0
TellsEnd input client Unwritten Holds = (why : Option (List ℕ)) × Holds (unsaved_line input.path.now why ∷ [])
TellsEnd input client (Stopped stop exchanges) Holds =
    (tally : RunTally) × Holds (stopped_report input.report client stop exchanges input.limit tally)

-- Whether something was unsaved or left unfinished.
abbrev pub is_end_refused : RunEnd → Bool
is_end_refused Unwritten = true
is_end_refused (Stopped stop exchanges) = not (is_all_finished stop)

-- The report of an end of which this holds was written, where the client is this one, and nothing else.
pub record WritesEnd (input : RunInput) (client : ClientState) (refused : Bool) (ends : RunEnd → Type 0) (old new : Option (List ℕ)) : Type 0 where
  -- The end of the run.
  pub end : RunEnd
  -- This holds of it.
  pub ended : ends end
  -- It is told whether something was unsaved or left unfinished.
  pub refused_is : refused ≡ is_end_refused end
  -- Its report was written, and nothing else.
  pub written : TellsEnd input client end (λ lines. Appends old new (report_in input.form lines))
