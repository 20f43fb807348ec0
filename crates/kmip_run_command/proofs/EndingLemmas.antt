-- The report of an end that was made in memory is what is printed.
use Rattle.std.proofs.Common.{◌≡◌, ◌++◌, Bool, true, false, List, ℕ, Option, Some, Result, Ok, Err, IfOk, OnOk, [], ap}
use Rattle.std.proofs.Common.{subst, ◌∙◌}
use Rattle.std.specs.Io.KnownBytes.{Appends}
use Rattle.kmip_report.specs.Endings.{IfWhole}
use Rattle.kmip_report.specs.Pieces.{Piece, report_in}
use Rattle.kmip_report.specs.declared.exit_status.ExitStatus.{ExitStatus}
use Rattle.kmip_report.specs.declared.exit_status.ExitStatus.TheVariants as statuses
use Rattle.kmip_ttlv.specs.declared.no_memory.NoMemory.{NoMemory}
use Rattle.kmip_client.specs.Clients.{ClientState}
use Rattle.kmip_plan.specs.declared.key.Key.{Key}
use Rattle.kmip_runs.specs.Turning.{stop_in}
use Rattle.kmip_run_command.specs.Course.{Came, KeepsTexts, Lasts, TakesTurns}
use Rattle.kmip_run_command.specs.RunEnds.{EndsFrom, Outcome}
use Rattle.kmip_run_command.specs.Runs.{Ends, RunChange}
use Rattle.kmip_run_command.specs.RunReport.{TellsEnd, WritesEnd, end_line_of, is_end_refused}
use Rattle.kmip_run_command.specs.declared.run_end.RunEnd.{RunEnd}
use Rattle.kmip_run_command.specs.declared.run_end.RunEnd.TheVariants.{Unwritten, Stopped}
use Rattle.kmip_run_command.specs.declared.run_input.RunInput.{RunInput}
use Rattle.kmip_tally.specs.declared.run_tally.RunTally.{RunTally}
use Rattle.kmip_report.specs.declared.cause.Cause.{Cause}

-- what follows of a success
pub on_ok : {T E P Q : Type 0} (result : Result T E) → (P → Q) → OnOk result P → OnOk result Q
on_ok (Ok value) f p = f p
on_ok (Err fault) f p = tt

-- a last line of the same words and counts
pub end_as : {e e' s s' : List ℕ} {f f' : ℕ} {k k' : Option Cause} (of : ℕ) (tally : RunTally) → e ≡ e' → f ≡ f'
    → s ≡ s' → k ≡ k' → end_line_of e f of s tally k ≡ end_line_of e' f' of s' tally k'
end_as {e} {e'} {s} {s'} {f} {f'} {k} {k'} of tally same_end same_count same_stop same_cause =
    ap (λ x. end_line_of x f of s tally k) same_end
    ∙ ap (λ x. end_line_of e' x of s tally k) same_count
    ∙ ap (λ x. end_line_of e' f' of x tally k) same_stop
    ∙ ap (λ x. end_line_of e' f' of s' tally x) same_cause

-- what follows of the report follows of what is told
told_by : (input : RunInput) (client : ClientState) (end : RunEnd) (P Q : List (List Piece) → Type 0)
    → ((lines : List (List Piece)) → P lines → Q lines) → TellsEnd input client end P → TellsEnd input client end Q
told_by input client Unwritten P Q f told = (told.0, f _ told.1)
told_by input client (Stopped stop exchanges) P Q f told = (told.0, f _ told.1)

-- an end that was told in memory
pub made_end : (input : RunInput) (client : ClientState) (ends : RunEnd → Type 0) (end : RunEnd)
    (result : Result Bool NoMemory) (old new : List ℕ) → ends end → IfOk result (λ r. r ≡ is_end_refused end)
    → OnOk result (TellsEnd input client end (λ lines. new ≡ old ++ report_in input.form lines))
    → IfOk result (λ refused. WritesEnd input client refused ends (Some old) (Some new))
made_end input client ends end (Ok refused) old new holds is told = record {
  end = end;
  ended = holds;
  refused_is = is;
  written = told;
}
made_end input client ends end (Err want) old new holds is told = tt

-- what was made in memory was written
written_as : (input : RunInput) (client : ClientState) (ends : RunEnd → Type 0) (refused : Bool) (report : List ℕ)
    (old new : Option (List ℕ)) → Appends old new report → WritesEnd input client refused ends (Some []) (Some report)
    → WritesEnd input client refused ends old new
written_as input client ends refused report old new printed w = record {
  end = w.end;
  ended = w.ended;
  refused_is = w.refused_is;
  written =
      told_by input client w.end (λ lines. report ≡ report_in input.form lines)
      (λ lines. Appends old new (report_in input.form lines))
      (λ lines is. subst (Appends old new) is printed) w.written;
}

abbrev made_as : Result Bool NoMemory → Result Bool NoMemory
made_as r = r

-- what holds of a report that was made holds of how it was printed
same_refusal : (x y : Bool) → made_as (Ok x) ≡ made_as (Ok y) → x ≡ y
same_refusal x y e = cc

of_made : (P : Bool → Type 0) (made : Result Bool NoMemory) (r : Bool) → made ≡ Ok r → IfOk made P → P r
of_made P (Ok x) r is p = subst P (same_refusal x r is) p
of_made P (Err want) r is p = absurd cc

pub printed_end : (input : RunInput) (client : ClientState) (ends : RunEnd → Type 0) (status : ExitStatus)
    (made : Result Bool NoMemory) (before shown report : List ℕ) (old new : Option (List ℕ)) → before ≡ []
    → shown ≡ report → IfWhole status (λ r. Appends old new shown) → IfWhole status (λ r. made ≡ Ok r)
    → IfOk made (λ refused. WritesEnd input client refused ends (Some before) (Some report))
    → IfWhole status (λ refused. WritesEnd input client refused ends old new)
printed_end input client ends statuses.Done made before shown report old new empty same printed is w =
    let Made : List ℕ → Bool → Type 0 = λ b refused. WritesEnd input client refused ends (Some b) (Some report) in
    written_as input client ends false report old new (subst (Appends old new) same printed)
    (subst (λ (b : List ℕ). Made b false) empty (of_made (Made before) made false is w))
printed_end input client ends statuses.Refused made before shown report old new empty same printed is w =
    let Made : List ℕ → Bool → Type 0 = λ b refused. WritesEnd input client refused ends (Some b) (Some report) in
    written_as input client ends true report old new (subst (Appends old new) same printed)
    (subst (λ (b : List ℕ). Made b true) empty (of_made (Made before) made true is w))
printed_end input client ends (statuses.Failed fault) made before shown report old new empty same printed is w = tt
printed_end input client ends statuses.Usage made before shown report old new empty same printed is w = absurd printed

-- the same of what holds only if the run did not fail
pub printed_if : (P : Type 0) (status : ExitStatus) (made : Result Bool NoMemory) → IfWhole status (λ r. made ≡ Ok r)
    → IfOk made (λ r. P) → IfWhole status (λ r. P)
printed_if P statuses.Done made is p = of_made (λ r. P) made false is p
printed_if P statuses.Refused made is p = of_made (λ r. P) made true is p
printed_if P (statuses.Failed fault) made is p = tt
printed_if P statuses.Usage made is p = absurd is

-- what holds of how a run ended that was told
of_told : (P : RunEnd → Type 0) (ended : Result RunEnd NoMemory) (end : RunEnd) → ended ≡ Ok end → IfOk ended P → P end
of_told P ended end is p = subst (λ e. IfOk e P) is p

-- the report of an end says how the run ended
pub told_end : (input : RunInput) (client : ClientState) (ends : RunEnd → Type 0) (ended : Result RunEnd NoMemory)
    (made : Result Bool NoMemory) (old new : Option (List ℕ)) → IfOk ended ends
    → IfOk made (λ refused. WritesEnd input client refused (λ end. ended ≡ Ok end) old new)
    → IfOk made (λ refused. WritesEnd input client refused ends old new)
told_end input client ends ended (Ok refused) old new p w =
    record { end = w.end; ended = of_told ends ended w.end w.ended p; refused_is = w.refused_is; written = w.written }
told_end input client ends ended (Err want) old new p w = tt

-- what follows of how it ended follows where its report was made
pub told_if : (P : Type 0) (input : RunInput) (client : ClientState) (ends : RunEnd → Type 0)
    (ended : Result RunEnd NoMemory) (made : Result Bool NoMemory) (old new : Option (List ℕ))
    → ((end : RunEnd) → ends end → P) → IfOk ended ends
    → IfOk made (λ refused. WritesEnd input client refused (λ end. ended ≡ Ok end) old new) → IfOk made (λ refused. P)
told_if P input client ends ended (Ok refused) old new f p w = f w.end (of_told ends ended w.end w.ended p)
told_if P input client ends ended (Err want) old new f p w = tt

-- what holds of what came of a run holds of how it ended
of_came : (came : Outcome → Type 0) (keys : List Key) (limit : ℕ) (client : ClientState) (T : Type 0)
    → ((o : Outcome) → came o → T) → (end : RunEnd) → EndsFrom came keys limit client end → T
of_came came keys limit client T f (Stopped stop exchanges) e = f _ e.has_come
of_came came keys limit client T f Unwritten e = f _ e.has_come

-- a run whose end is told took turns
pub turns_told : (first : ClientState) (limit : ℕ) (change : RunChange) (last : ClientState) (end : RunEnd)
    → Ends first limit change last end → TakesTurns first change.before.link change.after.link
turns_told first limit change last end e =
    of_came (Came limit change.before change.after first) first.keys limit last
    (TakesTurns first change.before.link change.after.link)
    (λ o c. (stop_in o.result, o.exchanges, c.last, c.turned)) end e

-- and kept its texts
pub texts_told : (first : ClientState) (limit : ℕ) (change : RunChange) (last : ClientState) (end : RunEnd)
    → Ends first limit change last end
    → KeepsTexts first change.before.link change.after.link change.before.keeper change.after.keeper
texts_told first limit change last end e =
    of_came (Came limit change.before change.after first) first.keys limit last
    (KeepsTexts first change.before.link change.after.link change.before.keeper change.after.keeper)
    (λ o c. (o.result, o.exchanges, o.knowns, c.moments)) end e

-- and what is in its file lasts
pub lasts_told : (first : ClientState) (limit : ℕ) (change : RunChange) (last : ClientState) (end : RunEnd)
    → Ends first limit change last end → Lasts change.before.keeper change.after.keeper
lasts_told first limit change last end e =
    of_came (Came limit change.before change.after first) first.keys limit last
    (Lasts change.before.keeper change.after.keeper) (λ o c. c.lasts) end e
