-- A run that ended with `Done` stopped as all keys are finished.
use Rattle.std.proofs.Common.{◌≡◌, ℕ, List, Option, false, subst}
use Rattle.std.specs.Io.KnownBytes.{Appends}
use Rattle.kmip_client.specs.Clients.{ClientState}
use Rattle.kmip_report.specs.Endings.{IfWhole}
use Rattle.kmip_report.specs.Pieces.{report_in}
use Rattle.kmip_report.specs.declared.exit_status.ExitStatus.{ExitStatus}
use Rattle.kmip_report.specs.declared.exit_status.ExitStatus.TheVariants.{Done}
use Rattle.kmip_run_command.specs.RunReport.{TellsEnd, WritesEnd, is_end_refused}
use Rattle.kmip_run_command.specs.Runs.{Ends, RunChange}
use Rattle.kmip_run_command.specs.declared.run_end.RunEnd.{RunEnd}
use Rattle.kmip_run_command.specs.declared.run_end.RunEnd.TheVariants.{Stopped, Unwritten}
use Rattle.kmip_run_command.specs.declared.run_input.RunInput.{RunInput}
use Rattle.kmip_runs.specs.declared.stop.Stop.TheVariants.{AllFinished, Conflict, Limit, NoMemory}

-- The run stopped as all keys are finished, and that was told.
pub record IsDone (input : RunInput) (client : ClientState) (ends : RunEnd → Type 0) (old new : Option (List ℕ)) : Type 0 where
  pub exchanges : ℕ
  pub ended : ends (Stopped AllFinished exchanges)
  pub told : TellsEnd input client (Stopped AllFinished exchanges) (λ lines. Appends old new (report_in input.form lines))

done_by : (input : RunInput) (client : ClientState) (ends : RunEnd → Type 0) (old new : Option (List ℕ)) (end : RunEnd)
    → ends end → false ≡ is_end_refused end
    → TellsEnd input client end (λ lines. Appends old new (report_in input.form lines))
    → IsDone input client ends old new
done_by input client ends old new Unwritten ended refused told = absurd cc
done_by input client ends old new (Stopped AllFinished exchanges) ended refused told =
    record { exchanges = exchanges; ended = ended; told = told }
done_by input client ends old new (Stopped Limit exchanges) ended refused told = absurd cc
done_by input client ends old new (Stopped Conflict exchanges) ended refused told = absurd cc
done_by input client ends old new (Stopped NoMemory exchanges) ended refused told = absurd cc

pub done : (input : RunInput) (client : ClientState) (ends : RunEnd → Type 0) (old new : Option (List ℕ))
    (status : ExitStatus) → IfWhole status (λ refused. WritesEnd input client refused ends old new) → status ≡ Done
    → IsDone input client ends old new
done input client ends old new status whole is =
    let written = subst (λ s. IfWhole s (λ refused. WritesEnd input client refused ends old new)) is whole in
    done_by input client ends old new written.end written.ended written.refused_is written.written

-- the same end under the same limit
pub at_limit : (first : ClientState) (change : RunChange) (last : ClientState) (end : RunEnd) (limit other : ℕ)
    → limit ≡ other → Ends first limit change last end → Ends first other change last end
at_limit first change last end limit other is ends = subst (λ n. Ends first n change last end) is ends
