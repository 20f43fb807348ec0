-- What has been written where a probe breaks off.
use Rattle.std.proofs.Common.{◌≡◌, ◌≢◌, ◌≤◌, ℕ, Bool, true, false, List, [], ◌++◌, length, append-nil, Option, Some, Result, Ok, Err, IfErr, refl, sym, ap, subst, ◌∙◌, inl, inr}
use Rattle.std.specs.Prelude.{take}
use Rattle.std.specs.List.{concat}
use Rattle.std.specs.Io.KnownBytes.{Appends}
use Rattle.std.proofs.KnownBytes.{Appends-kept, Appends-trans}
use Rattle.std.proofs.lemmas.List.{take_at}
use Rattle.kmip_report.specs.Endings.{IfFailed, UnlessOutput}
use Rattle.kmip_report.specs.FaultLines.{no_memory}
use Rattle.kmip_report.specs.Pieces.{line_in}
use Rattle.kmip_report.specs.Private.{Fails}
use Rattle.kmip_report.specs.declared.exit_status.ExitStatus.{ExitStatus}
use Rattle.kmip_report.specs.declared.exit_status.ExitStatus.TheVariants.{Done, Refused, Failed, Usage}
use Rattle.kmip_report.specs.declared.command_fault.CommandFault.{CommandFault}
use Rattle.kmip_report.specs.declared.command_fault.CommandFault.TheVariants.{Input, Output, NoMemory}
use Rattle.kmip_probe.specs.declared.answer.Answer.{Answer}
use Rattle.kmip_report.specs.declared.form.Form.{Form}
use Rattle.kmip_probe_command.specs.Private.{BreaksMidway, EndsIn}
use Rattle.kmip_probe_command.specs.Midway.{TellsSome, answers_before, lines_by}

-- ---- how it breaks off

told_some : (form : Form) (prefix : List ℕ) (answers : List Answer) (told left : List (List ℕ)) (old new : Option (List ℕ)) → lines_by form prefix answers ≡ told ++ left
    → answers_before told ≤ length answers → Appends old new (concat told) → TellsSome form prefix [] old new
told_some form prefix answers told left old new whole decided written = record {
  answers = answers;
  told = told;
  left = left;
  whole = whole;
  decided = decided;
  written = subst (Appends old new) (sym (append-nil (concat told))) written;
}

pub broken_at : (form : Form) (prefix : List ℕ) (answers : List Answer) (told left : List (List ℕ)) (fault own_fault : CommandFault) (Whole : Type 0) (old between new : Option (List ℕ))
    → lines_by form prefix answers ≡ told ++ left → answers_before told ≤ length answers → Appends old between (concat told) → Fails fault own_fault Whole between new
    → BreaksMidway form fault own_fault Whole prefix old new
broken_at form prefix answers told left fault own_fault Whole old between new whole decided written (inl (is, kept)) =
    inl (is, told_some form prefix answers told left old new whole decided (Appends-kept old between new (concat told) written kept))
broken_at form prefix answers told left fault own_fault Whole old between new whole decided written (inr (is, kept)) =
    inr (is, λ all. told_some form prefix answers told left old new whole decided (Appends-kept old between new (concat told) written (kept all)))

-- behind some lines of these answers a part of the command failed
pub broke : {A : Type 0} (result : Result A CommandFault) (form : Form) (prefix : List ℕ) (answers : List Answer) (told left : List (List ℕ)) (own_fault : CommandFault)
    (Whole : Type 0) (old between new : Option (List ℕ))
    → lines_by form prefix answers ≡ told ++ left → answers_before told ≤ length answers → Appends old between (concat told)
    → IfErr result (λ fault. Fails fault own_fault Whole between new) → IfErr result (λ fault. BreaksMidway form fault own_fault Whole prefix old new)
broke (Ok a) form prefix answers told left own_fault Whole old between new whole decided written fails = tt
broke (Err fault) form prefix answers told left own_fault Whole old between new whole decided written fails =
    broken_at form prefix answers told left fault own_fault Whole old between new whole decided written fails

-- or there was no memory
pub lacked : (fault : CommandFault) (form : Form) (prefix : List ℕ) (answers : List Answer) (told left : List (List ℕ)) (own_fault : CommandFault)
    (Whole : Type 0) (old new : Option (List ℕ))
    → lines_by form prefix answers ≡ told ++ left → answers_before told ≤ length answers → Appends old new (concat told) → fault ≡ NoMemory
    → BreaksMidway form fault own_fault Whole prefix old new
lacked fault form prefix answers told left own_fault Whole old new whole decided written is =
    inl (is, told_some form prefix answers told left old new whole decided written)

-- ---- on a writer, and in memory

at_writer : (fault : CommandFault) (Whole : Type 0) (form : Form) (prefix : List ℕ) (old new : Option (List ℕ)) → BreaksMidway form fault Output Whole prefix old new
    → UnlessOutput fault (TellsSome form prefix [] old new)
at_writer fault Whole form prefix old new (inl (is, some)) = rw is some
at_writer fault Whole form prefix old new (inr (is, some)) = rw is tt

pub on_writer : {A : Type 0} (result : Result A CommandFault) (Whole : Type 0) (form : Form) (prefix : List ℕ) (old new : Option (List ℕ))
    → IfErr result (λ fault. BreaksMidway form fault Output Whole prefix old new) → IfErr result (λ fault. UnlessOutput fault (TellsSome form prefix [] old new))
on_writer (Ok a) Whole form prefix old new broken = tt
on_writer (Err fault) Whole form prefix old new broken = at_writer fault Whole form prefix old new broken

no_input_at : (fault : CommandFault) (Whole : Type 0) (form : Form) (prefix : List ℕ) (old new : Option (List ℕ)) → BreaksMidway form fault Output Whole prefix old new → fault ≢ Input
no_input_at fault Whole form prefix old new (inl (is, some)) = λ input. let both : NoMemory ≡ Input = sym is ∙ input in absurd cc
no_input_at fault Whole form prefix old new (inr (is, some)) = λ input. let both : Output ≡ Input = sym is ∙ input in absurd cc

-- nothing is said of a reader
pub without_input : {A : Type 0} (result : Result A CommandFault) (Whole : Type 0) (form : Form) (prefix : List ℕ) (old new : Option (List ℕ))
    → IfErr result (λ fault. BreaksMidway form fault Output Whole prefix old new) → IfErr result (λ fault. fault ≢ Input)
without_input (Ok a) Whole form prefix old new broken = tt
without_input (Err fault) Whole form prefix old new broken = no_input_at fault Whole form prefix old new broken

front_kept : (form : Form) (prefix old new : List ℕ) → TellsSome form prefix [] (Some old) (Some new) → take (length old) new ≡ old
front_kept form prefix old new some = ap (take (length old)) some.written ∙ take_at old (concat some.told ++ []) (length old) refl

-- in memory what was there is the front of what is there
pub front_is_kept : (fault : CommandFault) (form : Form) (prefix old new : List ℕ) → BreaksMidway form fault NoMemory (Unit {0}) prefix (Some old) (Some new)
    → take (length old) new ≡ old
front_is_kept fault form prefix old new (inl (is, some)) = front_kept form prefix old new some
front_is_kept fault form prefix old new (inr (is, some)) = front_kept form prefix old new (some tt)

-- ---- after it the line for running out of memory

with_line : (form : Form) (prefix line : List ℕ) (old between new : Option (List ℕ)) → TellsSome form prefix [] old between → Appends between new line → TellsSome form prefix line old new
with_line form prefix line old between new some written = record {
  answers = some.answers;
  told = some.told;
  left = some.left;
  whole = some.whole;
  decided = some.decided;
  written = subst (λ bytes. Appends old new (bytes ++ line)) (append-nil (concat some.told)) (Appends-trans old between new (concat some.told ++ []) line some.written written);
}

pub ends_midway : (form : Form) (ended : Result Bool CommandFault) (status : ExitStatus) (prefix : List ℕ) (old between new : Option (List ℕ))
    → EndsIn form ended status between new → IfErr ended (λ fault. UnlessOutput fault (TellsSome form prefix [] old between)) → IfErr ended (λ fault. fault ≢ Input)
    → IfFailed status (λ last. UnlessOutput last (TellsSome form prefix (line_in form no_memory) old new))
ends_midway form (Ok false) status prefix old between new (is, same) some none = rw is tt
ends_midway form (Ok true) status prefix old between new (is, same) some none = rw is tt
ends_midway form (Err NoMemory) Done prefix old between new ends some none = absurd ends
ends_midway form (Err NoMemory) Refused prefix old between new ends some none = absurd ends
ends_midway form (Err NoMemory) Usage prefix old between new ends some none = absurd ends
ends_midway form (Err NoMemory) (Failed Input) prefix old between new (is, written) some none = absurd cc
ends_midway form (Err NoMemory) (Failed Output) prefix old between new ends some none = tt
ends_midway form (Err NoMemory) (Failed NoMemory) prefix old between new (is, written) some none =
    with_line form prefix (line_in form no_memory) old between new some written
ends_midway form (Err Output) status prefix old between new is some none = rw is tt
ends_midway form (Err Input) status prefix old between new is some none = absurd (none refl)
