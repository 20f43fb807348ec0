-- How the program ends after a command, and what was written then.
use Rattle.std.proofs.Common.{◌≡◌, ℕ, Bool, true, false, List, [], ◌∷◌, ◌++◌, Option, Some, None, IfSome, Result, Ok, Err, IfOk, OnOk, refl, sym, ap, subst, ◌∙◌, append-nil}
use Rattle.std.specs.Result.{IfErr, OnErr}
use Rattle.std.specs.Io.KnownBytes.{Appends}
use Rattle.std.proofs.KnownBytes.{Appends-trans}
use Rattle.kmip_report.proofs.EndingLemmas.{finished_broken}
use Rattle.kmip_message_commands.specs.Judging.{are_refused, has_refused, saying_of}
use Rattle.kmip_message_commands.specs.Private.{Response, input_read, lines_read, RespondsTo, BreaksOffAt}
use Rattle.kmip_message_commands.specs.LineText.{input_text, lines_text, state_after_saying}
use Rattle.kmip_message_commands.specs.Lines.{lines_of}
use Rattle.kmip_report.specs.Endings.{UnlessOutput, IfWhole, IfFailed, Finishes, fault_line, status_of}
use Rattle.kmip_message_commands.specs.Printing.{WroteFront, BreaksOff, Prints, Tells, nothing_more}
use Rattle.kmip_report.specs.declared.exit_status.ExitStatus.{ExitStatus}
use Rattle.kmip_report.specs.declared.exit_status.ExitStatus.TheVariants.{Done, Refused, Failed, Usage}
use Rattle.kmip_report.specs.declared.command_fault.CommandFault.{CommandFault}
use Rattle.kmip_report.specs.declared.command_fault.CommandFault.TheVariants.{Input, Output, NoMemory}

-- ---- a command that is never over reads all lines

-- such a command
abbrev pub endless : {S : Type 0} → (S → List ℕ → List ℕ) → (S → List ℕ → S) → (List ℕ → Bool) → Response S
endless text after refuses = record { text = text; after = after; refuses = refuses; over = λ _. false }

all_lines : {S : Type 0} (after : S → List ℕ → S) (state : S) (lines : List (List ℕ)) → lines_read after (λ _. false) state lines ≡ lines
all_lines after state [] = refl
all_lines after state (line ∷ lines) = ap (λ l. line ∷ l) (all_lines after (state_after_saying after state (saying_of line)) lines)

pub all_text : {S : Type 0} (text : S → List ℕ → List ℕ) (after : S → List ℕ → S) (refuses : List ℕ → Bool) {E : Type 0} (result : Result Bool E)
    (read old new : Option (List ℕ)) (first first' state : S) → first ≡ first'
    → IfOk result (RespondsTo (endless text after refuses) read first state old new) → OnOk result (Prints (input_text text after first') read old new)
all_text text after refuses (Err fault) read old new first first' state same is = tt
all_text text after refuses (Ok refused) None old new first first' state same is = tt
all_text text after refuses (Ok refused) (Some input) old new first first' state same is =
    subst (λ s. Appends old new (input_text text after s input)) same
    (subst (λ l. Appends old new (lines_text text after first l)) (all_lines after first (lines_of input)) is.text_is)

pub all_refused : {S : Type 0} (text : S → List ℕ → List ℕ) (after : S → List ℕ → S) (refuses : List ℕ → Bool) {E : Type 0} (result : Result Bool E)
    (read old new : Option (List ℕ)) (first state : S)
    → IfOk result (RespondsTo (endless text after refuses) read first state old new) → IfOk result (Tells (has_refused refuses) read)
all_refused text after refuses (Err fault) read old new first state is = tt
all_refused text after refuses (Ok refused) None old new first state is = tt
all_refused text after refuses (Ok refused) (Some input) old new first state is = is.refused_is ∙ ap (are_refused refuses) (all_lines after first (lines_of input))

-- the front of all lines
pub front_of_all : {S : Type 0} (text : S → List ℕ → List ℕ) (after : S → List ℕ → S) (refuses : List ℕ → Bool) (input : List ℕ) (old new : Option (List ℕ)) (first first' : S) → first ≡ first'
    → WroteFront (lines_text text after first) (input_read (endless text after refuses) first input) [] old new
    → WroteFront (lines_text text after first') (lines_of input) [] old new
front_of_all text after refuses input old new first first' same w =
    subst (λ s. WroteFront (lines_text text after s) (lines_of input) [] old new) same
    (subst (λ l. WroteFront (lines_text text after first) l [] old new) (all_lines after first (lines_of input)) w)

pub all_front : {S : Type 0} (text : S → List ℕ → List ℕ) (after : S → List ℕ → S) (refuses : List ℕ → Bool) {E : Type 0} (result : Result Bool E) (input : List ℕ)
    (old new : Option (List ℕ)) (first first' : S) → first ≡ first'
    → OnErr result (BreaksOffAt (endless text after refuses) (Some input) first old new)
    → OnErr result (WroteFront (lines_text text after first') (lines_of input) [] old new)
all_front text after refuses (Ok refused) input old new first first' same is = tt
all_front text after refuses (Err fault) input old new first first' same is = front_of_all text after refuses input old new first first' same is

pub all_broken : {S : Type 0} (text : S → List ℕ → List ℕ) (after : S → List ℕ → S) (refuses : List ℕ → Bool) (result : Result Bool CommandFault)
    (read old new : Option (List ℕ)) (first first' : S) → first ≡ first'
    → IfErr result (λ fault. UnlessOutput fault (BreaksOffAt (endless text after refuses) read first old new))
    → IfErr result (BreaksOff (lines_text text after first') nothing_more read old new)
all_broken text after refuses (Ok refused) read old new first first' same is = tt
all_broken text after refuses (Err Output) read old new first first' same is = tt
all_broken text after refuses (Err Input) None old new first first' same is = tt
all_broken text after refuses (Err Input) (Some input) old new first first' same is = front_of_all text after refuses input old new first first' same is
all_broken text after refuses (Err NoMemory) None old new first first' same is = tt
all_broken text after refuses (Err NoMemory) (Some input) old new first first' same is = front_of_all text after refuses input old new first first' same is

-- ---- how the program ends

-- the line of a fault after the text of some first lines
front_and_line : {X : Type 0} (text : List X → List ℕ) (things : List X) (line : List ℕ) (old mid new : Option (List ℕ))
    → WroteFront text things [] old mid → Appends mid new line → WroteFront text things line old new
front_and_line text things line old mid new w more = record {
  front = w.front;
  rest = w.rest;
  whole = w.whole;
  written = subst (λ t. Appends old new (t ++ line)) (append-nil (text w.front)) (Appends-trans old mid new (text w.front ++ []) line w.written more);
}

-- the same of what a reader had
abbrev front_read : (List (List ℕ) → List ℕ) → (CommandFault → List ℕ) → Option (List ℕ) → Option (List ℕ) → Option (List ℕ) → CommandFault → Type 0
front_read text tail read old new fault = IfSome read (λ input. WroteFront text (lines_of input) (tail fault) old new)

joined_front : (text : List (List ℕ) → List ℕ) (read old mid new : Option (List ℕ)) (fault : CommandFault)
    → front_read text nothing_more read old mid fault → Appends mid new (fault_line fault) → front_read text fault_line read old new fault
joined_front text None old mid new fault w more = tt
joined_front text (Some input) old mid new fault w more = front_and_line text (lines_of input) (fault_line fault) old mid new w more

pub finished_front : (text : List (List ℕ) → List ℕ) (ended : Result Bool CommandFault) (status : ExitStatus) (read old mid new : Option (List ℕ))
    → Finishes ended status mid new → IfErr ended (BreaksOff text nothing_more read old mid) → IfFailed status (BreaksOff text fault_line read old new)
finished_front text ended status read old mid new f is =
    finished_broken ended status mid new (front_read text nothing_more read old mid) (front_read text fault_line read old new) f (joined_front text read old mid new) is
