-- How a progress text is read: what is known of each key of the plan, or the first fault.
-- Source: own (order).
use Rattle.std.specs.Prelude.{◌≡◌, ℕ, ◌==◌, Bool, true, false, ◌&&◌, nat_le, List, [], ◌∷◌, ◌++◌, length, map, decimal, Option, Some, None, option_map, Result, Ok, Err, if◌then◌else◌}
use Rattle.std.specs.List.{slice_split}
use Rattle.std.specs.Option.{option_map_or}
use Rattle.kmip_objects.specs.Ranges.{is_name}
use Rattle.kmip_ttlv.specs.Binding.{◌>>=◌}
use Rattle.kmip_plan.specs.Chains.{chain}
use Rattle.kmip_plan.specs.Fields.{if_so}
use Rattle.kmip_plan.specs.TargetWords.{is_text, target_of_word}
use Rattle.kmip_plan.specs.declared.key.Key.{Key}
use Rattle.kmip_plan.specs.declared.target.Target.{Target}
use Rattle.kmip_plan.specs.declared.target.Target.TheVariants.{Created, Active, Revoked, Destroyed, Discarded}
use Rattle.kmip_progress.specs.declared.entry.Entry.{Entry}
use Rattle.kmip_progress.specs.declared.format.Format.{Format}
use Rattle.kmip_progress.specs.declared.format.Format.TheVariants.{One, Two}
use Rattle.kmip_progress.specs.declared.progress_fault.ProgressFault.{ProgressFault}
use Rattle.kmip_progress.specs.declared.progress_fault.ProgressFault.TheVariants.{BadText, Cut, OtherPlan, NoMemory}
use Rattle.kmip_progress.specs.declared.known.Known.{Known}
use Rattle.kmip_progress.specs.Suiting.{is_known, nothing_known}
use Rattle.kmip_progress.specs.Texts.{head_line}
use Rattle.kmip_progress.specs.Words.{done_of_word, reason_in, identifier_in, number_in}

-- A value that has to be there; else this fault.
abbrev pub need : {A : Type 0} → ProgressFault → Option A → Result A ProgressFault
need fault None = Err fault
need fault (Some a) = Ok a

-- A test that has to pass; else this fault.
abbrev pub guard : ProgressFault → Bool → Result (Unit {0}) ProgressFault
guard fault true = Ok tt
guard fault false = Err fault

-- The parts of a text between the bytes that are this one.
abbrev pub parts : ℕ → List ℕ → List (List ℕ)
parts mark text = slice_split (λ byte. byte == mark) text

-- The lines before the last one, and the last one, where a line feed ends it and nothing comes after that.
abbrev pub body_of : List (List ℕ) → Option (List (List ℕ) × List ℕ)
body_of [] = None
body_of (line ∷ [] ∷ []) = Some ([], line)
body_of (line ∷ lines) = option_map (λ b. (line ∷ b.0, b.1)) (body_of lines)

-- The format that the first line names.
abbrev pub format_of_head : List ℕ → Option Format
format_of_head line =
    if is_text line (head_line One) then Some One else if is_text line (head_line Two) then Some Two else None

-- The format that the first line names, and the lines after it.
abbrev pub format_in : List (List ℕ) → Option (Format × List (List ℕ))
format_in [] = None
format_in (line ∷ lines) = option_map (λ format. (format, lines)) (format_of_head line)

-- What is known of a key, by the words for the steps done and for the identifier.
unfoldable pub known_in : List ℕ → List ℕ → Result Known ProgressFault
known_in done identifier = do
  done ← need BadText (done_of_word done)
  identifier ← need BadText (identifier_in identifier)
  need BadText (if_so is_known (record { identifier = identifier; done = done }))

-- What the words of a line of format 1 say of a key, or that they are none of such a line.
unfoldable pub entry_1 : List ℕ → List ℕ → List ℕ → List ℕ → Result Entry ProgressFault
entry_1 name target done identifier = do
  name ← need BadText (if_so is_name name)
  target ← need BadText (target_of_word target)
  known ← known_in done identifier
  Ok (record { name = name; target = target; reason = None; known = known })

-- What the words of a line of format 2 say of a key, or that they are none of such a line.
unfoldable pub entry_2 : List ℕ → List ℕ → List ℕ → List ℕ → List ℕ → Result Entry ProgressFault
entry_2 name target reason done identifier = do
  name ← need BadText (if_so is_name name)
  target ← need BadText (target_of_word target)
  reason ← need BadText (reason_in target reason)
  known ← known_in done identifier
  Ok (record { name = name; target = target; reason = reason; known = known })

-- What the words of a line say of a key; a line with another number of words is none.
abbrev pub entry_in : Format → List (List ℕ) → Result Entry ProgressFault
entry_in One (name ∷ target ∷ done ∷ identifier ∷ []) = entry_1 name target done identifier
entry_in Two (name ∷ target ∷ reason ∷ done ∷ identifier ∷ []) = entry_2 name target reason done identifier
entry_in format words = Err BadText

-- The lines that were read, and those of the rest; or that one is none of a progress text.
abbrev pub entries_in : Format → List Entry → List (List ℕ) → Result (List Entry) ProgressFault
entries_in format entries [] = Ok entries
entries_in format entries (line ∷ lines) =
    entry_in format (parts 0x20 line) >>= λ e. entries_in format (entries ++ e ∷ []) lines

-- The way to a target leads on to another one.
abbrev pub leads_on : Target → Target → Bool
leads_on Created further = true
leads_on Active Active = true
leads_on Active Revoked = true
leads_on Active Destroyed = true
leads_on Revoked Revoked = true
leads_on Revoked Destroyed = true
leads_on Destroyed Destroyed = true
leads_on Discarded Discarded = true
leads_on target further = false

-- A line speaks of a key: it has its name, a target that leads on to its target, and its reason, if any. No
-- more steps are done than lead to the line's own target.
abbrev pub speaks_of : Entry → Key → Bool
speaks_of e key =
    is_text e.name key.attrs.name
    && leads_on e.target key.target
    && option_map_or (λ reason. reason == key.reason) e.reason true
    && nat_le e.known.done (length (chain e.target))

-- The keys after the first ones, where the lines speak of the first ones, in order.
abbrev pub keys_behind : List Key → List Entry → Option (List Key)
keys_behind keys [] = Some keys
keys_behind [] (e ∷ entries) = None
keys_behind (key ∷ keys) (e ∷ entries) = if speaks_of e key then keys_behind keys entries else None

-- What is known of each key of the plan: what the lines say, and nothing of the keys after those.
abbrev pub all_known : List Entry → List Key → List Known
all_known entries behind = map (λ e. e.known) entries ++ map (λ key. nothing_known) behind

-- What the lines of a text say of keys, or the first fault. The text is cut where it does not end with its
-- last line. It is bad where another line is none of a progress text, or the last line has another number.
unfoldable pub entries_of_text : List ℕ → Result (List Entry) ProgressFault
entries_of_text text = do
  body ← need Cut (body_of (parts 0x0A text))
  number ← need Cut (number_in (parts 0x20 body.1))
  format ← need BadText (format_in body.0)
  entries ← entries_in format.0 [] format.1
  counted ← guard BadText (is_text number (decimal (length entries)))
  Ok entries

-- What is known of each key of a plan by a text, or the first fault. That the text is of another plan comes
-- last.
unfoldable pub read_text : List Key → List ℕ → Result (List Known) ProgressFault
read_text keys text = do
  entries ← entries_of_text text
  behind ← need OtherPlan (keys_behind keys entries)
  Ok (all_known entries behind)

-- The fault of a call is the one that reading gives; of want of memory this says nothing. Own (view).
abbrev pub FailsProgress : {Y : Type 0} → ProgressFault → Result Y ProgressFault → Type 0
FailsProgress NoMemory read = Unit {0}
FailsProgress fault read = read ≡ Err fault

-- What a call returned is what reading gives, unless memory ran out. The value of the call is seen by `view`.
-- Own (view).
abbrev pub GivesProgress : {X Y : Type 0} → (X → Y) → Result X ProgressFault → Result Y ProgressFault → Type 0
GivesProgress view (Ok x) read = read ≡ Ok (view x)
GivesProgress view (Err fault) read = FailsProgress fault read
