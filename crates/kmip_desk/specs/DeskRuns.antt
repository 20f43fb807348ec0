-- What a run at a desk promises. Open this file first.
-- Source: own (view); `Runs` is own (law).
use Rattle.std.specs.Prelude.{◌≡◌, ◌++◌, ⊤, ℕ, Bool, false, List, Option, None, Some}
use Rattle.std.specs.Io.KnownBytes.{Appends}
use Rattle.std.specs.List.{All, AllZip}
use Rattle.kmip_choices.specs.declared.run_options.RunOptions.{RunOptions}
use Rattle.kmip_client.specs.Clients.{ClientState}
use Rattle.kmip_client.specs.Saving.{progress}
use Rattle.kmip_look.specs.Looks.{AsksLooks, IsFresh, SoundStays}
use Rattle.kmip_plan.specs.declared.key.Key.{Key}
use Rattle.kmip_protocol.specs.Past.{Names, is_planned}
use Rattle.kmip_protocol.specs.Seen.{Seen}
use Rattle.kmip_refresh.specs.Agreements.{judgement_of}
use Rattle.kmip_refresh.specs.KnownKeys.{KnownKey, keys_of, known_keys, looks_judged}
use Rattle.kmip_refresh.specs.Moments.{FinishedSince, StoodSince}
use Rattle.kmip_refresh.specs.Refreshing.{lookeds_of}
use Rattle.kmip_refresh.specs.declared.judgement.Judgement.TheVariants.{Agreed}
use Rattle.kmip_refresh.specs.declared.key_look.KeyLook.{KeyLook}
use Rattle.kmip_report.specs.Pieces.{report_in}
use Rattle.kmip_report.specs.declared.form.Form.{Form}
use Rattle.kmip_run_command.specs.Course.{RunState, run_state}
use Rattle.kmip_run_command.specs.RunReport.{TellsEnd}
use Rattle.kmip_run_command.specs.Runs.{Ends, RunsOver, run_change}
use Rattle.kmip_run_command.specs.declared.run_end.RunEnd.{RunEnd}
use Rattle.kmip_run_command.specs.declared.run_end.RunEnd.TheVariants.{Stopped}
use Rattle.kmip_run_command.specs.declared.run_input.RunInput.{RunInput}
use Rattle.kmip_runs.specs.Driving.{IsGood}
use Rattle.kmip_runs.specs.Keeping.{Kept}
use Rattle.kmip_runs.specs.declared.stop.Stop.TheVariants.{AllFinished}
use Rattle.kmip_desk.specs.declared.run_fault.RunFault.{RunFault}
use Rattle.kmip_desk.specs.declared.run_fault.RunFault.TheVariants.{AnotherServer, Contradicted, InUse, NoClock, NoMark, NoMemory, NoOrigin, NoProgress, NotPutAside, OtherAttributes, UnreadOrigin, Unread, Unlocked, UnwrittenOrigin}

-- ---- a look before the run

-- The message asks looks at some of these keys, and nothing else.
abbrev pub IsLookMessage : List Key → List ℕ → Type 0
IsLookMessage keys message = (mark : List ℕ) × AsksLooks keys mark message

-- Looks at these keys were sent over a link that was honest for some names, and nothing else. It is honest for them
-- still.
pub record HasLooked (names : Names) (keys : List Key) (old new : Seen) : Type 0 where
  pub still : new.honest names
  pub messages : List (List ℕ)
  pub sent : new.past.sent ≡ old.past.sent ++ messages
  pub look : All (IsLookMessage keys) messages

-- Looks at these keys were made, and nothing else.
pub record OnlyLooks (keys : List Key) (old new : Seen) : Type 0 where
  -- They were sent over the link, for all names for which it was honest.
  pub looked : (names : Names) → old.honest names → HasLooked names keys old new
  -- A past that was sound for a plan is sound still, over a link that was honest among others of the plan.
  pub sound : SoundStays old new

-- The keys of which the client knows an identifier.
abbrev pub known_of : ClientState → List KnownKey
known_of client = known_keys client.keys (progress client)

-- The last look at the keys that the client knows, and what it said. Looks alone were sent.
pub record LastLook {L : Type 0} (seen : L → Seen) (client : ClientState) (old : L) (looks : List KeyLook) (new : L) : Type 0 where
  -- All that was sent asks looks.
  pub alone : OnlyLooks (keys_of (known_of client)) (seen old) (seen new)
  -- The link when the last look began.
  pub from : L
  -- The mark of that look.
  pub mark : List ℕ
  -- Each answer is judged by what the client knows.
  pub judged : looks ≡ looks_judged (known_of client) (lookeds_of looks)
  -- If the mark is new, each key about which the server agrees stood so at some moment since.
  pub stood : (seen from).honest (is_planned client.keys) → IsFresh mark (seen from).past
      → AllZip (StoodSince (is_planned client.keys) (seen from).past (seen new).past) (known_of client) looks
  -- If the server agrees about all, each key that is known to be finished had reached its target then, or it is gone.
  pub finished : (seen from).honest (is_planned client.keys) → IsFresh mark (seen from).past
      → judgement_of looks ≡ Agreed
      → AllZip (FinishedSince (is_planned client.keys) (seen from).past (seen new).past) (known_of client) looks

-- The server agreed with what the client knows, by the last look.
pub record HasAgreed {L : Type 0} (seen : L → Seen) (client : ClientState) (old new : L) : Type 0 where
  pub looks : List KeyLook
  pub last : LastLook seen client old looks new
  pub agreed : judgement_of looks ≡ Agreed

-- The link before the first exchange of the run itself. If the run looked first, the server agreed.
abbrev pub LooksBefore : {L : Type 0} → (L → Seen) → L → ClientState → Option ℕ → L → Type 0
LooksBefore seen old client None between = between ≡ old
LooksBefore seen old client (Some count) between = HasAgreed seen client old between

-- ---- the run

-- What is seen of a link, a keeper and a patience.
pub record RunViews (L K E : Type 0) : Type 1 where
  pub seen : L → Seen
  pub kept : K → Kept
  pub is_tired : E → Bool
  pub asked : E → ℕ

-- These views.
abbrev pub run_views : {L K E : Type 0} → (L → Seen) → (K → Kept) → (E → Bool) → (E → ℕ) → RunViews L K E
run_views seen kept is_tired asked = record { seen = seen; kept = kept; is_tired = is_tired; asked = asked }

-- The link, the keeper and the patience of a run at a moment.
pub record Parts (L K E : Type 0) : Type 0 where
  pub link : L
  pub keeper : K
  pub patience : E

-- These parts.
abbrev pub parts : {L K E : Type 0} → L → K → E → Parts L K E
parts link keeper patience = record { link = link; keeper = keeper; patience = patience }

-- What is seen of these parts.
abbrev pub state_of : {L K E : Type 0} → RunViews L K E → L → K → E → RunState
state_of v link keeper patience = run_state (v.seen link) (v.kept keeper) (v.is_tired patience) (v.asked patience)

-- How the run itself began: with which client, and over which link.
pub record RunBegins {L : Type 0} (seen : L → Seen) (Begun : ClientState → Option ℕ → Type 0) (old : L) : Type 0 where
  -- The client at first.
  pub first : ClientState
  -- At how many keys the run looked first, if it looked.
  pub looked_at : Option ℕ
  -- The client knew what the progress on the desk says, and the desk says that this is of this server.
  pub begun : Begun first looked_at
  -- The link at the first exchange.
  pub between : L
  -- If the run looked first, the server agreed.
  pub looks : LooksBefore seen old first looked_at between
  -- If the past was sound and what the client knew was true before the looks, it is so at the first exchange.
  pub good : IsGood first (seen old) → IsGood first (seen between)

-- Own (law): a run was made whose client was this one at first, and its link and its file are as
-- `kmip_run_command::run` promises.
pub record RunsWell {L K E : Type 0} (v : RunViews L K E) (first : ClientState) (old new : Parts L K E) (Whole : Type 0 → Type 0) : Type 0 where
  -- The patience at the first exchange. It had not given up.
  pub begun : E
  pub fresh : v.is_tired begun ≡ false
  pub over : RunsOver (IsGood first (v.seen old.link)) first.keys first.batch
      (state_of v old.link old.keeper begun) (state_of v new.link new.keeper new.patience) Whole

-- A run was made whose client was this one at first. It stopped as all keys are finished, and exactly its report is
-- printed.
pub record StopsDone {L K E : Type 0} (v : RunViews L K E) (first : ClientState) (limit : ℕ) (old new : Parts L K E) (Prints : ClientState → RunEnd → Type 0) : Type 0 where
  -- The patience at the first exchange. It had not given up.
  pub begun : E
  pub fresh : v.is_tired begun ≡ false
  -- The client at the end.
  pub last : ClientState
  -- How many exchanges were made.
  pub exchanges : ℕ
  -- It stopped as all keys are finished. What the client knows came of its exchanges (`Came`).
  pub ends : Ends first limit
      (run_change (state_of v old.link old.keeper begun) (state_of v new.link new.keeper new.patience))
      last (Stopped AllFinished exchanges)
  -- Its report was printed, and nothing else.
  pub prints : Prints last (Stopped AllFinished exchanges)

-- The run began so, and its link and its file are as `kmip_run_command::run` promises.
pub record Runs {L K E : Type 0} (v : RunViews L K E) (Begun : ClientState → Option ℕ → Type 0) (old new : Parts L K E) (Whole : Type 0 → Type 0) : Type 0 where
  pub start : RunBegins v.seen Begun old.link
  pub runs : RunsWell v start.first (parts start.between old.keeper old.patience) new Whole

-- A run that ended with `Done`: how it began, that it stopped as all keys are finished, and that exactly its report is
-- printed.
pub record EndsDone {L K E : Type 0} (v : RunViews L K E) (Begun : ClientState → Option ℕ → Type 0) (limit : ℕ) (old new : Parts L K E) (Prints : ClientState → RunEnd → Type 0) : Type 0 where
  pub start : RunBegins v.seen Begun old.link
  pub stops : StopsDone v start.first limit (parts start.between old.keeper old.patience) new Prints

-- The run was not made: nothing was saved, and looks alone were sent.
pub record IsNotMade {L K E : Type 0} (v : RunViews L K E) (old new : Parts L K E) : Type 0 where
  pub unsaved : new.keeper ≡ old.keeper
  pub keys : List Key
  pub alone : OnlyLooks keys (v.seen old.link) (v.seen new.link)

-- The report of this end was printed in this form, and nothing else.
pub record PrintsEnd (form : Form) (options : RunOptions) (client : ClientState) (end : RunEnd) (old new : Option (List ℕ)) : Type 0 where
  pub input : RunInput
  pub form_is : input.form ≡ form
  pub report_is : input.report ≡ options.report
  pub limit_is : input.limit ≡ options.limit
  pub printed : TellsEnd input client end (λ lines. Appends old new (report_in input.form lines))

-- Before a fault that is none of these, nothing was sent. These may come after a look.
abbrev pub MayFollowLook : RunFault → Type 0
MayFollowLook NoMemory = ⊤
MayFollowLook (Unread error) = ⊥
MayFollowLook (NoProgress text fault) = ⊥
MayFollowLook InUse = ⊥
MayFollowLook (Unlocked error) = ⊥
MayFollowLook (UnreadOrigin error) = ⊥
MayFollowLook NoOrigin = ⊥
MayFollowLook (AnotherServer origin destroyed) = ⊥
MayFollowLook (OtherAttributes words) = ⊥
MayFollowLook (NotPutAside error) = ⊥
MayFollowLook (UnwrittenOrigin error) = ⊤
MayFollowLook (NoClock error) = ⊤
MayFollowLook (NoMark error) = ⊤
MayFollowLook Contradicted = ⊤
