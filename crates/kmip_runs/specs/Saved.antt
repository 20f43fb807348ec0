-- What is saved while a plan is carried out: after each exchange a text of what is then known.
-- Source: own (view): the standard knows no plan, and no progress that is kept.
use Rattle.std.specs.Prelude.{◌≡◌, ◌≢◌, ◌≤◌, ◌+◌, ◌⊎◌, ℕ, ⊤, List, [], ◌∷◌, ◌++◌, length, map, Result, Ok, Err}
use Rattle.std.specs.List.{All, AllZip}
use Rattle.kmip_plan.specs.declared.key.Key.{Key}
use Rattle.kmip_progress.specs.Texts.{progress_text}
use Rattle.kmip_client.specs.Clients.{ClientState}
use Rattle.kmip_client.specs.Held.{Held}
use Rattle.kmip_client.specs.Saving.{known_of}
use Rattle.kmip_client.specs.Shapes.{IsKept}
use Rattle.kmip_client.specs.declared.knowledge.Knowledge.{Knowledge}
use Rattle.kmip_protocol.specs.Past.{Past, is_planned}
use Rattle.kmip_protocol.specs.Seen.{Seen}
use Rattle.kmip_runs.specs.Driving.{IsGood, Learnt, WentOn}
use Rattle.kmip_runs.specs.Keeping.{Kept}
use Rattle.kmip_runs.specs.declared.stop.Stop.{Stop}
use Rattle.kmip_runs.specs.declared.stop.Stop.TheVariants as stops
use Rattle.kmip_runs.specs.declared.save_fault.SaveFault.{SaveFault}
use Rattle.kmip_runs.specs.declared.save_fault.SaveFault.TheVariants as faults

-- What is known at a moment, and all that has happened by then.
pub record Moment : Type 0 where
  pub knowns : List Knowledge
  pub past : Past

-- What a client knows now, and what has happened over its link.
abbrev pub moment : ClientState → Seen → Moment
moment c link = record { knowns = c.knowns; past = link.past }

-- What may be premised of the moment at which a run begins: that all was good, and that the link was honest.
pub record Grounds : Type 1 where
  pub good : Type 0
  pub honest : Type 0

-- What is seen of a run at a moment: of its client, its link and its keeper.
pub record Situation : Type 1 where
  pub client : ClientState
  pub link : Seen
  pub keeper : Kept

-- What may be premised where a run begins so.
abbrev pub grounds_in : Situation → Grounds
grounds_in begun = record { good = IsGood begun.client begun.link; honest = begun.link.honest (is_planned begun.client.keys) }

-- The progress text of what is known at a moment.
abbrev pub text_at : List Key → Moment → List ℕ
text_at keys moment = progress_text keys (map known_of moment.knowns)

-- The last of some moments, or the one before them where there is none.
abbrev pub last_moment : Moment → List Moment → Moment
last_moment before [] = before
last_moment before (moment ∷ moments) = last_moment moment moments

-- Each moment is one exchange later than the one before it, and what is new was taught by what that
-- exchange handed over.
abbrev pub AreTaughtInTurn : List Key → ℕ → Moment → List Moment → Type 0
AreTaughtInTurn keys most before [] = ⊤
AreTaughtInTurn keys most before (moment ∷ moments) =
    Learnt keys most before.past moment.past before.knowns moment.knowns 1 × AreTaughtInTurn keys most moment moments

-- No moment takes back an identifier or a count that was known before.
abbrev pub AreKept : List Knowledge → List Moment → Type 0
AreKept knowns [] = ⊤
AreKept knowns (moment ∷ moments) = AllZip IsKept knowns moment.knowns × AreKept moment.knowns moments

-- It did not stop for want of memory. A text that was not saved is no want of memory here.
abbrev pub IsInMemory : Result Stop SaveFault → Type 0
IsInMemory result = result ≢ Ok stops.NoMemory

-- Memory did not run out, neither in an exchange, nor while a text was saved, nor at the end of the run.
abbrev pub HasMemory : Result Stop SaveFault → Type 0
HasMemory result = IsInMemory result × (result ≢ Err faults.NoMemory)

-- Memory did not run out, and no text was left unsaved.
abbrev pub IsWhole : Result Stop SaveFault → Type 0
IsWhole (Ok stop) = stop ≢ stops.NoMemory
IsWhole (Err fault) = ⊥

-- A run was left with keys that are worked on, or memory ran out.
abbrev pub IsLeft : Result Stop SaveFault → Type 0
IsLeft result = (result ≡ Ok stops.Limit) ⊎ (result ≡ Ok stops.NoMemory)

-- How many exchanges have no text: none where all was saved, one where the last text was not, and at most
-- one where memory ran out.
abbrev pub AreUnsaved : Result Stop SaveFault → ℕ → Type 0
AreUnsaved (Ok stops.AllFinished) count = count ≡ 0
AreUnsaved (Ok stops.Limit) count = count ≡ 0
AreUnsaved (Ok stops.Conflict) count = count ≡ 0
AreUnsaved (Ok stops.NoMemory) count = count ≤ 1
AreUnsaved (Err fault) count = count ≡ 1

-- The objects have gone onward from the first past to each of these moments, and on to the last past.
abbrev pub AreOnward : List Key → Past → List Moment → Past → Type 0
AreOnward keys old [] new = WentOn keys old new
AreOnward keys old (moment ∷ moments) new = WentOn keys old moment.past × AreOnward keys moment.past moments new

-- What was known at a moment was true of the objects that there were then.
abbrev pub WasTrue : List Key → Moment → Type 0
WasTrue keys moment = Held moment.past.objects keys moment.knowns

-- These are the moments of a run of which a text was saved, one for each exchange, right after it. The last
-- exchange may have none, as `AreUnsaved` says.
pub record AreMoments (keys : List Key) (most : ℕ) (grounds : Grounds) (begun ended : Moment) (result : Result Stop SaveFault) (exchanges : ℕ) (moments : List Moment) : Type 0 where
  -- How many exchanges have no text.
  pub unsaved : ℕ
  pub are_unsaved : AreUnsaved result unsaved
  pub as_many : length moments + unsaved ≡ exchanges
  -- No moment, and not the end, takes back an identifier or a count.
  pub forgets_nothing : AreKept begun.knowns (moments ++ ended ∷ [])
  -- If all was good at the start, what happened goes from moment to moment.
  pub onward : grounds.good → AreOnward keys begun.past moments ended.past
  -- If all was good at the start, what was known at each moment was true of the objects then.
  pub true_then : grounds.good → All (WasTrue keys) moments
  -- It is true of those at the end too.
  pub true_of : grounds.good → All (λ (moment : Moment). Held ended.past.objects keys moment.knowns) moments
  -- Over an honest link each moment is one exchange later than the one before it, with what that taught.
  pub taught : grounds.honest → AreTaughtInTurn keys most begun moments
  -- Unless memory ran out, the end has what the exchanges without a text taught after the last moment.
  pub rest : grounds.honest → IsInMemory result
      → Learnt keys most (last_moment begun moments).past ended.past (last_moment begun moments).knowns ended.knowns unsaved
  -- If all was saved, the text of the end is that of the last moment, or of the start if there is none.
  pub last_is : grounds.honest → IsWhole result → text_at keys ended ≡ text_at keys (last_moment begun moments)
