-- The runs that a script's words make, for one plan or for two: what each begins with, how many exchanges
-- it may make, whether it is saved, and whether a crash ends it.
-- Source: own (text): the table of a script's words.
use Rattle.std.specs.Prelude.{ℕ, ◌+◌, Bool, true, false, List, [], ◌∷◌, filter, length, map, zip, Option, Some, None, if◌then◌else◌}
use Rattle.kmip_plan.specs.Chains.{bound}
use Rattle.kmip_plan.specs.declared.key.Key.{Key}
use Rattle.kmip_runs.specs.Campaign.{saves}
use Rattle.kmip_runs.specs.declared.crash.Crash.{Crash as MachineCrash}
use Rattle.kmip_runs.specs.declared.crashing_run.CrashingRun.{CrashingRun}
use Rattle.kmip_runs.specs.declared.run.Run.{Run}
use Rattle.kmip_runs.specs.declared.start.Start.{Start}
use Rattle.kmip_runs.specs.declared.start.Start.TheVariants.{Fresh, Same, Saved}
use Rattle.kmip_scripted.specs.declared.word.Word.{Word}
use Rattle.kmip_scripted.specs.declared.word.Word.TheVariants.{Save, Prolong, Restart, Crash}
use Rattle.kmip_scripted.specs.Words.{is_exchange, is_prolong}

-- What a run begins with after `restart`: nothing, or the save of a number.
abbrev pub start_at : Option ℕ → Start
start_at None = Fresh
start_at (Some number) = Saved number

-- The first run has one more word. Where that is of an exchange, it may make one more.
abbrev pub with_word : Word → List Run → List Run
with_word word [] = []
with_word word (run ∷ runs) = record run { limit = (if is_exchange word then 1 else 0) + run.limit } ∷ runs

-- The runs of words, where the first begins with `start`; it is begun where words of its own stand before
-- these. A `restart` that ends no run only says what the next one begins with; `prolong` ends a run as
-- `save` does, and `crash` as one that is not saved. No word ends the last run, which may make `more`
-- exchanges beyond those that it has words for. Each run asks about one key at once.
abbrev pub runs_from : ℕ → Bool → Start → List Word → List Run
runs_from more begun start [] = record { start = start; limit = more; batch = 1; save = false } ∷ []
runs_from more begun start (Save ∷ words) = record { start = start; limit = 0; batch = 1; save = true } ∷ runs_from more false Same words
runs_from more begun start (Prolong ∷ words) = record { start = start; limit = 0; batch = 1; save = true } ∷ runs_from more false Same words
runs_from more begun start (Crash crash ∷ words) = record { start = start; limit = 0; batch = 1; save = false } ∷ runs_from more false Same words
runs_from more true start (Restart next ∷ words) = record { start = start; limit = 0; batch = 1; save = false } ∷ runs_from more false (start_at next) words
runs_from more false start (Restart next ∷ words) = runs_from more false (start_at next) words
runs_from more begun start (word ∷ words) = with_word word (runs_from more true start words)

-- The runs of a script for a plan. The last goes on as long as the plan may need.
abbrev pub runs_of : List Key → List Word → List Run
runs_of keys words = runs_from (bound keys) false Fresh words

-- For each run that the words make, in order, the crash that ends it, or none. The first run is begun where
-- words of its own stand before these.
abbrev pub crashes_from : Bool → List Word → List (Option MachineCrash)
crashes_from begun [] = None ∷ []
crashes_from begun (Save ∷ words) = None ∷ crashes_from false words
crashes_from begun (Prolong ∷ words) = None ∷ crashes_from false words
crashes_from begun (Crash crash ∷ words) = Some crash ∷ crashes_from false words
crashes_from true (Restart next ∷ words) = None ∷ crashes_from false words
crashes_from false (Restart next ∷ words) = crashes_from false words
crashes_from begun (word ∷ words) = crashes_from true words

-- For each run of a script, in order, the crash that ends it, or none.
abbrev pub crashes_of : List Word → List (Option MachineCrash)
crashes_of words = crashes_from false words

-- A run, and the crash that ends it, where one does.
abbrev pub with_crash : Run × Option MachineCrash → CrashingRun
with_crash p = record { run = p.0; crash = p.1 }

-- The runs of a script for a plan, each with the crash that ends it, where one does.
abbrev pub crashing_runs_of : List Key → List Word → List CrashingRun
crashing_runs_of keys words = map with_crash (zip (runs_of keys words) (crashes_of words))

-- The words before the first `prolong`.
abbrev pub words_before : List Word → List Word
words_before [] = []
words_before (word ∷ words) = if is_prolong word then [] else word ∷ words_before words

-- The words after the first `prolong`.
abbrev pub words_behind : List Word → List Word
words_behind [] = []
words_behind (word ∷ words) = if is_prolong word then words else words_behind words

-- The last of the runs is saved.
abbrev pub with_last_saved : List Run → List Run
with_last_saved [] = []
with_last_saved (run ∷ []) = record run { save = true } ∷ []
with_last_saved (run ∷ runs) = run ∷ with_last_saved runs

-- The runs of the words before `prolong`, which ends the last of them. That one makes no exchange more
-- than it has words for, and is saved.
abbrev pub runs_before : List Word → List Run
runs_before words = with_last_saved (runs_from 0 false Fresh (words_before words))

-- The runs of the words after `prolong`, for a further plan. The first begins with the last save of the
-- runs before.
abbrev pub runs_behind : List Key → List Word → List Run
runs_behind keys words = runs_from (bound keys) false (Saved (length (filter saves (runs_before words)))) (words_behind words)

-- The runs of a script with one `prolong`: those before it, and those after it for a further plan.
abbrev pub lists_of : List Key → List Word → List (List Run)
lists_of keys words = runs_before words ∷ runs_behind keys words ∷ []
