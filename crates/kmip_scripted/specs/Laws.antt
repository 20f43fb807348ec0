-- The runs of a script are those that a link which follows it ends, one by one.
-- Source: own (law): the table of a script's words.
use Rattle.std.specs.Prelude.{◌≡◌, ℕ, true, false, List, drop, map}
use Rattle.std.specs.List.{list_any}
use Rattle.kmip_plan.specs.declared.key.Key.{Key}
use Rattle.kmip_runs.specs.declared.start.Start.{Start}
use Rattle.kmip_scripted.specs.declared.word.Word.{Word}
use Rattle.kmip_scripted.specs.Runs.{crashing_runs_of, runs_from, runs_of}
use Rattle.kmip_scripted.specs.Scenes.{Scene}
use Rattle.kmip_scripted.specs.Words.{after_run, ends_run, exchange, next_words}

-- The runs of words, and of those that a new link has of them, differ in nothing but what the first
-- begins with.
abbrev pub HeadsMakeNoRun : Type 0
HeadsMakeNoRun =
    (more : ℕ) (start : Start) (words : List Word)
    → (next : Start) × (runs_from more false start words ≡ runs_from more false next (next_words words))

-- Where a word ends the first run, the runs after it are those of the words that the link has left after
-- the end of this run. Only what the first of them begins with may differ.
abbrev pub RunsGoOn : Type 0
RunsGoOn =
    (more : ℕ) (start : Start) (words : List Word) (link : Scene) → link.words ≡ next_words words → list_any ends_run link.words ≡ true
    → (next : Start) × (drop 1 (runs_from more false start link.words) ≡ runs_from more false next (after_run link).words)

-- An exchange takes no word beyond the end of the run.
abbrev pub EndsStay : Type 0
EndsStay = (request : List ℕ) (link : Scene) → (after_run (exchange request link).1).words ≡ (after_run link).words

-- The runs with their crashes are the runs, where the crashes are left out.
abbrev pub CrashesChangeNoRun : Type 0
CrashesChangeNoRun = (keys : List Key) (words : List Word) → map (λ r. r.run) (crashing_runs_of keys words) ≡ runs_of keys words
