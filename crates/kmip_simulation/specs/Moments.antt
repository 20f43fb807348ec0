-- What happened over a link that followed the words of a script, moment by moment: by where its runs ended, and what each word does.
-- Source: own (view): the words of a script in the order in which they are taken.
use Rattle.std.specs.Prelude.{ℕ, zero, suc, ◌+◌, ◌-◌, Bool, true, false, List, [], ◌∷◌, ◌++◌, if◌then◌else◌}
use Rattle.kmip_scripted.specs.Scenes.{Scene}
use Rattle.kmip_scripted.specs.Words.{goes_on, is_restart, next_words, words_after_exchange, words_after_run}
use Rattle.kmip_scripted.specs.declared.word.Word.{Word}
use Rattle.kmip_scripted.specs.declared.word.Word.TheVariants.{Again}
use Rattle.kmip_simulation.specs.declared.moment.Moment.{Moment}
use Rattle.kmip_simulation.specs.declared.moment.Moment.TheVariants.{Begun, Repeated, Exchanged, Ended}

-- what a word does without an exchange, when so many requests had been asked: `again` delivers a request again, and no other word shows
abbrev pub repeats : ℕ → Word → List Moment
repeats asked (Again number) = Repeated number asked ∷ []
repeats asked word = []

-- what the next words do without an exchange: those before an exchange, or at the end of a run all that are left of it
abbrev pub all_repeats : Bool → ℕ → List Word → List Moment
all_repeats at_end asked [] = []
all_repeats at_end asked (word ∷ words) = if goes_on at_end word then repeats asked word ++ all_repeats at_end asked words else []

-- the words after these
abbrev pub words_after_repeats : Bool → List Word → List Word
words_after_repeats at_end [] = []
words_after_repeats at_end (word ∷ words) = if goes_on at_end word then words_after_repeats at_end words else word ∷ words

-- the words after the next exchange: those before it are done, and its own is taken
abbrev pub words_after_next : List Word → List Word
words_after_next words = words_after_exchange (words_after_repeats false words)

-- the words after the next exchanges, of which there are so many
abbrev pub words_after_exchanges : ℕ → List Word → List Word
words_after_exchanges zero words = words
words_after_exchanges (suc count) words = words_after_exchanges count (words_after_next words)

-- The next exchanges, of which there are so many, where some were made before; and what is delivered again before each, when its own
-- request has been asked already.
abbrev pub exchanges_from : ℕ → ℕ → List Word → List Moment
exchanges_from zero made words = []
exchanges_from (suc count) made words =
    all_repeats false (made + 1) words ++ (Exchanged (made + 1) ∷ exchanges_from count (made + 1) (words_after_next words))

-- the words `restart` that stand next
abbrev pub next_restarts : List Word → List Word
next_restarts [] = []
next_restarts (word ∷ words) = if is_restart word then word ∷ next_restarts words else []

-- the words that are taken where a run ends: the one that ends it, and the words `restart` after that, which say what the next one begins with
abbrev pub words_at_end : List Word → List Word
words_at_end [] = []
words_at_end (word ∷ words) = word ∷ next_restarts words

-- the end of a run after so many exchanges: what is delivered again before it, and the words that are taken there
abbrev pub end_from : ℕ → ℕ → List Word → List Moment
end_from number end words = all_repeats true end words ++ (Ended number (words_at_end (words_after_repeats true words)) ∷ [])

-- a run, where so many exchanges were made before it, and so many up to its end
abbrev pub run_from : ℕ → ℕ → ℕ → List Word → List Moment
run_from number made end words =
    (Begun number ∷ []) ++ exchanges_from (end - made) made words ++ end_from number end (words_after_exchanges (end - made) words)

-- the words of the runs after that one
abbrev pub words_after_end : ℕ → ℕ → List Word → List Word
words_after_end made end words = words_after_run (words_after_repeats true (words_after_exchanges (end - made) words))

-- the runs from this number on, of which each ended after so many exchanges in all, where so many were made before
abbrev pub moments_from : ℕ → ℕ → List Word → List ℕ → List Moment
moments_from number made words [] = []
moments_from number made words (end ∷ ends) =
    run_from number made end words ++ moments_from (number + 1) end (words_after_end made end words) ends

-- what happened over a link that followed these words, up to where its last run ended
abbrev pub moments_of : List Word → Scene → List Moment
moments_of words link = moments_from 1 0 (next_words words) link.ended
