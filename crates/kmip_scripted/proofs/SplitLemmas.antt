-- The runs of a script split as the link takes its words.
use Rattle.std.proofs.Common.{◌≡◌, ℕ, Bool, nat_le, true, false, if◌then◌else◌, List, [], ◌∷◌, drop, length, refl, sym, ap, ◌∙◌}
use Rattle.std.specs.List.{list_any}
use Rattle.kmip_runs.specs.declared.run.Run.{Run}
use Rattle.kmip_runs.specs.declared.start.Start.{Start}
use Rattle.kmip_runs.specs.declared.start.Start.TheVariants.{Same}
use Rattle.kmip_scripted.specs.declared.word.Word.{Word}
use Rattle.kmip_scripted.specs.declared.word.Word.TheVariants.{Pass, LoseRequest, LoseReply, Cut, Stale, Again, Save, Prolong, Restart, Crash}
use Rattle.kmip_scripted.specs.Laws.{EndsStay, HeadsMakeNoRun, RunsGoOn}
use Rattle.kmip_scripted.specs.Runs.{runs_from, start_at, with_word}
use Rattle.kmip_scripted.specs.Scenes.{Scene}
use Rattle.kmip_scripted.specs.Serving.{with_served}
use Rattle.kmip_scripted.specs.Words.{after_run, after_word, after_words, before_play, ends_run, exchange, exchange_word, goes_on, next_words, play, with_request, with_words, words_after_exchange, words_after_run}

-- a `restart` at the head only says what the next run begins with
pub heads : HeadsMakeNoRun
heads more start [] = (start, refl)
heads more start (Pass ∷ words) = (start, refl)
heads more start (LoseRequest ∷ words) = (start, refl)
heads more start (LoseReply ∷ words) = (start, refl)
heads more start (Cut size ∷ words) = (start, refl)
heads more start (Stale number ∷ words) = (start, refl)
heads more start (Again number ∷ words) = (start, refl)
heads more start (Save ∷ words) = (start, refl)
heads more start (Prolong ∷ words) = (start, refl)
heads more start (Restart next ∷ words) = heads more (start_at next) words
heads more start (Crash crash ∷ words) = (start, refl)

-- the words from the first on that does not go on; at the end of a run, from the one that ends it on
abbrev left : Bool → List Word → List Word
left at_end [] = []
left at_end (word ∷ words) = if goes_on at_end word then left at_end words else word ∷ words

-- the first run aside, a word in it changes nothing
rest_same : (word : Word) (runs : List Run) → drop 1 (with_word word runs) ≡ drop 1 runs
rest_same word [] = refl
rest_same word (run ∷ runs) = refl

-- the runs behind the first are those of the words behind its end
abbrev HasOthers : ℕ → List Run → List Word → Type 0
HasOthers more runs words = (next : Start) × (drop 1 runs ≡ runs_from more false next words)

abbrev BehindFirst : ℕ → Start → List Word → Type 0
BehindFirst more start words = HasOthers more (runs_from more true start words) (words_after_run (left true words))

one_more : (more : ℕ) (start : Start) (word : Word) (words : List Word) → BehindFirst more start words
    → HasOthers more (with_word word (runs_from more true start words)) (words_after_run (left true words))
one_more more start word words behind = (behind.0, rest_same word (runs_from more true start words) ∙ behind.1)

others : (more : ℕ) (start : Start) (words : List Word) → list_any ends_run words ≡ true → BehindFirst more start words
others more start [] ends = absurd cc
others more start (Pass ∷ words) ends = one_more more start Pass words (others more start words ends)
others more start (LoseRequest ∷ words) ends = one_more more start LoseRequest words (others more start words ends)
others more start (LoseReply ∷ words) ends = one_more more start LoseReply words (others more start words ends)
others more start (Cut size ∷ words) ends = one_more more start (Cut size) words (others more start words ends)
others more start (Stale number ∷ words) ends = one_more more start (Stale number) words (others more start words ends)
others more start (Again number ∷ words) ends = one_more more start (Again number) words (others more start words ends)
others more start (Save ∷ words) ends = heads more Same words
others more start (Prolong ∷ words) ends = heads more Same words
others more start (Restart next ∷ words) ends = heads more (start_at next) words
others more start (Crash crash ∷ words) ends = heads more Same words

-- the same from the first word of the run on, which is no `restart`
first_others : (more : ℕ) (start : Start) (words : List Word) → list_any ends_run (next_words words) ≡ true
    → HasOthers more (runs_from more false start (next_words words)) (words_after_run (left true (next_words words)))
first_others more start [] ends = absurd cc
first_others more start (Pass ∷ words) ends = one_more more start Pass words (others more start words ends)
first_others more start (LoseRequest ∷ words) ends = one_more more start LoseRequest words (others more start words ends)
first_others more start (LoseReply ∷ words) ends = one_more more start LoseReply words (others more start words ends)
first_others more start (Cut size ∷ words) ends = one_more more start (Cut size) words (others more start words ends)
first_others more start (Stale number ∷ words) ends = one_more more start (Stale number) words (others more start words ends)
first_others more start (Again number ∷ words) ends = one_more more start (Again number) words (others more start words ends)
first_others more start (Save ∷ words) ends = heads more Same words
first_others more start (Prolong ∷ words) ends = heads more Same words
first_others more start (Restart next ∷ words) ends = first_others more start words ends
first_others more start (Crash crash ∷ words) ends = heads more Same words

-- the words that are done leave them
left_by : (at_end : Bool) (word : Word) (words : List Word) (s : Scene) (goes : Bool) → goes_on at_end word ≡ goes → s.words ≡ word ∷ words
    → (after_words at_end words (with_words words (after_word word s))).words ≡ left at_end words
    → (after_words at_end (word ∷ words) s).words ≡ left at_end (word ∷ words)
left_by at_end word words s true is are rest = rw is rest
left_by at_end word words s false is are rest = rw is are

left_after : (at_end : Bool) (words : List Word) (s : Scene) → s.words ≡ words → (after_words at_end words s).words ≡ left at_end words
left_after at_end [] s are = are
left_after at_end (word ∷ words) s are =
    left_by at_end word words s (goes_on at_end word) refl are (left_after at_end words (with_words words (after_word word s)) refl)

run_left : (s : Scene) → (after_run s).words ≡ words_after_run (left true s.words)
run_left s = ap words_after_run (left_after true s.words s refl)

pub go_on : RunsGoOn
go_on more start words s are ends =
    let behind = first_others more start words (ap (list_any ends_run) (sym are) ∙ ends) in (
      behind.0,
      ap (λ ws. drop 1 (runs_from more false start ws)) are
          ∙ behind.1
          ∙ ap (λ ws. runs_from more false behind.0 ws) (ap (λ ws. words_after_run (left true ws)) (sym are) ∙ sym (run_left s)),
    )

-- an exchange takes words before the end of the run alone
same_end : (words : List Word) → left true (words_after_exchange (left false words)) ≡ left true words
same_end [] = refl
same_end (Pass ∷ words) = refl
same_end (LoseRequest ∷ words) = refl
same_end (LoseReply ∷ words) = refl
same_end (Cut size ∷ words) = refl
same_end (Stale number ∷ words) = refl
same_end (Again number ∷ words) = same_end words
same_end (Save ∷ words) = refl
same_end (Prolong ∷ words) = refl
same_end (Restart next ∷ words) = refl
same_end (Crash crash ∷ words) = refl

served_or_not : (b : Bool) (request : List ℕ) (s : Scene) → (if b then with_served request s else s).words ≡ s.words
served_or_not true request s = refl
served_or_not false request s = refl

played_words : (word : Word) (request : List ℕ) (s : Scene) → (play word request s).1.words ≡ s.words
played_words Pass request s = refl
played_words LoseRequest request s = refl
played_words LoseReply request s = refl
played_words (Cut size) request s = served_or_not (nat_le (length request) size) request s
played_words (Stale number) request s = refl
played_words (Again number) request s = refl
played_words Save request s = refl
played_words Prolong request s = refl
played_words (Restart next) request s = refl
played_words (Crash crash) request s = refl

exchange_left : (request : List ℕ) (s : Scene) → (exchange request s).1.words ≡ words_after_exchange (left false s.words)
exchange_left request s =
    let before = before_play request s in
    played_words (exchange_word before.words) request (with_words (words_after_exchange before.words) before)
    ∙ ap words_after_exchange (left_after false s.words (with_request request s) refl)

pub ends_stay : EndsStay
ends_stay request s =
    run_left (exchange request s).1
    ∙ ap (λ ws. words_after_run (left true ws)) (exchange_left request s)
    ∙ ap words_after_run (same_end s.words)
    ∙ sym (run_left s)
