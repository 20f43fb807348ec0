-- The runs of a script, word by word.
use Rattle.std.proofs.Common.{◌≡◌, ◌≤◌, ◌<◌, ◌+◌, ℕ, Bool, true, false, List, [], ◌∷◌, ◌++◌, drop, length, get_or, Option, Result, Ok, Err, IfOk, IsTrue, rules, refl, sym, ap, subst, ◌∙◌, arith, append_assoc, ◌⊎◌, inl, inr}
use Rattle.std.proofs.lemmas.List.{drop_more, drop_all}
use Rattle.std.proofs.lemmas.List.Elements.{All-cons, All-head, All-nil, All-tail}
use Rattle.kmip_runs.specs.declared.run.Run.{Run}
use Rattle.kmip_runs.specs.declared.start.Start.{Start}
use Rattle.kmip_runs.specs.declared.start.Start.TheVariants.{Fresh, Same}
use Rattle.kmip_runs.specs.Campaign.{MayBatch}
use Rattle.kmip_messages.specs.Members.{may_have}
use Rattle.kmip_scripted.specs.declared.runs.Part.{Part}
use Rattle.kmip_scripted.specs.declared.word.Word.{Word}
use Rattle.kmip_scripted.specs.declared.word.Word.TheVariants as words
use Rattle.kmip_scripted.specs.declared.word.Word.TheVariants.{Restart}
use Rattle.kmip_scripted.specs.Private.{grown, left_of}
use Rattle.kmip_scripted.specs.Runs.{runs_from, start_at, with_last_saved, with_word}

-- no exchange more
pub grown_none : (runs : List Run) → grown 0 runs ≡ runs
grown_none [] = refl
grown_none (run ∷ runs) =
    let same : 0 + run.limit ≡ run.limit = omega arith in
    ap (λ n. record { start = run.start; limit = n; batch = run.batch; save = run.save } ∷ runs) same

-- the word ends a run that is not saved
ended_at : (more : ℕ) (part : Part) (begun : Bool) (next : Option ℕ) (rest : List Word) (old new : List Run) → begun ≡ true
    → new ≡ old ++ record { start = part.start; limit = part.limit; batch = 1; save = false } ∷ []
    → new ++ runs_from more false (start_at next) rest ≡ old ++ grown part.limit (runs_from more begun part.start (Restart next ∷ rest))
ended_at more part true next rest old new is joined =
    let whole : part.limit + 0 ≡ part.limit = omega arith in
    ap (λ runs. runs ++ runs_from more false (start_at next) rest) joined
    ∙ append_assoc old (record { start = part.start; limit = part.limit; batch = 1; save = false } ∷ []) (runs_from more false (start_at next) rest)
    ∙ ap (λ n. old ++ record { start = part.start; limit = n; batch = 1; save = false } ∷ runs_from more false (start_at next) rest) (sym whole)
ended_at more part false next rest old new is joined = absurd cc

-- what is noted of a word, and then what is left, is what was left with the word
abbrev pub Restarts : Part → Word → List Run → List Run → Part → Type 0
Restarts part word old new after = (more : ℕ) (rest : List Word) → new ++ left_of more after rest ≡ old ++ left_of more part (word ∷ rest)

restarts_by : (part : Part) (next : Option ℕ) (old new : List Run)
    → ((more : ℕ) (rest : List Word) → new ++ runs_from more false (start_at next) rest ≡ old ++ left_of more part (Restart next ∷ rest))
    → (word : Word) (after : Part) → word ≡ Restart next → after ≡ record { start = start_at next; limit = 0; begun = false } → Restarts part word old new after
restarts_by part next old new same word after word_is after_is =
    subst (λ w. Restarts part w old new after) (sym word_is) (subst (Restarts part (Restart next) old new) (sym after_is) (λ more rest.
    ap (λ runs. new ++ runs) (grown_none (runs_from more false (start_at next) rest)) ∙ same more rest))

pub ended : (part : Part) (word : Word) (next : Option ℕ) (old new : List Run) (after : Part) → word ≡ Restart next
    → after ≡ record { start = start_at next; limit = 0; begun = false } → part.begun ≡ true
    → new ≡ old ++ record { start = part.start; limit = part.limit; batch = 1; save = false } ∷ [] → Restarts part word old new after
ended part word next old new after word_is after_is is joined =
    restarts_by part next old new (λ more rest. ended_at more part part.begun next rest old new is joined) word after word_is after_is

-- the word ends no run: the part has no word, and so no exchange
not_ended_at : (more : ℕ) (part : Part) (next : Option ℕ) (rest : List Word) (old : List Run) → part.begun ≡ false → part.limit ≡ 0
    → old ++ runs_from more false (start_at next) rest ≡ old ++ left_of more part (Restart next ∷ rest)
not_ended_at more part next rest old is none = rw (is, none) (ap (λ runs. old ++ runs) (sym (grown_none (runs_from more false (start_at next) rest))))

pub not_ended : (part : Part) (word : Word) (next : Option ℕ) (old new : List Run) (after : Part) → word ≡ Restart next
    → after ≡ record { start = start_at next; limit = 0; begun = false } → part.begun ≡ false → part.limit ≡ 0 → new ≡ old → Restarts part word old new after
not_ended part word next old new after word_is after_is is none same =
    restarts_by part next old new
    (λ more rest. ap (λ runs. runs ++ runs_from more false (start_at next) rest) same ∙ not_ended_at more part next rest old is none) word after word_is after_is

-- the word ends a run that is saved
saving : (more : ℕ) (part : Part) (rest : List Word) (word : Word) → (word ≡ words.Save) ⊎ (word ≡ words.Prolong)
    → left_of more part (words.Save ∷ rest) ≡ left_of more part (word ∷ rest)
saving more part rest word (inl is) = sym (ap (λ w. left_of more part (w ∷ rest)) is)
saving more part rest word (inr is) = sym (ap (λ w. left_of more part (w ∷ rest)) is)

pub saved : (part : Part) (word : Word) (old new : List Run) (after : Part) → (word ≡ words.Save) ⊎ (word ≡ words.Prolong)
    → after ≡ record { start = Same; limit = 0; begun = false } → new ≡ old ++ record { start = part.start; limit = part.limit; batch = 1; save = true } ∷ []
    → Restarts part word old new after
saved part word old new after word_is after_is joined = λ more rest.
    let whole : part.limit + 0 ≡ part.limit = omega arith in
    ap (λ next. new ++ left_of more next rest) after_is
    ∙ ap (λ runs. new ++ runs) (grown_none (runs_from more false Same rest))
    ∙ ap (λ runs. runs ++ runs_from more false Same rest) joined
    ∙ append_assoc old (record { start = part.start; limit = part.limit; batch = 1; save = true } ∷ []) (runs_from more false Same rest)
    ∙ ap (λ n. old ++ record { start = part.start; limit = n; batch = 1; save = true } ∷ runs_from more false Same rest) (sym whole)
    ∙ ap (λ runs. old ++ runs) (saving more part rest word word_is)

-- The runs that the words before a place have ended, and the one that the word there is of.
pub record AreTaken (start : Start) (words : List Word) (place : ℕ) (part : Part) (runs : List Run) : Type 0 where
  pub same : (more : ℕ) → runs ++ left_of more part (drop place words) ≡ runs_from more false start words
  pub small : part.limit ≤ place
  pub idle : part.begun ≡ false → part.limit ≡ 0

pub none_taken : (start : Start) (words : List Word) (part : Part) → part ≡ record { start = start; limit = 0; begun = false }
    → AreTaken start words 0 part []
none_taken start words part is =
    subst (λ p. AreTaken start words 0 p []) (sym is) (record {
      same = λ more. grown_none (runs_from more false start words);
      small = omega arith;
      idle = λ e. refl;
    })

pub one_taken : (start : Start) (words given : List Word) (place : ℕ) (word : Word) (old new : Part) (runs runs' : List Run) → given ≡ words
    → place < length words → AreTaken start words place old runs → new.limit ≤ old.limit + 1 → (new.begun ≡ false → new.limit ≡ 0)
    → ((more : ℕ) (rest : List Word) → runs' ++ left_of more new rest ≡ runs ++ left_of more old (get_or given place word ∷ rest))
    → AreTaken start words (place + 1) new runs'
one_taken start words given place word old new runs runs' are below so_far limit idle same = record {
  same = λ more.
      same more (drop (place + 1) words)
      ∙ ap (λ ws. runs ++ left_of more old (get_or ws place word ∷ drop (place + 1) words)) are
      ∙ ap (λ left. runs ++ left_of more old left) (sym (drop_more words place word below))
      ∙ so_far.same more;
  small = let small : old.limit ≤ place = so_far.small in omega arith;
  idle = idle;
}

pub all_taken : (start : Start) (words : List Word) (place : ℕ) (part : Part) (more : ℕ) (run : Run) (runs new : List Run) → length words ≤ place
    → AreTaken start words place part runs → run ≡ record { start = part.start; limit = part.limit + more; batch = 1; save = false }
    → new ≡ runs ++ run ∷ [] → new ≡ runs_from more false start words
all_taken start words place part more run runs new past taken is joined =
    joined
    ∙ ap (λ last. runs ++ last ∷ []) is
    ∙ ap (λ left. runs ++ left_of more part left) (sym (drop_all place words past))
    ∙ taken.same more

-- ---- each asks about one key at once

one_more : (word : Word) (runs : List Run) → MayBatch runs → MayBatch (with_word word runs)
one_more word [] may = may
one_more word (run ∷ runs) may =
    All-cons (λ (r : Run). IsTrue (may_have r.batch)) _ runs (All-head (λ (r : Run). IsTrue (may_have r.batch)) run runs may)
    (All-tail (λ (r : Run). IsTrue (may_have r.batch)) run runs may)

one_first : (start : Start) (limit : ℕ) (save : Bool) (runs : List Run) → MayBatch runs → MayBatch (record { start = start; limit = limit; batch = 1; save = save } ∷ runs)
one_first start limit save runs may = All-cons (λ (r : Run). IsTrue (may_have r.batch)) (record { start = start; limit = limit; batch = 1; save = save }) runs (search rules) may

pub runs_may : (more : ℕ) (begun : Bool) (start : Start) (ws : List Word) → MayBatch (runs_from more begun start ws)
runs_may more begun start [] = one_first start more false [] (All-nil (λ (r : Run). IsTrue (may_have r.batch)))
runs_may more begun start (words.Save ∷ rest) = one_first start 0 true (runs_from more false Same rest) (runs_may more false Same rest)
runs_may more begun start (words.Prolong ∷ rest) = one_first start 0 true (runs_from more false Same rest) (runs_may more false Same rest)
runs_may more begun start (words.Crash crash ∷ rest) = one_first start 0 false (runs_from more false Same rest) (runs_may more false Same rest)
runs_may more true start (words.Restart next ∷ rest) = one_first start 0 false (runs_from more false (start_at next) rest) (runs_may more false (start_at next) rest)
runs_may more false start (words.Restart next ∷ rest) = runs_may more false (start_at next) rest
runs_may more begun start (words.Pass ∷ rest) = one_more words.Pass (runs_from more true start rest) (runs_may more true start rest)
runs_may more begun start (words.LoseRequest ∷ rest) = one_more words.LoseRequest (runs_from more true start rest) (runs_may more true start rest)
runs_may more begun start (words.LoseReply ∷ rest) = one_more words.LoseReply (runs_from more true start rest) (runs_may more true start rest)
runs_may more begun start (words.Cut size ∷ rest) = one_more (words.Cut size) (runs_from more true start rest) (runs_may more true start rest)
runs_may more begun start (words.Stale number ∷ rest) = one_more (words.Stale number) (runs_from more true start rest) (runs_may more true start rest)
runs_may more begun start (words.Again number ∷ rest) = one_more (words.Again number) (runs_from more true start rest) (runs_may more true start rest)

saved_may : (runs : List Run) → MayBatch runs → MayBatch (with_last_saved runs)
saved_may [] may = may
saved_may (run ∷ []) may = one_kept run [] (All-head (λ (r : Run). IsTrue (may_have r.batch)) run [] may) may
  where
    one_kept : (run : Run) (runs : List Run) → IsTrue (may_have run.batch) → MayBatch (run ∷ runs) → MayBatch (record run { save = true } ∷ runs)
    one_kept run runs own may =
        All-cons (λ (r : Run). IsTrue (may_have r.batch)) (record run { save = true }) runs own (All-tail (λ (r : Run). IsTrue (may_have r.batch)) run runs may)
saved_may (run ∷ other ∷ runs) may =
    All-cons (λ (r : Run). IsTrue (may_have r.batch)) run (with_last_saved (other ∷ runs)) (All-head (λ (r : Run). IsTrue (may_have r.batch)) run (other ∷ runs) may)
    (saved_may (other ∷ runs) (All-tail (λ (r : Run). IsTrue (may_have r.batch)) run (other ∷ runs) may))

pub before_may : (ws : List Word) → MayBatch (with_last_saved (runs_from 0 false Fresh ws))
before_may ws = saved_may (runs_from 0 false Fresh ws) (runs_may 0 false Fresh ws)

pub if_ok : {A E : Type 0} (P Q : A → Type 0) (r : Result A E) → ((x : A) → P x → Q x) → IfOk r P → IfOk r Q
if_ok P Q (Ok x) to holds = to x holds
if_ok P Q (Err e) to holds = tt
