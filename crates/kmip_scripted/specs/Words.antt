-- What each word of a script does, and so what an exchange and the end of a run do, word by word.
-- Source: own (text): the standard knows no scripts. `AreBegun` and `IsBegun` are own (view).
use Rattle.std.specs.Prelude.{◌≡◌, ◌⊎◌, ◌==◌, ◌-◌, ℕ, nat_le, pos, Bool, true, false, not, ◌&&◌, List, [], ◌∷◌, ◌++◌, filter, length, Option, Some, None, if◌then◌else◌}
use Rattle.std.specs.List.{slice_get}
use Rattle.std.specs.Option.{option_flatten}
use Rattle.kmip_messages.specs.Items.{requests_in}
use Rattle.kmip_server.specs.Batching.{batch_reply}
use Rattle.kmip_protocol.specs.Clean.{strange_handed}
use Rattle.kmip_scripted.specs.declared.word.Word.{Word}
use Rattle.kmip_scripted.specs.declared.word.Word.TheVariants.{Pass, LoseRequest, LoseReply, Cut, Stale, Again, Save, Prolong, Restart, Crash}
use Rattle.kmip_scripted.specs.Counting.{counted, every_name}
use Rattle.kmip_scripted.specs.Disturbing.{is_disturbed, is_repeated}
use Rattle.kmip_scripted.specs.Scenes.{Scene, disturbances_in, with_disturbances}
use Rattle.kmip_scripted.specs.Serving.{IsHalfServed, with_served}

-- The word is `again`, which ends no exchange.
abbrev pub is_again : Word → Bool
is_again (Again number) = true
is_again word = false

-- The word starts the next run from a save or from nothing.
abbrev pub is_restart : Word → Bool
is_restart (Restart start) = true
is_restart word = false

-- The word ends a run.
abbrev pub ends_run : Word → Bool
ends_run Save = true
ends_run Prolong = true
ends_run (Restart start) = true
ends_run (Crash crash) = true
ends_run word = false

-- The word ends the runs of a plan, and those after it are of a further one.
abbrev pub is_prolong : Word → Bool
is_prolong Prolong = true
is_prolong word = false

-- How many words `prolong` there are.
abbrev pub prolongings : List Word → ℕ
prolongings words = length (filter is_prolong words)

-- The word ends a run in a crash of its machine.
abbrev pub is_crash : Word → Bool
is_crash (Crash crash) = true
is_crash word = false

-- How many words `crash` there are.
abbrev pub crashes : List Word → ℕ
crashes words = length (filter is_crash words)

-- The word is of an exchange.
abbrev pub is_exchange : Word → Bool
is_exchange word = not (is_again word) && not (ends_run word)

-- The message of a number, from 1; none where there is none.
abbrev pub message_at : ℕ → List (List ℕ) → Option (List ℕ)
message_at number messages = if number == 0 then None else slice_get messages (number - 1)

-- The word that the exchange of a number followed, from 1; none where there is no such exchange.
abbrev pub word_at : ℕ → List Word → Option Word
word_at number words = if number == 0 then None else slice_get words (number - 1)

-- What the exchange of a number handed over, from 1; none where it handed over nothing, or there is no
-- such exchange.
abbrev pub answer_at : ℕ → List (Option (List ℕ)) → Option (List ℕ)
answer_at number answers = if number == 0 then None else option_flatten (slice_get answers (number - 1))

-- The link with these words left.
abbrev pub with_words : List Word → Scene → Scene
with_words words s = record s { words = words }

-- A message is delivered, where there is one.
abbrev pub with_delivered : Option (List ℕ) → Scene → Scene
with_delivered None s = s
with_delivered (Some message) s = with_served message s

-- What a word does between two exchanges: `again` delivers the request of its number.
abbrev pub after_word : Word → Scene → Scene
after_word (Again number) s = with_delivered (message_at number s.asked) s
after_word word s = s

-- The words that are done without an exchange. Before one, these are those that repeat; at the end of a
-- run, all that are left of it.
abbrev pub goes_on : Bool → Word → Bool
goes_on true word = not (ends_run word)
goes_on false word = is_again word

-- These words are done and taken, as long as they go on.
abbrev pub after_words : Bool → List Word → Scene → Scene
after_words at_end [] s = s
after_words at_end (word ∷ words) s = if goes_on at_end word then after_words at_end words (with_words words (after_word word s)) else s

-- A message is delivered by half, where there is one.
abbrev pub IsHalfDelivered : Option (List ℕ) → Scene → Scene → Type 0
IsHalfDelivered None s new = ⊥
IsHalfDelivered (Some message) s new = IsHalfServed message s new

-- A word is done by half between two exchanges: `again` delivers its request by half.
abbrev pub IsHalfDone : Word → Scene → Scene → Type 0
IsHalfDone (Again number) s new = IsHalfDelivered (message_at number s.asked) s new
IsHalfDone word s new = ⊥

-- A beginning of the words that go on is done, and perhaps the next one by half.
abbrev pub AreBegun : Bool → List Word → Scene → Scene → Type 0
AreBegun at_end [] s new = new ≡ s
AreBegun at_end (word ∷ words) s new =
    (new ≡ s)
    ⊎ ((goes_on at_end word ≡ true) × (IsHalfDone word s new ⊎ AreBegun at_end words (with_words words (after_word word s)) new))

-- The word of the next exchange: `pass` where none is left in the run.
abbrev pub exchange_word : List Word → Word
exchange_word [] = Pass
exchange_word (word ∷ words) = if is_exchange word then word else Pass

-- The words that are left after the word of the next exchange is taken.
abbrev pub words_after_exchange : List Word → List Word
words_after_exchange [] = []
words_after_exchange (word ∷ words) = if is_exchange word then words else word ∷ words

-- What the word of an exchange hands over, and what it leaves.
abbrev pub play : Word → List ℕ → Scene → Option (List ℕ) × Scene
play LoseRequest request s = (None, s)
play LoseReply request s = (None, with_served request s)
play (Cut size) request s = (None, if nat_le (length request) size then with_served request s else s)
play (Stale number) request s = (message_at number s.given, s)
play word request s = (Some (batch_reply s.stock request (pos 0)), with_served request s)

-- The request joins those asked.
abbrev pub with_request : List ℕ → Scene → Scene
with_request request s = record s { asked = s.asked ++ request ∷ [] }

-- The scene in which the word of the exchange is taken: the request was asked, and the words before it
-- are done.
abbrev pub before_play : List ℕ → Scene → Scene
before_play request s = after_words false s.words (with_request request s)

-- What the next word of an exchange hands over, and what it leaves once it is taken and done.
abbrev pub played : List ℕ → Scene → Option (List ℕ) × Scene
played request s = play (exchange_word s.words) request (with_words (words_after_exchange s.words) s)

-- What was sent, the word that was followed and what is handed over are kept.
abbrev pub with_handed : List ℕ → Word → Option (List ℕ) × Scene → Option (List ℕ) × Scene
with_handed request word p =
    (p.0, record p.1 { sent = p.1.sent ++ request ∷ []; followed = p.1.followed ++ word ∷ []; handed = p.1.handed ++ p.0 ∷ [] })

-- The exchange is counted, where it was disturbed: by the words before it, its own word and what it hands
-- over. It is counted with its requests, and the strange replies among what it hands over.
abbrev pub with_counted : List ℕ → Bool → Word → Option (List ℕ) × Scene → Option (List ℕ) × Scene
with_counted request repeated word p = (
  p.0,
  with_disturbances
      (counted (is_disturbed word repeated p.0) (length (requests_in request)) (strange_handed every_name request p.0) (disturbances_in p.1)) p.1,
)

-- What an exchange hands over, and what it leaves. The request joins those asked, the words that repeat
-- and stand next are done, then the word of the exchange is. What was sent and is handed over is kept.
abbrev pub exchange : List ℕ → Scene → Option (List ℕ) × Scene
exchange request s =
    with_counted request (is_repeated (length s.asked) s.words) (exchange_word (before_play request s).words)
    (with_handed request (exchange_word (before_play request s).words) (played request (before_play request s)))

-- Where memory runs out before the word of an exchange is taken: nothing was done, or the request joined,
-- a beginning of the words that repeat was done, and perhaps the next one by half.
abbrev pub IsPreparing : List ℕ → Scene → Scene → Type 0
IsPreparing request s new = (new ≡ s) ⊎ AreBegun false s.words (with_request request s) new

-- The word of an exchange is done by half, where it serves the request.
abbrev pub IsHalfPlayed : Word → List ℕ → Scene → Scene → Type 0
IsHalfPlayed LoseRequest request s new = ⊥
IsHalfPlayed (Cut size) request s new = (nat_le (length request) size ≡ true) × IsHalfServed request s new
IsHalfPlayed (Stale number) request s new = ⊥
IsHalfPlayed word request s new = IsHalfServed request s new

-- Where memory runs out at the word of an exchange: it is taken, and not done, or done, or done by half.
abbrev pub IsPlaying : List ℕ → Scene → Scene → Type 0
IsPlaying request s new =
    (new ≡ with_words (words_after_exchange s.words) s) ⊎ (new ≡ (played request s).1)
    ⊎ IsHalfPlayed (exchange_word s.words) request (with_words (words_after_exchange s.words) s) new

-- What an exchange leaves where memory runs out: a beginning of its steps.
abbrev pub IsBegun : List ℕ → Scene → Scene → Type 0
IsBegun request s new = IsPreparing request s new ⊎ IsPlaying request (before_play request s) new

-- The words of the runs to come. Parts without words that end in `restart` are no runs.
abbrev pub next_words : List Word → List Word
next_words [] = []
next_words (word ∷ words) = if is_restart word then next_words words else word ∷ words

-- The words after the one that ends the run.
abbrev pub words_after_run : List Word → List Word
words_after_run [] = []
words_after_run (word ∷ words) = next_words words

-- A run ends here, after as many messages as were sent.
abbrev pub with_ended : Scene → Scene
with_ended s = record s { ended = s.ended ++ length s.sent ∷ [] }

-- What the end of a run leaves. Of the words left in it those that repeat are done and the others
-- dropped, the end is noted, and the word that ends it is taken.
abbrev pub after_run : Scene → Scene
after_run s = with_words (words_after_run (after_words true s.words s).words) (with_ended (after_words true s.words s))
