-- What is written of a simulation, a line each: its exchanges, what is delivered again between them, and the ends of its runs.
-- Source: own (text): what the program prints, with the words of a script as they are read.
use Rattle.std.specs.Prelude.{ℕ, nat_le, List, [], ◌++◌, codes, Option, Some, None, if◌then◌else◌}
use Rattle.std.specs.Fmt.{decimal}
use Rattle.std.specs.List.{flat_map}
use Rattle.kmip_scripted.specs.Scenes.{Scene}
use Rattle.kmip_scripted.specs.ScriptTexts.{left_word}
use Rattle.kmip_scripted.specs.Words.{answer_at, message_at, word_at}
use Rattle.kmip_scripted.specs.declared.word.Word.{Word}
use Rattle.kmip_scripted.specs.declared.word.Word.TheVariants.{Pass, LoseRequest, LoseReply, Cut, Stale, Again, Save, Prolong, Restart, Crash}
use Rattle.kmip_trace.specs.Questions.{question_text}
use Rattle.kmip_trace.specs.Answers.{answer_text}
use Rattle.kmip_simulation.specs.declared.moment.Moment.{Moment}
use Rattle.kmip_simulation.specs.declared.moment.Moment.TheVariants.{Begun, Repeated, Exchanged, Ended}
use Rattle.kmip_simulation.specs.Moments.{moments_of}

-- the save that a run starts from, or none
abbrev pub start_text : Option ℕ → List ℕ
start_text None = codes "none"
start_text (Some number) = decimal number

-- a word of a script, as it stands there
abbrev pub word_text : Word → List ℕ
word_text Pass = codes "pass"
word_text LoseRequest = codes "lose-request"
word_text LoseReply = codes "lose-reply"
word_text (Cut size) = codes "cut " ++ decimal size
word_text (Stale number) = codes "stale " ++ decimal number
word_text (Again number) = codes "again " ++ decimal number
word_text Save = codes "save"
word_text Prolong = codes "prolong"
word_text (Restart start) = codes "restart " ++ start_text start
word_text (Crash crash) = codes "crash " ++ decimal crash.calls ++ codes " " ++ left_word crash.left

-- the front of the line of an exchange: what was asked, and the word that it followed
abbrev pub exchange_front : ℕ → List ℕ → Word → List ℕ
exchange_front number request word =
    codes "exchange " ++ decimal number ++ codes " " ++ question_text request ++ codes ", " ++ word_text word ++ codes ": "

-- the line of an exchange: its front, and what it handed over
abbrev pub exchange_line : ℕ → List ℕ → Word → Option (List ℕ) → List ℕ
exchange_line number request word answer = exchange_front number request word ++ answer_text request answer ++ codes "\n"

-- the request of a number, where it is among the first of which there are so many
abbrev pub early_request : ℕ → ℕ → List (List ℕ) → Option (List ℕ)
early_request number asked messages = if nat_le number asked then message_at number messages else None

-- the line of a request that is delivered again: what it asks, where there is such a request
abbrev pub again_line : ℕ → Option (List ℕ) → List ℕ
again_line number None = codes "again " ++ decimal number ++ codes ": no such request\n"
again_line number (Some request) = codes "again " ++ decimal number ++ codes " " ++ question_text request ++ codes "\n"

-- a word that is taken at the end of a run, behind others
abbrev pub taken_text : Word → List ℕ
taken_text word = codes ", " ++ word_text word

-- that a run ends, and the words that are taken there
abbrev pub ended_text : ℕ → List Word → List ℕ
ended_text number words = codes "run " ++ decimal number ++ codes " ends" ++ flat_map taken_text words

-- the line of the end of a run
abbrev pub ended_line : ℕ → List Word → List ℕ
ended_line number words = ended_text number words ++ codes "\n"

-- How the moments over a link are told: that a run begins, that a request is delivered again where there is such a request, an exchange,
-- and that a run ends.
pub record Telling : Type 0 where
  pub begun : ℕ → List ℕ
  pub again : ℕ → Option (List ℕ) → List ℕ
  pub exchanged : ℕ → List ℕ → Word → Option (List ℕ) → List ℕ
  pub ended : ℕ → List Word → List ℕ

-- an exchange, where what was asked and the word are known; every exchange that was made has both
abbrev pub told_exchange : Telling → ℕ → Option (List ℕ) → Option Word → Option (List ℕ) → List ℕ
told_exchange telling number None word answer = []
told_exchange telling number (Some request) None answer = []
told_exchange telling number (Some request) (Some word) answer = telling.exchanged number request word answer

-- a moment over a link
abbrev pub told_moment : Telling → Scene → Moment → List ℕ
told_moment telling link (Begun number) = telling.begun number
told_moment telling link (Repeated number asked) = telling.again number (early_request number asked link.asked)
told_moment telling link (Exchanged number) =
    told_exchange telling number (message_at number link.asked) (word_at number link.followed) (answer_at number link.handed)
told_moment telling link (Ended number words) = telling.ended number words

-- all that happened over a link that followed these words, in its order
abbrev pub told_text : Telling → List Word → Scene → List ℕ
told_text telling words link = flat_map (told_moment telling link) (moments_of words link)

-- a line each; that a run begins has none
abbrev pub lines : Telling
lines = record { begun = λ number. []; again = again_line; exchanged = exchange_line; ended = ended_line }

-- all that happened over a link that followed these words, in lines
abbrev pub trace_text : List Word → Scene → List ℕ
trace_text words link = told_text lines words link
