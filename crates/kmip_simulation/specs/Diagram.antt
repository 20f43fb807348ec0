-- What is drawn of a simulation: a sequence diagram in the language of mermaid, with an arrow for each message.
-- Source: own (text): what the program prints; the arrows are those of mermaid's sequence diagrams.
use Rattle.std.specs.Prelude.{ℕ, nat_le, ◌==◌, List, [], ◌∷◌, ◌++◌, length, codes, Option, Some, None, if◌then◌else◌}
use Rattle.std.specs.Fmt.{decimal}
use Rattle.std.specs.List.{flat_map}
use Rattle.kmip_scripted.specs.Scenes.{Scene}
use Rattle.kmip_scripted.specs.declared.word.Word.{Word}
use Rattle.kmip_scripted.specs.declared.word.Word.TheVariants.{LoseRequest, LoseReply, Cut, Stale}
use Rattle.kmip_trace.specs.Questions.{question_text}
use Rattle.kmip_trace.specs.Answers.{answer_text}
use Rattle.kmip_simulation.specs.Tracing.{Telling, ended_text, told_text}

-- A byte of a text as mermaid reads it: `;` and `#`, which end a text there, are written by their numbers.
abbrev pub drawn_byte : ℕ → List ℕ
drawn_byte byte = if byte == 59 then codes "#59;" else if byte == 35 then codes "#35;" else byte ∷ []

-- a text as mermaid reads it
abbrev pub drawn_text : List ℕ → List ℕ
drawn_text text = flat_map drawn_byte text

-- what an arrow says of a request: its number, and what it asks
abbrev pub drawn_request : ℕ → List ℕ → List ℕ
drawn_request number request = decimal number ++ codes " " ++ drawn_text (question_text request)

-- the arrow of a request that arrives at the server
abbrev pub arrived_request : ℕ → List ℕ → List ℕ
arrived_request number request = codes "    C->>S: " ++ drawn_request number request ++ codes "\n"

-- the arrow of a request that is lost
abbrev pub lost_request : ℕ → List ℕ → List ℕ
lost_request number request = codes "    C-xS: " ++ drawn_request number request ++ codes "\n"

-- the arrow of a request of which only so many bytes arrive
abbrev pub cut_request : ℕ → List ℕ → ℕ → List ℕ
cut_request number request size =
    codes "    C-xS: " ++ drawn_request number request ++ (codes ", cut after " ++ decimal size ++ codes " bytes\n")

-- the arrow of a reply that is lost
abbrev pub lost_reply : List ℕ
lost_reply = codes "    S-xC: reply lost\n"

-- the arrows of a request of which so many bytes arrive: where these are all, it arrives, and its reply is lost
abbrev pub cut_arrows : ℕ → List ℕ → ℕ → List ℕ
cut_arrows number request size =
    if nat_le (length request) size then arrived_request number request ++ lost_reply else cut_request number request size

-- the arrow of the reply to a request, where it is handed over
abbrev pub handed_reply : List ℕ → Option (List ℕ) → List ℕ
handed_reply request reply = codes "    S->>C: " ++ drawn_text (answer_text request reply) ++ codes "\n"

-- the arrow of an earlier reply of a number, where there is one, which is handed over for a request
abbrev pub stale_reply : ℕ → List ℕ → Option (List ℕ) → List ℕ
stale_reply number request None = []
stale_reply number request (Some reply) =
    codes "    S-->>C: stale " ++ decimal number ++ codes ": " ++ drawn_text (answer_text request (Some reply)) ++ codes "\n"

-- the arrows of an exchange, by the word that it followed: what became of its request, and what was handed over
abbrev pub exchange_arrows : ℕ → List ℕ → Word → Option (List ℕ) → List ℕ
exchange_arrows number request LoseRequest answer = lost_request number request
exchange_arrows number request LoseReply answer = arrived_request number request ++ lost_reply
exchange_arrows number request (Cut size) answer = cut_arrows number request size
exchange_arrows number request (Stale place) answer = lost_request number request ++ stale_reply place request answer
exchange_arrows number request word answer = arrived_request number request ++ handed_reply request answer

-- the arrow of a request that is delivered again, where there is such a request
abbrev pub again_arrow : ℕ → Option (List ℕ) → List ℕ
again_arrow number None = codes "    Note over C,S: again " ++ decimal number ++ codes ": no such request\n"
again_arrow number (Some request) = codes "    C-->>S: again " ++ drawn_request number request ++ codes "\n"

-- the note that a run begins
abbrev pub begun_note : ℕ → List ℕ
begun_note number = codes "    Note over C,S: run " ++ decimal number ++ codes "\n"

-- the note that a run ends, with the words that are taken there
abbrev pub ended_note : ℕ → List Word → List ℕ
ended_note number words = codes "    Note over C,S: " ++ ended_text number words ++ codes "\n"

-- an arrow for each message, and a note where a run begins or ends
abbrev pub arrows : Telling
arrows = record { begun = begun_note; again = again_arrow; exchanged = exchange_arrows; ended = ended_note }

-- the first lines: what is drawn, and between whom
abbrev pub diagram_head : List ℕ
diagram_head = codes "sequenceDiagram\n    participant C as kmipctl\n    participant S as key server\n"

-- the diagram of all that happened over a link that followed these words
abbrev pub diagram_text : List Word → Scene → List ℕ
diagram_text words link = diagram_head ++ told_text arrows words link
