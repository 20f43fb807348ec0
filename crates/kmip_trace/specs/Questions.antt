-- What was asked, in words.
-- Source: own: what the program prints.
use Rattle.std.specs.Prelude.{ℕ, List, [], ◌∷◌, ◌++◌, drop, codes, Option}
use Rattle.std.specs.List.{flat_map}
use Rattle.std.specs.Option.{unwrap_or}
use Rattle.kmip_messages.specs.Items.{requests_in}
use Rattle.kmip_batch_items.specs.Operations.{ask_operation}
use Rattle.kmip_batch_items.specs.declared.request.Request.{Request}
use Rattle.kmip_trace.specs.Names.{operation_word}

-- the name in an id: what stands behind the operation, which is one byte
abbrev pub id_name : Option (List ℕ) → List ℕ
id_name id = drop 1 (unwrap_or id [])

-- the key that a request is about: its id is the operation in one byte, and the key's name
abbrev pub name_asked : Request → List ℕ
name_asked request = id_name request.id

-- the operation that a request asks, and the key that it is about
abbrev pub request_text : Request → List ℕ
request_text request = operation_word (ask_operation request.ask) ++ codes " " ++ name_asked request

-- the same of one more request, behind others
abbrev pub next_request_text : Request → List ℕ
next_request_text request = codes ", " ++ request_text request

-- what some requests ask, in their order
abbrev pub requests_text : List Request → List ℕ
requests_text [] = codes "no question"
requests_text (request ∷ others) = request_text request ++ flat_map next_request_text others

-- what some bytes ask: their requests, as questions that are refused are passed over
abbrev pub question_text : List ℕ → List ℕ
question_text message = requests_text (requests_in message)
