-- What `answer` writes for its whole input.
-- Source: own (text): what the program prints.
use Rattle.std.specs.Prelude.{ℕ, pos, List, [], ◌∷◌, ◌++◌, replicate}
use Rattle.hex.specs.Hex.{encode_lower}
use Rattle.kmip_store.specs.Stock.{Stock, empty_stock, most_room}
use Rattle.kmip_server.specs.Batching.{batch_reply, stock_after_batch}
use Rattle.kmip_message_commands.specs.LineText.{lines_text, input_text}

-- What is written for a message: the server's reply at the time 0, in hexadecimal, and a line feed.
abbrev pub reply_text : Stock → List ℕ → List ℕ
reply_text stock message = encode_lower (batch_reply stock message (pos 0)) ++ 10 ∷ []

-- The records at first: none, room for 10,000, and the stream of a seed of 32 zeros.
abbrev pub first_stock : Stock
first_stock = empty_stock (replicate 32 0) most_room

-- The replies of one server to lines, each to a message as the messages before it left the records.
abbrev pub answer_lines : List (List ℕ) → List ℕ
answer_lines lines = lines_text reply_text stock_after_batch first_stock lines

-- What `answer` writes for its input: the replies to its lines.
abbrev pub answer_text : List ℕ → List ℕ
answer_text input = input_text reply_text stock_after_batch first_stock input
