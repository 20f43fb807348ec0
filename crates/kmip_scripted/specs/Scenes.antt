-- What a link in memory holds at one time: the records of its server, the messages as bytes, and the
-- words of its script that are left; and what that says of the past.
-- Source: own (view), over KMIP 2.1, Message Structure.
use Rattle.std.specs.Prelude.{◌≡◌, ⊤, ℕ, List, [], Option, refl}
use Rattle.std.specs.List.{flat_map}
use Rattle.kmip_messages.specs.Items.{replies_in, requests_in}
use Rattle.kmip_server.specs.Shown.{objects_in, room_in}
use Rattle.kmip_store.specs.Stock.{Stock}
use Rattle.kmip_server.specs.declared.effect.Effect.{Effect}
use Rattle.kmip_protocol.specs.Clean.{Disturbances}
use Rattle.kmip_protocol.specs.Past.{Past}
use Rattle.kmip_protocol.specs.Seen.{Seen}
use Rattle.kmip_scripted.specs.declared.word.Word.{Word}

-- What a link in memory holds.
pub record Scene : Type 0 where
  -- the records of the server
  pub stock : Stock
  -- the bytes of each request ever asked, and of each reply ever given
  pub asked : List (List ℕ)
  pub given : List (List ℕ)
  -- what took effect
  pub effects : List Effect
  -- The bytes that each exchange sent, the word that it followed, and what it handed over: bytes, or none
  -- for a loss.
  pub sent : List (List ℕ)
  pub followed : List Word
  pub handed : List (Option (List ℕ))
  -- How many exchanges were disturbed, how many requests these sent, and how many replies about other
  -- keys they handed over.
  pub disturbed : ℕ
  pub disturbed_requests : ℕ
  pub strange : ℕ
  -- how many had been sent where each run ended
  pub ended : List ℕ
  -- the words that are left
  pub words : List Word

-- What has happened so far over the link.
abbrev pub past_in : Scene → Past
past_in s = record {
  room = room_in s.stock;
  objects = objects_in s.stock;
  requests = flat_map requests_in s.asked;
  replies = flat_map replies_in s.given;
  effects = s.effects;
  sent = s.sent;
  handed = s.handed;
}

-- A link to a server over which nothing has happened, with these words left.
abbrev pub scene_of : Stock → List Word → Scene
scene_of stock words = record {
  stock = stock;
  asked = [];
  given = [];
  effects = [];
  sent = [];
  followed = [];
  handed = [];
  disturbed = 0;
  disturbed_requests = 0;
  strange = 0;
  ended = [];
  words = words;
}

-- How many exchanges were disturbed, with their requests and their strange replies.
abbrev pub disturbances_in : Scene → Disturbances
disturbances_in s = record { disturbed = s.disturbed; requests = s.disturbed_requests; strange = s.strange }

-- The link with other counts of what was disturbed.
abbrev pub with_disturbances : Disturbances → Scene → Scene
with_disturbances d s = record s { disturbed = d.disturbed; disturbed_requests = d.requests; strange = d.strange }

-- What is seen of a link in memory. It is honest for any names, whatever its script, and calm for them once no
-- word is left: from then on it loses, delays and repeats nothing.
abbrev pub seen_in : Scene → Seen
seen_in s = record {
  past = past_in s;
  honest = λ names. ⊤;
  amid = λ keys. ⊤;
  calm = λ names. s.words ≡ [];
  failures = 0;
  disturbances = disturbances_in s;
  ended = s.ended;
  calm_is_honest = λ names none. tt;
  honest_is_amid = λ keys honest. tt;
  may_fail = λ names none. refl;
  fewer = λ names few among. (λ honest. honest, λ none. none);
}
