-- One client amid others of its plan: what passes from its exchanges, from what others ask, and from what arrives;
-- and how many exchanges it may still make that go well.
-- Source: own (law).
use Rattle.std.specs.Prelude.{◌*◌, ◌+◌, ◌∷◌, [], Bool, List, Option, false, filter, length, not, true, ℕ, ⊤}
use Rattle.std.specs.List.{All}
use Rattle.kmip_batch_items.specs.declared.request.Request.{Request}
use Rattle.kmip_client.specs.Asking.{IsAbout}
use Rattle.kmip_client.specs.Held.{Held}
use Rattle.kmip_client.specs.declared.knowledge.Knowledge.{Knowledge}
use Rattle.kmip_client.specs.declared.question.Question.{Question}
use Rattle.kmip_plan.specs.Chains.{chain}
use Rattle.kmip_plan.specs.declared.key.Key.{Key}
use Rattle.kmip_protocol.specs.Clean.{IsClean, strange_handed}
use Rattle.kmip_protocol.specs.Exchanges.{HandsOver, with_requests}
use Rattle.kmip_protocol.specs.Losing.{left_all, was_asked}
use Rattle.kmip_protocol.specs.Moves.{Delivered}
use Rattle.kmip_protocol.specs.Past.{Past, is_planned}
use Rattle.kmip_protocol.specs.Sound.{IsHarmless, Sound}
use Rattle.kmip_protocol.specs.Turns.{known_then}

-- What one client knows at a moment, and all that has happened by then.
pub record Standing : Type 0 where
  pub knowns : List Knowledge
  pub past : Past

-- The past is sound, and what the client knows is true.
pub record StandsWell (keys : List Key) (s : Standing) : Type 0 where
  pub sound : Sound keys s.past
  pub held : Held s.past.objects keys s.knowns

-- What passes next. An exchange of the client's own stands in one piece; nothing is said of when others ask within it.
pub data Passing : Type 0 where
  -- others ask these requests
  OthersAsk : List Request → Passing
  -- what was asked arrives, or not: this is the past then
  Arrives : Past → Passing
  -- the client makes an exchange: whether it goes well, the places of the keys that it asks about, its message, what
  -- is handed over, and the past then
  Exchanges : Bool → List ℕ → Question → Option (List ℕ) → Past → Passing

-- The exchange goes well, where it is said to.
abbrev pub IsWell : Bool → Type 0 → Type 0
IsWell true clean = clean
IsWell false clean = ⊤

-- When it may pass. Others ask what may be asked, or look. An exchange is one over an honest link.
abbrev pub MayPass : List Key → Passing → Standing → Type 0
MayPass keys (OthersAsk requests) s = All (IsHarmless keys s.past.objects) requests
MayPass keys (Arrives past) s = Delivered (is_planned keys) s.past past
MayPass keys (Exchanges well places question answer past) s =
    IsAbout keys s.knowns places question
    × HandsOver (is_planned keys) s.past question.bytes answer past
    × IsWell well (IsClean (is_planned keys) s.past question.bytes answer past)

-- What the client knows then, and what has happened.
abbrev pub after_passing : List Key → Passing → Standing → Standing
after_passing keys (OthersAsk requests) s = record s { past = with_requests requests s.past }
after_passing keys (Arrives past) s = record s { past = past }
after_passing keys (Exchanges well places question answer past) s = record { knowns = known_then keys question answer s.knowns; past = past }

-- All of it may pass, one after the other.
abbrev pub AllMayPass : List Key → List Passing → Standing → Type 0
AllMayPass keys [] s = ⊤
AllMayPass keys (passing ∷ passings) s = MayPass keys passing s × AllMayPass keys passings (after_passing keys passing s)

-- What the client knows after all of it, and what has happened.
abbrev pub after_passings : List Key → List Passing → Standing → Standing
after_passings keys [] s = s
after_passings keys (passing ∷ passings) s = after_passings keys passings (after_passing keys passing s)

-- How many exchanges of the client went well.
abbrev pub went_well : List Passing → ℕ
went_well [] = 0
went_well (Exchanges true places question answer past ∷ passings) = 1 + went_well passings
went_well (passing ∷ passings) = went_well passings

-- What its other exchanges cost: two for each key that they asked about, and one for each strange reply.
abbrev pub all_cost : List Key → List Passing → ℕ
all_cost keys [] = 0
all_cost keys (Exchanges false places question answer past ∷ passings) =
    2 * length places + strange_handed (is_planned keys) question.bytes answer + all_cost keys passings
all_cost keys (passing ∷ passings) = all_cost keys passings

-- How many steps of a key nobody ever asked.
abbrev pub unasked_of : Key → List Request → ℕ
unasked_of key requests = length (filter (λ step. not (was_asked key requests step)) (chain key.target))

-- How many steps of all keys nobody ever asked.
abbrev pub unasked : List Key → List Request → ℕ
unasked [] requests = 0
unasked (key ∷ keys) requests = unasked_of key requests + unasked keys requests

-- How many exchanges of the client may be left amid others: those that may be left for it alone, and one for each
-- step that somebody may still ask.
abbrev pub left_amid : List Key → Standing → ℕ
left_amid keys s = left_all keys s.knowns s.past + unasked keys s.past.requests
