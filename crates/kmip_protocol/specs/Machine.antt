-- The plan machine: the whole of what may happen, with no word of identifiers, bytes, look-ups, doubts or
-- retries.
-- Source: own (view).
use Rattle.std.specs.Prelude.{◌≡◌, ◌≤◌, ℕ, ◌+◌, ◌==◌, nat_eq, List, [], ◌∷◌, ◌++◌, map, Option, Some, None, ⊤, if◌then◌else◌}
use Rattle.std.specs.Cmp.Lexicographic.{pointwise}
use Rattle.std.specs.List.{Contains, filter_map}
use Rattle.std.specs.Option.{option_map, option_and_then}
use Rattle.kmip_batch_items.specs.declared.request.Request.{Request}
use Rattle.kmip_objects.specs.declared.step.Step.{Step}
use Rattle.kmip_plan.specs.Chains.{step_place}
use Rattle.kmip_plan.specs.Plans.{IsPlanned, key_named}
use Rattle.kmip_plan.specs.declared.key.Key.{Key}
use Rattle.kmip_client.specs.Places.{position}
use Rattle.kmip_server.specs.declared.effect.Effect.{Effect}
use Rattle.kmip_protocol.specs.Past.{Past}
use Rattle.kmip_protocol.specs.Headline.{step_of_ask}

-- a step of the key with the name, by its place on the key's way, from 1
pub record Pair : Type 0 where
  pub name : List ℕ
  pub place : ℕ

-- How far each name has come, the pairs that were ever added, and those that moved a name on, in order.
pub record Machine : Type 0 where
  pub at : List ℕ → ℕ
  pub pairs : List Pair
  pub moved : List Pair

-- the machine at its start: no name has come anywhere, and there are no pairs
abbrev pub at_start : Machine
at_start = record { at = λ name. 0; pairs = []; moved = [] }

-- a turn of the machine: a pair is added, or one that was added is taken
pub data Turn : Type 0 where
  Add : Pair → Turn
  Take : Pair → Turn

-- when a turn may be made: a pair is added once its name has come at least to the place before it, and is
-- taken any number of times once it was added
abbrev pub MayTurn : Turn → Machine → Type 0
MayTurn (Add pair) m = pair.place ≤ m.at pair.name + 1
MayTurn (Take pair) m = Contains m.pairs pair

-- the machine after a pair that is taken has moved its name on
abbrev pub with_place : Pair → Machine → Machine
with_place pair m = record m {
  at = λ name. if pointwise nat_eq name pair.name then pair.place else m.at name;
  moved = m.moved ++ pair ∷ [];
}

-- the machine after a turn: a pair that is taken moves its name on where that has come to the place before
-- it, and does nothing else
abbrev pub after_turn : Turn → Machine → Machine
after_turn (Add pair) m = record m { pairs = m.pairs ++ pair ∷ [] }
after_turn (Take pair) m = if m.at pair.name + 1 == pair.place then with_place pair m else m

-- several turns may be made, one after the other
abbrev pub AllMayTurn : List Turn → Machine → Type 0
AllMayTurn [] m = ⊤
AllMayTurn (turn ∷ turns) m = MayTurn turn m × AllMayTurn turns (after_turn turn m)

-- the machine after several turns
abbrev pub after_turns : List Turn → Machine → Machine
after_turns [] m = m
after_turns (turn ∷ turns) m = after_turns turns (after_turn turn m)

-- the pair of a step of a planned name
abbrev pub pair_of : List Key → List ℕ → Step → Option Pair
pair_of keys name step = option_map (λ key. record { name = name; place = step_place key.target step }) (key_named name keys)

-- the pair of a step by the id of its request
abbrev pub pair_by_id : List Key → Option (List ℕ) → Step → Option Pair
pair_by_id keys None step = None
pair_by_id keys (Some []) step = None
pair_by_id keys (Some (operation ∷ name)) step = pair_of keys name step

-- the pair that a request asks for, if it asks a step of a planned name
abbrev pub pair_asked : List Key → Request → Option Pair
pair_asked keys request = option_and_then (λ step. pair_by_id keys request.id step) (step_of_ask request.ask)

-- the pair of an effect
abbrev pub pair_done : List Key → Effect → Option Pair
pair_done keys effect = pair_of keys effect.name effect.step

-- The machine is an image of the past: its pairs are the steps ever asked, the ones that moved it are the
-- effects in their order, and its places are those of the objects.
pub record Mirrors (keys : List Key) (p : Past) (m : Machine) : Type 0 where
  pub places : (key : Key) → IsPlanned keys key → m.at key.attrs.name ≡ position key p.objects
  pub pairs : m.pairs ≡ filter_map (pair_asked keys) p.requests
  pub moved : map Some m.moved ≡ map (pair_done keys) p.effects

-- Some turns of the machine, from its start, give an image of the past.
pub record IsMirrored (keys : List Key) (p : Past) : Type 0 where
  pub turns : List Turn
  pub may : AllMayTurn turns at_start
  pub image : Mirrors keys p (after_turns turns at_start)
