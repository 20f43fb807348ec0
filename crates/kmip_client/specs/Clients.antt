-- What a client is to its caller: what it knows of each key of a plan, whose turn it is, and how much it asks
-- at once.
-- Source: own (view).
use Rattle.std.specs.Prelude.{◌≡◌, ◌≢◌, ◌<◌, ℕ, ◌+◌, length, Bool, true, false, cond, List, [], ◌∷◌, map, Option, Some, is_some, slice_get, slice_set, if◌then◌else◌}
use Rattle.std.specs.List.{AllZip}
use Rattle.std.specs.Option.{option_map_or, option_and_then}
use Rattle.kmip_plan.specs.declared.key.Key.{Key}
use Rattle.kmip_client.specs.declared.knowledge.Knowledge.{Knowledge}
use Rattle.kmip_client.specs.declared.phase.Phase.{Phase}
use Rattle.kmip_client.specs.declared.standing.Standing.{Standing}
use Rattle.kmip_client.specs.declared.phase.Phase.TheVariants.{Look, Make, Check, Go}
use Rattle.kmip_client.specs.declared.verdict.Verdict.{Verdict}
use Rattle.kmip_client.specs.declared.verdict.Verdict.TheVariants.{Working}
use Rattle.kmip_client.specs.Knowledge.{fresh_knowledge, lose, is_working, verdict_of}

-- What a contract sees of a client: the keys of the plan, what is known of each, and the place at which the
-- next key is looked for. The last number is how many keys a message asks about at most.
pub record ClientState : Type 0 where
  pub keys : List Key
  pub knowns : List Knowledge
  pub next : ℕ
  pub batch : ℕ

-- A client at first: nothing is known, the first key has the turn, and a message asks about one key.
abbrev pub fresh : List Key → ClientState
fresh keys = record { keys = keys; knowns = map (λ key. fresh_knowledge) keys; next = 0; batch = 1 }

-- How many steps of the key at a place are known to be done; 0 where there is no key.
abbrev pub done_at : List Knowledge → ℕ → ℕ
done_at knowns place = option_map_or (λ known. known.done) (slice_get knowns place) 0

-- The identifier that is known of the key at a place.
abbrev pub identifier_at : List Knowledge → ℕ → Option (List ℕ)
identifier_at knowns place = option_and_then (λ known. known.identifier) (slice_get knowns place)

-- The verdict on the key at a place; that it is worked on where there is no key.
abbrev pub verdict_at : List Key → List Knowledge → ℕ → Verdict
verdict_at keys knowns place =
    option_map_or (λ key. option_map_or (λ known. verdict_of key known) (slice_get knowns place) Working) (slice_get keys place) Working

-- In this phase it is known how a key stands, so that its next step may be asked for: it has no object, or
-- its object was told of last.
abbrev pub tells : Phase → Bool
tells Look = false
tells Make = true
tells Check = false
tells Go = true

-- The last answer about the key at a place told how it stands: it has no object, or what its object is.
abbrev pub is_told_at : List Knowledge → ℕ → Bool
is_told_at knowns place = option_map_or (λ known. tells known.phase) (slice_get knowns place) false

-- What is known of the key at a place: its steps that are done, whether its identifier is known, the verdict
-- on it, and whether the last answer told how it stands.
abbrev pub standing_at : List Key → List Knowledge → ℕ → Standing
standing_at keys knowns place = record {
  done = done_at knowns place;
  is_identified = is_some (identifier_at knowns place);
  verdict = verdict_at keys knowns place;
  is_told = is_told_at knowns place;
}

-- A key whose answer did not come is looked at again, where it is worked on. Own (choice).
abbrev pub lost_working : Key → Knowledge → Knowledge
lost_working key known = if is_working key known then lose known else known

-- What is known, changed at a place for the key and the knowledge there; as it was where one of them is
-- missing.
abbrev pub changed_by : (Key → Knowledge → Knowledge) → List Knowledge → ℕ → Option Key → Option Knowledge → List Knowledge
changed_by f knowns place (Some key) (Some known) = slice_set knowns place (f key known)
changed_by f knowns place key known = knowns

-- What is known, changed for the key at a place.
abbrev pub changed_at : (Key → Knowledge → Knowledge) → List Key → List Knowledge → ℕ → List Knowledge
changed_at f keys knowns place = changed_by f knowns place (slice_get keys place) (slice_get knowns place)

-- The client once the answer about the key at a place did not come. Own (choice).
abbrev pub lost_at : ClientState → ℕ → ClientState
lost_at c place = record c { knowns = changed_at lost_working c.keys c.knowns place }

-- 1 where it is so, else 0.
abbrev pub one_if : Bool → ℕ
one_if b = cond b 1 0

-- How many keys are worked on.
abbrev pub working_count : List Key → List Knowledge → ℕ
working_count [] knowns = 0
working_count (key ∷ keys) [] = 0
working_count (key ∷ keys) (known ∷ knowns) = one_if (is_working key known) + working_count keys knowns

-- A key that is finished, or in conflict, stays so. Own (law).
abbrev pub VerdictsStay : List Key → List Knowledge → List Knowledge → Type 0
VerdictsStay keys old new = (place : ℕ) → verdict_at keys old place ≢ Working → verdict_at keys new place ≡ verdict_at keys old place

-- The key at the place is worked on.
pub record WorksAt (keys : List Key) (knowns : List Knowledge) (place : ℕ) : Type 0 where
  pub key : Key
  pub known : Knowledge
  pub key_is : slice_get keys place ≡ Some key
  pub known_is : slice_get knowns place ≡ Some known
  pub works : is_working key known ≡ true

-- The verdict on some key of the plan is that it is worked on.
abbrev pub SomeWorks : List Key → List Knowledge → Type 0
SomeWorks keys knowns = (place : ℕ) × (place < length keys) × (verdict_at keys knowns place ≡ Working)

-- The verdict on no key of the plan is that it is worked on.
abbrev pub NoneWorks : List Key → List Knowledge → Type 0
NoneWorks keys knowns = (place : ℕ) → place < length keys → verdict_at keys knowns place ≢ Working

-- No key is worked on, key by key.
abbrev pub AreSettled : List Key → List Knowledge → Type 0
AreSettled keys knowns = AllZip (λ key known. is_working key known ≡ false) keys knowns
