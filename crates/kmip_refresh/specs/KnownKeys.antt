-- The keys of which a progress file knows an identifier, and what the server said about each.
-- Source: own (view).
use Rattle.std.specs.Prelude.{ℕ, ◌+◌, List, [], ◌∷◌, map, if◌then◌else◌}
use Rattle.std.specs.Option.{is_some}
use Rattle.kmip_plan.specs.declared.key.Key.{Key}
use Rattle.kmip_progress.specs.declared.known.Known.{Known}
use Rattle.kmip_look.specs.declared.looked.Looked.{Looked}
use Rattle.kmip_refresh.specs.Agreements.{agreement}
use Rattle.kmip_refresh.specs.declared.key_look.KeyLook.{KeyLook}

-- A key of which the file knows an identifier: its place in the plan from 0, and what the file says of it.
pub record KnownKey : Type 0 where
  pub place : ℕ
  pub key : Key
  pub known : Known

-- The keys of which an identifier is known, in their order; the first of these keys is at this place of the plan.
abbrev pub known_from : ℕ → List Key → List Known → List KnownKey
known_from place [] known = []
known_from place (key ∷ keys) [] = []
known_from place (key ∷ keys) (first ∷ known) =
    if is_some first.identifier then record { place = place; key = key; known = first } ∷ known_from (place + 1) keys known
    else known_from (place + 1) keys known

-- The keys of the plan of which an identifier is known.
abbrev pub known_keys : List Key → List Known → List KnownKey
known_keys keys known = known_from 0 keys known

-- The keys themselves.
abbrev pub keys_of : List KnownKey → List Key
keys_of known = map (λ k. k.key) known

-- What the server said about a key, with its agreement.
abbrev pub judged_look : KnownKey → Looked → KeyLook
judged_look k looked = record { place = k.place; looked = looked; agreement = agreement k.key k.known looked }

-- What the server said about each of the keys, with its agreement.
abbrev pub looks_judged : List KnownKey → List Looked → List KeyLook
looks_judged [] lookeds = []
looks_judged (k ∷ known) [] = []
looks_judged (k ∷ known) (looked ∷ lookeds) = judged_look k looked ∷ looks_judged known lookeds
