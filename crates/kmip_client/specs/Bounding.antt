-- How many more exchanges a client makes at most, if no more is lost: by the identifiers and the counts alone
-- that it knows.
-- Source: own (law). That it bounds what is left is a law of kmip_protocol.
use Rattle.std.specs.Prelude.{ℕ, ◌+◌, ◌-◌, nat_le, List, [], ◌∷◌, if◌then◌else◌}
use Rattle.std.specs.Option.{is_some}
use Rattle.kmip_plan.specs.declared.key.Key.{Key}
use Rattle.kmip_client.specs.declared.knowledge.Knowledge.{Knowledge}
use Rattle.kmip_client.specs.Knowledge.{chain_length}

-- How many more exchanges are made for one key: none where it is finished. Else it is looked for, or checked
-- where its identifier is known, and the steps that are not known to be done are asked; an answer that comes
-- late may cost more.
abbrev pub most_left_of : Key → Knowledge → ℕ
most_left_of key known =
    if nat_le (chain_length key) known.done then 0
    else if is_some known.identifier then chain_length key + 1 - (known.done - 1)
    else chain_length key + 3

-- How many more exchanges are made for all keys: the sum over them.
abbrev pub most_left : List Key → List Knowledge → ℕ
most_left [] knowns = 0
most_left (key ∷ keys) [] = 0
most_left (key ∷ keys) (known ∷ knowns) = most_left_of key known + most_left keys knowns
