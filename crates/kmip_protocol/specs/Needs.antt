-- How many questions each key of a plan still needs until it is finished, over a link that loses and repeats
-- nothing.
-- Source: own (law).
use Rattle.std.specs.Prelude.{ℕ, ◌+◌, ◌-◌, nat_eq, nat_le, Bool, List, [], ◌∷◌, if◌then◌else◌}
use Rattle.std.specs.Option.{is_none, is_some}
use Rattle.kmip_objects.specs.Objects.{Object, object_named}
use Rattle.kmip_plan.specs.declared.key.Key.{Key}
use Rattle.kmip_client.specs.declared.knowledge.Knowledge.{Knowledge}
use Rattle.kmip_client.specs.declared.phase.Phase.{Phase}
use Rattle.kmip_client.specs.declared.phase.Phase.TheVariants.{Look, Make, Check, Go}
use Rattle.kmip_client.specs.Clients.{one_if}
use Rattle.kmip_client.specs.Knowledge.{chain_length}
use Rattle.kmip_client.specs.Places.{position}

-- what a key that is not finished needs in each phase: the steps that are left, and the looks and the refused
-- step before them. Here n steps lead to its target, d are known to be done, its object is there or not, and
-- has had p of them.
abbrev pub need_in : Phase → ℕ → ℕ → Bool → ℕ → ℕ
need_in Look n d there p = if there then n - p + 2 else n + 1
need_in Make n d there p = if there then n - p + 3 else n
need_in Check n d there p = n - p + 1
need_in Go n d there p = if nat_eq d p then n - p else n - p + 2

-- what a key needs, where this is known of it: nothing once all its steps are known to be done
abbrev pub need_of : Key → Knowledge → List Object → ℕ
need_of key known objects =
    if nat_le (chain_length key) known.done then 0
    else need_in known.phase (chain_length key) known.done (is_some (object_named key.attrs.name objects)) (position key objects)

-- what all keys need together
abbrev pub need_all : List Key → List Knowledge → List Object → ℕ
need_all [] knowns objects = 0
need_all (key ∷ keys) [] objects = 0
need_all (key ∷ keys) (known ∷ knowns) objects = need_of key known objects + need_all keys knowns objects

-- how many steps the chains of all keys have, and one look more for each key
abbrev pub chains_and_looks : List Key → ℕ
chains_and_looks [] = 0
chains_and_looks (key ∷ keys) = chain_length key + 1 + chains_and_looks keys

-- how many keys have no object
abbrev pub missing : List Key → List Object → ℕ
missing [] objects = 0
missing (key ∷ keys) objects = one_if (is_none (object_named key.attrs.name objects)) + missing keys objects
