-- How many exchanges each key of a plan may still take until it is finished, over a link that goes on losing,
-- beside those that the losses themselves cost. It is what the key needs, and more where a step that was
-- asked may still take effect.
-- Source: own (law).
use Rattle.std.specs.Prelude.{ℕ, ◌+◌, nat_eq, nat_le, Bool, false, List, [], ◌∷◌, if◌then◌else◌}
use Rattle.std.specs.Cmp.Lexicographic.{pointwise}
use Rattle.std.specs.List.{list_any}
use Rattle.std.specs.Option.{is_none, option_map_or}
use Rattle.kmip_objects.specs.Objects.{object_named}
use Rattle.kmip_objects.specs.declared.step.Step.{Step}
use Rattle.kmip_batch_items.specs.Operations.{operation_of}
use Rattle.kmip_batch_items.specs.declared.request.Request.{Request}
use Rattle.kmip_plan.specs.Chains.{step_at}
use Rattle.kmip_plan.specs.declared.key.Key.{Key}
use Rattle.kmip_client.specs.declared.knowledge.Knowledge.{Knowledge}
use Rattle.kmip_client.specs.Knowledge.{chain_length}
use Rattle.kmip_client.specs.Clients.{one_if}
use Rattle.kmip_client.specs.Places.{position}
use Rattle.kmip_client.specs.Questions.{id_of, step_ask}
use Rattle.kmip_protocol.specs.Past.{Past}
use Rattle.kmip_protocol.specs.Needs.{need_of}

-- the id of the requests for a step of the key
abbrev pub step_id : Key → Step → List ℕ
step_id key step = id_of (operation_of (step_ask key [] step)) key

-- the request has this id
abbrev pub is_id : List ℕ → Request → Bool
is_id id request = option_map_or (pointwise nat_eq id) request.id false

-- the step of the key was ever asked
abbrev pub was_asked : Key → List Request → Step → Bool
was_asked key requests step = list_any (is_id (step_id key step)) requests

-- the next step of the key was ever asked, so that it may take effect yet
abbrev pub is_under_way : Key → Past → Bool
is_under_way key p = option_map_or (was_asked key p.requests) (step_at key.target (position key p.objects + 1)) false

-- what may be left for a key: nothing once it is finished; else what it needs, one more where it has no
-- object yet, and one more where its next step is under way
abbrev pub left_of : Key → Knowledge → Past → ℕ
left_of key known p =
    if nat_le (chain_length key) known.done then 0
    else need_of key known p.objects + one_if (is_none (object_named key.attrs.name p.objects)) + one_if (is_under_way key p)

-- what may be left for all keys together
abbrev pub left_all : List Key → List Knowledge → Past → ℕ
left_all [] knowns p = 0
left_all (key ∷ keys) [] p = 0
left_all (key ∷ keys) (known ∷ knowns) p = left_of key known p + left_all keys knowns p
