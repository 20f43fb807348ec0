-- What the headline says of a campaign: over which links, and which steps are reported. Open this file first.
-- What is then promised is `Safe`, in the file Headline of kmip_protocol.
-- Source: own (view).
use Rattle.std.specs.Prelude.{ℕ, List, [], ◌∷◌, ◌++◌, map, take, flat_map}
use Rattle.kmip_plan.specs.Chains.{chain}
use Rattle.kmip_plan.specs.declared.key.Key.{Key}
use Rattle.kmip_progress.specs.declared.known.Known.{Known}
use Rattle.kmip_protocol.specs.Seen.{Seen}
use Rattle.kmip_protocol.specs.Sound.{Sound}
use Rattle.kmip_server.specs.declared.effect.Effect.{Effect}
use Rattle.kmip_runs.specs.declared.run_end.RunEnd.{RunEnd}

-- The link is honest among others of the plan, and all that has happened over it is sound. A link that is honest for
-- the plan's names is so too (`honest_is_amid`).
pub record GoodLink (keys : List Key) (link : Seen) : Type 0 where
  pub amid_for : link.amid keys
  pub sound : Sound keys link.past

-- the first steps of a key's chain, as many as are counted
abbrev pub steps_counted : Key → ℕ → List Effect
steps_counted key count = map (λ step. record { name = key.attrs.name; step = step }) (take count (chain key.target))

-- the steps that these counts report, key by key in the order of the plan
abbrev pub reported_by : List Key → List ℕ → List Effect
reported_by [] counts = []
reported_by (key ∷ keys) [] = []
reported_by (key ∷ keys) (count ∷ counts) = steps_counted key count ++ reported_by keys counts

-- the steps that are reported done, by the ends of runs and by what was saved
abbrev pub reported : List Key → List RunEnd → List (List Known) → List Effect
reported keys ends saved =
    flat_map (λ (end : RunEnd). reported_by keys end.counts.items) ends ++ flat_map (λ progress. reported_by keys (map (λ known. known.done) progress)) saved
