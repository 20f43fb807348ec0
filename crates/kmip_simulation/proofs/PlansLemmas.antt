-- Two plans.
use Rattle.std.proofs.Common.{◌≡◌, List, [], ◌∷◌, get_or, length, arith}
use Rattle.kmip_plan.specs.declared.key.Key.{Key}
use Rattle.kmip_runs.specs.Campaigns.{last_plan}

-- the second of two plans is the last
pub second_is : (plans : List (List Key)) (keys : List Key) → length plans ≡ 2 → keys ≡ get_or plans 1 keys → keys ≡ last_plan plans
second_is [] keys two is = absurd (omega (arith, two))
second_is (first ∷ []) keys two is = absurd (omega (arith, two))
second_is (first ∷ second ∷ []) keys two is = is
second_is (first ∷ second ∷ third ∷ plans) keys two is = absurd (omega (arith, two))
