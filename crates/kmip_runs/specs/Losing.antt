-- What runs over a link cost that goes on losing, and how many exchanges are enough.
-- Source: own (law).
use Rattle.std.specs.Prelude.{◌≡◌, ◌≤◌, ◌+◌, ◌*◌, ℕ, List, [], ◌∷◌, length}
use Rattle.kmip_plan.specs.Chains.{bound}
use Rattle.kmip_plan.specs.declared.key.Key.{Key}
use Rattle.kmip_client.specs.Clients.{ClientState}
use Rattle.kmip_protocol.specs.Clean.{AreNoFewer, Disturbances}
use Rattle.kmip_protocol.specs.Past.{Past}
use Rattle.kmip_protocol.specs.Losing.{left_all}
use Rattle.kmip_runs.specs.declared.run.Run.{Run}
use Rattle.kmip_runs.specs.declared.run_end.RunEnd.{RunEnd}
use Rattle.kmip_runs.specs.declared.stop.Stop.TheVariants as stops

-- what disturbed exchanges cost: one each, two more for each request that they sent, and one more for each
-- strange reply that they handed over, which is one about a key that was not asked
abbrev pub cost : Disturbances → ℕ
cost d = d.disturbed + 2 * d.requests + d.strange

-- how many exchanges may be left for all keys of a client
abbrev pub left_for : ClientState → Past → ℕ
left_for c p = left_all c.keys c.knowns p

-- Each of these exchanges is paid for. Those made and those left are at most those that were left before, and
-- what the disturbed ones of them cost.
abbrev pub ArePaid : ℕ → ℕ → ℕ → Disturbances → Disturbances → Type 0
ArePaid made before after old new = made + after + cost old ≤ before + cost new

-- this limit is enough for every key, whatever is known: it is at least the plan's bound, one for each key,
-- and what was disturbed between the two counts costs
abbrev pub IsEnough : List Key → ℕ → Disturbances → Disturbances → Type 0
IsEnough keys limit old new = bound keys + length keys + cost new ≤ limit + cost old

-- A run whose limit is enough stops with every key finished.
abbrev pub Outlasts : List Key → Run → RunEnd → Disturbances → Disturbances → Type 0
Outlasts keys run end old new = IsEnough keys run.limit old new → end.stop ≡ stops.AllFinished

-- Each of the runs, in order, stops with every key finished if its limit is enough for what was disturbed in it.
-- No count falls from one end to the next, so what was disturbed in the runs adds up.
abbrev pub AllOutlast : List Key → List Run → List RunEnd → Disturbances → Disturbances → Type 0
AllOutlast keys [] [] old new = new ≡ old
AllOutlast keys (run ∷ runs) (end ∷ ends) old new =
    (between : Disturbances) × AreNoFewer old between × Outlasts keys run end old between × AllOutlast keys runs ends between new
AllOutlast keys runs ends old new = ⊥
