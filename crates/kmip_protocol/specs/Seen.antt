-- All that a contract sees of a link at a moment, as one value.
-- Source: own (view); that it fails less often than `most_failures` while it is calm is own (limit).
use Rattle.std.specs.Prelude.{◌≡◌, ℕ, nat_lt, true, List}
use Rattle.kmip_protocol.specs.Clean.{Disturbances}
use Rattle.kmip_protocol.specs.Faults.{most_failures}
use Rattle.kmip_plan.specs.declared.key.Key.{Key}
use Rattle.kmip_protocol.specs.Past.{AreAmong, Names, Past, is_planned}

-- What is seen of a link: what has happened over it, for which names it is honest and calm, for which plans it is
-- honest among others, and what it counts. The last four fields are laws of every link.
pub record Seen : Type 1 where
  -- All that has happened over it so far, and the objects of the server.
  pub past : Past
  -- It is honest for some names: it invents nothing, and beside what goes over it nothing happens to
  -- objects of these names.
  pub honest : Names → Type 0
  -- It is honest among others of a plan: it invents nothing, and beside what goes over it, and what others ask that
  -- does no harm, nothing happens to objects of the plan's names.
  pub amid : List Key → Type 0
  -- It is calm for some names: it is honest for them, and from now on it loses and repeats nothing.
  pub calm : Names → Type 0
  -- How often its network has failed, at most 2^64 - 1 times. From then on it sends nothing.
  pub failures : ℕ
  -- How many of its exchanges were disturbed, how many requests these sent, and how many replies about
  -- other keys they handed over. A link counts at least each exchange that is not clean, and in it each
  -- reply about a planned key that was not asked about. That it counts nothing else is said of a calm one
  -- alone; the link of kmip_scripted says exactly what it counts.
  pub disturbances : Disturbances
  -- Where the runs that were ended over it did: how many messages had been sent then, in order.
  pub ended : List ℕ
  -- A link that is calm for some names is honest for them.
  pub calm_is_honest : (names : Names) → calm names → honest names
  -- A link that is honest for a plan's names is honest among others of the plan: nobody else asks.
  pub honest_is_amid : (keys : List Key) → honest (is_planned keys) → amid keys
  -- The network of a link that is calm for some names has failed less often than 2^64 - 1 times.
  pub may_fail : (names : Names) → calm names → nat_lt failures most_failures ≡ true
  -- What a link is for some names, honest or calm, it is for fewer of them.
  pub fewer : (names few : Names) → AreAmong few names → (honest names → honest few) × (calm names → calm few)
