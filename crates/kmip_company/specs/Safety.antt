-- When a company is good, and when it is safe.
-- Source: own (law).
use Rattle.std.specs.Prelude.{◌++◌, ◌≡◌, ◌≢◌, List, flat_map, map, ℕ}
use Rattle.std.specs.List.{All, Contains}
use Rattle.kmip_client.specs.Clients.{ClientState, verdict_at}
use Rattle.kmip_client.specs.Held.{Held, TrueProgress}
use Rattle.kmip_client.specs.declared.clash.Clash.{Clash}
use Rattle.kmip_client.specs.declared.verdict.Verdict.TheVariants.{Conflict}
use Rattle.kmip_objects.specs.Objects.{Object}
use Rattle.kmip_plan.specs.declared.key.Key.{Key}
use Rattle.kmip_protocol.specs.Headline.{Safe}
use Rattle.kmip_protocol.specs.Laws.{IsReached}
use Rattle.kmip_protocol.specs.Machine.{IsMirrored}
use Rattle.kmip_protocol.specs.Sound.{Sound}
use Rattle.kmip_runs.specs.Headline.{reported_by}
use Rattle.kmip_server.specs.declared.effect.Effect.{Effect}
use Rattle.kmip_company.specs.Companies.{Company}

-- The client is one of the plan, and what it knows is true of the objects.
pub record IsMember (keys : List Key) (objects : List Object) (c : ClientState) : Type 0 where
  pub keys_are : c.keys ≡ keys
  pub held : Held objects keys c.knowns

-- What holds at all times: the past is sound, each client is one of the plan and knows the truth, what was saved
-- is true, and what was reported done was reached.
pub record IsGoodCompany (keys : List Key) (w : Company) : Type 0 where
  pub sound : Sound keys w.past
  pub members : All (IsMember keys w.past.objects) w.clients
  pub true_saved : All (TrueProgress w.past.objects keys) w.saved
  pub reached : All (IsReached keys w.past) w.reported

-- The steps that were ever reported done, also by what was saved.
abbrev pub all_reported : List Key → Company → List Effect
all_reported keys w = w.reported ++ flat_map (λ progress. reported_by keys (map (λ known. known.done) progress)) w.saved

-- What is promised of a company: the headline, with all that any of its clients ever reported or saved; that what
-- happened is an image of the plan machine; and that no client has found a conflict.
pub record IsSafeCompany (keys : List Key) (w : Company) : Type 0 where
  pub safe : Safe keys w.past (all_reported keys w)
  pub machine : IsMirrored keys w.past
  pub no_conflict : (c : ClientState) → Contains w.clients c → (place : ℕ) (clash : Clash) → verdict_at c.keys c.knowns place ≢ Conflict clash
  pub good : IsGoodCompany keys w
