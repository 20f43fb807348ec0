-- When a new plan takes over from an old one: all that was done under the old plan is then a beginning of
-- what the new one wants.
-- Source: own (choice): a plan that is changed goes further, and takes back nothing that may have been done.
use Rattle.std.specs.Prelude.{◌≡◌, true, List, [], ◌∷◌, ⊤}
use Rattle.kmip_plan.specs.Chains.{is_revoked, LeadsOn}
use Rattle.kmip_plan.specs.declared.key.Key.{Key}

-- A key of the new plan goes on from one of the old plan: it has the same attributes, and the old way is a
-- beginning of its own. A Revoke on the old way keeps its reason.
pub record GoesOn (new old : Key) : Type 0 where
  pub attrs_same : new.attrs ≡ old.attrs
  pub leads_on : LeadsOn old.target new.target
  pub reason_same : is_revoked old.target ≡ true → new.reason ≡ old.reason

-- The new plan begins with the keys of the old one, in the same order, and each goes on there; other keys may
-- follow.
abbrev pub Prolongs : List Key → List Key → Type 0
Prolongs new [] = ⊤
Prolongs [] (old ∷ olds) = ⊥
Prolongs (new ∷ news) (old ∷ olds) = GoesOn new old × Prolongs news olds
