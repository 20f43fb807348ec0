-- When a client comes to an end over a calm link. Of the objects it wants only that those of the planned
-- names are the plan's own, and room for those that are missing: nothing of what has happened before.
-- Source: own (law).
use Rattle.std.specs.Prelude.{◌≡◌, ◌≤◌, ℕ, ◌+◌, nat_eq, List, [], ◌∷◌, length, filter, Some}
use Rattle.std.specs.Cmp.Lexicographic.{pointwise}
use Rattle.kmip_objects.specs.Objects.{Object, object_named}
use Rattle.kmip_plan.specs.Plans.{IsPlanned}
use Rattle.kmip_plan.specs.declared.key.Key.{Key}
use Rattle.kmip_client.specs.declared.knowledge.Knowledge.{Knowledge}
use Rattle.kmip_client.specs.Held.{Held}
use Rattle.kmip_protocol.specs.Headline.{all_named}
use Rattle.kmip_protocol.specs.Sound.{IsObjectOf}
use Rattle.kmip_protocol.specs.Needs.{missing}

-- the objects with the identifier
abbrev pub all_with : List ℕ → List Object → List Object
all_with uid objects = filter (λ o. pointwise nat_eq uid o.uid) objects

-- This object alone has the name of the key, it alone has its identifier, and it is the plan's.
pub record IsHere (objects : List Object) (key : Key) (o : Object) : Type 0 where
  pub one_named : all_named key.attrs.name objects ≡ o ∷ []
  pub one_identified : all_with o.uid objects ≡ o ∷ []
  pub own : IsObjectOf key o

-- each object of a planned name is alone with that name and with its identifier, and is the plan's
abbrev pub AreHere : List Key → List Object → Type 0
AreHere keys objects =
    (key : Key) (o : Object) → IsPlanned keys key → object_named key.attrs.name objects ≡ Some o → IsHere objects key o

-- Each object of a planned name is the plan's, alone with its name and its identifier. What is known is true
-- of the objects, and there is room for those that are missing.
pub record IsReady (room : ℕ) (keys : List Key) (objects : List Object) (knowns : List Knowledge) : Type 0 where
  pub here : AreHere keys objects
  pub held : Held objects keys knowns
  pub roomy : length objects + missing keys objects ≤ room
