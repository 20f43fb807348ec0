-- What holds of all that was ever asked, answered and done, for the keys of a plan; and where nothing of the
-- plan has happened.
-- Source: own (law); `IsOutside`, `IsOfPlan`, `NoneIsFurther` and `Opening` are own (view).
use Rattle.std.specs.Prelude.{◌≡◌, ◌≢◌, ◌⊎◌, ◌≤◌, ℕ, true, List, [], ◌∷◌, take, Some, None, IsTrue}
use Rattle.std.specs.List.{All, Contains}
use Rattle.kmip_objects.specs.Objects.{Object, object_named, DistinctNames, DistinctUids}
use Rattle.kmip_batch_items.specs.Operations.{operation_of}
use Rattle.kmip_objects.specs.Ranges.{is_identifier}
use Rattle.kmip_batch_items.specs.declared.reply.Reply.{Reply}
use Rattle.kmip_batch_items.specs.declared.request.Request.{Request}
use Rattle.kmip_plan.specs.Chains.{chain, place_reached}
use Rattle.kmip_plan.specs.Plans.{IsPlanned, key_fits, key_named}
use Rattle.kmip_plan.specs.declared.key.Key.{Key}
use Rattle.kmip_client.specs.Justified.{Justified}
use Rattle.kmip_client.specs.Places.{position}
use Rattle.kmip_client.specs.Truth.{TrueReply}
use Rattle.kmip_messages.specs.Items.{requests_in}
use Rattle.kmip_protocol.specs.Headline.{step_of_ask}
use Rattle.kmip_protocol.specs.Moves.{HasFailed}
use Rattle.kmip_protocol.specs.Past.{Past, steps_on}

-- The object of a planned name is the plan's: an identifier in its range, the attributes of the key, a state
-- on its way.
pub record IsObjectOf (key : Key) (o : Object) : Type 0 where
  pub identified : IsTrue (is_identifier o.uid)
  pub attrs_are : o.attrs ≡ key.attrs
  pub on_the_way : 1 ≤ place_reached key.target o.state

-- the object of each planned name is the plan's
abbrev pub HasItsObjects : List Key → List Object → Type 0
HasItsObjects keys objects =
    (key : Key) (o : Object) → IsPlanned keys key → object_named key.attrs.name objects ≡ Some o → IsObjectOf key o

-- The effects on each planned name are the first steps of its chain, as many as its position says, and no
-- effect is on another name.
pub record EffectsAreFirst (keys : List Key) (p : Past) : Type 0 where
  pub planned : (key : Key) → IsPlanned keys key → steps_on key.attrs.name p.effects ≡ take (position key p.objects) (chain key.target)
  pub no_others : (name : List ℕ) → key_named name keys ≡ None → steps_on name p.effects ≡ []

-- The request asks for no step, and its id is that of no key: neither of one of this plan, nor of one that any
-- plan may have. The questions of a look are such requests.
pub record IsOutside (keys : List Key) (request : Request) : Type 0 where
  pub no_step : step_of_ask request.ask ≡ None
  pub no_key : (operation : ℕ) (key : Key) → IsPlanned keys key ⊎ (key_fits key ≡ true)
      → request.id ≢ Some (operation ∷ key.attrs.name)

-- The id of the request is an operation and the name of a key of the plan. So are the ids that a run asks under.
pub record IsOfPlan (keys : List Key) (request : Request) : Type 0 where
  pub operation : ℕ
  pub key : Key
  pub is_planned : IsPlanned keys key
  pub id_is : request.id ≡ Some (operation ∷ key.attrs.name)

-- The request may be asked of a key of the plan, or it is outside the plan.
abbrev pub IsHarmless : List Key → List Object → Request → Type 0
IsHarmless keys objects request = Justified keys objects request ⊎ IsOutside keys request

-- So may each request in a message.
abbrev pub HarmlessMessage : List Key → List Object → List ℕ → Type 0
HarmlessMessage keys objects sent = All (IsHarmless keys objects) (requests_in sent)

-- The reply has the operation and the id of a request that was ever asked.
pub record Echoes (requests : List Request) (reply : Reply) : Type 0 where
  pub request : Request
  pub asked : Contains requests request
  pub operation_is : reply.operation ≡ Some (operation_of request.ask)
  pub id_is : reply.id ≡ request.id

-- The reply says the truth, and answers a request that was ever asked, or says "failed".
pub record TrueAnswer (keys : List Key) (objects : List Object) (requests : List Request) (reply : Reply) : Type 0 where
  pub holds : TrueReply keys objects reply
  pub echoes : HasFailed reply.outcome ⊎ Echoes requests reply

-- Names and identifiers are distinct, and the object of each planned name is the plan's. The effects on it
-- are the first steps of its chain. Each request ever asked may be asked still, or is outside the plan. Each
-- reply ever given is true.
pub record Sound (keys : List Key) (p : Past) : Type 0 where
  pub names : DistinctNames p.objects
  pub uids : DistinctUids p.objects
  pub objects : HasItsObjects keys p.objects
  pub effects : EffectsAreFirst keys p
  pub requests : All (IsHarmless keys p.objects) p.requests
  pub replies : All (TrueAnswer keys p.objects p.requests) p.replies

-- Each request ever asked may be asked of a key of the plan still. After a look, whose requests are outside the plan,
-- that is not so.
abbrev pub AreJustified : List Key → Past → Type 0
AreJustified keys p = All (Justified keys p.objects) p.requests

-- No name that only the new plan has is on an object.
abbrev pub NoneIsFurther : List Key → List Key → List Object → Type 0
NoneIsFurther new old objects =
    (key : Key) → IsPlanned new key → key_named key.attrs.name old ≡ None → object_named key.attrs.name objects ≡ None

-- Nothing of the plan has happened yet: no object has a planned name, and nothing was asked, answered or
-- done. Names and identifiers are distinct.
pub record Opening (keys : List Key) (p : Past) : Type 0 where
  pub names : DistinctNames p.objects
  pub uids : DistinctUids p.objects
  pub no_object : (key : Key) → IsPlanned keys key → object_named key.attrs.name p.objects ≡ None
  pub no_request : p.requests ≡ []
  pub no_reply : p.replies ≡ []
  pub no_effect : p.effects ≡ []
