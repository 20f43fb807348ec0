-- What may happen next between a client and its server, whatever the network and the server do: each move as
-- a value, what it makes of the past, and when it may happen. A network may lose, repeat, delay and reorder;
-- it invents nothing.
-- Source: own (view), over KMIP 2.1, Operations. When a move may happen is own (choice).
use Rattle.std.specs.Prelude.{◌≡◌, ◌⊎◌, ℕ, false, List, [], ◌∷◌, ◌++◌, Option, Some, None, ⊤}
use Rattle.std.specs.List.{Contains}
use Rattle.std.specs.Option.{option_to_list}
use Rattle.kmip_objects.specs.Objects.{Object, object_named, object_with, DistinctNames, DistinctUids}
use Rattle.kmip_batch_items.specs.Operations.{operation_of}
use Rattle.kmip_batch_items.specs.declared.outcome.Outcome.{Outcome}
use Rattle.kmip_batch_items.specs.declared.outcome.Outcome.TheVariants.{Failed}
use Rattle.kmip_batch_items.specs.declared.reply.Reply.{Reply}
use Rattle.kmip_batch_items.specs.declared.request.Request.{Request}
use Rattle.kmip_server.specs.ServerStep.{ServerStep}
use Rattle.kmip_server.specs.declared.effect.Effect.{Effect}
use Rattle.kmip_protocol.specs.Past.{Past, Names, steps_on, change}

-- What may happen next.
pub data Move : Type 0 where
  -- a request is served: its reply, the objects after it, and what joins the effects
  Serve : Request → Reply → List Object → Option Effect → Move
  -- a request is served, but its reply is never written
  Unanswered : Request → Reply → List Object → Option Effect → Move
  -- something is refused, by this reply
  Refuse : Reply → Move
  -- an object of no planned name comes, or the one between these changes
  Comes : Object → Move
  Changes : List Object → Object → Object → List Object → Move

-- the past after a move
abbrev pub after_move : Move → Past → Past
after_move (Serve request reply objects joined) p = record p {
  objects = objects;
  replies = p.replies ++ reply ∷ [];
  effects = p.effects ++ option_to_list joined;
}
after_move (Unanswered request reply objects joined) p = record p { objects = objects; effects = p.effects ++ option_to_list joined }
after_move (Refuse reply) p = record p { replies = p.replies ++ reply ∷ [] }
after_move (Comes o) p = record p { objects = p.objects ++ o ∷ [] }
after_move (Changes front old new back) p = record p { objects = front ++ new ∷ back }

-- the outcome is a failure, whatever its reason
abbrev pub HasFailed : Outcome → Type 0
HasFailed outcome = (reason : Option ℕ) × (outcome ≡ Failed reason)

-- what joins the effects is how the object of each name has changed
abbrev pub Joins : List Object → List Object → Option Effect → Type 0
Joins old new joined =
    (name : List ℕ) → steps_on name (option_to_list joined) ≡ option_to_list (change (object_named name old) (object_named name new))

-- A request that was ever asked is served, by a step of the server. The reply has its operation and its id;
-- one that says "failed" may leave them out.
pub record Serves (p : Past) (request : Request) (reply : Reply) (objects : List Object) (joined : Option Effect) : Type 0 where
  pub asked : Contains p.requests request
  pub step : ServerStep p.room p.objects request.ask reply.outcome objects
  pub operation_is : (reply.operation ≡ Some (operation_of request.ask)) ⊎ ((reply.operation ≡ None) × HasFailed reply.outcome)
  pub id_is : (reply.id ≡ request.id) ⊎ ((reply.id ≡ None) × HasFailed reply.outcome)
  pub effects : Joins p.objects objects joined

-- An object of no planned name comes, with a name and an identifier of its own.
pub record IsNew (names : Names) (p : Past) (o : Object) : Type 0 where
  pub foreign : names o.attrs.name ≡ false
  pub name_is_free : object_named o.attrs.name p.objects ≡ None
  pub uid_is_free : object_with o.uid p.objects ≡ None

-- An object of no planned name changes and still has none; names and identifiers stay distinct.
pub record IsForeign (names : Names) (p : Past) (front : List Object) (old new : Object) (back : List Object) : Type 0 where
  pub stands : p.objects ≡ front ++ old ∷ back
  pub was_foreign : names old.attrs.name ≡ false
  pub is_foreign : names new.attrs.name ≡ false
  pub names_differ : DistinctNames (front ++ new ∷ back)
  pub uids_differ : DistinctUids (front ++ new ∷ back)

-- when each move may happen, beside these names
abbrev pub MayHappen : Names → Move → Past → Type 0
MayHappen names (Serve request reply objects joined) p = Serves p request reply objects joined
MayHappen names (Unanswered request reply objects joined) p = Serves p request reply objects joined
MayHappen names (Refuse reply) p = HasFailed reply.outcome
MayHappen names (Comes o) p = IsNew names p o
MayHappen names (Changes front old new back) p = IsForeign names p front old new back

-- several moves may happen, one after the other
abbrev pub AllMayHappen : Names → List Move → Past → Type 0
AllMayHappen names [] p = ⊤
AllMayHappen names (move ∷ moves) p = MayHappen names move p × AllMayHappen names moves (after_move move p)

-- the past after several moves
abbrev pub after_moves : List Move → Past → Past
after_moves [] p = p
after_moves (move ∷ moves) p = after_moves moves (after_move move p)

-- Any number of moves have happened, in any order.
pub record Delivered (names : Names) (old new : Past) : Type 0 where
  pub moves : List Move
  pub may : AllMayHappen names moves old
  pub is : new ≡ after_moves moves old
