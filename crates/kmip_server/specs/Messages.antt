-- What a server makes of a question: it is a step of the server, and its reply says how that went.
-- Source: KMIP 2.1, Message Structure; Operations.
use Rattle.std.specs.Prelude.{◌≡◌, Some, Result, Ok, Err}
use Rattle.kmip_batch_items.specs.Operations.{operation_of}
use Rattle.kmip_batch_items.specs.declared.refusal.Refusal.{Refusal}
use Rattle.kmip_batch_items.specs.declared.reply.Reply.{Reply}
use Rattle.kmip_batch_items.specs.declared.request.Request.{Request}
use Rattle.kmip_store.specs.Stock.{Stock}
use Rattle.kmip_server.specs.ServerStep.{ServerStep}
use Rattle.kmip_server.specs.Serving.{refusal_reply}
use Rattle.kmip_server.specs.Shown.{objects_in, room_in}

-- The request is a step of the server. The reply has its outcome, and the operation and the id of the
-- request.
pub record IsStepOf (request : Request) (reply : Reply) (old new : Stock) : Type 0 where
  pub step : ServerStep (room_in old) (objects_in old) request.ask reply.outcome (objects_in new)
  pub operation_is : reply.operation ≡ Some (operation_of request.ask)
  pub id_is : reply.id ≡ request.id
  pub room_is : room_in new ≡ room_in old

-- A question that is refused leaves the records, and is answered Failed with what the refusal carries.
pub record IsRefusalOf (refusal : Refusal) (reply : Reply) (old new : Stock) : Type 0 where
  pub reply_is : reply ≡ refusal_reply refusal
  pub same : new ≡ old

-- a question is served: a request is a step of the server, and what is none is refused
abbrev pub IsServedBy : Result Request Refusal → Reply → Stock → Stock → Type 0
IsServedBy (Ok request) reply old new = IsStepOf request reply old new
IsServedBy (Err refusal) reply old new = IsRefusalOf refusal reply old new
