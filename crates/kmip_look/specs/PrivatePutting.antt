-- Private: what a message of a look over a link does to the past.
-- Source: own (view).
use Rattle.std.specs.Prelude.{◌≡◌, ◌≤◌, ℕ, not, nat_le, List, [], ◌++◌, length, map, Option, Some, None, Ok}
use Rattle.std.specs.List.{All}
use Rattle.kmip_batch_items.specs.declared.reply.Reply.{Reply}
use Rattle.kmip_batch_items.specs.declared.request.Request.{Request}
use Rattle.kmip_messages.specs.Items.{replies_in, requests_in}
use Rattle.kmip_protocol.specs.Calm.{AreTaken}
use Rattle.kmip_protocol.specs.Exchanges.{HandsOver, with_requests}
use Rattle.kmip_protocol.specs.Past.{Names, Past}

-- The replies that were handed over
abbrev pub said : Option (List ℕ) → List Reply
said None = []
said (Some given) = replies_in given

-- One message was sent that asks these requests, or none
pub record Puts (requests : List Request) (old new : Past) : Type 0 where
  pub messages : List (List ℕ)
  pub sent : new.sent ≡ old.sent ++ messages
  pub asks : All (λ message. requests_in message ≡ requests) messages
  pub few : length messages ≤ 1

-- A message that asks these requests was put over an honest link, and these replies came
pub record HasPut (names : Names) (requests : List Request) (replies : List Reply) (old new : Past) : Type 0 where
  pub message : List ℕ
  pub asks : requests_in message ≡ requests
  pub answer : Option (List ℕ)
  pub hands : HandsOver names old message answer new
  pub says : replies ≡ said answer

-- These requests were served over a calm link, with these replies
pub record HasServed (requests : List Request) (replies : List Reply) (old new : Past) : Type 0 where
  pub between : Past
  pub taken : AreTaken (not (nat_le 2 (length requests))) (map Ok requests) replies (with_requests requests old) between
  pub objects_are : new.objects ≡ between.objects
  pub effects_are : new.effects ≡ between.effects
