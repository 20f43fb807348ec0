-- What reading the files of a desk gives.
-- Source: own (view).
use Rattle.std.specs.Prelude.{List, ℕ, Option}
use Rattle.kmip_choices.specs.declared.trust.Trust.{Trust}
use Rattle.kmip_client.specs.Clients.{ClientState}
use Rattle.kmip_desk.specs.Beginnings.{Knows, StoodOn}
use Rattle.kmip_desk.specs.Desks.{DeskView}

-- The client knows what the progress on the desk says, and `origin` is the text that was read next to it. `locked` is
-- that the lock is held of a desk that keeps the rules.
pub record IsRead (plan : List ℕ) (trust : Trust) (locked : Type 0) (desk : DeskView) (origin : Option (List ℕ)) (client : ClientState) : Type 0 where
  pub saved : Option (List ℕ)
  pub knows : Knows plan saved client
  pub stood : locked → StoodOn trust saved origin desk
