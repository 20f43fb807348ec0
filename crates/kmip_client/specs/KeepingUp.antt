-- The text of a progress that is kept from one save to the next.
-- Source: own (choice).
use Rattle.std.specs.Prelude.{◌≡◌, true}
use Rattle.std.specs.List.{AllZip}
use Rattle.kmip_progress.specs.Saved.{SavedState, saved_of}
use Rattle.kmip_progress.specs.Suiting.{Suits, are_texts}
use Rattle.kmip_client.specs.Clients.{ClientState}
use Rattle.kmip_client.specs.Saving.{progress}
use Rattle.kmip_client.specs.Shapes.{IsKept}

-- It is the text of what the client knows, which may be read back.
pub record IsTextOf (c : ClientState) (saved : SavedState) : Type 0 where
  pub is : saved ≡ saved_of c.keys (progress c)
  pub suits : Suits c.keys (progress c)
  pub texts : are_texts (progress c) ≡ true

-- It is the text of what the client knew earlier. Since then nothing was taken back.
pub record WasTextOf (c : ClientState) (saved : SavedState) : Type 0 where
  pub before : ClientState
  pub was : IsTextOf before saved
  pub same_keys : before.keys ≡ c.keys
  pub kept : AllZip IsKept before.knowns c.knowns
