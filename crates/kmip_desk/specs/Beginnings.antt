-- What a run begins with.
-- Source: own (choice): docs/OPERATING.md says to the operator which progress is believed.
use Rattle.std.specs.Prelude.{◌≡◌, ◌≢◌, ◌≤◌, ◌⊎◌, ℕ, true, IsTrue, List, Option, Some, None, Ok}
use Rattle.kmip_belief.specs.Belief.{IsOfThisServer, KnowsNoneFrom}
use Rattle.kmip_belief.specs.Origins.{origin_text}
use Rattle.kmip_choices.specs.declared.peer.Peer.TheVariants.{Loopback}
use Rattle.kmip_choices.specs.declared.run_options.RunOptions.{RunOptions}
use Rattle.kmip_choices.specs.declared.trust.Trust.{Trust}
use Rattle.kmip_choices.specs.declared.trust.Trust.TheVariants.{Afresh, Believe, Checked}
use Rattle.kmip_client.specs.Clients.{ClientState, working_count}
use Rattle.kmip_messages.specs.Members.{may_have}
use Rattle.kmip_plan.specs.Reading.{plan_read}
use Rattle.kmip_plan.specs.declared.key.Key.{Key}
use Rattle.kmip_run_command.specs.RunEnds.{begin_knowns}
use Rattle.kmip_desk.specs.Desks.{DeskView}

-- The client is one of the plan that this text is, and knows what the text of a progress says.
pub record Knows (plan : List ℕ) (saved : Option (List ℕ)) (client : ClientState) : Type 0 where
  pub plan_is : plan_read plan ≡ Ok client.keys
  pub knows : begin_knowns client.keys saved ≡ Ok client.knowns

-- What the client knows may be believed without asking the server. It knows no object, the run is a rehearsal, it may
-- ask nothing, the user vouches for the progress, or the progress was saved against this server.
abbrev pub MayBegin : RunOptions → List ℕ → Option (List ℕ) → ClientState → Type 0
MayBegin options server origin client =
    KnowsNoneFrom 0 client
    ⊎ ((options.peer ≡ Loopback)
    ⊎ ((options.limit ≡ 0)
    ⊎ (((options.trust ≡ Believe) × (origin ≢ None)) ⊎ IsOfThisServer server origin client)))

-- The progress that a run begins with. One that begins afresh has none.
abbrev pub progress_for : Trust → Option (List ℕ) → Option (List ℕ)
progress_for Afresh found = None
progress_for Checked found = found
progress_for Believe found = found

-- The run holds the lock. It begins with the progress that the file said when it took the lock, and with the text next
-- to it, unless it did not read that. A run that begins afresh has put the file aside.
pub record StoodOn (trust : Trust) (saved origin : Option (List ℕ)) (desk : DeskView) : Type 0 where
  pub lawful : desk.lawful
  pub held : desk.is_held ≡ true
  pub saved_is : saved ≡ progress_for trust desk.found_progress
  pub origin_is : (origin ≡ None) ⊎ (origin ≡ desk.found_origin)
  pub aside : trust ≡ Afresh → desk.progress ≡ None

-- The text says that the progress is saved against this server, for the keys of the plan that this text is.
pub record IsNoted (plan server : List ℕ) (origin : Option (List ℕ)) : Type 0 where
  pub keys : List Key
  pub plan_is : plan_read plan ≡ Ok keys
  pub kept : List ℕ
  pub origin_is : origin ≡ Some (origin_text server kept keys)

-- Unless the run may ask nothing, or no key is left to work on, the desk says that the progress is of this server.
abbrev pub IsNotedFor : List ℕ → RunOptions → List ℕ → ClientState → DeskView → Type 0
IsNotedFor plan options server client desk =
    1 ≤ options.limit → (working_count client.keys client.knowns ≡ 0) ⊎ IsNoted plan server desk.origin

-- A run of the plan that this text is begins, against this server. `lawful` is that the desk keeps the rules.
-- `looked_at` is at how many keys the run looks first, if it looks.
pub record Begins (plan : List ℕ) (options : RunOptions) (server : List ℕ) (lawful : Type 0) (desk : DeskView) (client : ClientState) (looked_at : Option ℕ) : Type 0 where
  -- The text of the progress that it begins with.
  pub saved : Option (List ℕ)
  -- The client knows what that says of the plan.
  pub knows : Knows plan saved client
  -- A message asks about as many keys as the options say.
  pub batch : IsTrue (may_have options.batch) → client.batch ≡ options.batch
  -- The text that says where the progress was saved.
  pub origin : Option (List ℕ)
  -- Unless the run looks first, the progress may be believed by that.
  pub believed : looked_at ≡ None → MayBegin options server origin client
  -- A run that knows no object does not look.
  pub unlooked : KnowsNoneFrom 0 client → looked_at ≡ None
  -- These are the texts on the desk, and the run holds the lock.
  pub stood : lawful → StoodOn options.trust saved origin desk

-- A run of the plan has begun so, and the desk says that the progress is of this server.
pub record IsBegun (plan : List ℕ) (options : RunOptions) (server : List ℕ) (lawful : Type 0) (desk : DeskView) (client : ClientState) (looked_at : Option ℕ) : Type 0 where
  pub begins : Begins plan options server lawful desk client looked_at
  pub noted : lawful → IsNotedFor plan options server client desk
