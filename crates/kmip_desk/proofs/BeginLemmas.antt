-- What a run begins with stays so, and a run that is not made.
use Rattle.std.proofs.Common.{◌≡◌, ◌⊎◌, ℕ, List, [], Option, None, Result, Ok, Err, OnErr, IsTrue, refl, sym, ap, subst, ◌∙◌, inl, inr}
use Rattle.kmip_choices.specs.declared.run_options.RunOptions.{RunOptions}
use Rattle.kmip_choices.specs.declared.trust.Trust.{Trust}
use Rattle.kmip_client.specs.Clients.{ClientState}
use Rattle.kmip_belief.specs.Belief.{KnowsNoneFrom}
use Rattle.kmip_messages.specs.Members.{may_have}
use Rattle.kmip_desk.specs.Beginnings.{Begins, Knows, MayBegin, StoodOn, progress_for}
use Rattle.kmip_desk.specs.DeskRuns.{IsNotMade, Parts, RunViews}
use Rattle.kmip_desk.specs.Desks.{DeskView, IsLocked, KeepsProgress}
use Rattle.kmip_desk.specs.PrivateReading.{IsRead}
use Rattle.kmip_desk.proofs.LookLemmas.{none_looked}

stood_kept : (trust : Trust) (saved origin : Option (List ℕ)) (old new : DeskView) → KeepsProgress old new
    → StoodOn trust saved origin old → StoodOn trust saved origin new
stood_kept trust saved origin old new kept stood = record {
  lawful = kept.found.lawful;
  held = kept.found.held ∙ stood.held;
  saved_is = stood.saved_is ∙ ap (progress_for trust) (sym kept.found.progress_found);
  aside = λ is. kept.progress ∙ stood.aside is;
  origin_is = elim stood.origin_is [ inl none ↦ inl none | inr found ↦ inr (found ∙ sym kept.found.origin_found) ];
}

-- a run that has begun has begun so still, if the desk keeps what was found
pub begins_kept : (plan : List ℕ) (options : RunOptions) (server : List ℕ) (lawful : Type 0) (old new : DeskView)
    (client : ClientState) (looked_at : Option ℕ) → (old.lawful → KeepsProgress old new)
    → Begins plan options server lawful old client looked_at → Begins plan options server lawful new client looked_at
begins_kept plan options server lawful old new client looked_at kept begins = record {
  saved = begins.saved;
  knows = begins.knows;
  batch = begins.batch;
  origin = begins.origin;
  believed = begins.believed;
  unlooked = begins.unlooked;
  stood = λ keeps.
      let stood = begins.stood keeps in
      stood_kept options.trust begins.saved begins.origin old new (kept stood.lawful) stood;
}

-- what was read under the lock is what the run begins with
pub begins_from : (plan : List ℕ) (options : RunOptions) (server : List ℕ) (lawful : Type 0)
    (locked read_at new : DeskView) (origin : Option (List ℕ)) (first client : ClientState) (most : ℕ)
    (looked_at : Option ℕ) → client ≡ record first { batch = most }
    → IsRead plan options.trust (IsLocked locked) read_at origin first → (lawful → IsLocked locked)
    → (read_at.lawful → KeepsProgress read_at new) → (IsTrue (may_have options.batch) → most ≡ options.batch)
    → (looked_at ≡ None → MayBegin options server origin client) → (KnowsNoneFrom 0 client → looked_at ≡ None)
    → Begins plan options server lawful new client looked_at
begins_from plan options server lawful locked read_at new origin first client most looked_at is read lock kept batch believed unlooked = record {
  saved = read.saved;
  knows = subst (Knows plan read.saved) (sym is)
      (record { plan_is = read.knows.plan_is; knows = read.knows.knows });
  batch = λ may. ap (λ (c : ClientState). c.batch) is ∙ batch may;
  origin = origin;
  believed = believed;
  unlooked = unlooked;
  stood = λ keeps.
      let stood = read.stood (lock keeps) in
      stood_kept options.trust read.saved origin read_at new (kept stood.lawful) stood;
}

-- nothing was done
pub not_made : {L K E : Type 0} (v : RunViews L K E) (now : Parts L K E) → IsNotMade v now now
not_made v now = record { unsaved = refl; keys = []; alone = none_looked [] (v.seen now.link) }

-- what holds anyway holds at a fault
pub at_fault : {A E : Type 0} (result : Result A E) (P : Type 0) → P → OnErr result P
at_fault (Ok value) P holds = tt
at_fault (Err fault) P holds = holds
