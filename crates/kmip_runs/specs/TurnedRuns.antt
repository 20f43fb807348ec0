-- Runs in turn, client by client: what each begins with, what its turns made of that, and what its end shows.
-- Source: own (view).
use Rattle.std.specs.Prelude.{◌≡◌, ⊤, List, [], ◌∷◌, ◌++◌, length, flat_map, Option, Some, None}
use Rattle.kmip_plan.specs.declared.key.Key.{Key}
use Rattle.kmip_progress.specs.declared.known.Known.{Known}
use Rattle.kmip_client.specs.Clients.{ClientState, fresh}
use Rattle.kmip_client.specs.Saving.{resume}
use Rattle.kmip_protocol.specs.Past.{Past}
use Rattle.kmip_runs.specs.Remembering.{Shows, Talk, saved_after, saved_numbered}
use Rattle.kmip_runs.specs.Turning.{Turns}
use Rattle.kmip_runs.specs.declared.run.Run.{Run}
use Rattle.kmip_runs.specs.declared.run_end.RunEnd.{RunEnd}
use Rattle.kmip_runs.specs.declared.start.Start.{Start}
use Rattle.kmip_runs.specs.declared.start.Start.TheVariants.{Fresh, Same, Saved}

-- a client that goes on from a saved progress; one that knows nothing where there is none
abbrev pub resumed_client : List Key → Option (List Known) → ClientState
resumed_client keys None = fresh keys
resumed_client keys (Some progress) = resume keys progress

-- the client that a run begins with: one that knows nothing, the very one of the run before, or one that goes
-- on from a save
abbrev pub started_client : List Key → Start → ClientState → List (List Known) → ClientState
started_client keys Fresh last saved = fresh keys
started_client keys Same last saved = last
started_client keys (Saved number) last saved = resumed_client keys (saved_numbered number saved)

-- the client that a run begins with, which asks about as many keys at once as the run says
abbrev pub begin_client : List Key → Run → ClientState → List (List Known) → ClientState
begin_client keys run last saved = record (started_client keys run.start last saved) { batch = run.batch }

-- The turns of a run, one for each exchange that its end counts, made the last client of the first. The end
-- shows what the last client knows.
pub record RunTurned (keys : List Key) (first last : ClientState) (end : RunEnd) (talk : Talk) : Type 0 where
  pub turns : Turns talk.questions talk.answers first last
  pub as_many : length talk.questions ≡ end.exchanges
  pub shows : Shows keys last.knowns end

-- for each run in turn, its turns made of the client that it begins with the one that its end shows
abbrev pub AreTurned : List Key → ClientState → List (List Known) → List Run → List RunEnd → List Talk → List ClientState → Type 0
AreTurned keys last saved runs [] [] [] = ⊤
AreTurned keys last saved (run ∷ runs) (end ∷ ends) (talk ∷ talks) (client ∷ clients) =
    RunTurned keys (begin_client keys run last saved) client end talk × AreTurned keys client (saved_after run client.knowns saved) runs ends talks clients
AreTurned keys last saved runs ends talks clients = ⊥

-- There is a client for each end, made by the turns of its run. Over an honest link what was sent and handed
-- over until the last end is the questions and the answers of these turns. Nothing was sent later, unless a
-- run was broken off.
pub record AreTurnedFrom (keys : List Key) (carried : List (List Known)) (runs : List Run) (ends : List RunEnd) (honest whole : Type 0) (old new : Past) : Type 0 where
  pub talks : List Talk
  pub clients : List ClientState
  pub turned : AreTurned keys (fresh keys) carried runs ends talks clients
  pub until : Past
  pub sent_are : honest → until.sent ≡ old.sent ++ flat_map (λ talk. talk.questions) talks
  pub handed_are : honest → until.handed ≡ old.handed ++ flat_map (λ talk. talk.answers) talks
  pub no_more : whole → until ≡ new
