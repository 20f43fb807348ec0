-- What is known at the ends of runs: what each of them began with, and what its answers taught.
-- Source: own (view).
use Rattle.std.specs.Prelude.{◌≡◌, ◌≤◌, ℕ, ◌+◌, ◌-◌, ◌==◌, List, [], ◌∷◌, ◌++◌, length, map, flat_map, slice_get, Option, Some, None, ⊤, if◌then◌else◌}
use Rattle.std.specs.List.{All, AllZip}
use Rattle.std.specs.Option.{option_map_or}
use Rattle.kmip_messages.specs.Items.{requests_in}
use Rattle.kmip_plan.specs.declared.key.Key.{Key}
use Rattle.kmip_progress.specs.declared.known.Known.{Known}
use Rattle.kmip_client.specs.Clients.{fresh}
use Rattle.kmip_client.specs.Known.{facts, known_after}
use Rattle.kmip_client.specs.Saving.{known_of, resume}
use Rattle.kmip_client.specs.Shapes.{IsKept}
use Rattle.kmip_client.specs.Verdicts.{counts_of, verdicts_of}
use Rattle.kmip_client.specs.declared.knowledge.Knowledge.{Knowledge}
use Rattle.kmip_protocol.specs.Past.{Past}
use Rattle.kmip_runs.specs.Driving.{IsQuestion, TakesNothingBack}
use Rattle.kmip_runs.specs.declared.campaign_end.CampaignEnd.{CampaignEnd}
use Rattle.kmip_runs.specs.declared.run.Run.{Run}
use Rattle.kmip_runs.specs.declared.run_end.RunEnd.{RunEnd}
use Rattle.kmip_runs.specs.declared.start.Start.{Start}
use Rattle.kmip_runs.specs.declared.start.Start.TheVariants.{Fresh, Same, Saved}

-- what runs noted: their ends, and what was saved
pub record Notes : Type 0 where
  pub ends : List RunEnd
  pub saved : List (List Known)

-- the ends that were noted
abbrev pub noted_ends : Notes → List RunEnd
noted_ends notes = notes.ends

-- what was saved, as it was noted
abbrev pub noted_saves : Notes → List (List Known)
noted_saves notes = notes.saved

-- what a campaign noted
abbrev pub notes_of : CampaignEnd → Notes
notes_of end = record { ends = end.runs.items; saved = end.saved.items }

-- the saved progress of a number, from 1; none where there is no such one
abbrev pub saved_numbered : ℕ → List (List Known) → Option (List Known)
saved_numbered number saved = if number == 0 then None else slice_get saved (number - 1)

-- what is known from a saved progress; nothing is known where there is none
abbrev pub resumed : List Key → Option (List Known) → List Knowledge
resumed keys None = (fresh keys).knowns
resumed keys (Some progress) = (resume keys progress).knowns

-- what a run begins with: nothing, what was known at the end before it, or what was saved under a number
abbrev pub start_knowns : List Key → Start → List Knowledge → List (List Known) → List Knowledge
start_knowns keys Fresh last saved = (fresh keys).knowns
start_knowns keys Same last saved = last
start_knowns keys (Saved number) last saved = resumed keys (saved_numbered number saved)

-- what is saved after a run at whose end this is known
abbrev pub saved_after : Run → List Knowledge → List (List Known) → List (List Known)
saved_after run knowns saved = if run.save then saved ++ map known_of knowns ∷ [] else saved

-- what each run begins with, where `last` is known before the first of them, `saved` was saved before it, and
-- `ends` are what is known at their ends
abbrev pub starts_from : List Key → List Knowledge → List (List Known) → List Run → List (List Knowledge) → List (List Knowledge)
starts_from keys last saved [] ends = []
starts_from keys last saved (run ∷ runs) [] = []
starts_from keys last saved (run ∷ runs) (knowns ∷ ends) =
    start_knowns keys run.start last saved ∷ starts_from keys knowns (saved_after run knowns saved) runs ends

-- what each run of a plan begins with, the first from nothing, where this was carried over from earlier plans
abbrev pub starts : List Key → List (List Known) → List Run → List (List Knowledge) → List (List Knowledge)
starts keys carried runs ends = starts_from keys (fresh keys).knowns carried runs ends

-- all that is saved after some runs, where this is known at their ends
abbrev pub saved_from : List (List Known) → List Run → List (List Knowledge) → List (List Known)
saved_from saved [] ends = saved
saved_from saved (run ∷ runs) [] = saved
saved_from saved (run ∷ runs) (knowns ∷ ends) = saved_from (saved_after run knowns saved) runs ends

-- The end shows what is known: how many steps of each key are done, and the verdict on each.
pub record Shows (keys : List Key) (knowns : List Knowledge) (end : RunEnd) : Type 0 where
  pub counts_are : end.counts.items ≡ counts_of knowns
  pub verdicts_are : end.verdicts.items ≡ verdicts_of keys knowns

-- what was asked in the exchanges of a run, and what they handed over
pub record Talk : Type 0 where
  pub questions : List (List ℕ)
  pub answers : List (Option (List ℕ))

-- at the end of each run is known what was known at its start and what the answers of its exchanges taught
abbrev pub AreTaught : List Key → List (List Knowledge) → List Talk → List (List Knowledge) → Type 0
AreTaught keys [] [] [] = ⊤
AreTaught keys (start ∷ starts) (talk ∷ talks) (knowns ∷ ends) =
    (facts knowns ≡ facts (known_after keys start talk.answers)) × AreTaught keys starts talks ends
AreTaught keys starts talks ends = ⊥

-- as many messages were sent, and as many answers handed over, as the end counts exchanges
pub record IsTalkOf (talk : Talk) (end : RunEnd) : Type 0 where
  pub as_many_questions : length talk.questions ≡ end.exchanges
  pub as_many_answers : length talk.answers ≡ end.exchanges

-- each message of a run asks about keys of the plan, and about no more of them than the run asks about at
-- once
abbrev pub AreAsked : List Key → List Run → List Talk → Type 0
AreAsked keys runs [] = ⊤
AreAsked keys [] (talk ∷ talks) = ⊥
AreAsked keys (run ∷ runs) (talk ∷ talks) = All (IsQuestion keys run.batch) talk.questions × AreAsked keys runs talks

-- Between two pasts this was asked and handed over, run by run, and nothing else; and it is what the ends
-- know.
pub record AreHeard (keys : List Key) (runs : List Run) (begun known : List (List Knowledge)) (ends : List RunEnd) (old new : Past) : Type 0 where
  pub talks : List Talk
  pub taught : AreTaught keys begun talks known
  pub talks_are : AllZip IsTalkOf talks ends
  pub asked : AreAsked keys runs talks
  pub sent_are : new.sent ≡ old.sent ++ flat_map (λ talk. talk.questions) talks
  pub handed_are : new.handed ≡ old.handed ++ flat_map (λ talk. talk.answers) talks
  pub requests_are : new.requests ≡ old.requests ++ flat_map requests_in (flat_map (λ talk. talk.questions) talks)

-- how many exchanges the run at a place may make; none where there is no run
abbrev pub limit_at : List Run → ℕ → ℕ
limit_at runs place = option_map_or (λ run. run.limit) (slice_get runs place) 0

-- There is a knowledge for each end that the end shows. It takes back nothing of what its run began with. It
-- is saved where its run says so, after what was carried over. Over an honest link it is what was heard until
-- the last end. Nothing was asked later unless the next run was broken off, and that sent no more messages
-- than its limit. All that was asked is of the plan.
pub record AreKnownFrom (keys : List Key) (carried : List (List Known)) (runs : List Run) (notes : Notes) (honest whole : Type 0) (old new : Past) : Type 0 where
  pub known : List (List Knowledge)
  pub shown : AllZip (Shows keys) known notes.ends
  pub forgets_nothing : AllZip (AllZip IsKept) (starts keys carried runs known) known
  pub saved_are : carried ++ notes.saved ≡ saved_from carried runs known
  pub until : Past
  pub heard : honest → AreHeard keys runs (starts keys carried runs known) known notes.ends old until
  pub takes_nothing_back : honest → TakesNothingBack keys old new
  pub later : honest → TakesNothingBack keys until new
  pub few_more : honest → length new.sent ≤ length until.sent + limit_at runs (length known)
  pub no_more : whole → until ≡ new

-- `AreKnownFrom` where nothing was carried over from an earlier plan
abbrev pub AreKnown : List Key → List Run → Notes → Type 0 → Type 0 → Past → Past → Type 0
AreKnown keys runs notes honest whole old new = AreKnownFrom keys [] runs notes honest whole old new
