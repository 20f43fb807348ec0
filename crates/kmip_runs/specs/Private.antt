-- Private: definitions that only clauses of private functions cite.
-- Source: own (view): parts of the public definitions of this crate.
use Rattle.std.specs.Prelude.{◌≡◌, ◌≤◌, ◌<◌, ◌+◌, ℕ, List, [], ◌∷◌, ◌++◌, length, Option, Some, None}
use Rattle.std.specs.List.{All}
use Rattle.kmip_plan.specs.declared.key.Key.{Key}
use Rattle.kmip_client.specs.Asking.{IsAbout, after_ask, next_places, next_question}
use Rattle.kmip_client.specs.Clients.{ClientState}
use Rattle.kmip_client.specs.declared.part.Part.{Part}
use Rattle.kmip_client.specs.declared.question.Question.{Question}
use Rattle.kmip_protocol.specs.Exchanges.{HandsOver}
use Rattle.kmip_protocol.specs.Past.{Past, is_planned}
use Rattle.kmip_runs.specs.declared.turn_fault.TurnFault.{TurnFault}
use Rattle.kmip_runs.specs.declared.turn_fault.TurnFault.TheVariants.{Unmade, Unheard}
use Rattle.kmip_runs.specs.Driving.{IsUnmade, IsUnheard}
use Rattle.kmip_runs.specs.declared.run_end.RunEnd.{RunEnd}
use Rattle.kmip_runs.specs.Ending.{AreEnded}
use Rattle.kmip_protocol.specs.Clean.{AreNoFewer, Disturbances}
use Rattle.kmip_runs.specs.declared.run.Run.{Run}
use Rattle.kmip_runs.specs.Losing.{Outlasts}
use Rattle.kmip_protocol.specs.Turns.{taught}
use Rattle.kmip_runs.specs.Turning.{GivesUp}
use Rattle.kmip_runs.specs.Remembering.{Talk}
use Rattle.kmip_runs.specs.TurnedRuns.{RunTurned}
use Rattle.kmip_runs.specs.Keeping.{Kept}
use Rattle.kmip_disk.specs.Private.{unclaimed as unclaimed_disk}

-- What a turn leaves in which memory ran out, by where it did.
abbrev pub IsBrokenOff : List Key → ℕ → Past → Past → TurnFault → Type 0
IsBrokenOff keys most old new Unmade = IsUnmade keys most old new
IsBrokenOff keys most old new Unheard = IsUnheard keys most old new

-- Each part of a message is about a key of the plan.
abbrev pub AreParts : List Key → List Part → Type 0
AreParts keys parts = All (λ (part : Part). part.key < length keys) parts

-- A message that the client may send: about keys that it works on, at most as many as it asks about
-- at once.
pub record IsToBePut (c : ClientState) (question : Question) : Type 0 where
  pub places : List ℕ
  pub about : IsAbout c.keys c.knowns places question
  pub few : length places ≤ c.batch

-- How many exchanges runs with these ends made.
abbrev pub exchanges_in : List RunEnd → ℕ
exchanges_in [] = 0
exchanges_in (end ∷ ends) = end.exchanges + exchanges_in ends

-- More ends were noted, and their runs were ended over the link, and no other was. Where all went
-- well, as many more messages were sent as the ends count exchanges.
pub record EndsJoin (old new : List RunEnd) (whole : Type 0) (sent later : ℕ) (ended after : List ℕ) : Type 0 where
  pub ends : List RunEnd
  pub joined : new ≡ old ++ ends
  pub are_ended : AreEnded ends sent ended after
  pub made : whole → later ≡ sent + exchanges_in ends

-- The run that was noted last stops with every key finished if its limit is enough.
pub record HasOutlasted (keys : List Key) (run : Run) (ends nexts : List RunEnd) (old new : Disturbances) : Type 0 where
  pub end : RunEnd
  pub joined : nexts ≡ ends ++ end ∷ []
  pub counts : AreNoFewer old new
  pub outlasts : Outlasts keys run end old new

-- How many exchanges were made in a turn in which memory ran out.
abbrev pub exchanges_made : TurnFault → ℕ
exchanges_made Unmade = 0
exchanges_made Unheard = 1

-- The messages that its exchange sent.
abbrev pub messages_made : TurnFault → List ℕ → List (List ℕ)
messages_made Unmade question = []
messages_made Unheard question = question ∷ []

-- The client has learnt from an answer to this question, or that none came, and over an honest link
-- that was handed over.
pub record IsAnswered (honest : Type 0) (question : Question) (c next : ClientState) (before after : Past) : Type 0 where
  pub answer : Option (List ℕ)
  pub next_is : next ≡ taught question answer c
  pub sent_are : honest → after.sent ≡ before.sent ++ question.bytes ∷ []
  pub handed_are : honest → after.handed ≡ before.handed ++ answer ∷ []
  pub hands_over : honest → HandsOver (is_planned c.keys) before question.bytes answer after

-- A turn that asks the next question.
pub record TurnsOnce (honest : Type 0) (c next : ClientState) (before after : Past) : Type 0 where
  pub question : Question
  pub question_is : next_question c ≡ Some question
  pub about : IsAbout c.keys c.knowns (next_places c) question
  pub answered : IsAnswered honest question (after_ask c) next before after

-- A turn in which there is no next question, so that nothing changes.
pub record Rests (honest : Type 0) (c next : ClientState) (before after : Past) : Type 0 where
  pub next_is : next ≡ c
  pub past_stays : honest → after ≡ before

-- A turn, with a question about this number of keys or with none.
abbrev pub TakesTurn : Type 0 → Option ℕ → ClientState → ClientState → Past → Past → Type 0
TakesTurn honest (Some asked) c next before after = TurnsOnce honest c next before after
TakesTurn honest None c next before after = Rests honest c next before after

-- The next question was asked, and the client learnt that no answer came.
pub record IsUnanswered (honest : Type 0) (c next : ClientState) (before after : Past) : Type 0 where
  pub question : Question
  pub question_is : next_question c ≡ Some question
  pub about : IsAbout c.keys c.knowns (next_places c) question
  pub next_is : next ≡ taught question None (after_ask c)
  pub sent_are : honest → after.sent ≡ before.sent ++ question.bytes ∷ []

-- What a turn leaves in which memory ran out.
abbrev pub IsGivenUp : Type 0 → ClientState → ClientState → Past → Past → TurnFault → Type 0
IsGivenUp honest c next before after Unmade = GivesUp c next × (honest → after.sent ≡ before.sent)
IsGivenUp honest c next before after Unheard = IsUnanswered honest c next before after

-- A run was noted whose turns made the last client of the first.
pub record RanTurned (keys : List Key) (first last : ClientState) (honest : Type 0) (old new : Past) (ends later : List RunEnd) : Type 0 where
  pub end : RunEnd
  pub talk : Talk
  pub joined : later ≡ ends ++ end ∷ []
  pub turned : RunTurned keys first last end talk
  pub sent_are : honest → new.sent ≡ old.sent ++ talk.questions
  pub handed_are : honest → new.handed ≡ old.handed ++ talk.answers

-- A keeper of which nothing is claimed, but how often it could not write a text.
abbrev pub unclaimed : ℕ → Kept
unclaimed refusals = record { remembers = ⊥; saved = []; disk = unclaimed_disk refusals; refusals = refusals }
