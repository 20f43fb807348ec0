-- What holds of objects that go onward, of what a client asks, and of what it knows.
-- Source: own (law): each is proved of all plans and objects.
use Rattle.std.specs.Prelude.{◌≡◌, ◌≢◌, ◌≤◌, ℕ, true, List, ◌++◌, length, map, drop, Option, Ok}
use Rattle.kmip_objects.specs.Objects.{Object}
use Rattle.kmip_batch_items.specs.declared.outcome.Outcome.{Outcome}
use Rattle.kmip_batch_items.specs.declared.reply.Reply.{Reply}
use Rattle.kmip_batch_items.specs.declared.request.Request.{Request}
use Rattle.kmip_plan.specs.Plans.{IsLawful}
use Rattle.kmip_plan.specs.Prolonging.{GoesOn, Prolongs}
use Rattle.kmip_plan.specs.declared.key.Key.{Key}
use Rattle.kmip_progress.specs.Reading.{read_text}
use Rattle.kmip_progress.specs.Texts.{progress_text, progress_text_1}
use Rattle.kmip_progress.specs.Suiting.{Suits, nothing_known, are_texts}
use Rattle.kmip_progress.specs.declared.known.Known.{Known}
use Rattle.kmip_client.specs.declared.clash.Clash.{Clash}
use Rattle.kmip_client.specs.declared.knowledge.Knowledge.{Knowledge}
use Rattle.kmip_client.specs.declared.verdict.Verdict.TheVariants.{Conflict}
use Rattle.std.specs.List.{All}
use Rattle.kmip_client.specs.Clients.{changed_at, lost_working, verdict_at, AreSettled, NoneWorks}
use Rattle.kmip_client.specs.Hearing.{known_after_each}
use Rattle.kmip_client.specs.Held.{TrueProgress, IsHeld, Held}
use Rattle.kmip_client.specs.Justified.{MayAsk, Justified}
use Rattle.kmip_client.specs.Known.{facts, heard}
use Rattle.kmip_client.specs.Knowledge.{is_working}
use Rattle.kmip_client.specs.Places.{Onward, position}
use Rattle.kmip_client.specs.Questions.{ask_about}
use Rattle.kmip_client.specs.Truth.{TrueOutcome, TrueReply}

-- Objects go onward to themselves.
abbrev pub OnwardToItself : Type 0
OnwardToItself = (keys : List Key) (objects : List Object) → Onward keys objects objects

-- Onward twice is onward.
abbrev pub OnwardTwice : Type 0
OnwardTwice = (keys : List Key) (old between new : List Object) → Onward keys old between → Onward keys between new → Onward keys old new

-- As objects go onward, a request that may be asked may be asked still.
abbrev pub JustifiedForGood : Type 0
JustifiedForGood = (keys : List Key) (old new : List Object) (request : Request) → Onward keys old new → Justified keys old request → Justified keys new request

-- As objects go onward, what a reply says is true still.
abbrev pub TrueForGood : Type 0
TrueForGood = (keys : List Key) (old new : List Object) (reply : Reply) → Onward keys old new → TrueReply keys old reply → TrueReply keys new reply

-- As objects go onward, what is known of the keys of a lawful plan is true still.
abbrev pub HeldForGood : Type 0
HeldForGood =
    (keys : List Key) (knowns : List Knowledge) (old new : List Object) → IsLawful keys → Onward keys old new → Held old keys knowns
    → Held new keys knowns

-- What was saved under a plan is true of the keys of each plan that prolongs it, with nothing known of the
-- further keys.
abbrev pub TrueOfProlonged : Type 0
TrueOfProlonged =
    (objects : List Object) (new old : List Key) (saved : List Known) → Prolongs new old → TrueProgress objects old saved
    → TrueProgress objects new (saved ++ map (λ key. nothing_known) (drop (length old) new))

-- So the text of it is read for each plan that prolongs the old one, and what is read is true. The old plan
-- is lawful, what was saved suits it, and its identifiers are UTF-8. `text_for` says which format the text
-- has.
abbrev pub TextsStayTrue : (List Key → List Known → List ℕ) → Type 0
TextsStayTrue text_for =
    (objects : List Object) (new old : List Key) (saved : List Known) → IsLawful old → Prolongs new old → Suits old saved
    → are_texts saved ≡ true → TrueProgress objects old saved
    → (read : List Known) × (read_text new (text_for old saved) ≡ Ok read) × TrueProgress objects new read

-- An object has come no less far on the way of a key that goes on.
abbrev pub PositionsAreNoLess : Type 0
PositionsAreNoLess = (objects : List Object) (new old : Key) → GoesOn new old → position old objects ≤ position new objects

-- What may be asked under a plan may be asked under each lawful plan that prolongs it.
abbrev pub JustifiedOfProlonged : Type 0
JustifiedOfProlonged =
    (objects : List Object) (new old : List Key) (request : Request) → IsLawful new → Prolongs new old → Justified old objects request
    → Justified new objects request

-- What an outcome says of a key is true of one that goes on from it.
abbrev pub TrueOfGoneOn : Type 0
TrueOfGoneOn =
    (objects : List Object) (new old : Key) (outcome : Outcome) → GoesOn new old → TrueOutcome objects old outcome
    → TrueOutcome objects new outcome

-- What is heard of identifiers, counts and conflicts does not depend on what is asked next.
abbrev pub HearingIsBlind : Type 0
HearingIsBlind =
    (keys : List Key) (knowns others : List Knowledge) (answer : Option (List ℕ)) → facts knowns ≡ facts others
    → facts (heard keys knowns answer) ≡ facts (heard keys others answer)

-- An answer that is lost changes nothing but what is asked next.
abbrev pub LossesTeachNothing : Type 0
LossesTeachNothing = (keys : List Key) (knowns : List Knowledge) (place : ℕ) → facts (changed_at lost_working keys knowns place) ≡ facts knowns

-- Replies that are true keep what is known true, heard in turn.
abbrev pub HearingKeepsTheTruth : Type 0
HearingKeepsTheTruth =
    (objects : List Object) (keys : List Key) (replies : List Reply) (knowns : List Knowledge) → Held objects keys knowns
    → All (TrueReply keys objects) replies → Held objects keys (known_after_each keys replies knowns)

-- The loss of an answer about a key keeps what is known true.
abbrev pub LosingKeepsTheTruth : Type 0
LosingKeepsTheTruth =
    (objects : List Object) (keys : List Key) (knowns : List Knowledge) (place : ℕ) → Held objects keys knowns
    → Held objects keys (changed_at lost_working keys knowns place)

-- Where each key is settled, the verdict on no key is that it is worked on.
abbrev pub SettledIsNotWorked : Type 0
SettledIsNotWorked = (keys : List Key) (knowns : List Knowledge) → AreSettled keys knowns → NoneWorks keys knowns

-- Where what is known is true of some objects, no key is in conflict.
abbrev pub HeldIsNoConflict : Type 0
HeldIsNoConflict =
    (objects : List Object) (keys : List Key) (knowns : List Knowledge) → Held objects keys knowns
    → (place : ℕ) (clash : Clash) → verdict_at keys knowns place ≢ Conflict clash

-- What is asked about a key that is worked on, and of which what is known is true, may be asked.
abbrev pub AsksWhatItMay : Type 0
AsksWhatItMay =
    (objects : List Object) (key : Key) (known : Knowledge) → IsHeld objects key known → is_working key known ≡ true
    → MayAsk objects key (ask_about key known)

-- What holds of all that clients know and ask.
pub record ClientLaws : Type 0 where
  pub itself : OnwardToItself
  pub twice : OnwardTwice
  pub asked_for_good : JustifiedForGood
  pub told_for_good : TrueForGood
  pub known_for_good : HeldForGood
  pub known_of_prolonged : TrueOfProlonged
  pub text_of_prolonged : TextsStayTrue progress_text
  pub old_text_of_prolonged : TextsStayTrue progress_text_1
  pub positions : PositionsAreNoLess
  pub asked_of_prolonged : JustifiedOfProlonged
  pub told_of_prolonged : TrueOfGoneOn
  pub blind : HearingIsBlind
  pub losses_teach_nothing : LossesTeachNothing
  pub heard : HearingKeepsTheTruth
  pub lost : LosingKeepsTheTruth
  pub settled : SettledIsNotWorked
  pub no_conflict : HeldIsNoConflict
  pub asks : AsksWhatItMay
