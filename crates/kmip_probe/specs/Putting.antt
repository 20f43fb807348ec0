-- What putting questions over a link does to the past.
-- Source: own (view).
use Rattle.std.specs.Prelude.{◌≡◌, ℕ, List, [], ◌++◌, Option}
use Rattle.kmip_protocol.specs.Past.{Past}
use Rattle.kmip_probe.specs.Asking.{AreAnswers, messages_from}
use Rattle.kmip_probe.specs.declared.answer.Answer.{Answer}

-- All the questions for these answers were asked, in turn. A Locate was sent again while no reply came, and
-- nothing else was sent twice.
pub record AreAsked (prefix : List ℕ) (answers : List Answer) (old new : Past) : Type 0 where
  pub messages : List (List ℕ)
  pub sent : new.sent ≡ old.sent ++ messages
  pub given : List (Option (List ℕ))
  pub handed : new.handed ≡ old.handed ++ given
  pub heard : AreAnswers prefix [] answers messages given

-- The further questions were asked: where those for the answers before were asked since some past, those for
-- all of them were.
abbrev pub AsksOn : List ℕ → List Answer → List Answer → Past → Past → Type 0
AsksOn prefix before after old new = (start : Past) → AreAsked prefix before start old → AreAsked prefix after start new

-- Each of the questions for these answers was sent just once.
abbrev pub AreSentOnce : List ℕ → List Answer → Past → Past → Type 0
AreSentOnce prefix answers old new = new.sent ≡ old.sent ++ messages_from prefix [] answers

-- The further questions were sent just once: if those for the answers before were since some past, those for
-- all of them were.
abbrev pub SendsOnce : List ℕ → List Answer → List Answer → Past → Past → Type 0
SendsOnce prefix before after old new = (start : Past) → AreSentOnce prefix before start old → AreSentOnce prefix after start new
