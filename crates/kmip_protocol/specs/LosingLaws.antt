-- What holds of clients over a link that goes on losing, of a lawful plan, over a sound past, and where what
-- is known is true; `NeedsAreLeft` and `MostLeftNeverRises` ask for none of these.
-- Source: own (law).
use Rattle.std.specs.Prelude.{◌≡◌, ◌≤◌, ℕ, ◌+◌, ◌*◌, List, length, Option}
use Rattle.std.specs.List.{AllZip}
use Rattle.kmip_plan.specs.Plans.{IsLawful}
use Rattle.kmip_plan.specs.Chains.{bound}
use Rattle.kmip_plan.specs.declared.key.Key.{Key}
use Rattle.kmip_client.specs.declared.knowledge.Knowledge.{Knowledge}
use Rattle.kmip_client.specs.declared.question.Question.{Question}
use Rattle.kmip_client.specs.Asking.{IsAbout}
use Rattle.kmip_client.specs.Clients.{fresh}
use Rattle.kmip_client.specs.Held.{Held}
use Rattle.kmip_client.specs.Shapes.{IsKept}
use Rattle.kmip_protocol.specs.Clean.{IsClean, strange_handed}
use Rattle.kmip_protocol.specs.Exchanges.{HandsOver}
use Rattle.kmip_protocol.specs.Moves.{Delivered}
use Rattle.kmip_protocol.specs.Past.{Past, is_planned}
use Rattle.kmip_protocol.specs.Sound.{Opening, Sound}
use Rattle.kmip_client.specs.Bounding.{most_left}
use Rattle.kmip_protocol.specs.Losing.{left_all}
use Rattle.kmip_protocol.specs.Needs.{need_all}
use Rattle.kmip_protocol.specs.Turns.{known_then}

-- what arrives late leaves no more than was left
abbrev pub LateArrivalsAddNothing : Type 0
LateArrivalsAddNothing =
    (keys : List Key) (old new : Past) (knowns : List Knowledge) → IsLawful keys → Sound keys old → Held old.objects keys knowns
    → Delivered (is_planned keys) old new → left_all keys knowns new ≤ left_all keys knowns old

-- a clean exchange leaves one less, at least, for each key that it asks about
abbrev pub CleanTurnsAreNearer : Type 0
CleanTurnsAreNearer =
    (keys : List Key) (old new : Past) (knowns : List Knowledge) (places : List ℕ) (question : Question) (answer : Option (List ℕ))
    → IsLawful keys → Sound keys old → Held old.objects keys knowns → IsAbout keys knowns places question
    → IsClean (is_planned keys) old question.bytes answer new
    → left_all keys (known_then keys question answer knowns) new + length places ≤ left_all keys knowns old

-- any exchange over an honest link leaves at most two more for each key that it asks about, and one more for
-- each reply about another key that it hands over
abbrev pub DisturbedTurnsCostTwoEach : Type 0
DisturbedTurnsCostTwoEach =
    (keys : List Key) (old new : Past) (knowns : List Knowledge) (places : List ℕ) (question : Question) (answer : Option (List ℕ))
    → IsLawful keys → Sound keys old → Held old.objects keys knowns → IsAbout keys knowns places question
    → HandsOver (is_planned keys) old question.bytes answer new
    → left_all keys (known_then keys question answer knowns) new
    ≤ left_all keys knowns old + 2 * length places + strange_handed (is_planned keys) question.bytes answer

-- no less is left than is needed
abbrev pub NeedsAreLeft : Type 0
NeedsAreLeft = (keys : List Key) (p : Past) (knowns : List Knowledge) → need_all keys knowns p.objects ≤ left_all keys knowns p

-- no more is left than the bound of the plan and one for each key
abbrev pub LeftIsBounded : Type 0
LeftIsBounded =
    (keys : List Key) (p : Past) (knowns : List Knowledge) → IsLawful keys → Sound keys p → Held p.objects keys knowns
    → left_all keys knowns p ≤ bound keys + length keys

-- no more is left than what is known allows
abbrev pub LeftIsWithinWhatIsKnown : Type 0
LeftIsWithinWhatIsKnown =
    (keys : List Key) (p : Past) (knowns : List Knowledge) → IsLawful keys → Sound keys p → Held p.objects keys knowns
    → left_all keys knowns p ≤ most_left keys knowns

-- exactly the bound is left where nothing of the plan has happened and nothing is known
abbrev pub OpeningLeavesTheBound : Type 0
OpeningLeavesTheBound =
    (keys : List Key) (p : Past) → IsLawful keys → Opening keys p → left_all keys (fresh keys).knowns p ≡ bound keys

-- what is known allows no more as it grows
abbrev pub MostLeftNeverRises : Type 0
MostLeftNeverRises =
    (keys : List Key) (old new : List Knowledge) → AllZip IsKept old new
    → most_left keys new ≤ most_left keys old

-- What holds of clients over a link that loses messages.
pub record LosingLaws : Type 0 where
  pub needs_left : NeedsAreLeft
  pub left_bounded : LeftIsBounded
  pub left_known : LeftIsWithinWhatIsKnown
  pub all_left : OpeningLeavesTheBound
  pub falls : MostLeftNeverRises
  pub late : LateArrivalsAddNothing
  pub clean : CleanTurnsAreNearer
  pub disturbed : DisturbedTurnsCostTwoEach
