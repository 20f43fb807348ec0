-- Private: a group of keys that is asked about, and what a call promises that asks.
-- Source: own (law).
use Rattle.std.specs.Prelude.{◌≡◌, ◌≤◌, ◌+◌, ℕ, Bool, true, false, IfOk, IsTrue, List, Ok, OnOk, Result, length}
use Rattle.std.specs.List.{AllZip}
use Rattle.kmip_ttlv.specs.declared.no_memory.NoMemory.{NoMemory}
use Rattle.kmip_messages.specs.Members.{may_have}
use Rattle.kmip_plan.specs.declared.key.Key.{Key}
use Rattle.kmip_protocol.specs.Past.{Names, Past}
use Rattle.kmip_protocol.specs.Seen.{Seen}
use Rattle.kmip_look.specs.Looks.{KeepsSound}
use Rattle.kmip_look.specs.PrivateKeeping.{AreFit, AreShaped, Goes, GoesCalmly, GoesThrough, Parts, SendsLooks}
use Rattle.kmip_look.specs.PrivateTrying.{IsTriedAt}
use Rattle.kmip_look.specs.declared.looked.Looked.{Looked}
use Rattle.kmip_look.specs.declared.looking.TheConstants.{MOST_TRIES}
use Rattle.kmip_look.specs.declared.part.Part.{Part}

-- The keys may be asked about in one message, with this mark, where this is said of them.
pub record IsGroup (keys : List Key) (mark : List ℕ) (lookeds : List Looked) : Type 0 where
  -- There are one to eight keys.
  pub many : IsTrue (may_have (length keys))
  -- The mark has at most 16 bytes.
  pub short : length mark ≤ 16
  -- The values of each key are in their ranges.
  pub fit : AreFit keys
  -- What is said of each key has its shape.
  pub shaped : AreShaped keys lookeds

-- What is asked about: these keys, with this mark, in at most so many messages.
pub record About : Type 0 where
  pub keys : List Key
  pub mark : List ℕ
  pub most : ℕ

-- What a call that asks promises over a link that is honest for some names. It finds `olds` said of the keys,
-- and leaves `news`.
pub record AsksHonestly {A : Type 0} (about : About) (names : Names) (olds : List Looked) (old : Seen) (result : Result A NoMemory) (news : List Looked) (new : Seen) : Type 0 where
  -- The link is honest for these names after it.
  pub still : new.honest names
  -- However it ends, it sends looks at these keys, and nothing else, in at most so many messages.
  pub few : SendsLooks about.keys about.mark about.most old.past new.past
  -- Unless memory ran out, what was so is so, and what is told now was so.
  pub goes : OnOk result (Goes names about.mark about.keys olds news old.past new.past)

-- What a call that asks promises over a link that is calm for some names.
pub record AsksCalmly {A : Type 0} (names : Names) (result : Result A NoMemory) (new : Seen) (Comes : A → Type 0) : Type 0 where
  -- The link is calm for these names after it.
  pub still : new.calm names
  -- Unless memory ran out, this comes of it.
  pub comes : IfOk result Comes

-- What a call promises that puts one message of a part at most.
pub record AsksOnce (part : Part) (about : About) (olds : List Looked) (old : Seen) (result : Result (Unit {0}) NoMemory) (news : List Looked) (new : Seen) : Type 0 where
  -- Unless memory ran out, what is said of each key has its shape.
  pub shaped : OnOk result (AreShaped about.keys news)
  -- Over a link that is honest for some names, all of this holds.
  pub honestly : (names : Names) → old.honest names → AsksHonestly about names olds old result news new
  -- Over a link that is calm for some names, all of this holds, with what a message of the part does.
  pub calmly : (names : Names) → old.calm names
      → AsksCalmly names result new (λ done. GoesCalmly part about.keys olds news old.past new.past)
  -- However it ends, a past that is sound stays sound.
  pub sound : KeepsSound about.mark old new
  -- Over a link that is honest for some names, unless memory ran out, one message more asked about each key that
  -- is not told and was not refused.
  pub tried : (names : Names) → old.honest names → OnOk result ((start : Past) (count : ℕ)
      → AllZip (IsTriedAt part count about.mark start old.past) about.keys olds
      → AllZip (IsTriedAt part (count + 1) about.mark start new.past) about.keys news)

-- What a call promises that goes through some parts, and says whether more may be asked.
pub record AsksParts (parts : Parts) (about : About) (olds : List Looked) (old : Seen) (result : Result Bool NoMemory) (news : List Looked) (new : Seen) (given_up : Bool) : Type 0 where
  -- No more may be asked only if the pause has given up.
  pub stops : result ≡ Ok false → given_up ≡ true
  -- Unless memory ran out, what is said of each key has its shape.
  pub shaped : OnOk result (AreShaped about.keys news)
  -- Over a link that is honest for some names, all of this holds.
  pub honestly : (names : Names) → old.honest names → AsksHonestly about names olds old result news new
  -- Over a link that is calm for some names, all of this holds, with what these parts come to.
  pub calmly : (names : Names) → old.calm names
      → AsksCalmly names result new (λ goes_on. GoesThrough parts about.keys olds news goes_on old.past new.past)
  -- However it ends, a past that is sound stays sound.
  pub sound : KeepsSound about.mark old new
  -- Over a link that is honest for some names, if more may be asked, each try was made for each key that is not
  -- told and was not refused.
  pub tried : (names : Names) → old.honest names → IfOk result (λ goes_on. goes_on ≡ true → (start : Past)
      → AllZip (IsTriedAt parts.first 0 about.mark start old.past) about.keys olds
      → AllZip (IsTriedAt parts.last MOST_TRIES about.mark start new.past) about.keys news)
