-- What a look at the keys that a progress file knows promises. Open this file first.
-- Source: own (view), but `LooksAlone`: own (law).
use Rattle.std.specs.Prelude.{◌≡◌, ℕ, ◌*◌, List, length, map, Result, IfOk}
use Rattle.kmip_ttlv.specs.declared.no_memory.NoMemory.{NoMemory}
use Rattle.kmip_plan.specs.declared.key.Key.{Key}
use Rattle.kmip_protocol.specs.Past.{Names}
use Rattle.kmip_protocol.specs.Seen.{Seen}
use Rattle.kmip_look.specs.Looks.{Looks, Sends}
use Rattle.kmip_look.specs.declared.looked.Looked.{Looked}
use Rattle.kmip_refresh.specs.KnownKeys.{KnownKey, keys_of, looks_judged}
use Rattle.kmip_refresh.specs.declared.key_look.KeyLook.{KeyLook}

-- What the server said, without the agreement.
abbrev pub lookeds_of : List KeyLook → List Looked
lookeds_of looks = map (λ look. look.looked) looks

-- The known keys were looked at over the link, and the result has what that look said of each, with its agreement.
pub record LooksFirst {A : Type 0} (items : A → List KeyLook) (known : List KnownKey) (mark : List ℕ) (old : Seen) (result : Result A NoMemory) (new : Seen) : Type 0 where
  -- It is a look at these keys, as kmip_look promises it.
  pub looks : Looks (λ v. lookeds_of (items v)) (keys_of known) mark old result new
  -- Each answer has the place and the agreement of its key. The answers are in the order of the plan.
  pub judged : IfOk result (λ v. items v ≡ looks_judged known (lookeds_of (items v)))

-- Own (law): over a link that was honest for some names, looks at these keys were sent, at most eight for each, and
-- nothing else. The link is honest for the names still.
pub record LooksAlone (names : Names) (keys : List Key) (mark : List ℕ) (old new : Seen) : Type 0 where
  pub still : new.honest names
  pub sends : Sends keys mark (8 * length keys) old.past new.past
