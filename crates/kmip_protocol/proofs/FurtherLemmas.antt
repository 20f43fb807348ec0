-- The room for what a plan misses that prolongs the client's.
use Rattle.std.proofs.Common.{◌≡◌, ◌≤◌, ℕ, ◌+◌, List, [], ◌∷◌, ◌++◌, length, Some, sym, ap, ◌∙◌, arith}
use Rattle.std.specs.List.{slice_get}
use Rattle.std.specs.Option.{is_none}
use Rattle.kmip_objects.specs.Objects.{Object, object_named}
use Rattle.kmip_objects.specs.declared.key_attrs.KeyAttrs.{KeyAttrs}
use Rattle.kmip_objects.specs.declared.key_state.KeyState.TheVariants.{PreActive}
use Rattle.kmip_plan.specs.Plans.{IsLawful, IsPlanned}
use Rattle.kmip_plan.specs.Prolonging.{GoesOn, Prolongs}
use Rattle.kmip_plan.specs.declared.key.Key.{Key}
use Rattle.kmip_client.specs.Clients.{one_if}
use Rattle.kmip_protocol.specs.PrivateSettlingLawbook.{Lawbook}
use Rattle.kmip_protocol.specs.Needs.{missing}
use Rattle.kmip_protocol.specs.Ready.{AreHere}
use Rattle.kmip_protocol.proofs.SettlingChangeLemmas.{Change, stays, comes, takes, here_after, here_found, room_after}

-- how the object of a key changes is how that of the key changes which goes on from it
change_of : (l : Lawbook) (keys : List Key) (newer key : Key) (old new : List Object) → GoesOn newer key
    → IsPlanned keys newer → AreHere keys old
    → Change key old new → Change newer old new
change_of l keys newer key old new on planned its (stays same) = stays same
change_of l keys newer key old new on planned its (comes uid fits free uid_free now) =
    comes uid fits
    (ap (λ (a : KeyAttrs). object_named a.name old) on.attrs_same ∙ free)
    uid_free
    (now ∙ ap (λ (a : KeyAttrs). old ++ record { uid = uid; attrs = a; state = PreActive } ∷ []) (sym on.attrs_same))
change_of l keys newer key old new on planned its (takes o state here from now) =
    let named : object_named newer.attrs.name old ≡ Some o = ap (λ (a : KeyAttrs). object_named a.name old)
    on.attrs_same ∙ here_found old key o here in
    let further = l.plan.no_less key.target newer.target state on.leads_on in
    takes o state (its newer o planned named) (omega (arith, from, further)) now

-- a question leaves room for what a plan misses that prolongs the client's
pub one_leaves : (l : Lawbook) (further keys : List Key) (place : ℕ) (key : Key) (room : ℕ) (old new : List Object)
    → IsLawful further → Prolongs further keys
    → slice_get keys place ≡ Some key → AreHere further old → Change key old new
    → length old + missing further old ≤ room
    → AreHere further new × (length new + missing further new ≤ room)
one_leaves l further keys place key room old new lawful on here its change roomy =
    let (newer, stands, goes) = l.plan.old_stand further keys place key on here in
    let planned = l.plan.found further place newer lawful stands in
    let changed = change_of l further newer key old new goes planned its change in (
      here_after l further newer old new planned its changed,
      room_after l further place room newer old new lawful
          stands its changed roomy,
    )

-- and it misses no fewer objects than that
pub miss_no_less : (new old : List Key) (objects : List Object) → Prolongs new old
    → missing old objects ≤ missing new objects
miss_no_less new [] objects on = omega arith
miss_no_less [] (old ∷ olds) objects on = absurd on
miss_no_less (new ∷ news) (old ∷ olds) objects on =
    omega (
      arith,
      ap (λ (a : KeyAttrs). one_if (is_none (object_named a.name objects))) on.0.attrs_same,
      miss_no_less
          news olds objects on.1,
    )
