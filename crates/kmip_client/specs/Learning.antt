-- What an outcome teaches about a key that is worked on, or why it is refused: one case for each outcome.
-- Source: KMIP 2.1, Operations; which outcome teaches what is own (choice).
use Rattle.std.specs.Prelude.{ℕ, Bool, false, not, ◌&&◌, ◌==◌, nat_eq, nat_lt, List, [], ◌∷◌, Option, Some, None, Result, Ok, Err, if◌then◌else◌}
use Rattle.std.specs.Cmp.Lexicographic.{pointwise}
use Rattle.std.specs.Option.{is_some, option_map_or}
use Rattle.std.specs.Ordering.{int_eq}
use Rattle.kmip_objects.specs.declared.attrs.Attrs.{Attrs}
use Rattle.kmip_batch_items.specs.declared.outcome.Outcome.{Outcome}
use Rattle.kmip_batch_items.specs.declared.outcome.Outcome.TheVariants.{Created, Located, Attributes, Activated, Revoked, Destroyed, Failed}
use Rattle.kmip_objects.specs.declared.standard.TheConstants.{OBJECT_TYPE_SYMMETRIC_KEY}
use Rattle.kmip_objects.specs.declared.step.Step.{Step}
use Rattle.kmip_objects.specs.declared.step.Step.TheVariants as steps
use Rattle.kmip_plan.specs.Chains.{place_of, step_place}
use Rattle.kmip_plan.specs.declared.key.Key.{Key}
use Rattle.kmip_client.specs.declared.clash.Clash.{Clash}
use Rattle.kmip_client.specs.declared.clash.Clash.TheVariants as clashes
use Rattle.kmip_client.specs.declared.hear_fault.HearFault.{HearFault}
use Rattle.kmip_client.specs.declared.hear_fault.HearFault.TheVariants.{OtherIdentifier, OtherName}
use Rattle.kmip_client.specs.declared.knowledge.Knowledge.{Knowledge}
use Rattle.kmip_client.specs.declared.phase.Phase.TheVariants as phases
use Rattle.kmip_client.specs.Knowledge.{lose}

-- This identifier is known.
abbrev pub is_known : Option (List ℕ) → List ℕ → Bool
is_known None uid = false
is_known (Some own) uid = pointwise nat_eq own uid

-- Another identifier is known.
abbrev pub is_other : Option (List ℕ) → List ℕ → Bool
is_other None uid = false
is_other (Some own) uid = not (pointwise nat_eq own uid)

-- This number of steps have taken effect; where that is more than was known, the next step is due. Else
-- nothing changes.
abbrev pub raise : ℕ → Knowledge → Knowledge
raise place known = if nat_lt known.done place then record known { done = place; phase = phases.Go } else known

-- The object is where this number of steps lead; where that is not less than was known, the next step is due.
-- Else nothing changes: what comes late says what was so already.
abbrev pub enter : ℕ → Knowledge → Knowledge
enter place known = if nat_lt place known.done then known else record known { done = place; phase = phases.Go }

-- A clash was found; nothing else that is known changes.
abbrev pub with_clash : Clash → Knowledge → Knowledge
with_clash clash known = record known { clash = Some clash }

-- A number is told, and it is this one.
abbrev pub is_number : ℕ → Option ℕ → Bool
is_number own told = option_map_or (λ n. n == own) told false

-- The object is a symmetric key with the algorithm, the length and the usage of the plan.
abbrev pub is_planned : Key → Attrs → Bool
is_planned key told =
    is_number OBJECT_TYPE_SYMMETRIC_KEY told.object_type
    && is_number key.attrs.algorithm told.algorithm
    && option_map_or (λ n. int_eq n key.attrs.length) told.length false
    && option_map_or (λ n. int_eq n key.attrs.usage) told.usage false

-- A name is told, and it is the key's.
abbrev pub is_named : Key → Attrs → Bool
is_named key told = option_map_or (λ name. pointwise nat_eq name key.attrs.name) told.name false

-- After how many steps the object is in its state; a clash where the way to the target does not lead through
-- it.
abbrev pub place_learnt : Option ℕ → Knowledge → Knowledge
place_learnt None known = with_clash clashes.State known
place_learnt (Some place) known = enter place known

-- The object is in the state of this number; a clash where no state is told.
abbrev pub state_learnt : Key → Option ℕ → Knowledge → Knowledge
state_learnt key None known = with_clash clashes.State known
state_learnt key (Some state) known = place_learnt (place_of key.target state) known

-- The object has these attributes; they are refused where their name is not the key's. A clash where they are
-- not those of the plan, else the state is learnt.
abbrev pub attributes_learnt : Key → Attrs → Knowledge → Result Knowledge HearFault
attributes_learnt key told known =
    if is_named key told
    then Ok (if is_planned key told then state_learnt key told.state known else with_clash clashes.Attributes known)
    else Err OtherName

-- A key was made and has this identifier; refused where another is known. Where no step was known to be done,
-- one is.
abbrev pub created_learnt : List ℕ → Knowledge → Result Knowledge HearFault
created_learnt uid known =
    if is_other known.identifier uid then Err OtherIdentifier else Ok (raise 1 (record known { identifier = Some uid }))

-- No object has the name: the key is to be made, unless an identifier is known.
abbrev pub none_learnt : Knowledge → Knowledge
none_learnt known = if is_some known.identifier then known else record known { phase = phases.Make }

-- One object has the name: it is to be checked, unless an identifier is known.
abbrev pub one_learnt : List ℕ → Knowledge → Knowledge
one_learnt uid known = if is_some known.identifier then known else record known { identifier = Some uid; phase = phases.Check }

-- These objects have the name of the key: none, one, or more, which is a clash. One is refused where another
-- identifier is known.
abbrev pub located_learnt : List (List ℕ) → Knowledge → Result Knowledge HearFault
located_learnt [] known = Ok (none_learnt known)
located_learnt (uid ∷ []) known = if is_other known.identifier uid then Err OtherIdentifier else Ok (one_learnt uid known)
located_learnt (uid ∷ other ∷ more) known = Ok (with_clash clashes.TwoObjects known)

-- A step has taken effect on the object with this identifier; refused where that is not the identifier that
-- is known.
abbrev pub step_learnt : Key → Step → List ℕ → Knowledge → Result Knowledge HearFault
step_learnt key step uid known =
    if is_known known.identifier uid then Ok (raise (step_place key.target step) known) else Err OtherIdentifier

-- What an outcome teaches, or why it is refused. A failure teaches nothing: the key is looked at again.
-- Attributes are refused where they are not those of the identifier that is known.
abbrev pub learn : Key → Outcome → Knowledge → Result Knowledge HearFault
learn key (Failed reason) known = Ok (lose known)
learn key (Created uid) known = created_learnt uid known
learn key (Located uids) known = located_learnt uids known
learn key (Attributes uid told) known =
    if is_known known.identifier uid then attributes_learnt key told known else Err OtherIdentifier
learn key (Activated uid) known = step_learnt key steps.Activate uid known
learn key (Revoked uid) known = step_learnt key steps.Revoke uid known
learn key (Destroyed uid) known = step_learnt key steps.Destroy uid known
