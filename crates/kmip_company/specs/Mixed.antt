-- Clients of several plans at once, each of which the newest plan prolongs: what may occur, and what holds.
-- Source: own (view, law). Events are those of a company, and each stands beside a plan.
use Rattle.std.specs.Prelude.{◌++◌, ◌∷◌, ◌≡◌, ◌≢◌, [], List, None, Some, drop, length, map, slice_get, ℕ, ⊤}
use Rattle.std.specs.List.{All, Contains}
use Rattle.kmip_client.specs.Clients.{ClientState, verdict_at}
use Rattle.kmip_client.specs.Held.{TrueOf}
use Rattle.kmip_client.specs.Saving.{known_of, resume}
use Rattle.kmip_client.specs.Shapes.{PhaseSuits}
use Rattle.kmip_client.specs.declared.clash.Clash.{Clash}
use Rattle.kmip_client.specs.declared.clash.Clash.TheVariants as clashes
use Rattle.kmip_client.specs.declared.knowledge.Knowledge.{Knowledge}
use Rattle.kmip_client.specs.declared.verdict.Verdict.TheVariants.{Conflict}
use Rattle.kmip_objects.specs.Objects.{Object}
use Rattle.kmip_plan.specs.Prolonging.{Prolongs}
use Rattle.kmip_plan.specs.declared.key.Key.{Key}
use Rattle.kmip_progress.specs.Suiting.{nothing_known}
use Rattle.kmip_progress.specs.declared.known.Known.{Known}
use Rattle.kmip_protocol.specs.Headline.{Safe}
use Rattle.kmip_protocol.specs.Laws.{IsReached}
use Rattle.kmip_protocol.specs.Machine.{IsMirrored}
use Rattle.kmip_protocol.specs.Sound.{Sound}
use Rattle.kmip_company.specs.Companies.{Company, Event, MayOccur, Resumes, after_event, if_there, joined_by}
use Rattle.kmip_company.specs.Safety.{all_reported}

-- ---- what may occur

-- An event, and a plan. A client that begins is one of that plan. What is reported are steps of that plan.
pub record PlannedEvent : Type 0 where
  pub plan : List Key
  pub event : Event

-- What was saved, for a plan that may have further keys: nothing is known of those.
abbrev pub carried : List Key → List Known → List Known
carried plan saved = saved ++ map (λ key. nothing_known) (drop (length saved) plan)

-- The company after an event, beside which this plan stands. What was saved may be of an older plan. Whoever begins
-- from it knows nothing of the keys that its own plan has beyond.
abbrev pub after_of : List Key → Event → Company → Company
after_of plan (Resumes place) w =
    if_there (slice_get w.saved place) (λ saved. joined_by (resume plan (carried plan saved)) w) w
after_of plan event w = after_event plan event w

-- When an event may occur among clients of plans that this plan prolongs.
pub record MayOccurAmong (keys : List Key) (e : PlannedEvent) (w : Company) : Type 0 where
  pub is_prolonged : Prolongs keys e.plan
  pub may : MayOccur keys e.event w

-- Several events may occur, one after the other.
abbrev pub AllMayOccurAmong : List Key → List PlannedEvent → Company → Type 0
AllMayOccurAmong keys [] w = ⊤
AllMayOccurAmong keys (e ∷ events) w =
    MayOccurAmong keys e w × AllMayOccurAmong keys events (after_of e.plan e.event w)

-- The company after several events.
abbrev pub after_all_of : List PlannedEvent → Company → Company
after_all_of [] w = w
after_all_of (e ∷ events) w = after_all_of events (after_of e.plan e.event w)

-- ---- what then holds

-- It holds of what stands at each place of both lists.
abbrev pub AllBeside : {A B : Type 0} → (A → B → Type 0) → List A → List B → Type 0
AllBeside {A} {B} P xs ys =
    (place : ℕ) (x : A) (y : B) → slice_get xs place ≡ Some x → slice_get ys place ≡ Some y → P x y

-- What a client of an older plan knows of a key. It is true of the newest plan's key, and the phase suits. A conflict
-- is of the state of the object alone.
pub record IsKnownAmong (objects : List Object) (newest : Key) (known : Knowledge) : Type 0 where
  pub holds : TrueOf objects newest (known_of known)
  pub suits : PhaseSuits known.phase known.identifier known.done
  pub of_state : (clash : Clash) → known.clash ≡ Some clash → clash ≡ clashes.State

-- What a client of its own plan knows of all its keys. There is no conflict at a key that the newest plan takes no
-- further.
pub record KnowsAmong
    (keys : List Key) (objects : List Object) (own : List Key) (knowns : List Knowledge) : Type 0 where
  pub is_prolonged : Prolongs keys own
  pub knows : AllBeside (IsKnownAmong objects) keys knowns
  pub agrees : (place : ℕ) (older newest : Key) (known : Knowledge) → slice_get own place ≡ Some older
      → slice_get keys place ≡ Some newest → slice_get knowns place ≡ Some known
      → newest.target ≡ older.target → known.clash ≡ None

-- The client is one of a plan that this plan prolongs, and what it knows is true of the objects.
abbrev pub IsOlderMember : List Key → List Object → ClientState → Type 0
IsOlderMember keys objects c = KnowsAmong keys objects c.keys c.knowns

-- What holds at all times.
pub record IsGoodMixed (keys : List Key) (w : Company) : Type 0 where
  pub sound : Sound keys w.past
  -- each client is one of an older plan and knows the truth
  pub members : All (IsOlderMember keys w.past.objects) w.clients
  -- what was saved is true of the first keys of the newest plan
  pub true_saved : All (AllBeside (TrueOf w.past.objects) keys) w.saved
  pub reached : All (IsReached keys w.past) w.reported

-- What is promised of clients of several plans, of which this is the newest.
pub record IsSafeMixed (keys : List Key) (w : Company) : Type 0 where
  -- the headline, with all that any of them ever reported or saved
  pub safe : Safe keys w.past (all_reported keys w)
  -- what happened is an image of the plan machine
  pub machine : IsMirrored keys w.past
  -- no conflict is found at a key that the newest plan takes no further
  pub no_conflict : (c : ClientState) → Contains w.clients c → (place : ℕ) (own newest : Key)
      → slice_get c.keys place ≡ Some own → slice_get keys place ≡ Some newest → newest.target ≡ own.target
      → (clash : Clash) → verdict_at c.keys c.knowns place ≢ Conflict clash
  -- a conflict at another key is of the state of the object alone
  pub of_state : (c : ClientState) → Contains w.clients c → (place : ℕ) (clash : Clash)
      → verdict_at c.keys c.knowns place ≡ Conflict clash → clash ≡ clashes.State
  pub good : IsGoodMixed keys w
