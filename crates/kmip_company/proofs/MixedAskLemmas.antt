-- What a client of an older plan asks may be asked under the newest, and what it counts was reached.
use Rattle.std.proofs.Common.{◌≡◌, ◌<◌, ◌≤◌, ◌+◌, ◌∷◌, [], ap, arith, List, map, refl, slice_get, Some, subst, suc, sym}
use Rattle.std.proofs.Common.{take, zero, ℕ}
use Rattle.std.specs.List.{All}
use Rattle.std.specs.Option.{unwrap_or}
use Rattle.std.proofs.lemmas.List.Elements.{All-cons, All-head, All-nil, All-tail}
use Rattle.kmip_batch_items.specs.Operations.{operation_of}
use Rattle.kmip_batch_items.specs.declared.ask.Ask.TheVariants as asks
use Rattle.kmip_client.specs.Asking.{at_place, requests_at}
use Rattle.kmip_client.specs.Clients.{WorksAt}
use Rattle.kmip_client.specs.Held.{TrueOf}
use Rattle.kmip_client.specs.Justified.{Justified, MayAsk}
use Rattle.kmip_client.specs.Knowledge.{chain_length}
use Rattle.kmip_client.specs.Places.{position}
use Rattle.kmip_client.specs.Questions.{ask_about, phase_ask, request_about, step_ask}
use Rattle.kmip_client.specs.Verdicts.{counts_of}
use Rattle.kmip_client.specs.declared.knowledge.Knowledge.{Knowledge}
use Rattle.kmip_client.specs.declared.phase.Phase.{Phase}
use Rattle.kmip_client.specs.declared.phase.Phase.TheVariants as phases
use Rattle.kmip_objects.specs.Attributes.{by_name}
use Rattle.kmip_objects.specs.Objects.{Object}
use Rattle.kmip_objects.specs.Searching.{every_state}
use Rattle.kmip_objects.specs.declared.key_attrs.KeyAttrs.{KeyAttrs}
use Rattle.kmip_objects.specs.declared.step.Step.{Step}
use Rattle.kmip_objects.specs.declared.step.Step.TheVariants as steps
use Rattle.kmip_plan.specs.Chains.{chain, step_at, step_place}
use Rattle.kmip_plan.specs.Plans.{IsLawful, IsPlanned}
use Rattle.kmip_plan.specs.Prolonging.{GoesOn, Prolongs}
use Rattle.kmip_plan.specs.declared.key.Key.{Key}
use Rattle.kmip_plan.specs.declared.target.Target.{Target}
use Rattle.kmip_progress.specs.declared.known.Known.{Known}
use Rattle.kmip_protocol.specs.Laws.{IsReached}
use Rattle.kmip_protocol.specs.Past.{Past}
use Rattle.kmip_runs.specs.Headline.{reported_by, steps_counted}
use Rattle.kmip_company.specs.Mixed.{AllBeside, KnowsAmong}
use Rattle.kmip_company.specs.PrivateLawbook.{Lawbook}
use Rattle.kmip_company.proofs.MixedKnownLemmas.{among_held, working_parts, works_newest}
use Rattle.kmip_company.proofs.MixedListLemmas.{each_reported, mapped_at}
use Rattle.kmip_company.proofs.TruthLemmas.{asked_there, first_are}

-- ---- what is asked

-- a step of the own way is asked as the newest plan asks it
same_step : Lawbook → (own newest : Key) (uid : List ℕ) (step : Step) (place : ℕ) → GoesOn newest own
    → step_at own.target place ≡ Some step
    → step_ask newest uid step ≡ step_ask own uid step
same_step l own newest uid steps.Create place goes at = ap (λ (a : KeyAttrs). asks.Create a) goes.attrs_same
same_step l own newest uid steps.Activate place goes at = refl
same_step l own newest uid steps.Revoke place goes at =
    ap (λ (r : ℕ). asks.Revoke uid r) (goes.reason_same (l.plan.revoke own.target place at))
same_step l own newest uid steps.Destroy place goes at = refl

same_ask : Lawbook → (own newest : Key) (phase : Phase) (uid : List ℕ) (done : ℕ) → GoesOn newest own
    → done < chain_length own
    → phase_ask newest phase uid done ≡ phase_ask own phase uid done
same_ask l own newest phases.Look uid done goes more =
    ap (λ (a : KeyAttrs). asks.Locate (Some every_state) (by_name a.name)) goes.attrs_same
same_ask l own newest phases.Make uid done goes more = ap (λ (a : KeyAttrs). asks.Create a) goes.attrs_same
same_ask l own newest phases.Check uid done goes more = refl
same_ask l own newest phases.Go uid done goes more =
    let next = l.plan.next_step own.target done more in
    rw (l.plan.steps_onward own.target newest.target (done + 1) next.0 goes.leads_on next.1, next.1)
    (same_step l own newest uid next.0 (done + 1) goes next.1)

justified_at : Lawbook → (keys : List Key) (objects : List Object) (own : List Key) (knowns : List Knowledge)
    (place : ℕ) → IsLawful keys
    → KnowsAmong keys objects own knowns → (w : WorksAt own knowns place)
    → Justified keys objects (request_about w.key w.known)
justified_at l keys objects own knowns place lawful m w =
    let (newest, newest_is, goes) = l.plan.old_stand keys own place w.key m.is_prolonged w.key_is in
    let parts = working_parts w.key w.known w.works in
    let held = among_held objects newest w.known (m.knows place newest w.known newest_is w.known_is) parts.1 in
    let may = l.client.asks objects newest w.known held (works_newest l w.key newest w.known goes w.works) in
    record {
      key = newest;
      is_planned = l.plan.found keys place newest lawful newest_is;
      id_is = ap (λ (a : KeyAttrs). Some (operation_of (ask_about w.key w.known) ∷ a.name)) (sym goes.attrs_same);
      may = subst (MayAsk objects newest) (same_ask l w.key newest w.known.phase (unwrap_or w.known.identifier [])
          w.known.done goes parts.0) may;
    }

pub older_justified : Lawbook → (keys : List Key) (objects : List Object) (own : List Key) (knowns : List Knowledge)
    (places : List ℕ) → IsLawful keys
    → KnowsAmong keys objects own knowns → All (WorksAt own knowns) places
    → All (Justified keys objects) (requests_at own knowns places)
older_justified l keys objects own knowns [] lawful m works = All-nil (Justified keys objects)
older_justified l keys objects own knowns (place ∷ places) lawful m works =
    let w = All-head (WorksAt own knowns) place places works in
    rw (asked_there own knowns place w)
    (All-cons (Justified keys objects) (request_about w.key w.known) (requests_at own knowns places)
    (justified_at l keys objects own knowns place lawful m w)
    (older_justified l keys objects own knowns places lawful m (All-tail (WorksAt own knowns) place places works)))

-- ---- what is counted

-- the step at a place of the own way has that place on the newest
step_newest : Lawbook → (own newest : Key) (place : ℕ) (step : Step) → GoesOn newest own
    → slice_get (chain own.target) place ≡ Some step
    → step_place newest.target step ≡ suc place
step_newest l own newest place step goes is =
    (l.plan.places newest.target (suc place) step (omega arith)).0
    (l.plan.steps_onward own.target newest.target (suc place) step goes.leads_on (stands own.target place step is))
  where
    stands : (target : Target) (place : ℕ) (step : Step) → slice_get (chain target) place ≡ Some step
        → step_at target (suc place) ≡ Some step
    stands target place step is = is

steps_reached : Lawbook → (keys : List Key) (p : Past) (own newest : Key) (count : ℕ) → IsPlanned keys newest
    → GoesOn newest own → count ≤ position newest p.objects
    → All (IsReached keys p) (steps_counted own count)
steps_reached l keys p own newest count planned goes reached =
    first_are (IsReached keys p) (λ step. record { name = own.attrs.name; step = step }) (chain own.target) count
    (λ place step is below.
    let at = step_newest l own newest place step goes is in (
      newest,
      planned,
      ap (λ (a : KeyAttrs). a.name) (sym goes.attrs_same),
      omega (arith, at),
      omega
          (arith, at, below, reached),
    ))

-- the steps of a plan that the newest prolongs, where no more is counted than was reached
pub counts_reached : Lawbook → (keys : List Key) (p : Past) (own : List Key) (counts : List ℕ) → IsLawful keys
    → Prolongs keys own
    → AllBeside (λ key count. count ≤ position key p.objects) keys counts
    → All (IsReached keys p) (reported_by own counts)
counts_reached l keys p own counts lawful on reached =
    each_reported (IsReached keys p) own counts
    (λ place older count here there.
    let (newest, newest_is, goes) = l.plan.old_stand keys own place older on here in
    steps_reached l keys p older newest count (l.plan.found keys place newest lawful newest_is) goes
    (reached place newest count newest_is there))

pub known_counted : (keys : List Key) (objects : List Object) (own : List Key) (knowns : List Knowledge)
    → KnowsAmong keys objects own knowns
    → AllBeside (λ key count. count ≤ position key objects) keys (counts_of knowns)
known_counted keys objects own knowns m =
    λ place key count here there.
    let (x, at, is) = mapped_at (λ (known : Knowledge). known.done) knowns place count there in
    subst (λ n. n ≤ position key objects) is (m.knows place key x here at).holds.done_true

pub saved_counted : (keys : List Key) (objects : List Object) (saved : List Known)
    → AllBeside (TrueOf objects) keys saved
    → AllBeside (λ key count. count ≤ position key objects) keys (map (λ known. known.done) saved)
saved_counted keys objects saved was =
    λ place key count here there.
    let (x, at, is) = mapped_at (λ (known : Known). known.done) saved place count there in
    subst (λ n. n ≤ position key objects) is (was place key x here at).done_true
