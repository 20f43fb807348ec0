-- What one exchange teaches about a key that is to take the next step of its chain.
use Rattle.std.proofs.Common.{◌≡◌, ◌≤◌, ◌<◌, ℕ, ◌+◌, true, false, nat_lt, List, option_map, Option, Some, None, Ok}
use Rattle.std.proofs.Common.{subst, refl, sym, ap, ◌∙◌, inl, inr, arith}
use Rattle.std.proofs.lemmas.Bool.{cases_Bool, ltb-true, ltb-false, lt-ltb}
use Rattle.std.proofs.lemmas.Option.{MatchOption-at_some, same_Some, some_pair_parts}
use Rattle.kmip_objects.specs.Lifecycle.{after}
use Rattle.kmip_objects.specs.Objects.{Object, object_named, object_with, all_restated}
use Rattle.kmip_objects.specs.Ranges.{is_compromise}
use Rattle.kmip_batch_items.specs.declared.outcome.Outcome.{Outcome}
use Rattle.kmip_batch_items.specs.declared.outcome.Outcome.TheVariants.{Failed}
use Rattle.kmip_batch_items.specs.declared.ask.Ask.{Ask}
use Rattle.kmip_batch_items.specs.declared.ask.Ask.TheVariants as asks
use Rattle.kmip_objects.specs.declared.key_state.KeyState.{KeyState}
use Rattle.kmip_objects.specs.declared.step.Step.{Step}
use Rattle.kmip_objects.specs.declared.step.Step.TheVariants.{Create, Activate, Revoke, Destroy}
use Rattle.kmip_plan.specs.Chains.{place_reached, step_place}
use Rattle.kmip_plan.specs.declared.key.Key.{Key}
use Rattle.kmip_client.specs.declared.knowledge.Knowledge.{Knowledge}
use Rattle.kmip_client.specs.declared.phase.Phase.TheVariants as phases
use Rattle.kmip_client.specs.Knowledge.{chain_length, lose, lost_phase}
use Rattle.kmip_client.specs.Learning.{is_known, raise, learn}
use Rattle.kmip_client.specs.Places.{position}
use Rattle.kmip_client.specs.Questions.{step_ask}
use Rattle.kmip_server.specs.ServerStep as rows
use Rattle.kmip_server.specs.ServerStep.{ServerStep, step_asked, success_of}
use Rattle.kmip_protocol.specs.PrivateSettlingLawbook.{Lawbook}
use Rattle.kmip_protocol.proofs.SettlingChangeLemmas.{takes, here_found, here_with, took_here}
use Rattle.kmip_protocol.proofs.FilterLemmas.{same_text}
use Rattle.kmip_protocol.proofs.NeedLemmas.{place_in, go_even, go_behind}
use Rattle.kmip_protocol.proofs.PhaseLemmas.{IsWorked, IsNearer, needs, needs_rest, stays_nearer, lost_held}

-- The step is the next one that is known of, on the key's object.
pub record IsNext (room : ℕ) (objects : List Object) (key : Key) (known : Knowledge) (o : Object) (step : Step) : Type
    0 where
  pub worked : IsWorked room objects key known
  pub phase_is : known.phase ≡ phases.Go
  pub known_is : known.identifier ≡ Some o.uid
  pub named : object_named key.attrs.name objects ≡ Some o
  pub place : step_place key.target step ≡ known.done + 1
  pub later : 1 < step_place key.target step

-- the object has had as many steps at least as are known to be done
had_steps : (room : ℕ) (objects : List Object) (key : Key) (known : Knowledge) (o : Object) (step : Step)
    → IsNext room objects key known o step
    → known.done ≤ place_reached key.target o.state
had_steps room objects key known o step next =
    let there : position key objects ≡ place_reached key.target o.state = ap (place_in key) next.named in
    omega (arith, there, next.worked.held.holds.done_true)

-- ---- it is no row of the lifecycle: it was done before

step_failed : (l : Lawbook) (room : ℕ) (objects : List Object) (key : Key) (known : Knowledge) (o : Object)
    (step : Step) (reason : Option ℕ)
    → IsNext room objects key known o step → after o.state step ≡ None
    → IsNearer key known (Failed reason) objects objects
step_failed l room objects key known o step reason next none =
    let p : ℕ = place_reached key.target o.state in
    let from = (next.worked.here o next.named).own.on_the_way in
    let had = had_steps room objects key known o step next in
    elim (cases_Bool (nat_lt known.done p)) [
      | inl behind ↦
          let before = needs key known phases.Go objects (Some o) next.phase_is next.worked.more next.named in
          let more = go_behind (chain_length key) known.done p (ltb-true known.done p behind) in
          let soon = needs key (lose known) phases.Check objects (Some o) (ap lost_phase next.known_is)
          next.worked.more next.named in
          stays_nearer key known (lose known) (Failed reason) objects objects refl refl
          (lost_held objects key known next.worked.held) (omega (arith, before, more, soon))
      | inr even ↦
          let same : step_place key.target step ≡ p + 1 = omega (arith, next.place, had, ltb-false known.done p even) in
          absurd (l.plan.row key.target o.state step next.later same from none)
    ]

-- ---- it is done

success_learnt : (key : Key) (known : Knowledge) (step : Step) (uid : List ℕ) → 1 < step_place key.target step
    → is_known known.identifier uid ≡ true
    → learn key (success_of step uid) known ≡ Ok (raise (step_place key.target step) known)
success_learnt key known Create uid later own = absurd (omega (arith, later))
success_learnt key known Activate uid later own = rw own refl
success_learnt key known Revoke uid later own = rw own refl
success_learnt key known Destroy uid later own = rw own refl

raised : (place : ℕ) (known : Knowledge) → nat_lt known.done place ≡ true
    → raise place known ≡ record known { done = place; phase = phases.Go }
raised place known more = rw more refl

step_done : (l : Lawbook) (room : ℕ) (objects : List Object) (key : Key) (known : Knowledge) (o : Object)
    (step : Step) (state : KeyState)
    → IsNext room objects key known o step → after o.state step ≡ Some state
    → IsNearer key known (success_of step o.uid) objects (all_restated o.uid state objects)
step_done l room objects key known o step state next row =
    let p : ℕ = place_reached key.target o.state in
    let place : ℕ = step_place key.target step in
    let here = next.worked.here o next.named in
    let had = had_steps room objects key known o step next in
    let further = MatchOption-at_some (Unit {0})
    (λ new. (step_place key.target step ≡ place_reached key.target o.state + 1)
    × (place_reached key.target new ≡ place_reached key.target o.state + 1))
    state row (l.plan.advance key.target o.state step next.later (omega (arith, next.place, had)) here.own.on_the_way)
    in
    let even : known.done ≡ p = omega (arith, next.place, further.0) in
    let there = took_here l key o state objects here (omega (arith, further.1)) in
    let now = here_found (all_restated o.uid state objects) key (record o { state = state }) there in
    let at : position key (all_restated o.uid state objects) ≡ place_reached key.target state = ap (place_in key) now in
    let then : Knowledge = record known { done = place; phase = phases.Go } in
    let before = needs key known phases.Go objects (Some o) next.phase_is next.worked.more next.named in
    let rest = go_even (chain_length key) known.done p even in
    let after_it = needs_rest key then (all_restated o.uid state objects) (record o { state = state }) refl
    (further.0 ∙ sym further.1) now in
    let more = next.worked.more in
    record {
      next = then;
      learnt =
          success_learnt key known step o.uid next.later
          (ap (λ i. is_known i o.uid) next.known_is ∙ same_text o.uid o.uid refl)
          ∙ ap (λ (k : Knowledge). Ok k) (raised place known (lt-ltb known.done place (omega (arith, next.place))));
      held = record {
        holds = record {
          uid_true = λ uid is. ap (option_map (λ x. x.uid)) now ∙ sym next.known_is ∙ is;
          done_true = omega (arith, at, further.0, further.1);
          has_identifier = λ some e. let t : Some o.uid ≡ None = sym next.known_is ∙ e in absurd cc;
        };
        no_clash = next.worked.held.no_clash;
        suits = (λ e. let t : Some o.uid ≡ None = sym next.known_is ∙ e in absurd cc, omega (arith, next.later));
      };
      nearer = omega (arith, before, rest, after_it, more, even, further.0);
      change = takes o state here (omega (arith, further.1)) refl;
    }

-- ---- whichever answer comes

compromise_is_none : (uid own : List ℕ) (code : ℕ) (ask : Ask) (step : Step) → ask ≡ asks.Revoke uid code
    → is_compromise code ≡ true
    → step_asked ask ≡ Some (step, own) → ⊥
compromise_is_none uid own code ask step is compromised asked =
    let t : ◌≡◌ {A = Option (Step × List ℕ)} None (Some (step, own)) = rw compromised at
    (sym (ap step_asked is) ∙ asked) in absurd cc

pub step_nearer : (l : Lawbook) (room : ℕ) (old new : List Object) (key : Key) (known : Knowledge) (o : Object)
    (step : Step) (ask : Ask) (outcome : Outcome)
    → IsNext room old key known o step → step_asked ask ≡ Some (step, o.uid) → ServerStep room old ask outcome new
    → IsNearer key known outcome old new
step_nearer l room old new key known o step ask outcome next asked (rows.name_taken h) = absurd cc
step_nearer l room old new key known o step ask outcome next asked (rows.full h i) = absurd cc
step_nearer l room old new key known o step ask outcome next asked (rows.created h i j k) = absurd cc
step_nearer l room old new key known o step ask outcome next asked rows.searched = absurd cc
step_nearer l room old new key known o step ask outcome next asked (rows.told h) = absurd cc
step_nearer l room old new key known o step ask outcome next asked (rows.unknown h) = absurd cc
step_nearer l room old new key known o step ask outcome next asked (rows.compromised {uid} {code} h) =
    absurd (compromise_is_none uid o.uid code (asks.Revoke uid code) step refl h asked)
step_nearer l room old new key known o step ask outcome next asked (rows.not_found {step = s} {uid = u} h i) =
    let parts = some_pair_parts s step u o.uid (sym h ∙ asked) in
    let t : Some o ≡ None = sym (here_with old key o (next.worked.here o next.named))
    ∙ ap (λ v. object_with v old) (sym parts.1) ∙ i in absurd cc
step_nearer l room old new key known o step ask outcome next asked
    (rows.wrong_state {step = s} {uid = u} {o = x} h i j) =
    let parts = some_pair_parts s step u o.uid (sym h ∙ asked) in
    let one : x ≡ o = same_Some _ _ (sym i ∙ ap (λ v. object_with v old) parts.1
    ∙ here_with old key o (next.worked.here o next.named)) in
    step_failed l room old key known o step _ next
    (subst (λ y. after y.state step ≡ None) one (subst (λ t. after x.state t ≡ None) parts.0 j))
step_nearer l room old new key known o step ask outcome next asked
    (rows.done {step = s} {uid = u} {o = x} {state = state} h i j) =
    let parts = some_pair_parts s step u o.uid (sym h ∙ asked) in
    let one : x ≡ o = same_Some _ _ (sym i ∙ ap (λ v. object_with v old) parts.1
    ∙ here_with old key o (next.worked.here o next.named)) in
    subst (λ t. IsNearer key known (success_of t u) old (all_restated u state old)) (sym parts.0)
    (subst (λ v. IsNearer key known (success_of step v) old (all_restated v state old)) (sym parts.1)
    (step_done l room old key known o step state next
    (subst (λ y. after y.state step ≡ Some state) one (subst (λ t. after x.state t ≡ Some state) parts.0 j))))

-- the step that is asked
pub next_asked : (key : Key) (uid : List ℕ) (step : Step) → 1 < step_place key.target step
    → is_compromise key.reason ≡ false
    → step_asked (step_ask key uid step) ≡ Some (step, uid)
next_asked key uid Create later reason = absurd (omega (arith, later))
next_asked key uid Activate later reason = refl
next_asked key uid Revoke later reason = rw reason refl
next_asked key uid Destroy later reason = refl
