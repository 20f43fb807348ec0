-- The turn passes to the place after the last key that is asked about.
use Rattle.std.proofs.Common.{◌≡◌, ◌∙◌, ℕ, ◌+◌, ◌-◌, ◌≤◌, ◌<◌, List, length, Some, IsTrue, nat_le, subst, sym, ap, refl, arith}
use Rattle.std.proofs.lemmas.Bool.{and_from, and_parts, le-leb, leb-true}
use Rattle.std.proofs.lemmas.Option.{get_or_from_slice_get, slice_get_within}
use Rattle.std.proofs.lemmas.Slice.Zip.{AllZip-long}
use Rattle.std.specs.List.{All, slice_get}
use Rattle.std.specs.Option.{option_map_or}
use Rattle.kmip_batch_items.specs.declared.standard.TheConstants.{MOST_QUESTIONS}
use Rattle.kmip_messages.specs.Members.{may_have}
use Rattle.kmip_plan.specs.declared.key.Key.{Key}
use Rattle.kmip_plan.specs.Plans.{IsLawful}
use Rattle.kmip_client.specs.declared.knowledge.Knowledge.{Knowledge}
use Rattle.kmip_client.specs.Asking.{AreApart, after_ask, in_turn, next_places, turn_behind}
use Rattle.kmip_client.specs.Clients.{ClientState, WorksAt, AreSettled, working_count}
use Rattle.kmip_client.specs.Private.{IsShaped}
use Rattle.kmip_client.proofs.AskingLemmas.{few_cut, none_all, none_from, none_next}
use Rattle.kmip_client.proofs.client.Client.ask.Goals as goal

pub next_places-requires-clause-as_many : goal.next_places-requires-clause-as_many
next_places-requires-clause-as_many c =
    rw (c.as_slice.ensures.value, c.keys-keys.ensures.value)
    (AllZip-long IsShaped c.self.inside.plan.now c.self.inside.knowns.items c.self.invariant.0.each)

pub returns-then-self-eq0-clause-question : goal.returns-then-self-eq0-clause-question
returns-then-self-eq0-clause-question c =
    let none : working_count c.args.self.now.keys c.args.self.now.knowns ≡ 0 =
    subst (λ (s : ClientState). working_count s.keys s.knowns ≡ 0) c.self.view_is (sym c.self.invariant.0.counted ∙ c.if-self-eq0.true) in
    rw (none_next c.args.self.now none) refl

pub returns-then-self-eq0-clause-none : goal.returns-then-self-eq0-clause-none
returns-then-self-eq0-clause-none c = λ is.
    let none : working_count c.self.inside.plan.now c.self.inside.knowns.items ≡ 0 = sym c.self.invariant.0.counted ∙ c.if-self-eq0.true in
    subst (λ (s : ClientState). AreSettled s.keys s.knowns) c.self.view_is
    (none_all 0 c.self.inside.plan.now c.self.inside.knowns.items
    (AllZip-long IsShaped c.self.inside.plan.now c.self.inside.knowns.items c.self.invariant.0.each)
    (none_from 0 c.self.inside.plan.now c.self.inside.knowns.items none))

pub returns-then-self-eq0-clause-turn : goal.returns-then-self-eq0-clause-turn
returns-then-self-eq0-clause-turn c =
    let none : working_count c.args.self.now.keys c.args.self.now.knowns ≡ 0 =
    subst (λ (s : ClientState). working_count s.keys s.knowns ≡ 0) c.self.view_is (sym c.self.invariant.0.counted ∙ c.if-self-eq0.true) in
    rw (none_next c.args.self.now none) refl

-- a key stands at the last place that is asked about
last_inside : (keys : List Key) (knowns : List Knowledge) (places : List ℕ) (last : ℕ) → All (WorksAt keys knowns) places
    → Some last ≡ slice_get places (length places - 1) → last < length keys
last_inside keys knowns places last works is =
    let inside = slice_get_within places (length places - 1) last (sym is) in
    let w : WorksAt keys knowns last =
    subst (WorksAt keys knowns) (get_or_from_slice_get places (length places - 1) last 0 (sym is)) (works (length places - 1) 0 inside) in
    slice_get_within keys last w.key w.key_is

-- some, and no more than a message may have, are as many as it may have
some_few : (batch n : ℕ) → IsTrue (may_have batch) → 1 ≤ n → n ≤ batch → IsTrue (may_have n)
some_few batch n may some few =
    let most = leb-true batch MOST_QUESTIONS (and_parts (nat_le 1 batch) (nat_le batch MOST_QUESTIONS) may).1 in
    and_from (nat_le 1 n) (nat_le n MOST_QUESTIONS) (le-leb 1 n some) (le-leb n MOST_QUESTIONS (omega (arith, few, most)))

pub overflow_add-next : goal.overflow_add-next
overflow_add-next c =
    let inside = last_inside c.keys-keys.result.now c.as_slice.result.now c.in_ok-places.places.items c.in-Some.last.now c.in_ok-places.ensures.work
    (subst (λ ps. Some c.in-Some.last.now ≡ slice_get ps (length ps - 1)) c.deref.ensures.value c.in-Some.ensures.value) in
    omega (arith, inside, c.keys-keys.ensures.lawful.few)

pub question_at-requires : goal.question_at-requires
question_at-requires c =
    let places = c.in_ok-places.places.items in
    let asked = c.as_slice-3.ensures.value in
    let some : 1 ≤ length places =
    subst (λ (ps : List ℕ). 1 ≤ length ps) c.deref.ensures.value
    (omega (arith, slice_get_within c.deref.result.now (length c.deref.result.now - 1) c.in-Some.last.now (sym c.in-Some.ensures.value))) in
    let state : ClientState = record { keys = c.keys-keys.result.now; knowns = c.as_slice.result.now; next = c.self.inside.next; batch = c.self.inside.batch } in
    let few : length places ≤ c.self.inside.batch =
    subst (λ (ps : List ℕ). length ps ≤ c.self.inside.batch) (sym c.in_ok-places.ensures.places) (few_cut c.self.inside.batch (in_turn state)) in
    record {
      shaped = rw (c.keys-keys.ensures.value, c.as_slice-2.ensures.value) c.self.invariant.0.each;
      fits = c.keys-keys.ensures.fits;
      lawful = subst IsLawful (sym c.keys-keys.ensures.value) c.keys-keys.ensures.lawful;
      works = subst (λ os. All (WorksAt c.keys-keys.result.now os) c.as_slice-3.result.now) (c.as_slice.ensures.value ∙ sym c.as_slice-2.ensures.value)
          (subst (All (WorksAt c.keys-keys.result.now c.as_slice.result.now)) (sym asked) c.in_ok-places.ensures.work);
      apart = subst AreApart (sym asked) c.in_ok-places.ensures.apart;
      some = subst (λ (ps : List ℕ). IsTrue (may_have (length ps))) (sym asked) (some_few c.self.inside.batch (length places) c.self.invariant.1 some few);
    }

pub invariant_of-self : goal.invariant_of-self
invariant_of-self c =
    let inside = last_inside c.keys-keys.result.now c.as_slice.result.now c.in_ok-places.places.items c.in-Some.last.now c.in_ok-places.ensures.work
    (subst (λ ps. Some c.in-Some.last.now ≡ slice_get ps (length ps - 1)) c.deref.ensures.value c.in-Some.ensures.value) in
    let here : c.in-Some.last.now < length c.self.inside.plan.now = subst (λ (ks : List Key). c.in-Some.last.now < length ks) c.keys-keys.ensures.value inside in
    let shaped = c.self.invariant.0 in (
      record { lawful = shaped.lawful; each = shaped.each; turn = omega (arith, here); counted = shaped.counted },
      c.self.invariant.1,
    )

pub returns-clause-few : goal.returns-clause-few
returns-clause-few c = few_cut c.args.self.now.batch (in_turn c.args.self.now)

pub returns-in_default-clause-few : goal.returns-in_default-clause-few
returns-in_default-clause-few c = few_cut c.args.self.now.batch (in_turn c.args.self.now)

pub returns-in_err-places-clause-few : goal.returns-in_err-places-clause-few
returns-in_err-places-clause-few c = few_cut c.args.self.now.batch (in_turn c.args.self.now)

pub returns-in_err-question-clause-few : goal.returns-in_err-question-clause-few
returns-in_err-question-clause-few c = few_cut c.args.self.now.batch (in_turn c.args.self.now)

pub returns-then-self-eq0-clause-few : goal.returns-then-self-eq0-clause-few
returns-then-self-eq0-clause-few c = few_cut c.args.self.now.batch (in_turn c.args.self.now)

pub returns-clause-turn : goal.returns-clause-turn
returns-clause-turn c =
    let places = c.in_ok-places.places.items in
    let state : ClientState = record { keys = c.self.inside.plan.now; knowns = c.self.inside.knowns.items; next = c.self.inside.next; batch = c.self.inside.batch } in
    let last : Some c.in-Some.last.now ≡ slice_get places (length places - 1) =
    subst (λ ps. Some c.in-Some.last.now ≡ slice_get ps (length ps - 1)) c.deref.ensures.value c.in-Some.ensures.value in
    let asked : places ≡ next_places state = rw (c.keys-keys.ensures.value, c.as_slice.ensures.value) at c.in_ok-places.ensures.places in
    subst (λ (s : ClientState). record state { next = c.in-Some.last.now + 1 } ≡ after_ask s) c.self.view_is
    (subst (λ (ps : List ℕ). record state { next = c.in-Some.last.now + 1 } ≡ record state { next = turn_behind ps state.next }) asked
    (ap (λ o. record state { next = option_map_or (λ place. place + 1) o state.next }) last))
