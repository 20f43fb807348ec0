-- Each request is that of a key that is worked on.
use Rattle.std.proofs.Common.{◌≡◌, ◌∙◌, ℕ, ◌+◌, ◌<◌, nat_le, not, List, [], ◌∷◌, ◌++◌, length, get_or, drop, map, Some}
use Rattle.std.proofs.Common.{Ok, refl, ap, sym, subst, append_assoc, arith}
use Rattle.std.proofs.lemmas.Bool.{and_parts, leb-true}
use Rattle.std.proofs.lemmas.List.{drop_more}
use Rattle.std.specs.List.{All, cons_option}
use Rattle.kmip_ttlv.specs.Spelling.{canon}
use Rattle.kmip_batch_items.specs.declared.standard.TheConstants.{MOST_QUESTIONS}
use Rattle.kmip_messages.specs.Written.{requests_item}
use Rattle.kmip_messages.specs.Items.{parts_in, requests_in, stops_in}
use Rattle.kmip_plan.specs.declared.key.Key.{Key}
use Rattle.kmip_client.specs.declared.knowledge.Knowledge.{Knowledge}
use Rattle.kmip_client.specs.Asking.{at_place, at_places, part_about, requests_at}
use Rattle.kmip_client.specs.Justified.{Justified}
use Rattle.kmip_client.specs.Questions.{request_about}
use Rattle.kmip_client.proofs.AskingLemmas.{all_there, batch_fits, requests_are_fit, requests_justified}
use Rattle.kmip_client.proofs.batching.question_at.Goals as goal

pub write_request-requires : goal.write_request-requires
write_request-requires c =
    batch_fits c.args.keys.now c.args.knowns.now c.args.places.now c.as_slice.result.now
    c.the_laws_of_plans_hold.ensures.revoke c.requires.shaped c.requires.fits
    c.requires.works c.requires.some
    (c.as_slice.ensures.value ∙ all_there (λ place key known. request_about key known) c.args.keys.now
    c.args.knowns.now c.args.places.now c.loop-place.place-index c.loop-place.requests.items
    (omega (arith, c.loop-place-test.false)) c.loop-place.invariant.1)

pub returns-clause-justified : goal.returns-clause-justified
returns-clause-justified c = λ objects held.
    let asked : c.as_slice.result.now ≡ requests_at c.args.keys.now c.args.knowns.now c.args.places.now =
    c.as_slice.ensures.value ∙ all_there (λ place key known. request_about key known) c.args.keys.now
    c.args.knowns.now c.args.places.now c.loop-place.place-index c.loop-place.requests.items
    (omega (arith, c.loop-place-test.false)) c.loop-place.invariant.1 in
    subst (λ rs. All (Justified c.args.keys.now objects) rs)
    (sym (ap requests_in c.from_vec-2.ensures ∙ c.in_ok-bytes.ensures.asks ∙ asked))
    (requests_justified c.args.keys.now objects c.args.knowns.now c.args.places.now
    c.the_laws_of_plans_hold.ensures.next_step c.the_laws_of_plans_hold.ensures.found
    c.requires.lawful held c.requires.works)

pub returns-clause-about : goal.returns-clause-about
returns-clause-about c =
    let asked : c.as_slice.result.now ≡ requests_at c.args.keys.now c.args.knowns.now c.args.places.now =
    c.as_slice.ensures.value ∙ all_there (λ place key known. request_about key known) c.args.keys.now
    c.args.knowns.now c.args.places.now c.loop-place.place-index
    c.loop-place.requests.items (omega (arith, c.loop-place-test.false)) c.loop-place.invariant.1 in
    let many = (requests_are_fit c.args.keys.now c.args.knowns.now c.args.places.now
    c.the_laws_of_plans_hold.ensures.revoke c.requires.shaped c.requires.fits c.requires.works).1 in
    record {
      some = leb-true 1 (length c.args.places.now)
          (and_parts (nat_le 1 (length c.args.places.now)) (nat_le (length c.args.places.now) MOST_QUESTIONS)
          c.requires.some).0;
      works = c.requires.works;
      apart = c.requires.apart;
      parts_are = c.from_vec.ensures ∙ all_there part_about c.args.keys.now c.args.knowns.now c.args.places.now
          c.loop-place.place-index c.loop-place.parts.items
          (omega (arith, c.loop-place-test.false)) c.loop-place.invariant.0;
      written = c.from_vec-2.ensures ∙ c.in_ok-bytes.ensures.bytes ∙ ap (λ rs. canon (requests_item rs)) asked;
      asks = ap requests_in c.from_vec-2.ensures ∙ c.in_ok-bytes.ensures.asks ∙ asked;
      asks_alone = ap parts_in c.from_vec-2.ensures ∙ c.in_ok-bytes.ensures.parts ∙ ap (map Ok) asked;
      goes_on = ap stops_in c.from_vec-2.ensures ∙ c.in_ok-bytes.ensures.stops
          ∙ ap (λ rs. not (nat_le 2 (length rs))) asked ∙ ap (λ n. not (nat_le 2 n)) many;
    }

pub returns-clause-question : goal.returns-clause-question
returns-clause-question c =
    let asked : c.as_slice.result.now ≡ requests_at c.args.keys.now c.args.knowns.now c.args.places.now =
    c.as_slice.ensures.value ∙ all_there (λ place key known. request_about key known) c.args.keys.now
    c.args.knowns.now c.args.places.now c.loop-place.place-index
    c.loop-place.requests.items (omega (arith, c.loop-place-test.false)) c.loop-place.invariant.1 in
    let parts = c.from_vec.ensures ∙ all_there part_about c.args.keys.now c.args.knowns.now c.args.places.now
    c.loop-place.place-index c.loop-place.parts.items
    (omega (arith, c.loop-place-test.false)) c.loop-place.invariant.0 in
    let bytes = c.from_vec-2.ensures ∙ c.in_ok-bytes.ensures.bytes ∙ ap (λ rs. canon (requests_item rs)) asked in
    rw (parts, bytes) refl

-- what is said of one place more stands behind what was said before
one_more : {A : Type 0} (f : ℕ → Key → Knowledge → A) (keys : List Key) (knowns : List Knowledge) (places : List ℕ)
    (i : ℕ) (xs : List A) (x : A)
    → i < length places → at_place f keys knowns (get_or places i 0) ≡ Some x
    → xs ++ at_places f keys knowns (drop i places) ≡ at_places f keys knowns places
    → (xs ++ x ∷ []) ++ at_places f keys knowns (drop (i + 1) places) ≡ at_places f keys knowns places
one_more f keys knowns places i xs x inside there is =
    let left = drop_more places i 0 inside in
    append_assoc xs (x ∷ []) (at_places f keys knowns (drop (i + 1) places))
    ∙ ap (λ o. xs ++ cons_option o (at_places f keys knowns (drop (i + 1) places))) (sym there)
    ∙ ap (λ ps. xs ++ at_places f keys knowns ps) (sym left) ∙ is

pub loop-place-preserved : goal.loop-place-preserved
loop-place-preserved c = (
  rw (c.in_ok-push.ensures.items, c.number.ensures, c.operation.ensures)
      (one_more part_about c.args.keys.now c.args.knowns.now c.args.places.now c.loop-place.place-index
      c.loop-place.parts.items _ c.loop-place-test.true
      c.in_ok-request.ensures.part c.loop-place.invariant.0),
  rw c.in_ok-push-2.ensures.items
      (one_more (λ place key known. request_about key known) c.args.keys.now c.args.knowns.now c.args.places.now
      c.loop-place.place-index
      c.loop-place.requests.items _ c.loop-place-test.true c.in_ok-request.ensures.request c.loop-place.invariant.1),
)
