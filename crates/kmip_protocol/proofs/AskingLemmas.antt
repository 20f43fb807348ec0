-- The question joins those asked: its key's next step may be under way then, and no other key's is that was not.
use Rattle.std.proofs.Common.{◌≡◌, ◌≢◌, ◌≤◌, ℕ, ◌+◌, Bool, true, false, ◌||◌, List, [], ◌∷◌, ◌++◌, Option, Some, None}
use Rattle.std.proofs.Common.{refl, sym, ap, ◌∙◌, arith}
use Rattle.std.specs.List.{list_any, slice_get}
use Rattle.std.specs.Option.{option_map_or}
use Rattle.std.proofs.lemmas.List.Folds.{list_any-append}
use Rattle.kmip_objects.specs.declared.step.Step.{Step}
use Rattle.kmip_batch_items.specs.Operations.{operation_of}
use Rattle.kmip_batch_items.specs.declared.request.Request.{Request}
use Rattle.kmip_plan.specs.Chains.{step_at}
use Rattle.kmip_plan.specs.declared.key.Key.{Key}
use Rattle.kmip_plan.specs.Plans.{IsLawful}
use Rattle.kmip_client.specs.Knowledge.{chain_length}
use Rattle.kmip_client.specs.declared.knowledge.Knowledge.{Knowledge}
use Rattle.kmip_client.specs.Clients.{WorksAt}
use Rattle.kmip_client.specs.Held.{Held}
use Rattle.kmip_client.specs.Justified.{Justified}
use Rattle.kmip_client.specs.Places.{position}
use Rattle.kmip_client.specs.Questions.{ask_about, id_of, request_about, step_ask}
use Rattle.kmip_protocol.specs.Exchanges.{with_requests}
use Rattle.kmip_protocol.specs.Past.{Past}
use Rattle.kmip_protocol.specs.PrivateSettlingLawbook.{Lawbook}
use Rattle.kmip_protocol.specs.Losing.{is_id, is_under_way, left_of, left_all, step_id, was_asked}
use Rattle.kmip_protocol.proofs.AskedLemmas.{same_parts}
use Rattle.kmip_protocol.proofs.FilterLemmas.{other_text}
use Rattle.kmip_protocol.proofs.LeftLemmas.{is_there, left_by, left_is, way_left}
use Rattle.kmip_protocol.proofs.LeftSumLemmas.{all_but_one}
use Rattle.kmip_protocol.proofs.SumLemmas.{held_at}

-- the step is asked by the requests after which this one comes, or by this one
pub asked_more : (key : Key) (requests : List Request) (request : Request) (step : Step)
    → is_id (step_id key step) request ≡ false
    → was_asked key (requests ++ request ∷ []) step ≡ was_asked key requests step
asked_more key requests request step other =
    list_any-append (is_id (step_id key step)) requests (request ∷ [])
    ∙ ap (λ b. list_any (is_id (step_id key step)) requests || (b || false)) other
    ∙ or_false (list_any (is_id (step_id key step)) requests) where
      or_false : (b : Bool) → (b || (false || false)) ≡ b
      or_false true = refl
      or_false false = refl

-- a question about another key asks no step of this one
pub other_key : (key other : Key) (known : Knowledge) (step : Step) → key.attrs.name ≢ other.attrs.name
    → is_id (step_id key step) (request_about other known) ≡ false
other_key key other known step apart =
    other_text (step_id key step) (id_of (operation_of (ask_about other known)) other)
    (λ same. apart (same_parts (operation_of (step_ask key [] step)) (operation_of (ask_about other known))
    key.attrs.name other.attrs.name same).1)

pub way_same : (key : Key) (p : Past) (requests : List Request) (request : Request) → requests ≡ request ∷ []
    → ((step : Step) → step_at key.target (position key p.objects + 1) ≡ Some step
    → is_id (step_id key step) request ≡ false)
    → is_under_way key (record p { requests = p.requests ++ requests }) ≡ is_under_way key p
way_same key p requests request one other =
    ap (λ more. option_map_or (was_asked key (p.requests ++ more)) (step_at key.target (position key p.objects + 1))
    false) one
    ∙ by_step (step_at key.target (position key p.objects + 1)) other where
      by_step : (found : Option Step) → ((step : Step) → found ≡ Some step → is_id (step_id key step) request ≡ false)
          → option_map_or (was_asked key (p.requests ++ request ∷ [])) found false ≡ option_map_or
          (was_asked key p.requests) found false
      by_step None other = refl
      by_step (Some step) other = asked_more key p.requests request step (other step refl)

-- the names of two keys differ
pub names_apart : (l : Lawbook) (keys : List Key) (i j : ℕ) (key other : Key) → IsLawful keys
    → slice_get keys i ≡ Some key → slice_get keys j ≡ Some other → i ≢ j
    → key.attrs.name ≢ other.attrs.name
names_apart l keys i j key other lawful here there apart =
    λ same. apart (l.plan.distinct keys i j key other lawful here there same)

-- what the question about a key asks may be asked
pub one_justified : (l : Lawbook) (keys : List Key) (p : Past) (knowns : List Knowledge) (place : ℕ)
    (w : WorksAt keys knowns place) → IsLawful keys
    → Held p.objects keys knowns → Justified keys p.objects (request_about w.key w.known)
one_justified l keys p knowns place w lawful held = record {
  key = w.key;
  is_planned = l.plan.found keys place w.key lawful w.key_is;
  id_is = refl;
  may = l.client.asks p.objects w.key w.known
      (held_at keys knowns place w.key w.known p.objects held w.key_is w.known_is) w.works;
}

-- each question adds one at most
pub request_left : (l : Lawbook) (keys : List Key) (p : Past) (knowns : List Knowledge) (place : ℕ)
    (w : WorksAt keys knowns place) → IsLawful keys
    → left_all keys knowns (with_requests (request_about w.key w.known ∷ []) p) ≤ left_all keys knowns p + 1
request_left l keys p knowns place w lawful =
    let request : Request = request_about w.key w.known in
    let asked : Past = with_requests (request ∷ []) p in
    all_but_one keys knowns place p asked
    (λ j key known here there apart.
    let name = names_apart l keys j place key w.key lawful here w.key_is apart in
    let way = way_same key p (request ∷ []) request refl (λ step is. other_key key w.key w.known step name) in
    let same : left_of key known asked ≡ left_of key known p =
    left_is key known asked
    ∙ ap (left_by known.phase (chain_length key) known.done (is_there key p) (position key p.objects)) way
    ∙ sym (left_is key known p) in
    omega (arith, same))
    (λ key known here there.
    let more = way_left known.phase (chain_length key) known.done (position key p.objects) (is_there key p)
    (is_under_way key asked) (is_under_way key p) in
    omega (arith, more, left_is key known asked, left_is key known p))
