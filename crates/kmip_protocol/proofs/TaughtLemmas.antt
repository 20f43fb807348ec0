-- What the replies to several questions teach, each about a key of its own: of that key alone, whatever the others are.
use Rattle.std.proofs.Common.{◌≡◌, ◌≢◌, ℕ, zero, suc, true, false, not, ◌==◌, ◌||◌, List, [], ◌∷◌, map, filter, Option, Some, None, Result, Ok, Err, slice_set, refl, sym, ap, ◌∙◌, inl, inr}
use Rattle.std.specs.Prelude.{⊤}
use Rattle.std.specs.List.{All, list_any, slice_get}
use Rattle.std.specs.Option.{is_none}
use Rattle.std.proofs.lemmas.Bool.{cases_Bool, eq-eqb, eqb-true}
use Rattle.std.proofs.lemmas.List.Elements.{All-head, All-tail}
use Rattle.kmip_batch_items.specs.declared.reply.Reply.{Reply}
use Rattle.kmip_plan.specs.declared.key.Key.{Key}
use Rattle.kmip_client.specs.declared.hear_fault.HearFault.{HearFault}
use Rattle.kmip_client.specs.declared.hear_fault.HearFault.TheVariants as faults
use Rattle.kmip_client.specs.declared.knowledge.Knowledge.{Knowledge}
use Rattle.kmip_client.specs.declared.part.Part.{Part}
use Rattle.kmip_client.specs.declared.heard.Heard.{Heard}
use Rattle.kmip_client.specs.Asking.{AreApart}
use Rattle.kmip_client.specs.Hearing.{hear_each, known_after_each, known_after_reply, heard_in}
use Rattle.kmip_client.specs.Clients.{changed_at, lost_working}
use Rattle.kmip_protocol.specs.Turns.{answers_part, is_unanswered, lost_each, taught_by}
use Rattle.kmip_protocol.proofs.LeftSumLemmas.{set_elsewhere}

-- One question and its reply: the place of its key, what was known of that and what is known after it, and what was heard, where the
-- reply had its id.
pub record Turn : Type 0 where
  pub place : ℕ
  pub operation : ℕ
  pub reply : Reply
  pub known : Knowledge
  pub next : Knowledge
  pub heard : Option Heard

-- whatever is known of other keys, the reply teaches so; one without an id teaches nothing, and its key is looked at again
abbrev pub Tells : List Key → Turn → Option Heard → Type 0
Tells keys t (Some h) =
    (h.key ≡ t.place) × (h.operation ≡ t.operation)
    × ((knowns : List Knowledge) → slice_get knowns t.place ≡ Some t.known → heard_in keys t.reply knowns ≡ Ok (h, slice_set knowns t.place t.next))
Tells keys t None =
    ((knowns : List Knowledge) → heard_in keys t.reply knowns ≡ Err faults.StrangerId)
    × ((knowns : List Knowledge) → slice_get knowns t.place ≡ Some t.known → changed_at lost_working keys knowns t.place ≡ slice_set knowns t.place t.next)

abbrev pub places_of : List Turn → List ℕ
places_of ts = map (λ (t : Turn). t.place) ts

abbrev pub part_of : Turn → Part
part_of t = record { key = t.place; operation = t.operation }

abbrev pub parts_of : List Turn → List Part
parts_of ts = map part_of ts

abbrev pub replies_of : List Turn → List Reply
replies_of ts = map (λ (t : Turn). t.reply) ts

abbrev result_of : Option Heard → Result Heard HearFault
result_of (Some h) = Ok h
result_of None = Err faults.StrangerId

abbrev heards_of : List Turn → List (Result Heard HearFault)
heards_of ts = map (λ (t : Turn). result_of t.heard) ts

abbrev bares_of : List Turn → List Turn
bares_of ts = filter (λ (t : Turn). is_none t.heard) ts

-- each tells so of what is known
abbrev pub AreTold : List Key → List Knowledge → List Turn → Type 0
AreTold keys knowns [] = ⊤
AreTold keys knowns (t ∷ ts) = Tells keys t t.heard × (slice_get knowns t.place ≡ Some t.known) × AreTold keys knowns ts

-- what is known after all of them
abbrev pub set_each : List Turn → List Knowledge → List Knowledge
set_each [] knowns = knowns
set_each (t ∷ ts) knowns = set_each ts (slice_set knowns t.place t.next)

-- and after those that were heard
abbrev set_if : Option Heard → ℕ → Knowledge → List Knowledge → List Knowledge
set_if (Some h) place next knowns = slice_set knowns place next
set_if None place next knowns = knowns

abbrev set_heard : List Turn → List Knowledge → List Knowledge
set_heard [] knowns = knowns
set_heard (t ∷ ts) knowns = set_heard ts (set_if t.heard t.place t.next knowns)

-- ---- one key beside the others

pub told_beside : (keys : List Key) (knowns : List Knowledge) (place : ℕ) (next : Knowledge) (ts : List Turn) → All (λ other. other ≢ place) (places_of ts)
    → AreTold keys knowns ts → AreTold keys (slice_set knowns place next) ts
told_beside keys knowns place next [] apart told = tt
told_beside keys knowns place next (t ∷ ts) apart (tells, there, more) =
    let differ : place ≢ t.place = λ e. All-head (λ other. other ≢ place) t.place (places_of ts) apart (sym e) in (
      tells,
      set_elsewhere knowns place t.place next differ ∙ there,
      told_beside keys knowns place next ts (All-tail (λ other. other ≢ place) t.place (places_of ts) apart) more,
    )

pub told_before : (keys : List Key) (knowns : List Knowledge) (place : ℕ) (next : Knowledge) (ts : List Turn) → All (λ other. other ≢ place) (places_of ts)
    → AreTold keys (slice_set knowns place next) ts → AreTold keys knowns ts
told_before keys knowns place next [] apart told = tt
told_before keys knowns place next (t ∷ ts) apart (tells, there, more) =
    let differ : place ≢ t.place = λ e. All-head (λ other. other ≢ place) t.place (places_of ts) apart (sym e) in (
      tells,
      sym (set_elsewhere knowns place t.place next differ) ∙ there,
      told_before keys knowns place next ts (All-tail (λ other. other ≢ place) t.place (places_of ts) apart) more,
    )

set_twice : (knowns : List Knowledge) (i j : ℕ) (x y : Knowledge) → i ≢ j → slice_set (slice_set knowns i x) j y ≡ slice_set (slice_set knowns j y) i x
set_twice [] i j x y differ = refl
set_twice (k ∷ knowns) zero zero x y differ = absurd (differ refl)
set_twice (k ∷ knowns) zero (suc j) x y differ = refl
set_twice (k ∷ knowns) (suc i) zero x y differ = refl
set_twice (k ∷ knowns) (suc i) (suc j) x y differ = ap (λ ks. k ∷ ks) (set_twice knowns i j x y (λ e. differ (ap suc e)))

heard_beside : (place : ℕ) (next : Knowledge) (ts : List Turn) (knowns : List Knowledge) → All (λ other. other ≢ place) (places_of ts)
    → set_heard ts (slice_set knowns place next) ≡ slice_set (set_heard ts knowns) place next
heard_beside place next [] knowns apart = refl
heard_beside place next (t ∷ ts) knowns apart =
    let differ : place ≢ t.place = λ e. All-head (λ other. other ≢ place) t.place (places_of ts) apart (sym e) in
    let rest = All-tail (λ other. other ≢ place) t.place (places_of ts) apart in
    by t.heard differ (λ ks. heard_beside place next ts ks rest) where
      by : (h : Option Heard) → place ≢ t.place → ((ks : List Knowledge) → set_heard ts (slice_set ks place next) ≡ slice_set (set_heard ts ks) place next)
          → set_heard ts (set_if h t.place t.next (slice_set knowns place next)) ≡ slice_set (set_heard ts (set_if h t.place t.next knowns)) place next
      by (Some h) differ rest = ap (set_heard ts) (set_twice knowns place t.place next t.next differ) ∙ rest (slice_set knowns t.place t.next)
      by None differ rest = rest knowns

still_there : (place : ℕ) (ts : List Turn) (knowns : List Knowledge) → All (λ other. other ≢ place) (places_of ts)
    → slice_get (set_heard ts knowns) place ≡ slice_get knowns place
still_there place [] knowns apart = refl
still_there place (t ∷ ts) knowns apart =
    let differ : t.place ≢ place = All-head (λ other. other ≢ place) t.place (places_of ts) apart in
    let rest = All-tail (λ other. other ≢ place) t.place (places_of ts) apart in
    by t.heard differ (λ ks. still_there place ts ks rest) where
      by : (h : Option Heard) → t.place ≢ place → ((ks : List Knowledge) → slice_get (set_heard ts ks) place ≡ slice_get ks place)
          → slice_get (set_heard ts (set_if h t.place t.next knowns)) place ≡ slice_get knowns place
      by (Some h) differ rest = rest (slice_set knowns t.place t.next) ∙ set_elsewhere knowns t.place place t.next differ
      by None differ rest = rest knowns

-- ---- what is heard

heard_all : (keys : List Key) (ts : List Turn) (knowns : List Knowledge) → AreApart (places_of ts) → AreTold keys knowns ts
    → (hear_each keys (replies_of ts) knowns ≡ heards_of ts) × (known_after_each keys (replies_of ts) knowns ≡ set_heard ts knowns)
heard_all keys [] knowns apart told = (refl, refl)
heard_all keys (t ∷ ts) knowns apart (tells, there, more) =
    by t.heard tells (λ ks told. heard_all keys ts ks apart.1 told) where
      after : {r : Result (Heard × List Knowledge) HearFault} → heard_in keys t.reply knowns ≡ r
          → known_after_each keys (replies_of (t ∷ ts)) knowns ≡ known_after_each keys (replies_of ts) (known_after_reply r knowns)
      after is = ap (λ r. known_after_each keys (replies_of ts) (known_after_reply r knowns)) is

      by : (h : Option Heard) → Tells keys t h → ((ks : List Knowledge) → AreTold keys ks ts
          → (hear_each keys (replies_of ts) ks ≡ heards_of ts) × (known_after_each keys (replies_of ts) ks ≡ set_heard ts ks))
          → (hear_each keys (replies_of (t ∷ ts)) knowns ≡ result_of h ∷ heards_of ts)
          × (known_after_each keys (replies_of (t ∷ ts)) knowns ≡ set_heard ts (set_if h t.place t.next knowns))
      by (Some h) (key_is, operation_is, says) rest =
          let others = rest (slice_set knowns t.place t.next) (told_beside keys knowns t.place t.next ts apart.0 more) in
          (rw (says knowns there) (ap (λ hs. Ok h ∷ hs) others.0), after (says knowns there) ∙ others.1)
      by None (stranger, lost) rest =
          let others = rest knowns more in
          (rw (stranger knowns) (ap (λ hs. Err faults.StrangerId ∷ hs) others.0), after (stranger knowns) ∙ others.1)

-- ---- which parts have no answer

-- what was heard of other keys answers no part about this one
none_about : (keys : List Key) (part : Part) (ts : List Turn) (knowns : List Knowledge) → All (λ other. other ≢ part.key) (places_of ts) → AreTold keys knowns ts
    → list_any (answers_part part) (heards_of ts) ≡ false
none_about keys part [] knowns apart told = refl
none_about keys part (t ∷ ts) knowns apart (tells, there, more) =
    let differ = All-head (λ other. other ≢ part.key) t.place (places_of ts) apart in
    let rest = none_about keys part ts knowns (All-tail (λ other. other ≢ part.key) t.place (places_of ts) apart) more in
    by t.heard tells differ rest where
      by : (h : Option Heard) → Tells keys t h → t.place ≢ part.key → list_any (answers_part part) (heards_of ts) ≡ false
          → list_any (answers_part part) (result_of h ∷ heards_of ts) ≡ false
      by (Some h) (key_is, operation_is, says) differ rest =
          elim (cases_Bool (h.key == part.key)) [
            | inl same ↦ absurd (differ (sym key_is ∙ eqb-true h.key part.key same))
            | inr other ↦ rw (other, rest) refl
          ]
      by None tells differ rest = rw rest refl

own_answer : (t : Turn) (h : Heard) → h.key ≡ t.place → h.operation ≡ t.operation → answers_part (part_of t) (Ok h) ≡ true
own_answer t h key_is operation_is = rw (eq-eqb h.key t.place key_is, eq-eqb h.operation t.operation operation_is) refl

-- what was heard of one key answers no part about the others
others_alike : (keys : List Key) (t : Turn) (h : Option Heard) (heard : List (Result Heard HearFault)) (parts : List Turn) → Tells keys t h
    → All (λ other. other ≢ t.place) (places_of parts)
    → filter (is_unanswered (result_of h ∷ heard)) (parts_of parts) ≡ filter (is_unanswered heard) (parts_of parts)
others_alike keys t h heard [] tells apart = refl
others_alike keys t h heard (u ∷ us) tells apart =
    let differ = All-head (λ other. other ≢ t.place) u.place (places_of us) apart in
    let rest = others_alike keys t h heard us tells (All-tail (λ other. other ≢ t.place) u.place (places_of us) apart) in
    let same : is_unanswered (result_of h ∷ heard) (part_of u) ≡ is_unanswered heard (part_of u) =
    ap (λ b. not (b || list_any (answers_part (part_of u)) heard)) (no_answer h tells differ) in
    elim (cases_Bool (is_unanswered heard (part_of u))) [
      | inl bare ↦ rw (same ∙ bare, bare) (ap (λ ps. part_of u ∷ ps) rest)
      | inr answered ↦ rw (same ∙ answered, answered) rest
    ]
  where
    no_answer : (h : Option Heard) → Tells keys t h → u.place ≢ t.place → answers_part (part_of u) (result_of h) ≡ false
    no_answer (Some h) (key_is, operation_is, says) differ =
        elim (cases_Bool (h.key == u.place)) [
          | inl same ↦ absurd (differ (sym (sym key_is ∙ eqb-true h.key u.place same)))
          | inr other ↦ rw other refl
        ]
    no_answer None tells differ = refl

unanswered_are : (keys : List Key) (ts : List Turn) (knowns : List Knowledge) → AreApart (places_of ts) → AreTold keys knowns ts
    → filter (is_unanswered (heards_of ts)) (parts_of ts) ≡ parts_of (bares_of ts)
unanswered_are keys [] knowns apart told = refl
unanswered_are keys (t ∷ ts) knowns apart (tells, there, more) =
    let rest = unanswered_are keys ts knowns apart.1 more in
    by t.heard refl tells rest where
      alike : (h : Option Heard) → t.heard ≡ h
          → filter (is_unanswered (heards_of (t ∷ ts))) (parts_of ts) ≡ filter (is_unanswered (result_of h ∷ heards_of ts)) (parts_of ts)
      alike h is = ap (λ h. filter (is_unanswered (result_of h ∷ heards_of ts)) (parts_of ts)) is

      by : (h : Option Heard) → t.heard ≡ h → Tells keys t h → filter (is_unanswered (heards_of ts)) (parts_of ts) ≡ parts_of (bares_of ts)
          → filter (is_unanswered (heards_of (t ∷ ts))) (parts_of (t ∷ ts)) ≡ parts_of (bares_of (t ∷ ts))
      by (Some h) is tells rest =
          let others = others_alike keys t (Some h) (heards_of ts) ts tells apart.0 in
          let head : is_unanswered (heards_of (t ∷ ts)) (part_of t) ≡ false =
          ap (λ h. not (answers_part (part_of t) (result_of h) || list_any (answers_part (part_of t)) (heards_of ts))) is
          ∙ ap (λ b. not (b || list_any (answers_part (part_of t)) (heards_of ts))) (own_answer t h tells.0 tells.1) in
          let told : is_none t.heard ≡ false = ap is_none is in
          rw (head, told) (alike (Some h) is ∙ others ∙ rest)
      by None is tells rest =
          let others = others_alike keys t None (heards_of ts) ts tells apart.0 in
          let none = none_about keys (part_of t) ts knowns apart.0 more in
          let head : is_unanswered (heards_of (t ∷ ts)) (part_of t) ≡ true =
          ap (λ h. not (answers_part (part_of t) (result_of h) || list_any (answers_part (part_of t)) (heards_of ts))) is ∙ ap not none in
          let bare : is_none t.heard ≡ true = ap is_none is in
          rw (head, bare) (ap (λ ps. part_of t ∷ ps) (alike None is ∙ others ∙ rest))

-- ---- what is known after all

lost_are : (keys : List Key) (ts : List Turn) (knowns : List Knowledge) → AreApart (places_of ts) → AreTold keys knowns ts
    → lost_each keys (parts_of (bares_of ts)) (set_heard ts knowns) ≡ set_each ts knowns
lost_are keys [] knowns apart told = refl
lost_are keys (t ∷ ts) knowns apart (tells, there, more) =
    let rest = lost_are keys ts (slice_set knowns t.place t.next) apart.1 (told_beside keys knowns t.place t.next ts apart.0 more) in
    by t.heard refl tells rest where
      by : (h : Option Heard) → t.heard ≡ h → Tells keys t h
          → lost_each keys (parts_of (bares_of ts)) (set_heard ts (slice_set knowns t.place t.next)) ≡ set_each ts (slice_set knowns t.place t.next)
          → lost_each keys (parts_of (bares_of (t ∷ ts))) (set_heard (t ∷ ts) knowns) ≡ set_each (t ∷ ts) knowns
      by (Some h) is tells rest = rw is rest
      by None is tells rest =
          let one = tells.1 (set_heard ts knowns) (still_there t.place ts knowns apart.0 ∙ there) in
          rw is (ap (lost_each keys (parts_of (bares_of ts))) (one ∙ sym (heard_beside t.place t.next ts knowns apart.0)) ∙ rest)

-- what is known after a message of these replies
pub taught_all : (keys : List Key) (ts : List Turn) (knowns : List Knowledge) → AreApart (places_of ts) → AreTold keys knowns ts
    → taught_by keys (parts_of ts) knowns (Ok (hear_each keys (replies_of ts) knowns, known_after_each keys (replies_of ts) knowns)) ≡ set_each ts knowns
taught_all keys ts knowns apart told =
    let heard = heard_all keys ts knowns apart told in
    ap (λ hs. lost_each keys (filter (is_unanswered hs) (parts_of ts)) (known_after_each keys (replies_of ts) knowns)) heard.0
    ∙ ap (λ ps. lost_each keys ps (known_after_each keys (replies_of ts) knowns)) (unanswered_are keys ts knowns apart told)
    ∙ ap (lost_each keys (parts_of (bares_of ts))) heard.1
    ∙ lost_are keys ts knowns apart told
