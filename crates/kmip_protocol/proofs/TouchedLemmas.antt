-- What is left of keys of which more is known, whatever that is: at most one more for each, and no more for those that
-- nothing was heard of.
use Rattle.std.proofs.Common.{◌≡◌, ◌≤◌, ◌<◌, ℕ, suc, ◌+◌, ◌-◌, Bool, true, false, not, ◌||◌, nat_eq, nat_le, List, []}
use Rattle.std.proofs.Common.{◌∷◌, length, filter, is_some, Option, Some, None, Result, Ok, Err, slice_set, subst, refl}
use Rattle.std.proofs.Common.{sym, ap, ◌∙◌, inl, inr, arith, if◌then◌else◌}
use Rattle.std.specs.List.{All, list_any, slice_get}
use Rattle.std.proofs.lemmas.Bool.{cases_Bool, eq-eqb, eqb-true, leb-false, leb-true}
use Rattle.std.proofs.lemmas.List.Elements.{All-cons, All-head, All-nil, All-tail}
use Rattle.std.proofs.lemmas.Option.{same_Some}
use Rattle.kmip_batch_items.specs.declared.reply.Reply.{Reply}
use Rattle.kmip_plan.specs.declared.key.Key.{Key}
use Rattle.kmip_client.specs.Knowledge.{chain_length, is_working}
use Rattle.kmip_client.specs.declared.hear_fault.HearFault.{HearFault}
use Rattle.kmip_client.specs.declared.knowledge.Knowledge.{Knowledge}
use Rattle.kmip_client.specs.declared.phase.Phase.{Phase}
use Rattle.kmip_client.specs.declared.phase.Phase.TheVariants as phases
use Rattle.kmip_client.specs.declared.part.Part.{Part}
use Rattle.kmip_client.specs.declared.heard.Heard.{Heard}
use Rattle.kmip_client.specs.Hearing.{known_after_each, known_after_reply, heard_in}
use Rattle.kmip_client.specs.Clients.{changed_at, changed_by, lost_working, one_if}
use Rattle.kmip_client.specs.Held.{Held}
use Rattle.kmip_client.specs.Places.{position}
use Rattle.kmip_client.specs.Shapes.{IsKept}
use Rattle.kmip_client.specs.Truth.{TrueReply}
use Rattle.kmip_protocol.specs.Past.{Past}
use Rattle.kmip_protocol.specs.PrivateSettlingLawbook.{Lawbook}
use Rattle.kmip_protocol.specs.Losing.{is_under_way, left_of, left_all}
use Rattle.kmip_protocol.specs.Needs.{need_in}
use Rattle.kmip_protocol.specs.Turns.{lost_each}
use Rattle.kmip_protocol.proofs.HeardLemmas.{WasHeard, was_heard}
use Rattle.kmip_protocol.proofs.LearntLemmas.{kept_itself, learn_kept}
use Rattle.kmip_protocol.proofs.LeftLemmas.{AreNumbers, is_there, left_is}
use Rattle.kmip_protocol.proofs.LeftSumLemmas.{set_elsewhere, set_here}

-- ---- what may be left of a key, whatever of the truth it learns

-- the most that a key needs of which an identifier is known or not, and all its object's steps or not
abbrev cap : ℕ → ℕ → ℕ → Bool → Option (List ℕ) → ℕ
cap n d p there None = if there then n - p + 3 else n + 1
cap n d p there (Some uid) = if nat_eq d p then n - p + 1 else n - p + 2

within_cap : (phase : Phase) (n d p : ℕ) (there : Bool) (uid : Option (List ℕ)) → AreNumbers phase n d p there uid
    → (need_in phase n d there p ≤ cap n d p there uid) × (cap n d p there uid ≤ need_in phase n d there p + 1)
within_cap phases.Look n d p true None are = (omega arith, omega arith)
within_cap phases.Look n d p false None are = (omega arith, omega arith)
within_cap phases.Look n d p there (Some uid) are = let t : Some uid ≡ None = are.suits in absurd cc
within_cap phases.Make n d p true None are = (omega arith, omega arith)
within_cap phases.Make n d p false None are = (omega arith, omega arith)
within_cap phases.Make n d p there (Some uid) are = let t : Some uid ≡ None = are.suits in absurd cc
within_cap phases.Check n d p there None are = absurd (are.suits refl)
within_cap phases.Check n d p there (Some uid) are = elim (cases_Bool (nat_eq d p)) [
  | inl even ↦ rw even (omega arith, omega arith)
  | inr behind ↦ rw behind (omega arith, omega arith)
]
within_cap phases.Go n d p there None are = absurd (are.suits.0 refl)
within_cap phases.Go n d p there (Some uid) are = elim (cases_Bool (nat_eq d p)) [
  | inl even ↦ rw even (omega arith, omega arith)
  | inr behind ↦ rw behind (omega arith, omega arith)
]

cap_falls : (n d e p : ℕ) (there : Bool) (uid other : Option (List ℕ))
    → ((own : List ℕ) → uid ≡ Some own → other ≡ Some own) → d ≤ e → e ≤ p
    → (is_some other ≡ true → there ≡ true) → cap n e p there other ≤ cap n d p there uid
cap_falls n d e p there None None kept more had own = omega arith
cap_falls n d e p true None (Some other) kept more had own = elim (cases_Bool (nat_eq e p)) [
  | inl even ↦ rw even (omega arith)
  | inr behind ↦ rw behind (omega arith)
]
cap_falls n d e p false None (Some other) kept more had own = let t : false ≡ true = own refl in absurd cc
cap_falls n d e p there (Some uid) None kept more had own = let t : None ≡ Some uid = kept uid refl in absurd cc
cap_falls n d e p there (Some uid) (Some other) kept more had own = elim (cases_Bool (nat_eq d p)) [
  | inl even ↦
      let same : nat_eq e p ≡ true = eq-eqb e p (omega (arith, more, had, eqb-true d p even)) in
      rw (even, same) (omega arith)
  | inr behind ↦ elim (cases_Bool (nat_eq e p)) [
    | inl even ↦ rw (behind, even) (omega arith)
    | inr too ↦ rw (behind, too) (omega arith)
  ]
]

-- whatever more is known of a key that is true, at most one more is left
pub kept_leaves : (key : Key) (p : Past) (known next : Knowledge)
    → AreNumbers known.phase (chain_length key) known.done (position key p.objects) (is_there key p) known.identifier
    → AreNumbers next.phase (chain_length key) next.done (position key p.objects) (is_there key p) next.identifier
    → IsKept known next → left_of key next p ≤ left_of key known p + 1
kept_leaves key p known next was now kept =
    let n = chain_length key in
    let q = position key p.objects in
    let there = is_there key p in
    let first = within_cap known.phase n known.done q there known.identifier was in
    let second = within_cap next.phase n next.done q there next.identifier now in
    let falls = cap_falls n known.done next.done q there known.identifier next.identifier kept.identifier_kept
    kept.done_kept now.had now.own in
    let is_first = left_is key known p in
    let is_second = left_is key next p in
    elim (cases_Bool (nat_le n next.done)) [
      | inl all ↦
          let none : left_of key next p ≡ 0 = rw all refl in
          omega (arith, none)
      | inr less ↦
          let below = leb-false n next.done less in
          elim (cases_Bool (nat_le n known.done)) [
            | inl before ↦ absurd (omega (arith, below, leb-true n known.done before, kept.done_kept))
            | inr so ↦
                let one : left_of key known p ≡ need_in known.phase n known.done there q + one_if (not there) + one_if
                (is_under_way key p) = is_first ∙ (rw so refl) in
                let two : left_of key next p ≡ need_in next.phase n next.done there q + one_if (not there) + one_if
                (is_under_way key p) = is_second ∙ (rw less refl) in
                omega (arith, one, two, first.1, second.0, falls)
          ]
    ]

-- ---- places that are counted

abbrev pub is_in : ℕ → List ℕ → Bool
is_in j places = list_any (nat_eq j) places

-- how many of the keys, whose places are counted from one on, stand at some places
abbrev pub among : ℕ → List Key → List ℕ → ℕ
among i [] places = 0
among i (key ∷ keys) places = one_if (is_in i places) + among (i + 1) keys places

one_of_two : (a b : Bool) → one_if (a || b) ≤ one_if a + one_if b
one_of_two true b = omega arith
one_of_two false b = omega arith

among_none : (i : ℕ) (keys : List Key) → among i keys [] ≡ 0
among_none i [] = refl
among_none i (key ∷ keys) = omega (arith, among_none (i + 1) keys)

among_past : (i : ℕ) (keys : List Key) (place : ℕ) → place < i → among i keys (place ∷ []) ≡ 0
among_past i [] place past = refl
among_past i (key ∷ keys) place past = elim (cases_Bool (nat_eq i place)) [
  | inl same ↦ absurd (omega (arith, past, eqb-true i place same))
  | inr apart ↦ let rest = among_past (i + 1) keys place (omega (arith, past)) in rw apart (omega (arith, rest))
]

among_one : (i : ℕ) (keys : List Key) (place : ℕ) → among i keys (place ∷ []) ≤ 1
among_one i [] place = omega arith
among_one i (key ∷ keys) place = elim (cases_Bool (nat_eq i place)) [
  | inl same ↦
      let rest = among_past (i + 1) keys place (omega (arith, eqb-true i place same)) in
      rw (same, rest) (omega arith)
  | inr apart ↦ rw apart (omega (arith, among_one (i + 1) keys place))
]

among_both : (i : ℕ) (keys : List Key) (place : ℕ) (places : List ℕ)
    → among i keys (place ∷ places) ≤ among i keys (place ∷ []) + among i keys places
among_both i [] place places = omega arith
among_both i (key ∷ keys) place places =
    let here = one_of_two (nat_eq i place) (is_in i places) in
    let alone : one_if (is_in i (place ∷ [])) ≡ one_if (nat_eq i place) = ap one_if (or_none (nat_eq i place)) in
    omega (arith, here, alone, among_both (i + 1) keys place places) where
      or_none : (b : Bool) → (b || false) ≡ b
      or_none true = refl
      or_none false = refl

pub among_few : (i : ℕ) (keys : List Key) (places : List ℕ) → among i keys places ≤ length places
among_few i keys [] = omega (arith, among_none i keys)
among_few i keys (place ∷ places) =
    omega (arith, among_both i keys place places, among_one i keys place, among_few i keys places)

-- at most one more is left for each key that stands at one of some places, and no more for the others
pub sum_touched : (i : ℕ) (keys : List Key) (knowns nexts : List Knowledge) (p : Past) (places : List ℕ)
    → Held p.objects keys knowns
    → ((j : ℕ) (key : Key) (known next : Knowledge) → slice_get keys j ≡ Some key → slice_get knowns j ≡ Some known
    → slice_get nexts j ≡ Some next
    → left_of key next p ≤ left_of key known p + one_if (is_in (i + j) places))
    → left_all keys nexts p ≤ left_all keys knowns p + among i keys places
sum_touched i [] knowns nexts p places held each = omega arith
sum_touched i (key ∷ keys) [] nexts p places held each = absurd held
sum_touched i (key ∷ keys) (known ∷ knowns) [] p places held each = omega arith
sum_touched i (key ∷ keys) (known ∷ knowns) (next ∷ nexts) p places held each =
    let first = each 0 key known next refl refl refl in
    let at : i + 0 ≡ i = omega arith in
    let own = ap (λ j. one_if (is_in j places)) at in
    let rest = sum_touched (i + 1) keys knowns nexts p places held.1 (λ j k kn nx is was now.
    let sum : i + suc j ≡ i + 1 + j = omega arith in
    let same = ap (λ m. one_if (is_in m places)) sum in
    let one = each (suc j) k kn nx is was now in
    omega (arith, one, same)) in
    omega (arith, first, own, rest)

-- ---- what is known after events that each concern a key of which that is counted

-- What is known now goes on from what was known, and of the keys that are not counted it is the same.
pub record Gone (keys : List Key) (p : Past) (t : ℕ → Bool) (knowns nexts : List Knowledge) : Type 0 where
  pub held : Held p.objects keys nexts
  pub kept : (j : ℕ) (known next : Knowledge) → slice_get knowns j ≡ Some known → slice_get nexts j ≡ Some next
      → IsKept known next
  pub same : (j : ℕ) → t j ≡ false → slice_get nexts j ≡ slice_get knowns j

pub gone_nowhere : (keys : List Key) (p : Past) (t : ℕ → Bool) (knowns : List Knowledge) → Held p.objects keys knowns
    → Gone keys p t knowns knowns
gone_nowhere keys p t knowns held = record {
  held = held;
  kept = λ j known next was now.
      subst (IsKept known) (same_Some known next (sym was ∙ now)) (kept_itself known);
  same = λ j apart. refl;
}

gone_on : (keys : List Key) (p : Past) (t : ℕ → Bool) (knowns mids : List Knowledge) (place : ℕ)
    (mid next : Knowledge) → Gone keys p t knowns mids
    → slice_get mids place ≡ Some mid → IsKept mid next → t place ≡ true
    → Held p.objects keys (slice_set mids place next)
    → Gone keys p t knowns (slice_set mids place next)
gone_on keys p t knowns mids place mid next gone there kept counted held = record {
  held = held;
  kept = λ j known last was now. elim (cases_Bool (nat_eq place j)) [
    | inl same ↦
        let at = eqb-true place j same in
        let one : slice_get mids j ≡ Some mid = ap (slice_get mids) (sym at) ∙ there in
        let is : next ≡ last = same_Some next last
        (sym (set_here mids place mid next there) ∙ ap (slice_get (slice_set mids place next)) at ∙ now) in
        let first = gone.kept j known mid was one in
        subst (IsKept known) is (record {
          identifier_kept = λ uid own. kept.identifier_kept uid (first.identifier_kept uid own);
          done_kept = omega (arith, first.done_kept, kept.done_kept);
        })
    | inr apart ↦
        gone.kept j known last was (sym (set_elsewhere mids place j next
        (λ e. let f : true ≡ false = sym (eq-eqb place j e) ∙ apart in absurd cc)) ∙ now)
  ];
  same = λ j apart.
      set_elsewhere mids place j next (λ e. let f : true ≡ false = sym counted ∙ ap t e ∙ apart in absurd cc)
      ∙ gone.same j apart;
}

-- ---- replies in turn

heard_kept : (keys : List Key) (knowns nexts : List Knowledge) (reply : Reply) (heard : Heard)
    → (h : WasHeard keys reply knowns heard nexts)
    → IsKept h.known h.new
heard_kept keys knowns nexts reply heard h = elim (h.taught) [
  | inl learnt ↦ learn_kept h.key h.known h.new reply.outcome learnt.1
  | inr same ↦ subst (IsKept h.known) (sym same) (kept_itself h.known)
]

-- whatever is known, what a reply is heard to say is of a key that is counted
abbrev pub IsCountedReply : List Key → (ℕ → Bool) → Reply → Type 0
IsCountedReply keys t reply =
    (knowns nexts : List Knowledge) (heard : Heard) → WasHeard keys reply knowns heard nexts → t heard.key ≡ true

pub gone_heard : (l : Lawbook) (keys : List Key) (p : Past) (t : ℕ → Bool) (knowns : List Knowledge)
    (replies : List Reply) (mids : List Knowledge)
    → Gone keys p t knowns mids → All (TrueReply keys p.objects) replies → All (IsCountedReply keys t) replies
    → Gone keys p t knowns (known_after_each keys replies mids)
gone_heard l keys p t knowns [] mids gone so counted = gone
gone_heard l keys p t knowns (reply ∷ replies) mids gone so counted =
    let first = All-head (TrueReply keys p.objects) reply replies so in
    let one = by (heard_in keys reply mids) refl
    (l.client.heard p.objects keys (reply ∷ []) mids gone.held
    (All-cons (TrueReply keys p.objects) reply [] first (All-nil (TrueReply keys p.objects))))
    (All-head (IsCountedReply keys t) reply replies counted) in
    gone_heard l keys p t knowns replies (known_after_reply (heard_in keys reply mids) mids) one
    (All-tail (TrueReply keys p.objects) reply replies so) (All-tail (IsCountedReply keys t) reply replies counted)
  where
    by : (told : Result (Heard × List Knowledge) HearFault) → heard_in keys reply mids ≡ told
        → Held p.objects keys (known_after_reply (heard_in keys reply mids) mids)
        → IsCountedReply keys t reply → Gone keys p t knowns (known_after_reply (heard_in keys reply mids) mids)
    by (Err fault) is held counted = subst (Gone keys p t knowns) (sym (ap (λ r. known_after_reply r mids) is)) gone
    by (Ok (heard, nexts)) is held counted =
        let h = was_heard keys reply mids heard nexts is in
        let all : known_after_reply (heard_in keys reply mids) mids ≡ slice_set mids heard.key h.new = ap
        (λ r. known_after_reply r mids) is ∙ h.all in
        subst (Gone keys p t knowns) (sym all)
        (gone_on keys p t knowns mids heard.key h.known h.new gone h.known_is (heard_kept keys mids nexts reply heard h)
        (counted mids nexts heard h) (subst (Held p.objects keys) all held))

-- ---- losses in turn

lost_one_kept : (key : Key) (known : Knowledge) → IsKept known (lost_working key known)
lost_one_kept key known = elim (cases_Bool (is_working key known)) [
  | inl works ↦ rw works (record { identifier_kept = λ uid is. is; done_kept = omega arith })
  | inr settled ↦ rw settled (kept_itself known)
]

pub gone_lost : (l : Lawbook) (keys : List Key) (p : Past) (t : ℕ → Bool) (knowns : List Knowledge)
    (parts : List Part) (mids : List Knowledge)
    → Gone keys p t knowns mids → All (λ (part : Part). t part.key ≡ true) parts
    → Gone keys p t knowns (lost_each keys parts mids)
gone_lost l keys p t knowns [] mids gone counted = gone
gone_lost l keys p t knowns (part ∷ parts) mids gone counted =
    let one = by (slice_get keys part.key) (slice_get mids part.key) refl refl
    (l.client.lost p.objects keys mids part.key gone.held)
    (All-head (λ (part : Part). t part.key ≡ true) part parts counted) in
    gone_lost l keys p t knowns parts (changed_at lost_working keys mids part.key) one
    (All-tail (λ (part : Part). t part.key ≡ true) part parts counted)
  where
    by : (key : Option Key) (mid : Option Knowledge) → slice_get keys part.key ≡ key → slice_get mids part.key ≡ mid
        → Held p.objects keys (changed_at lost_working keys mids part.key) → t part.key ≡ true
        → Gone keys p t knowns (changed_at lost_working keys mids part.key)
    by None mid here there held counted = subst (Gone keys p t knowns)
        (sym (ap (λ k. changed_by lost_working mids part.key k (slice_get mids part.key)) here)) gone
    by (Some key) None here there held counted =
        subst (Gone keys p t knowns)
        (sym (ap (λ k. changed_by lost_working mids part.key k (slice_get mids part.key)) here
        ∙ ap (changed_by lost_working mids part.key (Some key)) there)) gone
    by (Some key) (Some mid) here there held counted =
        let all : changed_at lost_working keys mids part.key ≡ slice_set mids part.key (lost_working key mid) =
        ap (λ k. changed_by lost_working mids part.key k (slice_get mids part.key)) here
        ∙ ap (changed_by lost_working mids part.key (Some key)) there in
        subst (Gone keys p t knowns) (sym all)
        (gone_on keys p t knowns mids part.key mid (lost_working key mid) gone there (lost_one_kept key mid) counted
        (subst (Held p.objects keys) all held))

pub all_left_of : {A : Type 0} (P : A → Type 0) (keep : A → Bool) (xs : List A) → All P xs → All P (filter keep xs)
all_left_of P keep [] each = All-nil P
all_left_of P keep (x ∷ xs) each = elim (cases_Bool (keep x)) [
  | inl stays ↦ rw stays (All-cons P x (filter keep xs) (All-head P x xs each)
      (all_left_of P keep xs (All-tail P x xs each)))
  | inr goes ↦ rw goes (all_left_of P keep xs (All-tail P x xs each))
]
