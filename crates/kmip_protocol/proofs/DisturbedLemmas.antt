-- An exchange that is disturbed: each key that is asked, or that a reply is about, costs one at most, asking it one
-- more, and what
-- arrives late nothing.
use Rattle.std.proofs.Common.{◌≡◌, ◌≢◌, ◌≤◌, ℕ, ◌+◌, ◌*◌, Bool, true, false, ◌||◌, nat_eq, List, [], ◌∷◌, ◌++◌}
use Rattle.std.proofs.Common.{append_assoc, append-nil, length, length-append, filter, Option, Some, None, Result, Ok}
use Rattle.std.proofs.Common.{Err, IfSome, subst, refl, sym, ap, ◌∙◌, ◌⊎◌, inl, inr, arith, if◌then◌else◌}
use Rattle.std.specs.List.{All, list_any, slice_get}
use Rattle.std.proofs.lemmas.Bool.{cases_Bool, eq-eqb}
use Rattle.std.proofs.lemmas.List.Elements.{All-cons, All-head, All-nil, All-tail, All-weaker}
use Rattle.std.proofs.lemmas.List.Folds.{list_any-append}
use Rattle.std.proofs.lemmas.Option.{same_Some}
use Rattle.kmip_messages.specs.Batches.{replies_read}
use Rattle.kmip_messages.specs.Items.{requests_in}
use Rattle.kmip_batch_items.specs.declared.message_fault.MessageFault.{MessageFault}
use Rattle.kmip_batch_items.specs.declared.reply.Reply.{Reply}
use Rattle.kmip_batch_items.specs.declared.request.Request.{Request}
use Rattle.kmip_plan.specs.declared.key.Key.{Key}
use Rattle.kmip_plan.specs.Plans.{IsLawful}
use Rattle.kmip_client.specs.declared.knowledge.Knowledge.{Knowledge}
use Rattle.kmip_client.specs.declared.part.Part.{Part}
use Rattle.kmip_client.specs.declared.heard.Heard.{Heard}
use Rattle.kmip_client.specs.declared.question.Question.{Question}
use Rattle.kmip_client.specs.Asking.{IsAbout, at_places, part_about, requests_at}
use Rattle.kmip_client.specs.Hearing.{hear_all, hear_each, known_after_each, place_named}
use Rattle.kmip_client.specs.Clients.{WorksAt, one_if}
use Rattle.kmip_client.specs.Held.{Held}
use Rattle.kmip_client.specs.Justified.{Justified}
use Rattle.kmip_client.specs.Questions.{request_about}
use Rattle.kmip_client.specs.Truth.{TrueMessage, TrueReply}
use Rattle.kmip_protocol.specs.Clean.{but_of, is_name_of, names_one, strange_handed, strange_replies}
use Rattle.kmip_protocol.specs.Exchanges.{AreGiven, HandsOver, with_asked, with_requests}
use Rattle.kmip_protocol.specs.Past.{Past, is_planned}
use Rattle.kmip_protocol.specs.Sound.{Sound}
use Rattle.kmip_protocol.specs.Turns.{known_then, is_unanswered, lost_each, taught_by}
use Rattle.kmip_protocol.specs.PrivateSettlingLawbook.{Lawbook}
use Rattle.kmip_protocol.specs.Losing.{left_of, left_all}
use Rattle.kmip_protocol.proofs.AskingLemmas.{names_apart, one_justified, request_left}
use Rattle.kmip_protocol.proofs.OutsideLemmas.{all_harmless}
use Rattle.kmip_protocol.proofs.FilterLemmas.{other_text}
use Rattle.kmip_protocol.proofs.HearLemmas.{place_found}
use Rattle.kmip_protocol.proofs.HeardLemmas.{WasHeard}
use Rattle.kmip_protocol.proofs.LateLemmas.{all_late, held_late}
use Rattle.kmip_protocol.proofs.SettlingTurnLemmas.{asked_first}
use Rattle.kmip_protocol.proofs.LeftSumLemmas.{exchange_left, numbers}
use Rattle.kmip_protocol.proofs.SumLemmas.{held_at}
use Rattle.kmip_protocol.proofs.TouchedLemmas.{kept_leaves, is_in, among_few, sum_touched, Gone, gone_nowhere}
use Rattle.kmip_protocol.proofs.TouchedLemmas.{gone_heard, IsCountedReply, gone_lost, all_left_of}

-- ---- replies about other keys

-- the place of the key that an id names
abbrev place_in_id : List Key → Option (List ℕ) → Option ℕ
place_in_id keys None = None
place_in_id keys (Some []) = None
place_in_id keys (Some (operation ∷ name)) = place_named name keys

-- the place of the key of a reply about none of the requests
abbrev stranger : List Key → List Request → Reply → Option ℕ
stranger keys requests reply =
    if names_one (but_of requests (is_planned keys)) reply.id then place_in_id keys reply.id else None

abbrev or_more : Option ℕ → List ℕ → List ℕ
or_more None places = places
or_more (Some place) places = place ∷ places

abbrev strangers : List Key → List Request → List Reply → List ℕ
strangers keys requests [] = []
strangers keys requests (reply ∷ replies) = or_more (stranger keys requests reply) (strangers keys requests replies)

abbrev is_stranger : List Key → List Request → Reply → Bool
is_stranger keys requests reply = names_one (but_of requests (is_planned keys)) reply.id

at_most : (found : Option ℕ) (places : List ℕ) (others : List Reply) (reply : Reply) → length places ≤ length others
    → length (or_more found places) ≤ length (reply ∷ others)
at_most None places others reply few = omega (arith, few)
at_most (Some place) places others reply few = omega (arith, few)

strangers_few : (keys : List Key) (requests : List Request) (replies : List Reply)
    → length (strangers keys requests replies) ≤ length (filter (is_stranger keys requests) replies)
strangers_few keys requests [] = omega arith
strangers_few keys requests (reply ∷ replies) =
    let rest = strangers_few keys requests replies in
    elim (cases_Bool (is_stranger keys requests reply)) [
      | inl strange ↦ rw strange
          (at_most (place_in_id keys reply.id) (strangers keys requests replies)
          (filter (is_stranger keys requests) replies) reply rest)
      | inr own ↦ rw own rest
    ]

-- each stands among them
in_more : (found : Option ℕ) (places : List ℕ) (place : ℕ) → is_in place places ≡ true
    → is_in place (or_more found places) ≡ true
in_more None places place is = is
in_more (Some other) places place is = rw is (or_true (nat_eq place other)) where
  or_true : (b : Bool) → (b || true) ≡ true
  or_true true = refl
  or_true false = refl

in_first : (found : Option ℕ) (places : List ℕ) (place : ℕ) → found ≡ Some place
    → is_in place (or_more found places) ≡ true
in_first None places place is = absurd cc
in_first (Some other) places place is = rw (eq-eqb place other (sym (same_place other place is))) refl where
  same_place : (x y : ℕ) → Some x ≡ Some y → x ≡ y
  same_place x y is = cc

each_stranger : (keys : List Key) (requests : List Request) (replies : List Reply)
    → All (λ reply. (place : ℕ) → stranger keys requests reply ≡ Some place
    → is_in place (strangers keys requests replies) ≡ true) replies
each_stranger keys requests [] =
    All-nil (λ reply. (place : ℕ) → stranger keys requests reply ≡ Some place → is_in place [] ≡ true)
each_stranger keys requests (reply ∷ replies) =
    All-cons (λ r. (place : ℕ) → stranger keys requests r ≡ Some place
    → is_in place (strangers keys requests (reply ∷ replies)) ≡ true) reply replies
    (λ place is. in_first (stranger keys requests reply) (strangers keys requests replies) place is)
    (All-weaker (λ r. (place : ℕ) → stranger keys requests r ≡ Some place
    → is_in place (strangers keys requests replies) ≡ true)
    (λ r. (place : ℕ) → stranger keys requests r ≡ Some place
    → is_in place (strangers keys requests (reply ∷ replies)) ≡ true)
    (λ r has place is. in_more (stranger keys requests reply) (strangers keys requests replies) place (has place is))
    replies (each_stranger keys requests replies))

-- a key that is not asked is in no request
none_named : (l : Lawbook) (keys : List Key) (knowns : List Knowledge) (places : List ℕ) (place : ℕ) (key : Key)
    → IsLawful keys → slice_get keys place ≡ Some key
    → All (WorksAt keys knowns) places → is_in place places ≡ false
    → list_any (is_name_of key.attrs.name) (requests_at keys knowns places) ≡ false
none_named l keys knowns [] place key lawful here works apart = refl
none_named l keys knowns (other ∷ places) place key lawful here works apart =
    let w = All-head (WorksAt keys knowns) other places works in
    let parts = or_none (nat_eq place other) (is_in place places) apart in
    let differ : place ≢ other = λ e. let t : true ≡ false = sym (eq-eqb place other e) ∙ parts.0 in absurd cc in
    let name = other_text key.attrs.name w.key.attrs.name
    (names_apart l keys place other key w.key lawful here w.key_is differ) in
    let rest = none_named l keys knowns places place key lawful here
    (All-tail (WorksAt keys knowns) other places works) parts.1 in
    ap (list_any (is_name_of key.attrs.name)) (asked_first keys knowns other places w).0
    ∙ ap (λ b. b || list_any (is_name_of key.attrs.name) (requests_at keys knowns places)) name ∙ rest
  where
    or_none : (a b : Bool) → (a || b) ≡ false → (a ≡ false) × (b ≡ false)
    or_none true b is = absurd cc
    or_none false b is = (refl, is)

-- a reply that is heard is about a key that is asked, or a stranger
heard_counted : (l : Lawbook) (keys : List Key) (knowns : List Knowledge) (places : List ℕ) (reply : Reply)
    (ks ns : List Knowledge) (heard : Heard) → IsLawful keys
    → All (WorksAt keys knowns) places → WasHeard keys reply ks heard ns → is_in heard.key places ≡ false
    → stranger keys (requests_at keys knowns places) reply ≡ Some heard.key
heard_counted l keys knowns places reply ks ns heard lawful works h apart =
    let name : List ℕ = h.key.attrs.name in
    let planned = l.plan.found keys heard.key h.key lawful h.key_is in
    let none = none_named l keys knowns places heard.key h.key lawful h.key_is works apart in
    let requests : List Request = requests_at keys knowns places in
    let but : but_of requests (is_planned keys) name ≡ true = rw (planned, none) refl in
    let strange : is_stranger keys requests reply ≡ true = ap (names_one (but_of requests (is_planned keys))) h.id_is
    ∙ but in
    let place : place_in_id keys reply.id ≡ Some heard.key = ap (place_in_id keys) h.id_is
    ∙ place_found keys heard.key h.key l.plan.distinct lawful h.key_is in
    rw strange place

-- ---- the whole message

one_more : (a b : Bool) → (a ≡ true) ⊎ (b ≡ true) → (a || b) ≡ true
one_more true b is = refl
one_more false b (inl is) = absurd cc
one_more false b (inr is) = is

in_both : (place : ℕ) (xs ys : List ℕ) → is_in place (xs ++ ys) ≡ (is_in place xs || is_in place ys)
in_both place xs ys = list_any-append (nat_eq place) xs ys

parts_counted : (keys : List Key) (knowns : List Knowledge) (t : ℕ → Bool) (places : List ℕ)
    → All (WorksAt keys knowns) places
    → All (λ place. t place ≡ true) places → All (λ (part : Part). t part.key ≡ true)
    (at_places part_about keys knowns places)
parts_counted keys knowns t [] works counted = All-nil (λ (part : Part). t part.key ≡ true)
parts_counted keys knowns t (place ∷ places) works counted =
    let w = All-head (WorksAt keys knowns) place places works in
    subst (All (λ (part : Part). t part.key ≡ true)) (sym (asked_first keys knowns place places w).1)
    (All-cons (λ (part : Part). t part.key ≡ true) (part_about place w.key w.known)
    (at_places part_about keys knowns places)
    (All-head (λ p. t p ≡ true) place places counted)
    (parts_counted keys knowns t places (All-tail (WorksAt keys knowns) place places works)
    (All-tail (λ p. t p ≡ true) place places counted)))

asked_in : (places others : List ℕ) → All (λ place. is_in place (places ++ others) ≡ true) places
asked_in [] others = All-nil (λ place. is_in place others ≡ true)
asked_in (place ∷ places) others =
    All-cons (λ p. is_in p (place ∷ (places ++ others)) ≡ true) place places
    (one_more (nat_eq place place) _ (inl (eq-eqb place place refl)))
    (All-weaker (λ p. is_in p (places ++ others) ≡ true) (λ p. is_in p (place ∷ (places ++ others)) ≡ true)
    (λ p is. one_more (nat_eq p place) _ (inr is)) places (asked_in places others))

-- what is left where nothing but what is counted was touched
gone_leaves : (l : Lawbook) (keys : List Key) (p : Past) (knowns nexts : List Knowledge) (counted : List ℕ)
    → IsLawful keys → Sound keys p
    → Held p.objects keys knowns → Gone keys p (λ j. is_in j counted) knowns nexts
    → left_all keys nexts p ≤ left_all keys knowns p + length counted
gone_leaves l keys p knowns nexts counted lawful sound held gone =
    let sum = sum_touched 0 keys knowns nexts p counted held (λ j key known next is was now.
    let planned = l.plan.found keys j key lawful is in
    let at : 0 + j ≡ j = omega arith in
    let same = ap (λ m. one_if (is_in m counted)) at in
    elim (cases_Bool (is_in j counted)) [
      | inl touched ↦
          let one = kept_leaves key p known next (numbers l keys p key known sound planned
          (held_at keys knowns j key known p.objects held is was))
          (numbers l keys p key next sound planned (held_at keys nexts j key next p.objects gone.held is now))
          (gone.kept j known next was now) in
          omega (arith, one, same, ap one_if touched)
      | inr apart ↦
          let is_same : next ≡ known = same_Some next known (sym now ∙ gone.same j apart ∙ was) in
          let as_it_was : left_of key next p ≡ left_of key known p = ap (λ k. left_of key k p) is_same in
          omega (arith, as_it_was)
    ]) in
    omega (arith, sum, among_few 0 keys counted)

-- where nothing is heard
nothing_gone : (l : Lawbook) (keys : List Key) (p : Past) (knowns : List Knowledge) (places : List ℕ)
    (question : Question) → IsLawful keys → Sound keys p
    → Held p.objects keys knowns → IsAbout keys knowns places question
    → left_all keys (lost_each keys question.parts knowns) p ≤ left_all keys knowns p + length places
nothing_gone l keys p knowns places question lawful sound held about =
    let start = gone_nowhere keys p (λ j. is_in j places) knowns held in
    let all = subst (λ qs. All (λ place. is_in place qs ≡ true) places) (append-nil places) (asked_in places []) in
    let gone = gone_lost l keys p (λ j. is_in j places) knowns question.parts knowns start
    (subst (All (λ (part : Part). is_in part.key places ≡ true)) (sym about.parts_are)
    (parts_counted keys knowns (λ j. is_in j places) places about.works all)) in
    gone_leaves l keys p knowns (lost_each keys question.parts knowns) places lawful sound held gone

-- and where what was read is
message_gone : (l : Lawbook) (keys : List Key) (p : Past) (knowns : List Knowledge) (places : List ℕ)
    (question : Question) (given : List ℕ)
    (read : Result (List Reply) MessageFault) → IsLawful keys → Sound keys p → Held p.objects keys knowns
    → IsAbout keys knowns places question
    → replies_read given ≡ read → TrueMessage keys p.objects given
    → left_all keys (taught_by keys question.parts knowns (hear_all keys knowns read)) p
    ≤ left_all keys knowns p + length places + strange_replies (is_planned keys) question.bytes given
message_gone l keys p knowns places question given (Err fault) lawful sound held about is so =
    omega (arith, nothing_gone l keys p knowns places question lawful sound held about)
message_gone l keys p knowns places question given (Ok replies) lawful sound held about is so =
    let requests : List Request = requests_at keys knowns places in
    let others : List ℕ = strangers keys requests replies in
    let counted : List ℕ = places ++ others in
    let t : ℕ → Bool = λ j. is_in j counted in
    let said = l.messages.said given replies is in
    let start = gone_nowhere keys p t knowns held in
    let heard = gone_heard l keys p t knowns replies knowns start (subst (All (TrueReply keys p.objects)) said so)
    (All-weaker (λ reply. (place : ℕ) → stranger keys requests reply ≡ Some place → is_in place others ≡ true)
    (IsCountedReply keys t)
    (λ reply has ks ns h was. in_both h.key places others ∙ one_more (is_in h.key places) (is_in h.key others)
    (by_place h.key (cases_Bool (is_in h.key places))
    (λ apart. has h.key (heard_counted l keys knowns places reply ks ns h lawful about.works was apart)))) replies
    (each_stranger keys requests replies)) in
    let parts = subst (All (λ (part : Part). t part.key ≡ true)) (sym about.parts_are)
    (parts_counted keys knowns t places about.works (asked_in places others)) in
    let gone = gone_lost l keys p t knowns (filter (is_unanswered (hear_each keys replies knowns)) question.parts)
    (known_after_each keys replies knowns) heard
    (all_left_of (λ (part : Part). t part.key ≡ true) (is_unanswered (hear_each keys replies knowns)) question.parts
    parts) in
    let few = gone_leaves l keys p knowns (lost_each keys
    (filter (is_unanswered (hear_each keys replies knowns)) question.parts) (known_after_each keys replies knowns))
    counted lawful sound held gone in
    let strange : length (filter (is_stranger keys requests) replies) ≡ strange_replies (is_planned keys)
    question.bytes given =
    ap (λ rs. length (filter (is_stranger keys rs) replies)) (sym about.asks)
    ∙ ap (λ rs. length (filter (is_stranger keys (requests_in question.bytes)) rs)) (sym said) in
    omega (arith, few, length-append places others, strangers_few keys requests replies, strange)
  where
    by_place : (place : ℕ) → (is_in place places ≡ true) ⊎ (is_in place places ≡ false)
        → (is_in place places ≡ false → is_in place (strangers keys (requests_at keys knowns places) replies) ≡ true)
        → (is_in place places ≡ true) ⊎ (is_in place (strangers keys (requests_at keys knowns places) replies) ≡ true)
    by_place place (inl own) strange = inl own
    by_place place (inr apart) strange = inr (strange apart)

-- ---- the whole exchange

-- each question adds one at most
asked_all : (l : Lawbook) (keys : List Key) (p : Past) (knowns : List Knowledge) (places : List ℕ) → IsLawful keys
    → All (WorksAt keys knowns) places
    → left_all keys knowns (with_requests (requests_at keys knowns places) p) ≤ left_all keys knowns p + length places
asked_all l keys p knowns [] lawful works =
    let same : left_all keys knowns (with_requests [] p) ≡ left_all keys knowns p = ap
    (λ rs. left_all keys knowns (record p { requests = rs })) (append-nil p.requests) in
    omega (arith, same)
asked_all l keys p knowns (place ∷ places) lawful works =
    let w = All-head (WorksAt keys knowns) place places works in
    let request : Request = request_about w.key w.known in
    let behind : List Request = requests_at keys knowns places in
    let one = request_left l keys p knowns place w lawful in
    let rest = asked_all l keys (with_requests (request ∷ []) p) knowns places lawful
    (All-tail (WorksAt keys knowns) place places works) in
    let same : left_all keys knowns (with_requests (requests_at keys knowns (place ∷ places)) p) ≡ left_all keys
    knowns (with_requests behind (with_requests (request ∷ []) p)) =
    ap (λ rs. left_all keys knowns (with_requests rs p)) (asked_first keys knowns place places w).0
    ∙ ap (λ rs. left_all keys knowns (record p { requests = rs }))
    (sym (append_assoc p.requests (request ∷ []) behind)) in
    omega (arith, one, rest, same)

-- and may be asked
all_justified : (l : Lawbook) (keys : List Key) (p : Past) (knowns : List Knowledge) (places : List ℕ) → IsLawful keys
    → Held p.objects keys knowns
    → All (WorksAt keys knowns) places → All (Justified keys p.objects) (requests_at keys knowns places)
all_justified l keys p knowns [] lawful held works = All-nil (Justified keys p.objects)
all_justified l keys p knowns (place ∷ places) lawful held works =
    let w = All-head (WorksAt keys knowns) place places works in
    subst (All (Justified keys p.objects)) (sym (asked_first keys knowns place places w).0)
    (All-cons (Justified keys p.objects) (request_about w.key w.known) (requests_at keys knowns places)
    (one_justified l keys p knowns place w lawful held)
    (all_justified l keys p knowns places lawful held (All-tail (WorksAt keys knowns) place places works)))

-- the answer, or none, adds one at most for each key that is asked or that a reply is about
answer_leaves : (l : Lawbook) (keys : List Key) (p : Past) (knowns : List Knowledge) (places : List ℕ)
    (question : Question) (answer : Option (List ℕ))
    → IsLawful keys → Sound keys p → Held p.objects keys knowns → IsAbout keys knowns places question
    → IfSome answer (TrueMessage keys p.objects)
    → left_all keys (known_then keys question answer knowns) p
    ≤ left_all keys knowns p + length places + strange_handed (is_planned keys) question.bytes answer
answer_leaves l keys p knowns places question None lawful sound held about so =
    omega (arith, nothing_gone l keys p knowns places question lawful sound held about)
answer_leaves l keys p knowns places question (Some given) lawful sound held about so =
    message_gone l keys p knowns places question given (replies_read given) lawful sound held about refl so

pub disturbed_leaves : (l : Lawbook) (keys : List Key) (old new : Past) (knowns : List Knowledge) (places : List ℕ)
    (question : Question)
    (answer : Option (List ℕ)) → IsLawful keys → Sound keys old → Held old.objects keys knowns
    → IsAbout keys knowns places question
    → HandsOver (is_planned keys) old question.bytes answer new
    → left_all keys (known_then keys question answer knowns) new
    ≤ left_all keys knowns old + 2 * length places + strange_handed (is_planned keys) question.bytes answer
disturbed_leaves l keys old new knowns places question answer lawful sound held about hands =
    let asked = with_asked question.bytes old in
    let p = hands.between in
    let sound_asked = l.exchanges.asking keys old (requests_in question.bytes) sound
    (all_harmless keys old.objects (requests_in question.bytes)
    (subst (All (Justified keys old.objects)) (sym about.asks)
    (all_justified l keys old knowns places lawful held about.works))) in
    let sound_now = l.exchanges.deliveries keys asked p sound_asked hands.delivered in
    let held_now = held_late l keys asked p knowns lawful sound_asked held hands.delivered in
    let first = subst (λ rs. left_all keys knowns (with_requests rs old) ≤ left_all keys knowns old + length places)
    (sym about.asks)
    (asked_all l keys old knowns places lawful about.works) in
    let late = all_late l keys asked p knowns lawful sound_asked held hands.delivered in
    let few = answer_leaves l keys p knowns places question answer lawful sound_now held_now about
    (all_true answer hands.given sound_now) in
    let end : left_all keys (known_then keys question answer knowns) new ≡ left_all keys
    (known_then keys question answer knowns) p =
    ap (left_all keys (known_then keys question answer knowns)) hands.is
    ∙ exchange_left keys (known_then keys question answer knowns) question.bytes answer p in
    omega (arith, first, late, few, end) where
      all_true : (answer : Option (List ℕ)) → IfSome answer (AreGiven hands.between) → Sound keys hands.between
          → IfSome answer (TrueMessage keys hands.between.objects)
      all_true None given sound_now = tt
      all_true (Some bytes) given sound_now = l.exchanges.answers keys hands.between bytes sound_now given
