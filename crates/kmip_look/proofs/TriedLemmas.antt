-- How often was asked about the keys of a group, message after message.
use Rattle.std.proofs.Common.{◌≡◌, ◌⊎◌, ℕ, ◌+◌, nat_eq, Bool, true, false, ◌&&◌, ◌||◌, not, cond, List, [], ◌∷◌, ◌++◌}
use Rattle.std.proofs.Common.{length, count_by, append-nil, append_assoc, All, Option, refl, sym, ap, subst, ◌∙◌, inl}
use Rattle.std.proofs.Common.{inr, arith, if◌then◌else◌}
use Rattle.std.specs.Bool.{⊤}
use Rattle.std.specs.Cmp.Lexicographic.{pointwise}
use Rattle.std.specs.List.{AllZip, Contains, list_any}
use Rattle.std.specs.Option.{is_some, option_map_or}
use Rattle.std.specs.Prelude.{find}
use Rattle.std.proofs.lemmas.Bool.{and_parts, cases_Bool}
use Rattle.std.proofs.lemmas.List.Elements.{All-contains, All-head, All-tail}
use Rattle.std.proofs.lemmas.List.Sums.{sum_by-append}
use Rattle.std.proofs.lemmas.Slice.Eq.{bytes_eq-Decides}
use Rattle.kmip_batch_items.specs.BatchItems.{answer_fits}
use Rattle.kmip_batch_items.specs.declared.outcome.Outcome.{Outcome}
use Rattle.kmip_batch_items.specs.declared.reply.Reply.{Reply}
use Rattle.kmip_batch_items.specs.declared.request.Request.{Request}
use Rattle.kmip_batch_items.specs.declared.standard.TheConstants.{OPERATION_GET_ATTRIBUTES, OPERATION_LOCATE}
use Rattle.kmip_client.specs.Knowledge.{fresh_knowledge}
use Rattle.kmip_client.specs.Learning.{one_learnt}
use Rattle.kmip_messages.specs.Items.{requests_in}
use Rattle.kmip_plan.specs.declared.key.Key.{Key}
use Rattle.kmip_protocol.specs.Exchanges.{with_asked}
use Rattle.kmip_protocol.specs.Past.{Names, Past}
use Rattle.kmip_look.specs.Looks.{IsAskedFor, IsTried, asks_id}
use Rattle.kmip_look.specs.PrivateAsking.{id_of, is_asked, is_in, is_refused, part_number, request_of, requests_of}
use Rattle.kmip_look.specs.PrivateHearing.{heard_each, heard_from, heard_key, is_answer}
use Rattle.kmip_look.specs.PrivateKeeping.{IsAt, LookLaws, unasked}
use Rattle.kmip_look.specs.PrivateKeeping as keeping
use Rattle.kmip_look.specs.PrivatePutting.{HasPut}
use Rattle.kmip_look.specs.PrivateTrying.{IsTriedAt, finds_in, tells_in}
use Rattle.kmip_look.specs.declared.looked.Looked.{Looked}
use Rattle.kmip_look.specs.declared.looking.TheConstants.{MOST_TRIES}
use Rattle.kmip_look.specs.declared.part.Part.{Part}
use Rattle.kmip_look.specs.declared.part.Part.TheVariants.{Find, Tell}
use Rattle.kmip_look.specs.declared.why.Why.{Why}
use Rattle.kmip_look.specs.declared.why.Why.TheVariants.{NotAsked, NoReply, Refused, Unreadable}
use Rattle.kmip_look.proofs.HeardLemmas.{Teaches, found_not_looked, key_at, told_is_not_asked, unheard_not_told}

-- ---- messages that ask a question

count_more : (id : List ℕ) (first second : List (List ℕ))
    → count_by (asks_id id) (first ++ second) ≡ count_by (asks_id id) first + count_by (asks_id id) second
count_more id first second = sum_by-append (λ m. cond (asks_id id m) 1 0) first second

pub asked_none : (id : List ℕ) (p : Past) → IsAskedFor id 0 p p
asked_none id p = record { messages = []; sent = sym (append-nil p.sent); many = omega arith }

-- none of another question need be among them
asked_other : (id other : List ℕ) (count : ℕ) (start now : Past) → IsAskedFor id count start now
    → IsAskedFor other 0 start now
asked_other id other count start now asked = record { messages = asked.messages; sent = asked.sent; many = omega arith }

-- more were sent
asked_onward : (id : List ℕ) (count : ℕ) (start now new : Past) (more : List (List ℕ)) → new.sent ≡ now.sent ++ more
    → IsAskedFor id count start now
    → IsAskedFor id count start new
asked_onward id count start now new more sent asked = record {
  messages = asked.messages ++ more;
  sent = sent ∙ ap (λ ms. ms ++ more) asked.sent ∙ append_assoc start.sent asked.messages more;
  many = omega (arith, asked.many, count_more id asked.messages more);
}

-- others were sent before
asked_before : (id : List ℕ) (count : ℕ) (start now new : Past) (front : List (List ℕ))
    → now.sent ≡ start.sent ++ front → IsAskedFor id count now new
    → IsAskedFor id count start new
asked_before id count start now new front sent asked = record {
  messages = front ++ asked.messages;
  sent = asked.sent ∙ ap (λ ms. ms ++ asked.messages) sent ∙ append_assoc start.sent front asked.messages;
  many = omega (arith, asked.many, count_more id front asked.messages);
}

-- one more that asks it
asked_more : (id : List ℕ) (count : ℕ) (start now new : Past) (message : List ℕ) → new.sent ≡ now.sent ++ message ∷ []
    → asks_id id message ≡ true
    → IsAskedFor id count start now → IsAskedFor id (count + 1) start new
asked_more id count start now new message sent asks asked =
    let one : count_by (asks_id id) (message ∷ []) ≡ 1 = ap (λ b. 0 + cond b 1 0) asks in
    record {
      messages = asked.messages ++ message ∷ [];
      sent = sent ∙ ap (λ ms. ms ++ message ∷ []) asked.sent ∙ append_assoc start.sent asked.messages (message ∷ []);
      many = omega (arith, asked.many, one, count_more id asked.messages (message ∷ []));
    }

-- ---- a key

mapped : (U V : Type 0) (F G : List ℕ → Type 0) (looked : Looked) → (U → V) → ((uid : List ℕ) → F uid → G uid)
    → IsAt U F (λ told. ⊤) looked → IsAt V G (λ told. ⊤) looked
mapped U V F G looked unheard found (keeping.unheard u known shown) = keeping.unheard (unheard u) known shown
mapped U V F G looked unheard found (keeping.found {uid = uid} fits f known shown) =
    keeping.found fits (found uid f) known shown
mapped U V F G looked unheard found (keeping.told told so) = keeping.told told tt

-- it was refused, or asked about
abbrev Either : Looked → List ℕ → ℕ → Past → Past → Type 0
Either looked id count start now = (is_refused looked.why ≡ true) ⊎ IsAskedFor id count start now

either_onward : (looked : Looked) (id : List ℕ) (count : ℕ) (start now new : Past) (more : List (List ℕ))
    → new.sent ≡ now.sent ++ more
    → Either looked id count start now → Either looked id count start new
either_onward looked id count start now new more sent (inl refused) = inl refused
either_onward looked id count start now new more sent (inr asked) =
    inr (asked_onward id count start now new more sent asked)

either_before : (looked : Looked) (id : List ℕ) (count : ℕ) (start now new : Past) (front : List (List ℕ))
    → now.sent ≡ start.sent ++ front
    → Either looked id count now new → Either looked id count start new
either_before looked id count start now new front sent (inl refused) = inl refused
either_before looked id count start now new front sent (inr asked) =
    inr (asked_before id count start now new front sent asked)

onward_at : (part : Part) (count : ℕ) (mark : List ℕ) (start now new : Past) (more : List (List ℕ)) (key : Key)
    (looked : Looked) → new.sent ≡ now.sent ++ more
    → IsTriedAt part count mark start now key looked → IsTriedAt part count mark start new key looked
onward_at part count mark start now new more key looked sent at =
    mapped (Either looked (id_of Find mark key) (finds_in part count) start now)
    (Either looked (id_of Find mark key) (finds_in part count) start new)
    (λ uid. Either looked (id_of Tell mark key) (tells_in part count) start now)
    (λ uid. Either looked (id_of Tell mark key) (tells_in part count) start new) looked
    (either_onward looked (id_of Find mark key) (finds_in part count) start now new more sent)
    (λ uid. either_onward looked (id_of Tell mark key) (tells_in part count) start now new more sent) at

before_at : (part : Part) (count : ℕ) (mark : List ℕ) (start now new : Past) (front : List (List ℕ)) (key : Key)
    (looked : Looked) → now.sent ≡ start.sent ++ front
    → IsTriedAt part count mark now new key looked → IsTriedAt part count mark start new key looked
before_at part count mark start now new front key looked sent at =
    mapped (Either looked (id_of Find mark key) (finds_in part count) now new)
    (Either looked (id_of Find mark key) (finds_in part count) start new)
    (λ uid. Either looked (id_of Tell mark key) (tells_in part count) now new)
    (λ uid. Either looked (id_of Tell mark key) (tells_in part count) start new) looked
    (either_before looked (id_of Find mark key) (finds_in part count) start now new front sent)
    (λ uid. either_before looked (id_of Tell mark key) (tells_in part count) start now new front sent) at

pub not_false : (b : Bool) → not b ≡ false → b ≡ true
not_false true is = refl
not_false false is = absurd cc

-- a key of which nothing was heard, and that the first part does not ask about, was refused
refused_unheard : (looked : Looked) → looked.known ≡ fresh_knowledge → is_asked Find looked ≡ false
    → is_refused looked.why ≡ true
refused_unheard looked known idle =
    let fresh : is_asked Find (record { known = fresh_knowledge; shown = looked.shown; why = looked.why }) ≡ false =
    subst (λ k. is_asked Find (record { known = k; shown = looked.shown; why = looked.why }) ≡ false) known idle in
    not_false (is_refused looked.why) fresh

-- so was one whose object was found, and that the second part does not ask about
refused_found : (uid : List ℕ) (looked : Looked) → looked.known ≡ one_learnt uid fresh_knowledge
    → is_asked Tell looked ≡ false → is_refused looked.why ≡ true
refused_found uid looked known idle =
    let found : is_asked Tell (record {
      known = one_learnt uid fresh_knowledge;
      shown = looked.shown;
      why = looked.why;
    }) ≡ false =
    subst (λ k. is_asked Tell (record { known = k; shown = looked.shown; why = looked.why }) ≡ false) known idle in
    not_false (is_refused looked.why) found

not_refused : (part : Part) (looked : Looked) → is_asked part looked ≡ true → is_refused looked.why ≡ true → ⊥
not_refused part looked asked refused =
    let unrefused : not (is_refused looked.why) ≡ true = (and_parts
    (is_in part looked.known.phase && not (is_some looked.known.clash)) (not (is_refused looked.why)) asked).1 in
    let none : not true ≡ true = subst (λ b. not b ≡ true) refused unrefused in
    absurd cc

-- a key that is not asked about is tried as often as may be
raised_at : (part : Part) (count most : ℕ) (mark : List ℕ) (start now : Past) (key : Key) (looked : Looked)
    → is_asked part looked ≡ false
    → IsTriedAt part count mark start now key looked → IsTriedAt part most mark start now key looked
raised_at Find count most mark start now key looked idle (keeping.unheard u known shown) =
    keeping.unheard (inl (refused_unheard looked known idle)) known shown
raised_at Find count most mark start now key looked idle (keeping.found fits f known shown) =
    keeping.found fits f known shown
raised_at Find count most mark start now key looked idle (keeping.told told so) = keeping.told told tt
raised_at Tell count most mark start now key looked idle (keeping.unheard u known shown) = keeping.unheard u known shown
raised_at Tell count most mark start now key looked idle (keeping.found {uid = uid} fits f known shown) =
    keeping.found fits (inl (refused_found uid looked known idle)) known shown
raised_at Tell count most mark start now key looked idle (keeping.told told so) = keeping.told told tt

teaches_one : (F : Type 0) → F → (key : Key) (outcome : Outcome) → Teaches (λ uid. F) (λ looked. ⊤) key outcome
teaches_one F f key outcome = record {
  none = λ located new known shown. tt;
  one = λ uid located. f;
  several = λ uid other more located new known shown. tt;
  tells = λ uid told attributes found new learnt shown. tt;
}

-- what every answer to the question about a key is
abbrev Answers : Part → List ℕ → List Reply → Key → Type 0
Answers part mark replies key =
    (reply : Reply) → Contains replies reply → is_answer (part_number part) (id_of part mark key) reply ≡ true
    → answer_fits reply ≡ true

asked_at : (part : Part) (count : ℕ) (mark : List ℕ) (why : Why) (replies : List Reply) (key : Key) (looked : Looked)
    (start now new : Past) (message : List ℕ)
    → new.sent ≡ now.sent ++ message ∷ [] → is_asked part looked ≡ true → asks_id (id_of part mark key) message ≡ true
    → Answers part mark replies key
    → IsTriedAt part count mark start now key looked
    → IsTriedAt part (count + 1) mark start new key (heard_key part mark why replies key looked)
asked_at Find count mark why replies key looked start now new message sent asked asks answers
    (keeping.unheard (inl refused) known shown) = absurd (not_refused Find looked asked refused)
asked_at Find count mark why replies key looked start now new message sent asked asks answers
    (keeping.unheard (inr before) known shown) =
    let more = asked_more (id_of Find mark key) count start now new message sent asks before in
    let other = asked_other (id_of Find mark key) (id_of Tell mark key) (count + 1) start new more in
    mapped (IsAskedFor (id_of Find mark key) (count + 1) start new)
    (Either (heard_key Find mark why replies key looked) (id_of Find mark key) (count + 1) start new)
    (λ uid. IsAskedFor (id_of Tell mark key) 0 start new)
    (λ uid. Either (heard_key Find mark why replies key looked) (id_of Tell mark key) 0 start new)
    (heard_key Find mark why replies key looked) (λ u. inr u) (λ uid f. inr f)
    (key_at (IsAskedFor (id_of Find mark key) (count + 1) start new)
    (λ uid. IsAskedFor (id_of Tell mark key) 0 start new) (λ told. ⊤) Find mark why replies key looked
    (λ reply there is. (
      teaches_one (IsAskedFor (id_of Tell mark key) 0 start new) other key reply.outcome,
      answers
          reply there is,
    )) (keeping.unheard more known shown))
asked_at Find count mark why replies key looked start now new message sent asked asks answers
    (keeping.found {uid = uid} fits f known shown) = absurd (found_not_looked uid looked known asked)
asked_at Find count mark why replies key looked start now new message sent asked asks answers (keeping.told told so) =
    absurd (told_is_not_asked Find looked told asked)
asked_at Tell count mark why replies key looked start now new message sent asked asks answers
    (keeping.unheard u known shown) = absurd (unheard_not_told looked known asked)
asked_at Tell count mark why replies key looked start now new message sent asked asks answers
    (keeping.found fits (inl refused) known shown) = absurd (not_refused Tell looked asked refused)
asked_at Tell count mark why replies key looked start now new message sent asked asks answers
    (keeping.found fits (inr before) known shown) =
    let more = asked_more (id_of Tell mark key) count start now new message sent asks before in
    mapped ⊥ (Either (heard_key Tell mark why replies key looked) (id_of Find mark key) MOST_TRIES start new)
    (λ uid. IsAskedFor (id_of Tell mark key) (count + 1) start new)
    (λ uid. Either (heard_key Tell mark why replies key looked) (id_of Tell mark key) (count + 1) start new)
    (heard_key Tell mark why replies key looked) (λ u. absurd u) (λ uid f. inr f)
    (key_at ⊥ (λ uid. IsAskedFor (id_of Tell mark key) (count + 1) start new) (λ told. ⊤) Tell mark why replies key
    looked
    (λ reply there is. (
      teaches_one (IsAskedFor (id_of Tell mark key) (count + 1) start new) more key reply.outcome,
      answers reply there is,
    )) (keeping.found fits more known shown))
asked_at Tell count mark why replies key looked start now new message sent asked asks answers (keeping.told told so) =
    absurd (told_is_not_asked Tell looked told asked)

step_at : (part : Part) (count : ℕ) (mark : List ℕ) (why : Why) (replies : List Reply) (key : Key) (looked : Looked)
    (start now new : Past) (message : List ℕ)
    → new.sent ≡ now.sent ++ message ∷ [] → (is_asked part looked ≡ true
    → asks_id (id_of part mark key) message ≡ true) → Answers part mark replies key
    → IsTriedAt part count mark start now key looked
    → IsTriedAt part (count + 1) mark start new key (heard_key part mark why replies key looked)
step_at part count mark why replies key looked start now new message sent asks answers at =
    elim (cases_Bool (is_asked part looked)) [
      | inl asked ↦ asked_at part count mark why replies key looked start now new message sent asked (asks asked)
          answers at
      | inr idle ↦ subst (λ b. IsTriedAt part (count + 1) mark start new key
          (if b then heard_from part key why (find (is_answer (part_number part) (id_of part mark key)) replies) looked
          else looked))
          (sym idle) (raised_at part count (count + 1) mark start new key looked idle
          (onward_at part count mark start now new (message ∷ []) key looked sent at))
    ]

-- ---- all keys of a group

or_after : (b c : Bool) → c ≡ true → (b || c) ≡ true
or_after true c is = refl
or_after false c is = is

-- the test that a request has this id
abbrev has_id : List ℕ → Request → Bool
has_id id request = option_map_or (λ own. pointwise nat_eq id own) request.id false

each_step : (part : Part) (count : ℕ) (mark : List ℕ) (why : Why) (replies : List Reply) (keys : List Key)
    (lookeds : List Looked) (start now new : Past) (message : List ℕ)
    → new.sent ≡ now.sent ++ message ∷ []
    → ((test : Request → Bool) → list_any test (requests_of part mark keys lookeds) ≡ true
    → list_any test (requests_in message) ≡ true)
    → ((reply : Reply) → Contains replies reply → answer_fits reply ≡ true)
    → AllZip (IsTriedAt part count mark start now) keys lookeds
    → AllZip (IsTriedAt part (count + 1) mark start new) keys (heard_each part mark why replies keys lookeds)
each_step part count mark why replies [] [] start now new message sent within fits at = tt
each_step part count mark why replies [] (looked ∷ lookeds) start now new message sent within fits at = absurd at
each_step part count mark why replies (key ∷ keys) [] start now new message sent within fits at = absurd at
each_step part count mark why replies (key ∷ keys) (looked ∷ lookeds) start now new message sent within fits at =
    let id = id_of part mark key in
    let rest = requests_of part mark keys lookeds in
    let own : has_id id (request_of part mark key looked) ≡ true = (bytes_eq-Decides id id).1 refl in (
      step_at part count mark why replies key looked start now new message sent
          (λ asked. within (has_id id)
          (subst (λ b. list_any (has_id id) (if b then request_of part mark key looked ∷ rest else rest) ≡ true)
          (sym asked) (ap (λ b. b || list_any (has_id id) rest) own)))
          (λ reply there is. fits reply there) at.0,
      each_step part count mark why replies keys lookeds start now new message sent
          (λ test there. within test (elim (cases_Bool (is_asked part looked)) [
            | inl asked ↦ subst (λ b. list_any test (if b then request_of part mark key looked ∷ rest else
                rest) ≡ true) (sym asked)
                (or_after (test (request_of part mark key looked)) (list_any test rest) there)
            | inr idle ↦ subst (λ b. list_any test (if b then request_of part mark key looked ∷ rest else
                rest) ≡ true) (sym idle) there
          ]))
          fits at.1,
    )

-- a message was put over the link, and its replies were heard
pub tried_by : LookLaws → (names : Names) (part : Part) (mark : List ℕ) (why : Why) (requests : List Request)
    (replies : List Reply) (keys : List Key)
    (olds news : List Looked) (now new : Past) → requests ≡ requests_of part mark keys olds
    → All (λ r. answer_fits r ≡ true) replies
    → news ≡ heard_each part mark why replies keys olds → HasPut names requests replies now new
    → (start : Past) (count : ℕ) → AllZip (IsTriedAt part count mark start now) keys olds
    → AllZip (IsTriedAt part (count + 1) mark start new) keys news
tried_by l names part mark why requests replies keys olds news now new asked fits is put start count at =
    let grows = l.exchanges.requests_stay names (with_asked put.message now) put.hands.between put.hands.delivered in
    let sent : new.sent ≡ now.sent ++ put.message ∷ [] = ap (λ p. p.sent) put.hands.is
    ∙ ap (λ xs. xs ++ put.message ∷ []) grows.sent in
    subst (AllZip (IsTriedAt part (count + 1) mark start new) keys) (sym is)
    (each_step part count mark why replies keys olds start now new put.message sent
    (λ test there. subst (λ rs. list_any test rs ≡ true) (sym (put.asks ∙ asked)) there)
    (λ reply there. All-contains (λ r. answer_fits r ≡ true) replies reply fits there) at)

none_any : (b c : Bool) → (b || c) ≡ false → (b ≡ false) × (c ≡ false)
none_any true c is = absurd cc
none_any false c is = (refl, is)

-- no key is asked about
pub idle_tried : (part : Part) (count most : ℕ) (mark : List ℕ) (keys : List Key) (lookeds : List Looked)
    (start now : Past) → list_any (is_asked part) lookeds ≡ false
    → AllZip (IsTriedAt part count mark start now) keys lookeds
    → AllZip (IsTriedAt part most mark start now) keys lookeds
idle_tried part count most mark [] [] start now idle at = tt
idle_tried part count most mark [] (looked ∷ lookeds) start now idle at = absurd at
idle_tried part count most mark (key ∷ keys) [] start now idle at = absurd at
idle_tried part count most mark (key ∷ keys) (looked ∷ lookeds) start now idle at =
    let (own, others) = none_any (is_asked part looked) (list_any (is_asked part) lookeds) idle in (
      raised_at part count most mark start now key looked own at.0,
      idle_tried part count most mark keys lookeds start
          now others at.1,
    )

-- nothing was asked yet
pub untried : (mark : List ℕ) (keys : List Key) (lookeds : List Looked) (p : Past) → length lookeds ≡ length keys
    → All (λ looked. looked ≡ unasked) lookeds
    → AllZip (IsTriedAt Find 0 mark p p) keys lookeds
untried mark [] [] p many all = tt
untried mark [] (looked ∷ lookeds) p many all = absurd (omega (arith, many))
untried mark (key ∷ keys) [] p many all = absurd (omega (arith, many))
untried mark (key ∷ keys) (looked ∷ lookeds) p many all =
    let is : looked ≡ unasked = All-head (λ l. l ≡ unasked) looked lookeds all in (
      keeping.unheard (inr (asked_none (id_of Find mark key) p)) (ap (λ (l : Looked). l.known) is)
          (ap (λ (l : Looked). l.shown) is),
      untried mark keys lookeds p (omega (arith, many)) (All-tail (λ l. l ≡ unasked) looked lookeds all),
    )

-- ---- group after group

pub tried_onward : (mark : List ℕ) (keys : List Key) (lookeds : List Looked) (start now new : Past)
    (more : List (List ℕ)) → new.sent ≡ now.sent ++ more
    → AllZip (IsTriedAt Tell MOST_TRIES mark start now) keys lookeds
    → AllZip (IsTriedAt Tell MOST_TRIES mark start new) keys lookeds
tried_onward mark [] [] start now new more sent at = tt
tried_onward mark [] (looked ∷ lookeds) start now new more sent at = absurd at
tried_onward mark (key ∷ keys) [] start now new more sent at = absurd at
tried_onward mark (key ∷ keys) (looked ∷ lookeds) start now new more sent at = (
  onward_at Tell MOST_TRIES mark start now new more key looked sent at.0,
  tried_onward mark keys lookeds start now
      new more sent at.1,
)

pub tried_before : (mark : List ℕ) (keys : List Key) (lookeds : List Looked) (start now new : Past)
    (front : List (List ℕ)) → now.sent ≡ start.sent ++ front
    → AllZip (IsTriedAt Tell MOST_TRIES mark now new) keys lookeds
    → AllZip (IsTriedAt Tell MOST_TRIES mark start new) keys lookeds
tried_before mark [] [] start now new front sent at = tt
tried_before mark [] (looked ∷ lookeds) start now new front sent at = absurd at
tried_before mark (key ∷ keys) [] start now new front sent at = absurd at
tried_before mark (key ∷ keys) (looked ∷ lookeds) start now new front sent at = (
  before_at Tell MOST_TRIES mark start now new front key looked sent at.0,
  tried_before mark keys lookeds start now
      new front sent at.1,
)

-- ---- what is said at last

refused_for : (why : Why) → is_refused why ≡ true → (reason : Option ℕ) × (why ≡ Refused reason)
refused_for (Refused reason) is = (reason, refl)
refused_for NotAsked is = absurd cc
refused_for NoReply is = absurd cc
refused_for Unreadable is = absurd cc

said_at : (mark : List ℕ) (start now : Past) (key : Key) (looked : Looked)
    → IsTriedAt Tell MOST_TRIES mark start now key looked → IsTried mark start now key looked
said_at mark start now key looked (keeping.unheard (inl refused) known shown) =
    inr (inl (refused_for looked.why refused))
said_at mark start now key looked (keeping.unheard (inr asked) known shown) = inr (inr (OPERATION_LOCATE, asked))
said_at mark start now key looked (keeping.found fits (inl refused) known shown) =
    inr (inl (refused_for looked.why refused))
said_at mark start now key looked (keeping.found fits (inr asked) known shown) =
    inr (inr (OPERATION_GET_ATTRIBUTES, asked))
said_at mark start now key looked (keeping.told told so) = inl told

pub all_tried : (mark : List ℕ) (keys : List Key) (lookeds : List Looked) (start now : Past)
    → AllZip (IsTriedAt Tell MOST_TRIES mark start now) keys lookeds
    → AllZip (IsTried mark start now) keys lookeds
all_tried mark [] [] start now at = tt
all_tried mark [] (looked ∷ lookeds) start now at = absurd at
all_tried mark (key ∷ keys) [] start now at = absurd at
all_tried mark (key ∷ keys) (looked ∷ lookeds) start now at =
    (said_at mark start now key looked at.0, all_tried mark keys lookeds start now at.1)
