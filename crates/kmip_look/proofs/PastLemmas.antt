-- What a message and a part of a look do to the past.
use Rattle.std.proofs.Common.{◌≡◌, ◌≤◌, ◌<◌, ℕ, ◌+◌, Bool, true, false, ◌||◌, not, nat_le, if◌then◌else◌, List, [], ◌∷◌}
use Rattle.std.proofs.Common.{◌++◌, length, map, Option, Some, None, Result, Ok, Err, IfOk, OnOk, refl, sym, ap, subst}
use Rattle.std.proofs.Common.{◌∙◌, inl, inr, ◌⊎◌, arith, eq-eqb, ◌==◌, append-nil, append_assoc}
use Rattle.std.specs.Bool.{⊤}
use Rattle.std.proofs.lemmas.Bool.{cases_Bool, eqb-true, le-leb}
use Rattle.std.proofs.lemmas.List.{length-append}
use Rattle.std.proofs.lemmas.List.Elements.{All-append, All-cons, All-contains, All-contains_itself, All-head, All-nil}
use Rattle.std.proofs.lemmas.List.Elements.{All-tail, All-weaker}
use Rattle.std.specs.List.{All, AllZip, list_any}
use Rattle.kmip_objects.specs.Objects.{Object, DistinctUids}
use Rattle.kmip_batch_items.specs.BatchItems.{answer_fits}
use Rattle.kmip_batch_items.specs.declared.reply.Reply.{Reply}
use Rattle.kmip_batch_items.specs.declared.request.Request.{Request}
use Rattle.kmip_messages.specs.Items.{parts_in, replies_in, requests_in, stops_in}
use Rattle.kmip_plan.specs.declared.key.Key.{Key}
use Rattle.kmip_protocol.specs.Calm.{AreTaken, CalmlyExchanged}
use Rattle.kmip_protocol.specs.Exchanges.{Exchanged, HandsOver, with_asked, with_requests}
use Rattle.kmip_protocol.specs.Laws.{DeliveriesKeepTheRequests}
use Rattle.kmip_protocol.specs.Losses.{or_loss}
use Rattle.kmip_protocol.specs.Past.{Names, Past}
use Rattle.kmip_protocol.specs.declared.link_fault.LinkFault.{LinkFault}
use Rattle.kmip_protocol.specs.declared.link_fault.LinkFault.TheVariants as faults
use Rattle.std.proofs.lemmas.Option.{same_Some}
use Rattle.kmip_look.specs.Laws.{AsksALook}
use Rattle.kmip_look.specs.Looks.{AsksLooks, IsLook, IsSaid, IsToldOf, Sends}
use Rattle.kmip_look.specs.Moments as moments
use Rattle.kmip_look.specs.Moments.{IsLater, WasSo}
use Rattle.kmip_look.specs.PrivateAsking.{id_of, is_asked, is_refused, part_number, request_of, requests_of}
use Rattle.kmip_look.specs.PrivateHearing.{heard_each}
use Rattle.kmip_look.specs.PrivateKeeping as keeping
use Rattle.kmip_look.specs.PrivateKeeping.{AreShaped, Goes, GoesCalmly, GoesThrough, IsAfter, IsAt, IsBefore}
use Rattle.kmip_look.specs.PrivateKeeping.{IsMarkedLook, IsMarkedTrue, IsSame, Kept, LookLaws, SendsLooks, WereSo}
use Rattle.kmip_look.specs.PrivateKeeping.{both_parts, one_part, unasked}
use Rattle.kmip_look.specs.PrivatePutting.{HasPut, HasServed, Puts, said}
use Rattle.kmip_look.specs.Standings.{is_told}
use Rattle.kmip_look.specs.declared.looked.Looked.{Looked}
use Rattle.kmip_look.specs.declared.part.Part.{Part}
use Rattle.kmip_look.specs.declared.part.Part.TheVariants.{Find, Tell}
use Rattle.kmip_look.specs.declared.why.Why.{Why}
use Rattle.kmip_look.proofs.AskedLemmas.{looks_of}
use Rattle.kmip_look.proofs.CalmLemmas.{all_idle, all_served, calm_after, none_asked}
use Rattle.kmip_look.proofs.HeardLemmas.{answer_id, each_at, teaches_failed, teaches_nothing, teaches_so}
use Rattle.kmip_look.proofs.KeptLemmas.{kept_over, later_over, marked_look, nothing_later, said_true}
use Rattle.kmip_look.proofs.ServedLemmas.{look_of}

-- ---- what an exchange sends

one_sent : DeliveriesKeepTheRequests → (names : Names) (old new : Past) (message : List ℕ) (requests : List Request)
    (answer : Option (List ℕ))
    → requests_in message ≡ requests → HandsOver names old message answer new → Puts requests old new
one_sent l names old new message requests answer asks hands =
    let grows = l names (with_asked message old) hands.between hands.delivered in
    record {
      messages = message ∷ [];
      sent = ap (λ p. p.sent) hands.is ∙ ap (λ xs. xs ++ message ∷ []) grows.sent;
      asks = All-cons (λ m. requests_in m ≡ requests) message [] asks (All-nil (λ m. requests_in m ≡ requests));
      few = omega arith;
    }

pub none_sent : (old new : Past) (requests : List Request) → new.sent ≡ old.sent → Puts requests old new
none_sent old new requests same = record {
  messages = [];
  sent = same ∙ sym (append-nil old.sent);
  asks = All-nil (λ m. requests_in m ≡ requests);
  few = omega arith;
}

pub puts_by : DeliveriesKeepTheRequests → (names : Names) (old new : Past) (message : List ℕ) (requests : List Request)
    (exchanged : Result (Option (List ℕ)) LinkFault) → requests_in message ≡ requests
    → Exchanged names old message exchanged new → Puts requests old new
puts_by l names old new message requests (Ok answer) asks hands =
    one_sent l names old new message requests answer asks hands
puts_by l names old new message requests (Err faults.Io) asks hands =
    one_sent l names old new message requests None asks hands
puts_by l names old new message requests (Err faults.Frame) asks hands =
    one_sent l names old new message requests None asks hands
puts_by l names old new message requests (Err faults.NoMemory) asks (inl delivered) =
    none_sent old new requests (l names old new delivered).sent
puts_by l names old new message requests (Err faults.NoMemory) asks (inr delivered) =
    none_sent old new requests (l names (with_asked message old) new delivered).sent

hands_for : (names : Names) (old new : Past) (message : List ℕ) (requests : List Request) (replies : List Reply)
    (answer handed : Option (List ℕ))
    → requests_in message ≡ requests → HandsOver names old message answer new → answer ≡ handed → replies ≡ said handed
    → HasPut names requests replies old new
hands_for names old new message requests replies answer handed asks hands is says = record {
  message = message;
  asks = asks;
  answer = answer;
  hands = hands;
  says = says ∙ ap said (sym is);
}

pub put_by : (names : Names) (old new : Past) (message : List ℕ) (requests : List Request) (replies : List Reply)
    (exchanged : Result (Option (List ℕ)) LinkFault) (handed : Option (List ℕ)) → requests_in message ≡ requests
    → Exchanged names old message exchanged new
    → or_loss exchanged ≡ Some handed → replies ≡ said handed → HasPut names requests replies old new
put_by names old new message requests replies (Ok answer) handed asks hands is says =
    hands_for names old new message requests replies answer handed asks hands (same_Some answer handed is) says
put_by names old new message requests replies (Err faults.Io) handed asks hands is says =
    hands_for names old new message requests replies None handed asks hands (same_Some None handed is) says
put_by names old new message requests replies (Err faults.Frame) handed asks hands is says =
    hands_for names old new message requests replies None handed asks hands (same_Some None handed is) says
put_by names old new message requests replies (Err faults.NoMemory) handed asks hands is says = absurd cc

pub served_by : (names : Names) (old new : Past) (message : List ℕ) (requests : List Request) (replies : List Reply)
    (exchanged : Result (Option (List ℕ)) LinkFault) (handed : Option (List ℕ)) → parts_in message ≡ map Ok requests
    → stops_in message ≡ not (nat_le 2 (length requests)) → requests_in message ≡ requests
    → CalmlyExchanged names old message exchanged new
    → or_loss exchanged ≡ Some handed → replies ≡ said handed → HasServed requests replies old new
served_by names old new message requests replies (Ok answer) handed parts stops asks calmly is says =
    let own : replies ≡ replies_in calmly.given = says
    ∙ ap said (sym (same_Some answer handed is) ∙ calmly.answer_is) in
    record {
      between = calmly.between;
      taken = subst (λ rs. AreTaken (not (nat_le 2 (length requests))) (map Ok requests) replies
          (with_requests rs old) calmly.between) asks
          (subst (λ rs. AreTaken (not (nat_le 2 (length requests))) (map Ok requests) rs (with_asked message old)
          calmly.between) (sym own)
          (subst (λ b. AreTaken b (map Ok requests) (replies_in calmly.given) (with_asked message old) calmly.between)
          stops
          (subst (λ ps. AreTaken (stops_in message) ps (replies_in calmly.given) (with_asked message old)
          calmly.between) parts calmly.taken)));
      objects_are = ap (λ p. p.objects) calmly.is;
      effects_are = ap (λ p. p.effects) calmly.is;
    }
served_by names old new message requests replies (Err faults.Io) handed parts stops asks calmly is says = absurd calmly
served_by names old new message requests replies (Err faults.Frame) handed parts stops asks calmly is says =
    absurd calmly
served_by names old new message requests replies (Err faults.NoMemory) handed parts stops asks calmly is says =
    absurd cc

-- ---- what is sent

pub sends_none : (keys : List Key) (mark : List ℕ) (most : ℕ) (p : Past) → Sends keys mark most p p
sends_none keys mark most p = record {
  messages = [];
  sent = sym (append-nil p.sent);
  look = All-nil (AsksLooks keys mark);
  few = omega arith;
}

pub sends_on : (keys : List Key) (mark : List ℕ) (m n most : ℕ) (p q r : Past) → m + n ≤ most → Sends keys mark m p q
    → Sends keys mark n q r
    → Sends keys mark most p r
sends_on keys mark m n most p q r within first second =
    let sum = length-append first.messages second.messages in
    record {
      messages = first.messages ++ second.messages;
      sent = second.sent ∙ ap (λ xs. xs ++ second.messages) first.sent
          ∙ append_assoc p.sent first.messages second.messages;
      look = All-append (AsksLooks keys mark) first.messages second.messages first.look second.look;
      few = omega (arith, sum, first.few, second.few, within);
    }

pub sends_within : (keys : List Key) (mark : List ℕ) (m most : ℕ) (p q : Past) → m ≤ most → Sends keys mark m p q
    → Sends keys mark most p q
sends_within keys mark m most p q within sends = record {
  messages = sends.messages;
  sent = sends.sent;
  look = sends.look;
  few = omega (arith, sends.few, within);
}

pub sent_few : (keys : List Key) (mark : List ℕ) (most : ℕ) (p q : Past) → Sends keys mark most p q
    → length q.sent ≤ length p.sent + most
sent_few keys mark most p q sends =
    omega (arith, ap length sends.sent, length-append p.sent sends.messages, sends.few)

pub sends_looks : (keys : List Key) (lookeds : List Looked) (part : Part) (mark : List ℕ) (requests : List Request)
    (old new : Past)
    → requests ≡ requests_of part mark keys lookeds → Puts requests old new → SendsLooks keys mark 1 old new
sends_looks keys lookeds part mark requests old new is puts = λ plan planned.
    let looks : All (IsLook plan mark) requests = subst (All (IsLook plan mark)) (sym is)
    (looks_of plan part mark keys lookeds planned) in
    record {
      messages = puts.messages;
      sent = puts.sent;
      look = All-weaker (λ m. requests_in m ≡ requests) (AsksLooks plan mark)
          (λ m asks. subst (All (IsLook plan mark)) (sym asks) looks) puts.messages puts.asks;
      few = puts.few;
    }

-- ---- what is told

at_later : (names : Names) (start p q : Past) (key : Key) (looked : Looked) → IsLater names p q
    → IsAt ⊤ (λ uid. ⊤) (WasSo names start p key) looked → IsAt ⊤ (λ uid. ⊤) (WasSo names start q key) looked
at_later names start p q key looked on (keeping.unheard u known shown) = keeping.unheard u known shown
at_later names start p q key looked on (keeping.found in_range f known shown) = keeping.found in_range f known shown
at_later names start p q key looked on (keeping.told told (moment, before, after, so)) =
    keeping.told told (moment, before, moments.onward after on, so)

pub were_later : (names : Names) (start p q : Past) (keys : List Key) (lookeds : List Looked) → IsLater names p q
    → WereSo names start p keys lookeds
    → WereSo names start q keys lookeds
were_later names start p q [] [] on were = tt
were_later names start p q [] (looked ∷ lookeds) on were = absurd were
were_later names start p q (key ∷ keys) [] on were = absurd were
were_later names start p q (key ∷ keys) (looked ∷ lookeds) on were =
    (at_later names start p q key looked on were.0, were_later names start p q keys lookeds on were.1)

pub shaped_by : (part : Part) (mark : List ℕ) (why : Why) (replies : List Reply) (keys : List Key)
    (olds news : List Looked)
    → All (λ r. answer_fits r ≡ true) replies → news ≡ heard_each part mark why replies keys olds
    → AreShaped keys olds → AreShaped keys news
shaped_by part mark why replies keys olds news fits is at =
    subst (AreShaped keys) (sym is)
    (each_at ⊤ (λ key uid. ⊤) (λ key looked. ⊤) part mark why replies keys olds
    (λ key reply there answers. (
      teaches_nothing key reply.outcome,
      All-contains (λ r. answer_fits r ≡ true) replies
          reply fits there,
    )) at)

pub goes_by : LookLaws → (names : Names) (part : Part) (mark : List ℕ) (why : Why) (requests : List Request)
    (replies : List Reply) (keys : List Key)
    (olds news : List Looked) (old new : Past) → requests ≡ requests_of part mark keys olds
    → All (λ r. answer_fits r ≡ true) replies
    → news ≡ heard_each part mark why replies keys olds → HasPut names requests replies old new
    → Goes names mark keys olds news old new
goes_by l names part mark why requests replies keys olds news old new asked fits is put =
    let on : IsLater names old new = later_over names old new put.message put.answer put.hands in
    record {
      later = on;
      so = λ start kept were.
          let looks : All (IsLook keys mark) (requests_in put.message) =
          subst (All (IsLook keys mark)) (sym (put.asks ∙ asked))
          (looks_of keys part mark keys olds (All-contains_itself keys)) in
          let marked : All (IsMarkedLook mark) (requests_in put.message) =
          All-weaker (IsLook keys mark) (IsMarkedLook mark) (λ request look. marked_look keys mark request look)
          (requests_in put.message) looks in
          let now : Kept names mark start new = kept_over l.server.all_located names mark start old new put.message
          put.answer marked put.hands kept in
          let true_so : All (IsMarkedTrue names mark start new) replies =
          subst (All (IsMarkedTrue names mark start new)) (sym put.says)
          (said_true names mark start old new put.message put.answer put.hands now) in (
            now,
            subst (WereSo names start new keys) (sym is)
                (each_at ⊤ (λ key uid. ⊤) (λ key. WasSo names start new key) part mark why replies keys olds
                (λ key reply there answers. (
                  elim (All-contains (IsMarkedTrue names mark start new) replies reply true_so there
                      (part_number part) key.attrs.name
                      (answer_id (part_number part) (id_of part mark key) reply answers)) [
                        | inl (reason, failed) ↦ teaches_failed (λ uid. ⊤) (WasSo names start new key) key
                            reply.outcome reason failed
                        | inr (moment, before, after, says) ↦
                            teaches_so key moment.objects reply.outcome (WasSo names start new key)
                            (λ looked stands. (moment, before, after, stands)) says
                      ],
                  All-contains (λ r. answer_fits r ≡ true) replies reply fits there,
                ))
                (were_later names start old new keys olds on were)),
          );
    }

pub goes_on : (names : Names) (mark : List ℕ) (keys : List Key) (a b d : List Looked) (p q r : Past)
    → Goes names mark keys a b p q
    → Goes names mark keys b d q r → Goes names mark keys a d p r
goes_on names mark keys a b d p q r first second = record {
  later = moments.onward first.later second.later;
  so = λ start kept were. let so = first.so start kept were in second.so start so.0 so.1;
}

pub goes_nowhere : (names : Names) (mark : List ℕ) (keys : List Key) (a : List Looked) (p : Past)
    → Goes names mark keys a a p p
goes_nowhere names mark keys a p = record { later = nothing_later names p; so = λ start kept were. (kept, were) }

-- ---- over a calm link

all_looks : (keys : List Key) (mark : List ℕ) (requests : List Request) → All (IsLook keys mark) requests
    → All (λ (r : Request). AsksALook r.ask) requests
all_looks keys mark requests looks =
    All-weaker (IsLook keys mark) (λ (r : Request). AsksALook r.ask)
    (λ request look. look_of look.key.attrs.name request.ask look.looks) requests looks

one_alone : (requests : List Request) → not (nat_le 2 (length requests)) ≡ true → length requests ≤ 1
one_alone [] stops = omega arith
one_alone (request ∷ []) stops = omega arith
one_alone (request ∷ other ∷ more) stops = elim (cases_Bool (nat_le 2 (length (request ∷ other ∷ more)))) [
  | inl two ↦ let t : false ≡ true = subst (λ b. not b ≡ true) two stops in absurd cc
  | inr few ↦ let t : true ≡ false = sym (le-leb 2 (length (request ∷ other ∷ more)) (omega arith)) ∙ few in absurd cc
]

pub calmly_by : LookLaws → (part : Part) (mark : List ℕ) (why : Why) (requests : List Request) (replies : List Reply)
    (keys : List Key)
    (olds news : List Looked) (old new : Past) → requests ≡ requests_of part mark keys olds
    → All (λ r. answer_fits r ≡ true) replies
    → news ≡ heard_each part mark why replies keys olds → HasServed requests replies old new
    → GoesCalmly part keys olds news old new
calmly_by l part mark why requests replies keys olds news old new asked fits is served =
    let looks : All (IsLook keys mark) requests = subst (All (IsLook keys mark)) (sym asked)
    (looks_of keys part mark keys olds (All-contains_itself keys)) in
    let all = all_served (not (nat_le 2 (length requests))) requests replies old.objects (with_requests requests old)
    served.between
    (all_looks keys mark requests looks) (one_alone requests) refl served.taken in
    record {
      same = record { objects = served.objects_are ∙ all.objects_are; effects = served.effects_are ∙ all.effects_are };
      stand = λ distinct before. subst (AllZip (IsAfter part old.objects) keys) (sym is)
          (calm_after l part mark why old.objects requests replies keys olds asked distinct fits all.replied before);
    }

pub same_nowhere : (p : Past) → IsSame p p
same_nowhere p = record { objects = refl; effects = refl }

pub same_on : (p q r : Past) → IsSame p q → IsSame q r → IsSame p r
same_on p q r first second =
    record { objects = second.objects ∙ first.objects; effects = second.effects ∙ first.effects }

-- two parts after each other
pub through_both : (keys : List Key) (a b d : List Looked) (goes_on : Bool) (p q r : Past)
    → GoesThrough (one_part Find) keys a b true p q
    → GoesThrough (one_part Tell) keys b d goes_on q r → GoesThrough both_parts keys a d goes_on p r
through_both keys a b d goes_on p q r first second = record {
  same = same_on p q r first.same second.same;
  comes = λ distinct before.
      let one = first.comes distinct before in
      let two = second.comes (subst DistinctUids (sym first.same.objects) distinct)
      (subst (λ objects. AllZip (IsBefore Tell objects) keys b) (sym first.same.objects) one.stand) in
      record {
        stand = subst (λ objects. AllZip (IsAfter Tell objects) keys d) first.same.objects two.stand;
        goes = two.goes;
        few = omega (arith, one.few, two.few);
      };
}

-- where the first part says that no more may be asked, that is not over a calm link with distinct identifiers
pub through_first : (keys : List Key) (a b : List Looked) (p q : Past)
    → GoesThrough (one_part Find) keys a b false p q → GoesThrough both_parts keys a b false p q
through_first keys a b p q first = record {
  same = first.same;
  comes = λ distinct before. let one = first.comes distinct before in let t : false ≡ true = one.goes in absurd cc;
}

-- ---- nothing was asked about the keys

pub unasked_at : (keys : List Key) (lookeds : List Looked) → length lookeds ≡ length keys
    → All (λ looked. looked ≡ unasked) lookeds → AreShaped keys lookeds
unasked_at [] [] many all = tt
unasked_at [] (looked ∷ lookeds) many all = absurd (omega (arith, many))
unasked_at (key ∷ keys) [] many all = absurd (omega (arith, many))
unasked_at (key ∷ keys) (looked ∷ lookeds) many all =
    let is : looked ≡ unasked = All-head (λ l. l ≡ unasked) looked lookeds all in (
      keeping.unheard tt (ap (λ (l : Looked). l.known) is) (ap (λ (l : Looked). l.shown) is),
      unasked_at keys lookeds (omega (arith, many)) (All-tail (λ l. l ≡ unasked) looked lookeds all),
    )

pub unasked_so : (names : Names) (start now : Past) (keys : List Key) (lookeds : List Looked)
    → length lookeds ≡ length keys
    → All (λ looked. looked ≡ unasked) lookeds → WereSo names start now keys lookeds
unasked_so names start now [] [] many all = tt
unasked_so names start now [] (looked ∷ lookeds) many all = absurd (omega (arith, many))
unasked_so names start now (key ∷ keys) [] many all = absurd (omega (arith, many))
unasked_so names start now (key ∷ keys) (looked ∷ lookeds) many all =
    let is : looked ≡ unasked = All-head (λ l. l ≡ unasked) looked lookeds all in (
      keeping.unheard tt (ap (λ (l : Looked). l.known) is) (ap (λ (l : Looked). l.shown) is),
      unasked_so names start now keys lookeds (omega (arith, many)) (All-tail (λ l. l ≡ unasked) looked lookeds all),
    )

pub unasked_before : (objects : List Object) (keys : List Key) (lookeds : List Looked) → length lookeds ≡ length keys
    → All (λ looked. looked ≡ unasked) lookeds → AllZip (IsBefore Find objects) keys lookeds
unasked_before objects [] [] many all = tt
unasked_before objects [] (looked ∷ lookeds) many all = absurd (omega (arith, many))
unasked_before objects (key ∷ keys) [] many all = absurd (omega (arith, many))
unasked_before objects (key ∷ keys) (looked ∷ lookeds) many all =
    let is : looked ≡ unasked = All-head (λ l. l ≡ unasked) looked lookeds all in (
      (
        keeping.unheard tt (ap (λ (l : Looked). l.known) is) (ap (λ (l : Looked). l.shown) is),
        ap
            (λ (l : Looked). is_refused l.why) is,
      ),
      unasked_before objects keys lookeds (omega (arith, many)) (All-tail (λ l. l ≡ unasked) looked lookeds all),
    )

-- ---- what is said at last

said_of : (names : Names) (start now : Past) (key : Key) (looked : Looked)
    → IsAt ⊤ (λ uid. ⊤) (WasSo names start now key) looked
    → IsSaid names start now key looked
said_of names start now key looked (keeping.unheard u known shown) = inr (ap is_told known, shown)
said_of names start now key looked (keeping.found {uid = uid} in_range f known shown) = inr (ap is_told known, shown)
said_of names start now key looked (keeping.told told so) = inl (told, so)

pub all_said : (names : Names) (start now : Past) (keys : List Key) (lookeds : List Looked)
    → WereSo names start now keys lookeds
    → AllZip (IsSaid names start now) keys lookeds
all_said names start now [] [] were = tt
all_said names start now [] (looked ∷ lookeds) were = absurd were
all_said names start now (key ∷ keys) [] were = absurd were
all_said names start now (key ∷ keys) (looked ∷ lookeds) were =
    (said_of names start now key looked were.0, all_said names start now keys lookeds were.1)

told_of_all : (objects : List Object) (key : Key) (looked : Looked) → IsAfter Tell objects key looked
    → IsToldOf objects key looked
told_of_all objects key looked (keeping.unheard u known shown, unrefused) = absurd u
told_of_all objects key looked (keeping.found in_range none known shown, unrefused) = absurd none
told_of_all objects key looked (keeping.told told so, unrefused) = (told, so)

pub all_told : (objects : List Object) (keys : List Key) (lookeds : List Looked)
    → AllZip (IsAfter Tell objects) keys lookeds
    → AllZip (IsToldOf objects) keys lookeds
all_told objects [] [] after = tt
all_told objects [] (looked ∷ lookeds) after = absurd after
all_told objects (key ∷ keys) [] after = absurd after
all_told objects (key ∷ keys) (looked ∷ lookeds) after =
    (told_of_all objects key looked after.0, all_told objects keys lookeds after.1)

-- ---- the tries of a part, over a calm link

pub record Tried (part : Part) (tries : ℕ) (keys : List Key) (olds nows : List Looked) (start now : Past) : Type 0 where
  pub same : IsSame start now
  pub stand : DistinctUids start.objects → AllZip (IsBefore part start.objects) keys olds
      → ((tries ≡ 0) × AllZip (IsBefore part start.objects) keys nows × (length now.sent ≤ length start.sent))
      ⊎ (AllZip (IsAfter part start.objects) keys nows × (length now.sent ≤ length start.sent + 1))

pub tried_none : (part : Part) (keys : List Key) (olds : List Looked) (p : Past) → Tried part 0 keys olds olds p p
tried_none part keys olds p =
    record { same = same_nowhere p; stand = λ distinct before. inl (refl, before, omega arith) }

pub tried_more : (part : Part) (tries : ℕ) (keys : List Key) (mark : List ℕ) (olds nows news : List Looked)
    (start now new : Past)
    → list_any (is_asked part) nows ≡ true → Tried part tries keys olds nows start now
    → GoesCalmly part keys nows news now new → Sends keys mark 1 now new
    → Tried part (tries + 1) keys olds news start new
tried_more part tries keys mark olds nows news start now new any tried goes sends = record {
  same = same_on start now new tried.same goes.same;
  stand = λ distinct before. elim (tried.stand distinct before) [
    | inl (none, still, few) ↦
        inr (
          subst (λ objects. AllZip (IsAfter part objects) keys news) tried.same.objects
              (goes.stand (subst DistinctUids (sym tried.same.objects) distinct)
              (subst (λ objects. AllZip (IsBefore part objects) keys nows) (sym tried.same.objects) still)),
          omega (arith, few, sent_few keys mark 1 now new sends),
        )
    | inr (after, few) ↦
        let t : false ≡ true = sym (none_asked part start.objects keys nows after) ∙ any in absurd cc
  ];
}

pub tried_idle : (part : Part) (tries : ℕ) (keys : List Key) (olds nows : List Looked) (start now : Past)
    → list_any (is_asked part) nows ≡ false
    → Tried part tries keys olds nows start now → GoesThrough (one_part part) keys olds nows true start now
tried_idle part tries keys olds nows start now idle tried = record {
  same = tried.same;
  comes = λ distinct before. elim (tried.stand distinct before) [
    | inl (none, still, few) ↦ record {
      stand = all_idle part start.objects keys nows still idle;
      goes = refl;
      few = omega (arith, few);
    }
    | inr (after, few) ↦ record { stand = after; goes = refl; few = few }
  ];
}

pub tried_stopped : (part : Part) (tries : ℕ) (keys : List Key) (olds nows : List Looked) (start now : Past)
    → list_any (is_asked part) nows ≡ true → 0 < tries
    → Tried part tries keys olds nows start now → GoesThrough (one_part part) keys olds nows false start now
tried_stopped part tries keys olds nows start now any some tried = record {
  same = tried.same;
  comes = λ distinct before. elim (tried.stand distinct before) [
    | inl (none, still, few) ↦ absurd (omega (arith, none, some))
    | inr (after, few) ↦
        let t : false ≡ true = sym (none_asked part start.objects keys nows after) ∙ any in absurd cc
  ];
}

pub tried_all : (part : Part) (tries : ℕ) (keys : List Key) (olds nows : List Looked) (start now : Past) → 0 < tries
    → Tried part tries keys olds nows start now → GoesThrough (one_part part) keys olds nows true start now
tried_all part tries keys olds nows start now some tried = record {
  same = tried.same;
  comes = λ distinct before. elim (tried.stand distinct before) [
    | inl (none, still, few) ↦ absurd (omega (arith, none, some))
    | inr (after, few) ↦ record { stand = after; goes = refl; few = few }
  ];
}

-- ---- no question is left

pub nothing_asked : (part : Part) (mark : List ℕ) (keys : List Key) (lookeds : List Looked)
    → length lookeds ≡ length keys
    → requests_of part mark keys lookeds ≡ [] → list_any (is_asked part) lookeds ≡ false
nothing_asked part mark [] [] many none = refl
nothing_asked part mark [] (looked ∷ lookeds) many none = absurd (omega (arith, many))
nothing_asked part mark (key ∷ keys) [] many none = refl
nothing_asked part mark (key ∷ keys) (looked ∷ lookeds) many none = elim (cases_Bool (is_asked part looked)) [
  | inl asked ↦
      let t : request_of part mark key looked ∷ requests_of part mark keys lookeds ≡ [] =
      subst (λ b. (if b then request_of part mark key looked ∷ requests_of part mark keys lookeds else requests_of
      part mark keys lookeds) ≡ []) asked none in
      absurd cc
  | inr idle ↦ subst (λ b. (b || list_any (is_asked part) lookeds) ≡ false) (sym idle)
      (nothing_asked part mark keys lookeds (omega (arith, many))
      (subst (λ b. (if b then request_of part mark key looked ∷ requests_of part mark keys lookeds else requests_of
      part mark keys lookeds) ≡ []) idle none))
]

pub idle_goes : (part : Part) (keys : List Key) (lookeds : List Looked) (p : Past)
    → list_any (is_asked part) lookeds ≡ false
    → GoesCalmly part keys lookeds lookeds p p
idle_goes part keys lookeds p idle = record {
  same = same_nowhere p;
  stand = λ distinct before. all_idle part p.objects keys lookeds before idle;
}

-- ---- results

pub on_ok : {A E : Type 0} {P Q : Type 0} (result : Result A E) → (P → Q) → OnOk result P → OnOk result Q
on_ok (Ok value) further holds = further holds
on_ok (Err fault) further holds = tt

pub if_ok : {A E : Type 0} {P Q : A → Type 0} (result : Result A E) → ((value : A) → P value → Q value)
    → IfOk result P → IfOk result Q
if_ok (Ok value) further holds = further value holds
if_ok (Err fault) further holds = tt

pub when_ok : {A E : Type 0} {P : Type 0} {Q : A → Type 0} (result : Result A E) → ((value : A) → P → Q value)
    → OnOk result P → IfOk result Q
when_ok (Ok value) further holds = further value holds
when_ok (Err fault) further holds = tt

pub zip_length : {A B : Type 0} (R : A → B → Type 0) (xs : List A) (ys : List B) → AllZip R xs ys
    → length ys ≡ length xs
zip_length R [] [] zip = refl
zip_length R [] (y ∷ ys) zip = absurd zip
zip_length R (x ∷ xs) [] zip = absurd zip
zip_length R (x ∷ xs) (y ∷ ys) zip = let rest = zip_length R xs ys zip.1 in omega (arith, rest)

pub shaped_many : (keys : List Key) (lookeds : List Looked) → AreShaped keys lookeds → length lookeds ≡ length keys
shaped_many keys lookeds at = zip_length (λ (key : Key). IsAt ⊤ (λ uid. ⊤) (λ looked. ⊤)) keys lookeds at

-- ---- counts

pub some_left : {A : Type 0} (n : ℕ) (xs : List A) → (n == 0) ≡ false → n ≡ length xs → 1 ≤ length xs
some_left n [] is same =
    let zero : n ≡ 0 = omega (arith, same) in
    let t : true ≡ false = sym (eq-eqb n 0 zero) ∙ is in absurd cc
some_left n (x ∷ xs) is same = omega arith

pub none_left : {A : Type 0} (n : ℕ) (xs : List A) → (n == 0) ≡ true → n ≡ length xs → xs ≡ []
none_left n [] is same = refl
none_left n (x ∷ xs) is same = let zero = eqb-true n 0 is in absurd (omega (arith, zero, same))
