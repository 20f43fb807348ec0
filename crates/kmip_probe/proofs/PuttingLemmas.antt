-- What one exchange does, by the laws of what may happen.
use Rattle.std.proofs.Common.{◌≡◌, ◌⊎◌, ◌<◌, ℕ, zero, suc, replicate, Bool, true, false, List, [], ◌∷◌, ◌++◌, Option, Some, None, Result, Ok, Err, refl, sym, ap, subst, ◌∙◌, inl, inr, IfOk, ◌≤◌, ◌+◌, length, arith}
use Rattle.std.proofs.lemmas.List.{append_assoc, append-nil, length-append, length-replicate}
use Rattle.std.proofs.lemmas.Grind.{replicate_next}
use Rattle.std.specs.Prelude.{◌&&◌, option_map, option_and_then, option_to_list, slice_get, if◌then◌else◌}
use Rattle.std.specs.Option.{option_map_or}
use Rattle.std.proofs.lemmas.Option.{same_Some}
use Rattle.std.proofs.lemmas.Slice.Eq.{bytes_eq-Decides}
use Rattle.kmip_ttlv.specs.Spelling.{canon}
use Rattle.kmip_messages.specs.Written.{requests_item}
use Rattle.kmip_messages.specs.Items.{parts_in, replies_in, stops_in, SaidAreRead}
use Rattle.kmip_batch_items.specs.declared.reply.Reply.{Reply}
use Rattle.kmip_batch_items.specs.declared.request.Request.{Request}
use Rattle.kmip_protocol.specs.Calm.{AreTaken, Calmly, CalmlyExchanged, IsServed}
use Rattle.kmip_protocol.specs.Exchanges.{Exchanged, HandsOver, with_asked}
use Rattle.kmip_protocol.specs.Laws.{DeliveriesKeepTheRequests}
use Rattle.kmip_protocol.specs.Losses.{or_loss}
use Rattle.kmip_protocol.specs.Past.{Names, Past}
use Rattle.kmip_protocol.specs.declared.link_fault.LinkFault.{LinkFault}
use Rattle.kmip_protocol.specs.declared.link_fault.LinkFault.TheVariants as faults
use Rattle.kmip_server.specs.ServerStep.{ServerStep}
use Rattle.kmip_batch_items.specs.declared.outcome.Outcome.{Outcome}
use Rattle.kmip_batch_items.specs.declared.ask.Ask.{Ask}
use Rattle.kmip_protocol.specs.Moves.{HasFailed}
use Rattle.kmip_probe.specs.Answers.{answer_marked, answer_read, answer_to, answer_with, is_asked_for, is_of, marker_of}
use Rattle.kmip_probe.specs.Asking.{IsNext, IsPut, is_free_at, message_after, next_inquiry, request_for, sends_after, uid_of}
use Rattle.kmip_probe.specs.Inquiries.{ask_of, most_sends, name_of}
use Rattle.kmip_probe.specs.Private.{HasAsked, HasLost, HasPut, HasReplied, HasSent, HasServed, HasServedNext}
use Rattle.kmip_probe.specs.declared.answer.Answer.TheVariants.{Nothing, Told}
use Rattle.kmip_probe.specs.declared.inquiry.TheConstants.{INQUIRIES}
use Rattle.kmip_probe.specs.declared.inquiry.Inquiry.{Inquiry}
use Rattle.kmip_probe.proofs.OwnOutcomes.{of_kind}
use Rattle.kmip_probe.specs.declared.answer.Answer.{Answer}

-- ---- over an honest link

handed_over : DeliveriesKeepTheRequests → (names : Names) (old new : Past) (message : List ℕ) (given : Option (List ℕ)) → HandsOver names old message given new
    → (new.sent ≡ old.sent ++ message ∷ []) × (new.handed ≡ old.handed ++ given ∷ [])
handed_over l names old new message given hands =
    let grows = l names (with_asked message old) hands.between hands.delivered in (
      ap (λ p. p.sent) hands.is ∙ ap (λ xs. xs ++ message ∷ []) grows.sent,
      ap (λ p. p.handed) hands.is ∙ ap (λ xs. xs ++ given ∷ []) grows.handed,
    )

-- one exchange
once_over : DeliveriesKeepTheRequests → (names : Names) (old new : Past) (message : List ℕ) (exchanged : Result (Option (List ℕ)) LinkFault) (given : Option (List ℕ))
    → Exchanged names old message exchanged new → or_loss exchanged ≡ Some given
    → (new.sent ≡ old.sent ++ message ∷ []) × (new.handed ≡ old.handed ++ given ∷ [])
once_over l names old new message (Ok answer) given hands is =
    subst (λ g. (new.sent ≡ old.sent ++ message ∷ []) × (new.handed ≡ old.handed ++ g ∷ [])) (same_Some answer given is) (handed_over l names old new message answer hands)
once_over l names old new message (Err faults.Io) given hands is =
    subst (λ g. (new.sent ≡ old.sent ++ message ∷ []) × (new.handed ≡ old.handed ++ g ∷ [])) (same_Some None given is) (handed_over l names old new message None hands)
once_over l names old new message (Err faults.Frame) given hands is =
    subst (λ g. (new.sent ≡ old.sent ++ message ∷ []) × (new.handed ≡ old.handed ++ g ∷ [])) (same_Some None given is) (handed_over l names old new message None hands)
once_over l names old new message (Err faults.NoMemory) given hands is = absurd cc

-- nothing was sent yet
pub none_lost : (message : List ℕ) (p : Past) → HasLost message 0 p p
none_lost message p = record { sent = sym (append-nil p.sent); handed = sym (append-nil p.handed) }

-- one exchange more, without a reply
pub lost_more : DeliveriesKeepTheRequests → (names : Names) (old between new : Past) (message : List ℕ) (count : ℕ) (exchanged : Result (Option (List ℕ)) LinkFault)
    → HasLost message count old between → Exchanged names between message exchanged new → or_loss exchanged ≡ Some None → HasLost message (count + 1) old new
lost_more l names old between new message count exchanged lost hands is =
    let (sent, handed) = once_over l names between new message exchanged None hands is in record {
      sent = sent ∙ ap (λ xs. xs ++ message ∷ []) lost.sent ∙ append_assoc old.sent (replicate count message) (message ∷ [])
          ∙ ap (λ xs. old.sent ++ xs) (sym (replicate_next count message));
      handed = handed ∙ ap (λ xs. xs ++ None ∷ []) lost.handed ∙ append_assoc old.handed (replicate count None) (None ∷ [])
          ∙ ap (λ xs. old.handed ++ xs) (sym (replicate_next count None));
    }

-- a reply came
pub put_over : DeliveriesKeepTheRequests → (names : Names) (old between new : Past) (message reply : List ℕ) (count most : ℕ) (exchanged : Result (Option (List ℕ)) LinkFault)
    → HasLost message count old between → Exchanged names between message exchanged new → or_loss exchanged ≡ Some (Some reply) → count < most
    → HasPut most message (Some reply) old new
put_over l names old between new message reply count most exchanged lost hands is few =
    let (sent, handed) = once_over l names between new message exchanged (Some reply) hands is in record {
      messages = replicate (count + 1) message;
      sent = sent ∙ ap (λ xs. xs ++ message ∷ []) lost.sent ∙ append_assoc old.sent (replicate count message) (message ∷ [])
          ∙ ap (λ xs. old.sent ++ xs) (sym (replicate_next count message));
      answers = replicate count None ++ Some reply ∷ [];
      handed = handed ∙ ap (λ xs. xs ++ Some reply ∷ []) lost.handed ∙ append_assoc old.handed (replicate count None) (Some reply ∷ []);
      put = record { losses = count; few = few; copies = refl; lost = refl; given_up = λ none. absurd cc };
    }

-- no reply came at all
pub none_put : (old new : Past) (message : List ℕ) (most : ℕ) → 0 < most → HasLost message most old new → HasPut most message None old new
none_put old new message zero some lost = absurd (omega (arith, some))
none_put old new message (suc most) some lost =
    let more : suc most ≡ most + 1 = omega arith in
    record {
      messages = replicate (suc most) message;
      sent = lost.sent;
      answers = replicate (suc most) None;
      handed = lost.handed;
      put = record {
        losses = most;
        few = omega arith;
        copies = ap (λ n. replicate n message) more;
        lost = ap (λ n. replicate n None) more ∙ replicate_next most None;
        given_up = λ none. sym more;
      };
    }

-- each message is one
pub lost_few : (message : List ℕ) (count : ℕ) (old new : Past) → HasLost message count old new → length new.sent ≡ length old.sent + count
lost_few message count old new lost = ap length lost.sent ∙ length-append old.sent (replicate count message) ∙ ap (λ n. length old.sent + n) (length-replicate count message)

-- the question that follows was asked
pub asked_next : (prefix : List ℕ) (before : List Answer) (inquiry : Inquiry) (request : Request) (number most : ℕ) (answer : Answer) (old new : Past)
    → next_inquiry before ≡ Some inquiry → request_for prefix before inquiry ≡ Some request → number ≡ length before → most ≡ most_sends inquiry.1
    → HasSent most (canon (requests_item (request ∷ []))) (answer_to number prefix) answer old new → HasAsked prefix before answer old new
asked_next prefix before inquiry request number most answer old new next asked count own sent =
    let message : message_after prefix before ≡ Some (canon (requests_item (request ∷ []))) =
    ap (option_map (λ r. canon (requests_item (r ∷ [])))) (ap (option_and_then (request_for prefix before)) next ∙ asked) in
    let sends : most ≡ sends_after before = own ∙ sym (ap (λ found. option_map_or (λ (i : Inquiry). most_sends i.1) found 1) next) in
    record {
      messages = sent.put.messages;
      sent = sent.put.sent;
      given = sent.put.answers;
      handed = sent.put.handed;
      next = subst (λ m. IsNext prefix before m answer sent.put.messages sent.put.answers) (sym message) (
        sent.given,
        subst (λ n. IsPut n (canon (requests_item (request ∷ []))) sent.given sent.put.messages sent.put.answers) sends sent.put.put,
        sent.answer_is ∙ ap (λ n. answer_to n prefix sent.given) count,
      );
    }

-- or it can't be asked
pub none_asked : (prefix : List ℕ) (before : List Answer) (inquiry : Inquiry) (p : Past) → next_inquiry before ≡ Some inquiry → request_for prefix before inquiry ≡ None
    → (HasAsked prefix before Nothing p p) × (p.sent ≡ p.sent ++ option_to_list (message_after prefix before))
none_asked prefix before inquiry p next none =
    let message : message_after prefix before ≡ None =
    ap (option_map (λ (r : Request). canon (requests_item (r ∷ [])))) (ap (option_and_then (request_for prefix before)) next ∙ none) in (
      record {
        messages = [];
        sent = sym (append-nil p.sent);
        given = [];
        handed = sym (append-nil p.handed);
        next = subst (λ m. IsNext prefix before m Nothing [] []) (sym message) (refl, refl, refl);
      },
      sym (append-nil p.sent) ∙ ap (λ m. p.sent ++ option_to_list m) (sym message),
    )

-- its message was sent once
pub once_next : (prefix : List ℕ) (before : List Answer) (inquiry : Inquiry) (request : Request) (old new : Past)
    → next_inquiry before ≡ Some inquiry → request_for prefix before inquiry ≡ Some request → new.sent ≡ old.sent ++ canon (requests_item (request ∷ [])) ∷ []
    → new.sent ≡ old.sent ++ option_to_list (message_after prefix before)
once_next prefix before inquiry request old new next asked sent =
    let message : message_after prefix before ≡ Some (canon (requests_item (request ∷ []))) =
    ap (option_map (λ r. canon (requests_item (r ∷ [])))) (ap (option_and_then (request_for prefix before)) next ∙ asked) in
    sent ∙ ap (λ m. old.sent ++ option_to_list m) (sym message)

-- ---- at most one message is sent, whatever comes of it

one_more : (message : List ℕ) (old : Past) (sent : List (List ℕ)) → sent ≡ old.sent ++ message ∷ [] → length sent ≤ length old.sent + 1
one_more message old sent is = omega (arith, ap length is, length-append old.sent (message ∷ []))

over_one : DeliveriesKeepTheRequests → (names : Names) (old new : Past) (message : List ℕ) (given : Option (List ℕ)) → HandsOver names old message given new
    → length new.sent ≤ length old.sent + 1
over_one l names old new message given hands =
    let grows = l names (with_asked message old) hands.between hands.delivered in
    one_more message old new.sent (ap (λ p. p.sent) hands.is ∙ ap (λ xs. xs ++ message ∷ []) grows.sent)

none_more : (old new : Past) → new.sent ≡ old.sent → length new.sent ≤ length old.sent + 1
none_more old new same = omega (arith, ap length same)

pub few_by : DeliveriesKeepTheRequests → (names : Names) (old new : Past) (message : List ℕ) (exchanged : Result (Option (List ℕ)) LinkFault)
    → Exchanged names old message exchanged new → length new.sent ≤ length old.sent + 1
few_by l names old new message (Ok given) hands = over_one l names old new message given hands
few_by l names old new message (Err faults.Io) hands = over_one l names old new message None hands
few_by l names old new message (Err faults.Frame) hands = over_one l names old new message None hands
few_by l names old new message (Err faults.NoMemory) (inl delivered) = none_more old new (l names old new delivered).sent
few_by l names old new message (Err faults.NoMemory) (inr delivered) = none_more old new (l names (with_asked message old) new delivered).sent

-- ---- over a calm link

one_taken : (stops : Bool) (replies : List Reply) (old new : Past) (request : Request) → AreTaken stops (Ok request ∷ []) replies old new
    → (reply : Reply) × (replies ≡ reply ∷ []) × IsServed request reply old new
one_taken stops [] old new request taken = absurd taken
one_taken stops (reply ∷ []) old new request (between, served, inl (stop, none, same)) = (reply, refl, subst (IsServed request reply old) (sym same) served)
one_taken stops (reply ∷ []) old new request (between, served, inr (go, same)) = (reply, refl, subst (IsServed request reply old) (sym same) served)
one_taken stops (reply ∷ second ∷ replies) old new request (between, served, inl (stop, none, same)) = absurd cc
one_taken stops (reply ∷ second ∷ replies) old new request (between, served, inr (go, rest)) = absurd rest

-- a reply comes in the first exchange
pub calm_reply : (names : Names) (old new : Past) (message : List ℕ) (exchanged : Result (Option (List ℕ)) LinkFault) (given : Option (List ℕ))
    → CalmlyExchanged names old message exchanged new → or_loss exchanged ≡ Some given → Calmly old message given new
calm_reply names old new message (Ok answer) given calmly is = subst (λ g. Calmly old message g new) (same_Some answer given is) calmly
calm_reply names old new message (Err faults.Io) given calmly is = absurd calmly
calm_reply names old new message (Err faults.Frame) given calmly is = absurd calmly
calm_reply names old new message (Err faults.NoMemory) given calmly is = absurd cc

pub no_calm_loss : (names : Names) (old new : Past) (message : List ℕ) (exchanged : Result (Option (List ℕ)) LinkFault)
    → CalmlyExchanged names old message exchanged new → or_loss exchanged ≡ Some None → ⊥
no_calm_loss names old new message exchanged calmly is =
    let none = (calm_reply names old new message exchanged None calmly is).answer_is in absurd cc

pub replied_by : SaidAreRead → (old new : Past) (message : List ℕ) (request : Request) (number : ℕ) (prefix : List ℕ) (answer : Answer)
    (handed : Option (List ℕ)) → message ≡ canon (requests_item (request ∷ [])) → parts_in message ≡ Ok request ∷ [] → Calmly old message handed new
    → answer ≡ answer_to number prefix handed → HasReplied request number prefix answer old new
replied_by read old new message request number prefix answer handed bytes asks calmly told =
    let (reply, only, served) = one_taken (stops_in message) (replies_in calmly.given) (with_asked message old) calmly.between request
    (subst (λ parts. AreTaken (stops_in message) parts (replies_in calmly.given) (with_asked message old) calmly.between) asks calmly.taken) in
    record {
      reply = reply;
      step = subst (λ p. ServerStep old.room old.objects request.ask reply.outcome p.objects) (sym calmly.is)
          (subst (λ p. ServerStep old.room old.objects request.ask reply.outcome p.objects) (sym served.is) served.serves.step);
      id_is = served.serves.id_is;
      answer_is = told ∙ ap (answer_to number prefix) calmly.answer_is
          ∙ ap (answer_read number prefix calmly.given) (read calmly.given reply [] only);
      room_is = ap (λ p. p.room) calmly.is ∙ ap (λ p. p.room) served.is;
      sent_once = ap (λ p. p.sent) calmly.is ∙ ap (λ (p : Past). p.sent ++ message ∷ []) served.is ∙ ap (λ m. old.sent ++ m ∷ []) bytes;
    }

-- ---- what holds of a result

pub weaken : {A E : Type 0} {P Q : A → Type 0} → (result : Result A E) → ((value : A) → P value → Q value) → IfOk result P → IfOk result Q
weaken (Ok value) further holds = further value holds
weaken (Err fault) further holds = tt

-- ---- the question that follows some answers

marked : (number : ℕ) (prefix : List ℕ) (asked : Option Ask) (request : Request)
    → option_map (λ ask. record { id = Some (marker_of number prefix); ask = ask }) asked ≡ Some request → request.id ≡ Some (marker_of number prefix)
marked number prefix None request is = absurd cc
marked number prefix (Some ask) request is = ap (λ (r : Request). r.id) (sym (same_Some (record { id = Some (marker_of number prefix); ask = ask }) request is))

asked_by : (number : ℕ) (prefix : List ℕ) (asked : Option Ask) (request : Request)
    → option_map (λ ask. record { id = Some (marker_of number prefix); ask = ask }) asked ≡ Some request → asked ≡ Some request.ask
asked_by number prefix None request is = absurd cc
asked_by number prefix (Some ask) request is =
    ap (λ (r : Request). Some r.ask) (same_Some (record { id = Some (marker_of number prefix); ask = ask }) request is)

-- the question that follows is the one of the number of the answers
numbered : (before : List Answer) (inquiry : Inquiry) (free : Bool) → (if free then slice_get INQUIRIES (length before) else None) ≡ Some inquiry
    → slice_get INQUIRIES (length before) ≡ Some inquiry
numbered before inquiry true is = is
numbered before inquiry false none = absurd cc

own_id : (number : ℕ) (prefix : List ℕ) (outcome : Outcome) → answer_marked number prefix (Some (marker_of number prefix)) outcome ≡ Told outcome
own_id number prefix outcome = rw ((bytes_eq-Decides (marker_of number prefix) (marker_of number prefix)).1 refl) refl

refused_without : (number : ℕ) (prefix : List ℕ) (outcome : Outcome) → HasFailed outcome → answer_marked number prefix None outcome ≡ Told outcome
refused_without number prefix outcome (reason, is) = rw is refl

marked_told : (number : ℕ) (prefix : List ℕ) (id : Option (List ℕ)) (outcome : Outcome) → (id ≡ Some (marker_of number prefix)) ⊎ ((id ≡ None) × HasFailed outcome)
    → answer_marked number prefix id outcome ≡ Told outcome
marked_told number prefix id outcome (inl own) = rw own (own_id number prefix outcome)
marked_told number prefix id outcome (inr (none, failed)) = rw none (refused_without number prefix outcome failed)

told_by : (number : ℕ) (prefix : List ℕ) (id : Option (List ℕ)) (outcome : Outcome) → is_asked_for number outcome ≡ true
    → (id ≡ Some (marker_of number prefix)) ⊎ ((id ≡ None) × HasFailed outcome) → answer_with number prefix id outcome ≡ Told outcome
told_by number prefix id outcome asked own = rw asked (marked_told number prefix id outcome own)

with_own : (id own : Option (List ℕ)) (marker : List ℕ) (outcome : Outcome) → own ≡ Some marker → (id ≡ own) ⊎ ((id ≡ None) × HasFailed outcome)
    → (id ≡ Some marker) ⊎ ((id ≡ None) × HasFailed outcome)
with_own id own marker outcome is (inl same) = inl (same ∙ is)
with_own id own marker outcome is (inr none) = inr none

pub served_by : (prefix : List ℕ) (before : List Answer) (inquiry : Inquiry) (request : Request) (number : ℕ) (answer : Answer) (old new : Past)
    → next_inquiry before ≡ Some inquiry → request_for prefix before inquiry ≡ Some request → number ≡ length before
    → HasReplied request number prefix answer old new → HasServedNext prefix before answer old new
served_by prefix before inquiry request number answer old new next asked count replied =
    let own = marked (length before) prefix (ask_of inquiry.1 (name_of inquiry.0 prefix) (uid_of inquiry.0 before)) request asked in
    let id = with_own replied.reply.id request.id (marker_of number prefix) replied.reply.outcome (own ∙ ap (λ n. Some (marker_of n prefix)) (sym count)) replied.id_is in
    let kind = of_kind inquiry.1 (name_of inquiry.0 prefix) (uid_of inquiry.0 before) request.ask replied.reply.outcome old.room old.objects new.objects
    (asked_by (length before) prefix (ask_of inquiry.1 (name_of inquiry.0 prefix) (uid_of inquiry.0 before)) request asked) replied.step in
    let place = ap (slice_get INQUIRIES) count ∙ numbered before inquiry (is_free_at before 0 && is_free_at before 1) next in
    let wanted : is_asked_for number replied.reply.outcome ≡ true =
    ap (λ found. option_map_or (λ (i : Inquiry). is_of i.1 replied.reply.outcome) found false) place ∙ kind in
    subst (λ (r : Option Request). HasServed r answer old new) (sym (ap (option_and_then (request_for prefix before)) next ∙ asked))
    (replied.reply.outcome, replied.step, replied.answer_is ∙ told_by number prefix replied.reply.id replied.reply.outcome wanted id, replied.room_is)
