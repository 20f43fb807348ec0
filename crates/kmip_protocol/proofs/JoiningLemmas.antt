-- Deliveries in turn are one; what they keep; and what a calm link does is honest.
use Rattle.std.proofs.Common.{◌≡◌, ℕ, Bool, true, false, List, [], ◌∷◌, ◌++◌, append_assoc, append-nil, option_to_list, Option, Result, Ok, Err, IfSome, refl, sym, ap, subst, ◌∙◌, inl, inr}
use Rattle.std.specs.List.{All, Contains}
use Rattle.std.proofs.lemmas.Bool.{cases_Bool}
use Rattle.std.proofs.lemmas.List.Elements.{All-contains_itself, All-cons, All-head, All-nil, All-weaker, Contains-append_left, Contains-append_right}
use Rattle.kmip_messages.specs.Items.{parts_in, replies_in, stops_in}
use Rattle.kmip_objects.specs.Objects.{Object}
use Rattle.kmip_batch_items.specs.declared.refusal.Refusal.{Refusal}
use Rattle.kmip_batch_items.specs.declared.reply.Reply.{Reply}
use Rattle.kmip_batch_items.specs.declared.request.Request.{Request}
use Rattle.kmip_protocol.specs.Calm.{AreTaken, CalmlyExchanged, IsTaken}
use Rattle.kmip_server.specs.declared.effect.Effect.{Effect}
use Rattle.kmip_protocol.specs.declared.link_fault.LinkFault.{LinkFault}
use Rattle.kmip_protocol.specs.declared.link_fault.LinkFault.TheVariants.{Io, Frame, NoMemory}
use Rattle.kmip_protocol.specs.Exchanges.{AreGiven, Exchanged, with_asked}
use Rattle.kmip_protocol.specs.Laws.{Grows}
use Rattle.kmip_protocol.specs.Moves.{Move, Serve, Unanswered, Refuse, Comes, Changes, after_move, MayHappen, AllMayHappen, after_moves, Delivered}
use Rattle.kmip_protocol.specs.Past.{AreAmong, Past, Names}

may_append : (names : Names) (early late : List Move) (p : Past) → AllMayHappen names early p → AllMayHappen names late (after_moves early p)
    → AllMayHappen names (early ++ late) p
may_append names [] late p may more = more
may_append names (move ∷ early) late p may more = (may.0, may_append names early late (after_move move p) may.1 more)

moves_append : (early late : List Move) (p : Past) → after_moves (early ++ late) p ≡ after_moves late (after_moves early p)
moves_append [] late p = refl
moves_append (move ∷ early) late p = moves_append early late (after_move move p)

pub delivered_nothing : (names : Names) (p : Past) → Delivered names p p
delivered_nothing names p = record { moves = []; may = tt; is = refl }

pub delivered_once : (names : Names) (move : Move) (old new : Past) → MayHappen names move old → new ≡ after_move move old → Delivered names old new
delivered_once names move old new may is = record { moves = move ∷ []; may = (may, tt); is = is }

pub delivered_joins : (names : Names) (old between new : Past) → Delivered names old between → Delivered names between new → Delivered names old new
delivered_joins names old between new early late = record {
  moves = early.moves ++ late.moves;
  may = may_append names early.moves late.moves old early.may (subst (AllMayHappen names late.moves) early.is late.may);
  is = late.is ∙ ap (after_moves late.moves) early.is ∙ sym (moves_append early.moves late.moves old);
}

grows_nothing : (p : Past) → Grows p p
grows_nothing p = record {
  room = refl;
  requests = refl;
  sent = refl;
  handed = refl;
  replies = ([], sym (append-nil p.replies));
  effects = ([], sym (append-nil p.effects));
  given = λ reply has. has;
}

grows_by : (p : Past) (objects : List Object) (replies : List Reply) (effects : List Effect)
    → Grows p (record p { objects = objects; replies = p.replies ++ replies; effects = p.effects ++ effects })
grows_by p objects replies effects = record {
  room = refl;
  requests = refl;
  sent = refl;
  handed = refl;
  replies = (replies, refl);
  effects = (effects, refl);
  given = λ reply has. Contains-append_left p.replies replies reply has;
}

grows_beside : (p : Past) (objects : List Object) → Grows p (record p { objects = objects })
grows_beside p objects = record {
  room = refl;
  requests = refl;
  sent = refl;
  handed = refl;
  replies = ([], sym (append-nil p.replies));
  effects = ([], sym (append-nil p.effects));
  given = λ reply has. has;
}

move_grows : (move : Move) (p : Past) → Grows p (after_move move p)
move_grows (Serve request reply objects joined) p = grows_by p objects (reply ∷ []) (option_to_list joined)
move_grows (Unanswered request reply objects joined) p = record {
  room = refl;
  requests = refl;
  sent = refl;
  handed = refl;
  replies = ([], sym (append-nil p.replies));
  effects = (option_to_list joined, refl);
  given = λ reply has. has;
}
move_grows (Refuse reply) p = record {
  room = refl;
  requests = refl;
  sent = refl;
  handed = refl;
  replies = (reply ∷ [], refl);
  effects = ([], sym (append-nil p.effects));
  given = λ other has. Contains-append_left p.replies (reply ∷ []) other has;
}
move_grows (Comes o) p = grows_beside p (p.objects ++ o ∷ [])
move_grows (Changes front old new back) p = grows_beside p (front ++ new ∷ back)

-- lists that grow twice at their end
grows_twice : {X : Type 0} (old between new early late : List X) → between ≡ old ++ early → new ≡ between ++ late → new ≡ old ++ (early ++ late)
grows_twice old between new early late was is = is ∙ ap (λ xs. xs ++ late) was ∙ append_assoc old early late

grows_on : (old between new : Past) → Grows old between → Grows between new → Grows old new
grows_on old between new early late = record {
  room = late.room ∙ early.room;
  requests = late.requests ∙ early.requests;
  sent = late.sent ∙ early.sent;
  handed = late.handed ∙ early.handed;
  replies = (early.replies.0 ++ late.replies.0, grows_twice old.replies between.replies new.replies early.replies.0 late.replies.0 early.replies.1 late.replies.1);
  effects = (early.effects.0 ++ late.effects.0, grows_twice old.effects between.effects new.effects early.effects.0 late.effects.0 early.effects.1 late.effects.1);
  given = λ reply has. late.given reply (early.given reply has);
}

moves_grow : (moves : List Move) (p : Past) → Grows p (after_moves moves p)
moves_grow [] p = grows_nothing p
moves_grow (move ∷ moves) p = grows_on p (after_move move p) (after_moves moves (after_move move p)) (move_grows move p) (moves_grow moves (after_move move p))

pub delivered_grows : (names : Names) (old new : Past) → Delivered names old new → Grows old new
delivered_grows names old new delivered = subst (Grows old) (sym delivered.is) (moves_grow delivered.moves old)

not_fewer : (names fewer : Names) (name : List ℕ) → AreAmong fewer names → names name ≡ false → fewer name ≡ false
not_fewer names fewer name fall foreign = elim (cases_Bool (fewer name)) [
  | inl planned ↦ let apart : true ≡ false = sym (fall name planned) ∙ foreign in absurd cc
  | inr is ↦ is
]

fewer_may : (names fewer : Names) (move : Move) (p : Past) → AreAmong fewer names → MayHappen names move p → MayHappen fewer move p
fewer_may names fewer (Serve request reply objects joined) p fall may = may
fewer_may names fewer (Unanswered request reply objects joined) p fall may = may
fewer_may names fewer (Refuse reply) p fall may = may
fewer_may names fewer (Comes o) p fall may = record {
  foreign = not_fewer names fewer o.attrs.name fall may.foreign;
  name_is_free = may.name_is_free;
  uid_is_free = may.uid_is_free;
}
fewer_may names fewer (Changes front old new back) p fall may = record {
  stands = may.stands;
  was_foreign = not_fewer names fewer old.attrs.name fall may.was_foreign;
  is_foreign = not_fewer names fewer new.attrs.name fall may.is_foreign;
  names_differ = may.names_differ;
  uids_differ = may.uids_differ;
}

fewer_all_may : (names fewer : Names) (moves : List Move) (p : Past) → AreAmong fewer names → AllMayHappen names moves p → AllMayHappen fewer moves p
fewer_all_may names fewer [] p fall may = tt
fewer_all_may names fewer (move ∷ moves) p fall may =
    (fewer_may names fewer move p fall may.0, fewer_all_may names fewer moves (after_move move p) fall may.1)

pub fewer_delivered : (names fewer : Names) (old new : Past) → AreAmong fewer names → Delivered names old new → Delivered fewer old new
fewer_delivered names fewer old new fall delivered = record {
  moves = delivered.moves;
  may = fewer_all_may names fewer delivered.moves old fall delivered.may;
  is = delivered.is;
}

-- what happened, its replies being among those given
pub record DeliversAll (names : Names) (replies : List Reply) (old new : Past) : Type 0 where
  pub delivered : Delivered names old new
  pub given : All (Contains new.replies) replies

one_delivers : (names : Names) (move : Move) (reply : Reply) (old new : Past) → MayHappen names move old → new ≡ after_move move old
    → (after_move move old).replies ≡ old.replies ++ reply ∷ [] → DeliversAll names (reply ∷ []) old new
one_delivers names move reply old new may is joined = record {
  delivered = delivered_once names move old new may is;
  given = subst (λ p. All (Contains p.replies) (reply ∷ [])) (sym is) (subst (λ replies. All (Contains replies) (reply ∷ [])) (sym joined)
      (All-weaker (Contains (reply ∷ [])) (Contains (old.replies ++ reply ∷ [])) (λ x has. Contains-append_right old.replies (reply ∷ []) x has) (reply ∷ [])
      (All-contains_itself (reply ∷ []))));
}

taken_delivers_one : (names : Names) (part : Result Request Refusal) (reply : Reply) (old new : Past)
    → IsTaken part reply old new → DeliversAll names (reply ∷ []) old new
taken_delivers_one names (Ok request) reply old new taken =
    one_delivers names (Serve request reply taken.objects taken.joined) reply old new taken.serves taken.is refl
taken_delivers_one names (Err refusal) reply old new taken = one_delivers names (Refuse reply) reply old new taken.failed taken.is refl

both_deliver : (names : Names) (reply : Reply) (replies : List Reply) (old between new : Past) → DeliversAll names (reply ∷ []) old between
    → DeliversAll names replies between new → DeliversAll names (reply ∷ replies) old new
both_deliver names reply replies old between new early late = record {
  delivered = delivered_joins names old between new early.delivered late.delivered;
  given = All-cons (Contains new.replies) reply replies
      ((delivered_grows names between new late.delivered).given reply (All-head (Contains between.replies) reply [] early.given)) late.given;
}

nothing_more : (names : Names) (p q : Past) → q ≡ p → DeliversAll names [] p q
nothing_more names p q is = record { delivered = subst (Delivered names p) (sym is) (delivered_nothing names p); given = All-nil (Contains q.replies) }

pub taken_delivers : (names : Names) (stops : Bool) (parts : List (Result Request Refusal)) (replies : List Reply) (old new : Past)
    → AreTaken stops parts replies old new → DeliversAll names replies old new
taken_delivers names stops [] [] old new taken = nothing_more names old new taken
taken_delivers names stops [] (reply ∷ replies) old new taken = absurd taken
taken_delivers names stops (part ∷ parts) [] old new taken = absurd taken
taken_delivers names stops (part ∷ parts) (reply ∷ replies) old new (between, first, later) =
    let one = taken_delivers_one names part reply old between first in
    elim later [
      | inl ended ↦ both_deliver names reply replies old between new one
          (subst (λ rest. DeliversAll names rest between new) (sym ended.1) (nothing_more names between new ended.2))
      | inr goes ↦ both_deliver names reply replies old between new one (taken_delivers names stops parts replies between new goes.1)
    ]

pub calm_honest : (names : Names) (old new : Past) (sent : List ℕ) (answer : Result (Option (List ℕ)) LinkFault)
    → CalmlyExchanged names old sent answer new → Exchanged names old sent answer new
calm_honest names old new sent (Ok answer) calm =
    let all = taken_delivers names (stops_in sent) (parts_in sent) (replies_in calm.given) (with_asked sent old) calm.between calm.taken in
    record {
      between = calm.between;
      delivered = all.delivered;
      given = subst (λ a. IfSome a (AreGiven calm.between)) (sym calm.answer_is) all.given;
      is = calm.is;
    }
calm_honest names old new sent (Err Io) calm = absurd calm
calm_honest names old new sent (Err Frame) calm = absurd calm
calm_honest names old new sent (Err NoMemory) calm = calm
