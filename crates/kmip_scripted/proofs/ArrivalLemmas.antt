-- A message that is served, whole or in part: each of its questions is a move.
use Rattle.std.proofs.Common.{◌≡◌, ℕ, pos, Bool, List, [], ◌∷◌, ◌++◌, append-nil, append_assoc, length, option_to_list}
use Rattle.std.proofs.Common.{Ok, Err, IsTrue, refl, sym, ap, subst, ◌∙◌, inl, inr}
use Rattle.std.specs.List.{All, Contains, flat_map, filter_map}
use Rattle.std.specs.Result.{result_ok}
use Rattle.std.proofs.lemmas.Grind.{flat_map-append}
use Rattle.std.proofs.lemmas.List.Elements.{All-head, All-tail}
use Rattle.kmip_objects.specs.Objects.{DistinctNames, DistinctUids, Object}
use Rattle.kmip_objects.specs.declared.key_state.KeyState.TheVariants.{PreActive}
use Rattle.kmip_batch_items.specs.BatchItems.{Question}
use Rattle.kmip_batch_items.specs.declared.outcome.Outcome.{Outcome}
use Rattle.kmip_batch_items.specs.declared.reply.Reply.{Reply}
use Rattle.kmip_batch_items.specs.declared.ask.Ask.{Ask}
use Rattle.kmip_batch_items.specs.declared.request.Request.{Request}
use Rattle.kmip_messages.specs.Items.{parts_in, replies_in, stops_in}
use Rattle.kmip_messages.specs.Members.{may_have}
use Rattle.kmip_store.specs.Stock.{Stock}
use Rattle.kmip_server.specs.Batching.{AreBegun, AreServedInTurn, GrownBy, batch_reply, effect_by, effects_in}
use Rattle.kmip_server.specs.Batching.{stock_after_batch}
use Rattle.kmip_server.specs.Messages.{IsServedBy}
use Rattle.kmip_server.specs.Reasons.{message_reason}
use Rattle.kmip_server.specs.ServerStep.{ServerStep}
use Rattle.kmip_server.specs.ServerStep as rows
use Rattle.kmip_server.specs.Shown.{HasLawfulObjects, objects_in, room_in}
use Rattle.kmip_server.specs.declared.effect.Effect.{Effect}
use Rattle.kmip_protocol.specs.Calm.{AreTaken, IsTaken}
use Rattle.kmip_protocol.specs.Moves.{Delivered, Serves, Unanswered}
use Rattle.kmip_protocol.specs.Past.{Names, Past}
use Rattle.kmip_scripted.specs.PrivateArriving.{ArrivalLaws}
use Rattle.kmip_scripted.specs.Scenes.{Scene, past_in}
use Rattle.kmip_scripted.specs.Private.{WasAsked}
use Rattle.kmip_scripted.specs.Serving.{IsHalfServed, with_served}

-- ---- where a message is cut off at once

none_begun : (stops : Bool) (parts : List Question) (s : Stock) → IsTrue (may_have (length parts))
    → AreBegun stops parts [] s s
none_begun stops [] s some = absurd cc
none_begun stops (part ∷ parts) s some = inl (refl, refl)

-- nothing is a beginning of its questions, of which there is one at least
pub none_grown : ((bytes : List ℕ) → IsTrue (may_have (length (parts_in bytes))))
    → (message : List ℕ) (s : Stock) (effects : List Effect)
    → GrownBy (λ more. AreBegun (stops_in message) (parts_in message) more s s) effects effects
none_grown some message s effects =
    ([], sym (append-nil effects), none_begun (stops_in message) (parts_in message) s (some message))

-- ---- the objects stay distinct

pub record Distinct (objects : List Object) : Type 0 where
  pub names : DistinctNames objects
  pub identifiers : DistinctUids objects

stay_distinct : (laws : ArrivalLaws) (room : ℕ) (old new : List Object) (ask : Ask) (outcome : Outcome)
    → ServerStep room old ask outcome new → Distinct old
    → Distinct new
stay_distinct laws room old new ask outcome (rows.name_taken h) are = are
stay_distinct laws room old new ask outcome (rows.full h i) are = are
stay_distinct laws room old new ask outcome (rows.created {attrs = attrs} {uid = uid} free roomy uid_free fits) are =
    let o : Object = record { uid = uid; attrs = attrs; state = PreActive } in
    record {
      names = laws.objects.one_more_name old o are.names free;
      identifiers = laws.objects.one_more_identifier
          old o are.identifiers uid_free;
    }
stay_distinct laws room old new ask outcome rows.searched are = are
stay_distinct laws room old new ask outcome (rows.told h) are = are
stay_distinct laws room old new ask outcome (rows.unknown h) are = are
stay_distinct laws room old new ask outcome (rows.compromised h) are = are
stay_distinct laws room old new ask outcome (rows.not_found h i) are = are
stay_distinct laws room old new ask outcome (rows.wrong_state h i j) are = are
stay_distinct laws room old new ask outcome (rows.done {uid = uid} {state = state} asked with_uid row) are = record {
  names = laws.objects.names_stay uid state old are.names;
  identifiers = laws.objects.identifiers_stay uid state old are.identifiers;
}

served_distinct : (laws : ArrivalLaws) (part : Question) (reply : Reply) (old new : Stock)
    → IsServedBy part reply old new → Distinct (objects_in old)
    → Distinct (objects_in new)
served_distinct laws (Ok request) reply old new served are =
    stay_distinct laws (room_in old) (objects_in old) (objects_in new) request.ask reply.outcome served.step are
served_distinct laws (Err refusal) reply old new served are = subst (λ s. Distinct (objects_in s)) (sym served.same) are

-- ---- one question

-- the past over these records
abbrev over : Stock → Past → Past
over s p = record p { room = room_in s; objects = objects_in s }

-- where these replies were given too, and these steps took effect
abbrev with_more : List Reply → List Effect → Past → Past
with_more replies effects p = record p { replies = p.replies ++ replies; effects = p.effects ++ effects }

-- what a question did
abbrev done_by : Stock → Question → Reply → List Effect
done_by s part reply = option_to_list (effect_by (objects_in s) part reply)

request_serves : (laws : ArrivalLaws) (request : Request) (reply : Reply) (old new : Stock) (p : Past)
    → Contains p.requests request
    → IsServedBy (Ok request) reply old new → Distinct (objects_in old)
    → Serves (over old p) request reply (objects_in new) (effect_by (objects_in old) (Ok request) reply)
request_serves laws request reply old new p asked served are = record {
  asked = asked;
  step = served.step;
  operation_is = inl served.operation_is;
  id_is = inl served.id_is;
  effects = laws.exchanges.joins (room_in old) (objects_in old) (objects_in new) request.ask reply.outcome are.names
      are.identifiers served.step;
}

part_is_taken : (laws : ArrivalLaws) (part : Question) (parts : List Question) (reply : Reply) (old new : Stock)
    (p : Past)
    → All (Contains p.requests) (filter_map result_ok (part ∷ parts)) → IsServedBy part reply old new
    → Distinct (objects_in old)
    → IsTaken part reply (over old p) (over new (with_more (reply ∷ []) (done_by old part reply) p))
part_is_taken laws (Ok request) parts reply old new p asked served are = record {
  objects = objects_in new;
  joined = effect_by (objects_in old) (Ok request) reply;
  serves = request_serves laws request reply old new p
      (All-head (Contains p.requests) request (filter_map result_ok parts) asked) served are;
  is = ap (λ room. record (over new (with_more (reply ∷ []) (done_by old (Ok request) reply) p)) { room = room })
      served.room_is;
}
part_is_taken laws (Err refusal) parts reply old new p asked refused are = record {
  failed = (message_reason refusal.fault, ap (λ r. r.outcome) refused.reply_is);
  is = ap (λ s. over s (with_more (reply ∷ []) [] p)) refused.same
      ∙ ap (λ effects. record (over old p) { replies = p.replies ++ reply ∷ []; effects = effects })
      (append-nil p.effects);
}

others_asked : (requests : List Request) (part : Question) (parts : List Question)
    → All (Contains requests) (filter_map result_ok (part ∷ parts))
    → All (Contains requests) (filter_map result_ok parts)
others_asked requests (Ok request) parts asked = All-tail (Contains requests) request (filter_map result_ok parts) asked
others_asked requests (Err refusal) parts asked = asked

-- ---- all of them

more_twice : (s : Stock) (replies others : List Reply) (effects first more : List Effect) (p : Past)
    → effects ≡ first ++ more
    → over s (with_more others more (with_more replies first p)) ≡ over s (with_more (replies ++ others) effects p)
more_twice s replies others effects first more p are =
    ap (λ rs. over s (record p { replies = rs; effects = (p.effects ++ first) ++ more }))
    (append_assoc p.replies replies others)
    ∙ ap (λ es. over s (record p { replies = p.replies ++ (replies ++ others); effects = es }))
    (append_assoc p.effects first more ∙ ap (λ es. p.effects ++ es) (sym are))

-- nothing more
no_more : (s : Stock) (p : Past) → over s (with_more [] [] p) ≡ over s p
no_more s p =
    ap (λ rs. over s (record p { replies = rs; effects = p.effects ++ [] })) (append-nil p.replies)
    ∙ ap (λ es. over s (record p { effects = es })) (append-nil p.effects)

turn_is_taken : (laws : ArrivalLaws) (stops : Bool) (parts : List Question) (replies : List Reply)
    (effects : List Effect) (old new : Stock) (p : Past)
    → All (Contains p.requests) (filter_map result_ok parts) → AreServedInTurn stops parts replies effects old new
    → Distinct (objects_in old)
    → AreTaken stops parts replies (over old p) (over new (with_more replies effects p))
turn_is_taken laws stops [] [] effects old new p asked (none, same) are =
    ap (λ s. over s (with_more [] effects p)) same ∙ ap (λ es. over old (with_more [] es p)) none ∙ no_more old p
turn_is_taken laws stops [] (reply ∷ replies) effects old new p asked served are = absurd served
turn_is_taken laws stops (part ∷ parts) [] effects old new p asked served are = absurd served
turn_is_taken laws stops (part ∷ parts) (reply ∷ replies) effects old new p asked
    (between, more, first, effects_are, later) are =
    let one = with_more (reply ∷ []) (done_by old part reply) p in
    let all = more_twice new (reply ∷ []) replies effects (done_by old part reply) more p effects_are in (
      over between one,
      part_is_taken laws part parts reply old between p asked first are,
      elim later [
        | inl ended ↦ inl (
          ended.0,
          ended.1,
          sym all ∙ ap (λ rs. over new (with_more rs more one)) ended.1
              ∙ ap (λ es. over new (with_more [] es one)) ended.2 ∙ no_more new one ∙ ap (λ s. over s one) ended.3,
        )
        | inr goes ↦ inr (
          goes.0,
          subst (AreTaken stops parts replies (over between one)) all
              (turn_is_taken laws stops parts replies more between new one (others_asked p.requests part parts asked)
              goes.1
              (served_distinct laws part reply old between first are)),
        )
      ],
    )

-- ---- some of the first

-- a question whose reply is never given: its request is served, and a refusal leaves no trace
part_is_delivered : (laws : ArrivalLaws) (names : Names) (part : Question) (parts : List Question) (reply : Reply)
    (old new : Stock) (p : Past)
    → All (Contains p.requests) (filter_map result_ok (part ∷ parts)) → IsServedBy part reply old new
    → Distinct (objects_in old)
    → Delivered names (over old p) (over new (record p { effects = p.effects ++ done_by old part reply }))
part_is_delivered laws names (Ok request) parts reply old new p asked served are = record {
  moves = Unanswered request reply (objects_in new) (effect_by (objects_in old) (Ok request) reply) ∷ [];
  may = (
    request_serves laws request reply old new p
        (All-head (Contains p.requests) request (filter_map result_ok parts) asked) served are,
    tt,
  );
  is = ap (λ room. record (over new (record p { effects = p.effects ++ done_by old (Ok request) reply }))
      { room = room }) served.room_is;
}
part_is_delivered laws names (Err refusal) parts reply old new p asked refused are =
    subst (Delivered names (over old p))
    (ap (λ es. over old (record p { effects = es })) (sym (append-nil p.effects))
    ∙ ap (λ s. over s (record p { effects = p.effects ++ [] })) (sym refused.same))
    (laws.exchanges.nothing names (over old p))

begun_is_delivered : (laws : ArrivalLaws) (names : Names) (stops : Bool) (parts : List Question)
    (effects : List Effect) (old new : Stock) (p : Past)
    → All (Contains p.requests) (filter_map result_ok parts) → AreBegun stops parts effects old new
    → Distinct (objects_in old)
    → Delivered names (over old p) (over new (record p { effects = p.effects ++ effects }))
begun_is_delivered laws names stops [] effects old new p asked begun are = absurd begun
begun_is_delivered laws names stops (part ∷ parts) effects old new p asked (inl (none, same)) are =
    subst (Delivered names (over old p))
    (ap (λ es. over old (record p { effects = es })) (sym (append-nil p.effects))
    ∙ ap (λ es. over old (record p { effects = p.effects ++ es })) (sym none)
    ∙ ap (λ s. over s (record p { effects = p.effects ++ effects })) (sym same))
    (laws.exchanges.nothing names (over old p))
begun_is_delivered laws names stops (part ∷ parts) effects old new p asked
    (inr (reply, between, more, first, effects_are, goes, begun)) are =
    let one = record p { effects = p.effects ++ done_by old part reply } in
    let all : over new (record one { effects = one.effects ++ more }) ≡ over new
    (record p { effects = p.effects ++ effects }) =
    ap (λ es. over new (record p { effects = es }))
    (append_assoc p.effects (done_by old part reply) more ∙ ap (λ es. p.effects ++ es) (sym effects_are)) in
    subst (Delivered names (over old p)) all
    (laws.exchanges.join names (over old p) (over between one) (over new (record one { effects = one.effects ++ more }))
    (part_is_delivered laws names part parts reply old between p asked first are)
    (begun_is_delivered laws names stops parts more between new one (others_asked p.requests part parts asked) begun
    (served_distinct laws part reply old between first are)))

-- ---- the scene

distinct_in : (s : Stock) → HasLawfulObjects s → Distinct (objects_in s)
distinct_in s lawful = record { names = lawful.names; identifiers = lawful.identifiers }

parts_asked : (laws : ArrivalLaws) (message : List ℕ) (s : Scene) → WasAsked message s
    → All (Contains (past_in s).requests) (filter_map result_ok (parts_in message))
parts_asked laws message s asked = subst (All (Contains (past_in s).requests)) (laws.messages.requests message) asked

served_past : (message : List ℕ) (s : Scene)
    → past_in (with_served message s)
    ≡ over (stock_after_batch s.stock message)
    (with_more (replies_in (batch_reply s.stock message (pos 0))) (effects_in s.stock message) (past_in s))
served_past message s =
    let bytes = batch_reply s.stock message (pos 0) in
    let said : flat_map replies_in (s.given ++ bytes ∷ []) ≡ (past_in s).replies ++ replies_in bytes =
    flat_map-append replies_in s.given (bytes ∷ [])
    ∙ ap (λ more. (past_in s).replies ++ more) (append-nil (replies_in bytes)) in
    ap (λ replies. record (past_in (with_served message s)) { replies = replies }) said

pub scene_is_taken : (laws : ArrivalLaws) (message : List ℕ) (s new : Scene)
    → AreServedInTurn (stops_in message) (parts_in message) (replies_in (batch_reply s.stock message (pos 0)))
    (effects_in s.stock message) s.stock new.stock
    → HasLawfulObjects s.stock → new ≡ with_served message s → WasAsked message s
    → AreTaken (stops_in message) (parts_in message) (replies_in (batch_reply s.stock message (pos 0))) (past_in s)
    (past_in new)
scene_is_taken laws message s new served lawful is asked =
    let replies = replies_in (batch_reply s.stock message (pos 0)) in
    let effects = effects_in s.stock message in
    let there = subst (λ t. AreServedInTurn (stops_in message) (parts_in message) replies effects s.stock t.stock) is
    served in
    subst (AreTaken (stops_in message) (parts_in message) replies (past_in s))
    (sym (ap past_in is ∙ served_past message s))
    (turn_is_taken laws (stops_in message) (parts_in message) replies effects s.stock
    (stock_after_batch s.stock message) (past_in s) (parts_asked laws message s asked) there
    (distinct_in s.stock lawful))

pub scene_is_delivered : (laws : ArrivalLaws) (names : Names) (message : List ℕ) (s new : Scene)
    → AreServedInTurn (stops_in message) (parts_in message) (replies_in (batch_reply s.stock message (pos 0)))
    (effects_in s.stock message) s.stock new.stock
    → HasLawfulObjects s.stock → new ≡ with_served message s → WasAsked message s
    → Delivered names (past_in s) (past_in new)
scene_is_delivered laws names message s new served lawful is asked =
    laws.exchanges.taken names (stops_in message) (parts_in message)
    (replies_in (batch_reply s.stock message (pos 0))) (past_in s) (past_in new)
    (scene_is_taken laws message s new served lawful is asked)

pub half_is_delivered : (laws : ArrivalLaws) (names : Names) (message : List ℕ) (s new : Scene)
    → IsHalfServed message s new → HasLawfulObjects s.stock → WasAsked message s
    → Delivered names (past_in s) (past_in new)
half_is_delivered laws names message s new (more, is, begun) lawful asked =
    subst (Delivered names (past_in s)) (sym (ap past_in is))
    (begun_is_delivered laws names (stops_in message) (parts_in message) more s.stock new.stock (past_in s)
    (parts_asked laws message s asked) begun
    (distinct_in s.stock lawful))
