-- What is sound stays so, and the objects go onward, by each move and by any number of moves.
use Rattle.std.proofs.Common.{◌≡◌, ℕ, nat_eq, List, [], ◌∷◌, ◌++◌, option_to_list, append-nil, Option, None, refl, sym}
use Rattle.std.proofs.Common.{ap, subst, ◌∙◌, inl, inr}
use Rattle.std.specs.Cmp.Lexicographic.{pointwise}
use Rattle.std.specs.List.{All}
use Rattle.std.proofs.lemmas.Bool.{cases_Bool}
use Rattle.std.proofs.lemmas.List.Elements.{All-weaker, All-push, All-contains}
use Rattle.kmip_objects.specs.Objects.{Object, object_named}
use Rattle.kmip_batch_items.specs.declared.reply.Reply.{Reply}
use Rattle.kmip_batch_items.specs.declared.request.Request.{Request}
use Rattle.kmip_plan.specs.declared.key.Key.{Key}
use Rattle.kmip_client.specs.Places.{Onward}
use Rattle.kmip_server.specs.declared.effect.Effect.{Effect}
use Rattle.kmip_protocol.specs.PrivateLawbook.{Lawbook}
use Rattle.kmip_protocol.specs.Moves.{Move, Serve, Unanswered, Refuse, Comes, Changes, after_move, MayHappen}
use Rattle.kmip_protocol.specs.Moves.{AllMayHappen, after_moves, Delivered, Joins, Serves}
use Rattle.kmip_protocol.specs.Past.{Past, is_planned, steps_on}
use Rattle.kmip_protocol.specs.Sound.{EffectsAreFirst, IsHarmless, Sound, TrueAnswer}
use Rattle.kmip_protocol.proofs.OutsideLemmas.{harmless_on, look_leaves}
use Rattle.kmip_protocol.proofs.ChangeLemmas.{goes_onward, steps_join, stays_its_own}
use Rattle.kmip_protocol.proofs.MovingLemmas.{ObjectsMove, nothing_moves, serve_moves, comes_moves, foreign_moves}
use Rattle.kmip_protocol.proofs.ReplyLemmas.{failed_answer, served_answer}

pub moves_onward : (keys : List Key) (old new : List Object) (joined : Option Effect)
    → ObjectsMove keys old new joined → Onward keys old new
moves_onward keys old new joined moves =
    λ key planned. goes_onward key old new (steps_on key.attrs.name (option_to_list joined)) (moves.each key planned)

-- the steps on a name, of more effects
pub steps_more : (name : List ℕ) (effects more : List Effect)
    → steps_on name (effects ++ more) ≡ steps_on name effects ++ steps_on name more
steps_more name [] more = refl
steps_more name (effect ∷ effects) more = elim (cases_Bool (pointwise nat_eq name effect.name)) [
  | inl same ↦ rw same (ap (λ steps. effect.step ∷ steps) (steps_more name effects more))
  | inr apart ↦ rw apart (steps_more name effects more)
]

-- the effects of a past, and then what joins
abbrev pub JoinEffects : List Effect → Option Effect → List Effect → Type 0
JoinEffects old joined new =
    (name : List ℕ) → steps_on name new ≡ steps_on name old ++ steps_on name (option_to_list joined)

no_more : (old : List Effect) → JoinEffects old None old
no_more old = λ name. sym (append-nil (steps_on name old))

effects_stay_first : (l : Lawbook) (keys : List Key) (p q : Past) (joined : Option Effect) → EffectsAreFirst keys p
    → ObjectsMove keys p.objects q.objects joined
    → JoinEffects p.effects joined q.effects → EffectsAreFirst keys q
effects_stay_first l keys p q joined first moves more = record {
  planned = λ key planned.
      more key.attrs.name
      ∙ ap (λ steps. steps ++ steps_on key.attrs.name (option_to_list joined)) (first.planned key planned)
      ∙ steps_join l.plan.first key (object_named key.attrs.name p.objects) (object_named key.attrs.name q.objects)
      (steps_on key.attrs.name (option_to_list joined)) (moves.each key planned);
  no_others = λ name none.
      more name
      ∙ ap (λ steps. steps ++ steps_on name (option_to_list joined)) (first.no_others name none)
      ∙ moves.others name none;
}

answer_on : (l : Lawbook) (keys : List Key) (old new : List Object) (requests : List Request) (reply : Reply)
    → Onward keys old new
    → TrueAnswer keys old requests reply → TrueAnswer keys new requests reply
answer_on l keys old new requests reply on answer =
    record { holds = l.client.told_for_good keys old new reply on answer.holds; echoes = answer.echoes }

answers_on : (l : Lawbook) (keys : List Key) (old new : List Object) (requests : List Request) (replies : List Reply)
    → Onward keys old new
    → All (TrueAnswer keys old requests) replies → All (TrueAnswer keys new requests) replies
answers_on l keys old new requests replies on all =
    All-weaker (TrueAnswer keys old requests) (TrueAnswer keys new requests)
    (λ reply answer. answer_on l keys old new requests reply on answer) replies all

sound_after : (l : Lawbook) (keys : List Key) (p q : Past) (joined : Option Effect) → Sound keys p
    → ObjectsMove keys p.objects q.objects joined
    → JoinEffects p.effects joined q.effects → q.requests ≡ p.requests
    → All (TrueAnswer keys q.objects q.requests) q.replies → Sound keys q
sound_after l keys p q joined sound moves more same replies =
    let on = moves_onward keys p.objects q.objects joined moves in
    record {
      names = moves.names;
      uids = moves.uids;
      objects = λ key o planned is. stays_its_own l.plan.first key (object_named key.attrs.name p.objects)
          (object_named key.attrs.name q.objects)
          (steps_on key.attrs.name (option_to_list joined)) o (moves.each key planned)
          (λ x was. sound.objects key x planned was) is;
      effects = effects_stay_first l keys p q joined sound.effects moves more;
      requests = subst (All (IsHarmless keys q.objects)) (sym same)
          (All-weaker (IsHarmless keys p.objects) (IsHarmless keys q.objects)
          (λ request may. harmless_on l keys p.objects q.objects request on may) p.requests sound.requests);
      replies = replies;
    }

pub served_moves : (l : Lawbook) (keys : List Key) (p : Past) (request : Request) (reply : Reply)
    (objects : List Object) (joined : Option Effect)
    → Sound keys p → Serves p request reply objects joined → ObjectsMove keys p.objects objects joined
served_moves l keys p request reply objects joined sound serves =
    by (All-contains (IsHarmless keys p.objects) p.requests request sound.requests serves.asked) where
      by : IsHarmless keys p.objects request → ObjectsMove keys p.objects objects joined
      by (inl just) =
          serve_moves l keys just.key p.room p.objects objects request.ask reply.outcome joined just.is_planned
          sound.objects sound.names sound.uids just.may
          serves.step serves.effects
      by (inr outside) =
          subst (λ new. Joins p.objects new joined → ObjectsMove keys p.objects new joined)
          (sym (look_leaves p.room p.objects objects request.ask reply.outcome outside.no_step serves.step))
          (λ joins. nothing_moves keys p.objects joined sound.names sound.uids joins) serves.effects

pub move_keeps : (l : Lawbook) (keys : List Key) (move : Move) (p : Past) → Sound keys p
    → MayHappen (is_planned keys) move p
    → Sound keys (after_move move p) × Onward keys p.objects (after_move move p).objects
move_keeps l keys (Serve request reply objects joined) p sound serves =
    let moves = served_moves l keys p request reply objects joined sound serves in
    let on = moves_onward keys p.objects objects joined moves in
    let may = All-contains (IsHarmless keys p.objects) p.requests request sound.requests serves.asked in (
      sound_after l keys p (after_move (Serve request reply objects joined) p) joined sound moves
          (λ name. steps_more name p.effects (option_to_list joined)) refl
          (All-push (TrueAnswer keys objects p.requests) p.replies reply
          (answers_on l keys p.objects objects p.requests p.replies on sound.replies)
          (served_answer l keys p request reply objects joined sound.objects sound.names sound.uids may serves)),
      on,
    )
move_keeps l keys (Unanswered request reply objects joined) p sound serves =
    let moves = served_moves l keys p request reply objects joined sound serves in
    let on = moves_onward keys p.objects objects joined moves in (
      sound_after l keys p (after_move (Unanswered request reply objects joined) p) joined sound moves
          (λ name. steps_more name p.effects (option_to_list joined)) refl
          (answers_on l keys p.objects objects p.requests p.replies on sound.replies),
      on,
    )
move_keeps l keys (Refuse reply) p sound failed = (
  record {
    names = sound.names;
    uids = sound.uids;
    objects = sound.objects;
    effects = record { planned = sound.effects.planned; no_others = sound.effects.no_others };
    requests = sound.requests;
    replies = All-push (TrueAnswer keys p.objects p.requests) p.replies reply sound.replies
        (failed_answer keys p.objects p.requests reply failed);
  },
  l.client.itself keys p.objects,
)
move_keeps l keys (Comes o) p sound new =
    let moves = comes_moves l keys p o sound.names sound.uids new in
    let on = moves_onward keys p.objects (p.objects ++ o ∷ []) None moves in (
      sound_after l keys p (after_move (Comes o) p) None sound moves (no_more p.effects) refl
          (answers_on l keys p.objects (p.objects ++ o ∷ []) p.requests p.replies on sound.replies),
      on,
    )
move_keeps l keys (Changes front old new back) p sound foreign =
    let moves = foreign_moves keys p front old new back foreign in
    let on = moves_onward keys p.objects (front ++ new ∷ back) None moves in (
      sound_after l keys p (after_move (Changes front old new back) p) None sound moves (no_more p.effects) refl
          (answers_on l keys p.objects (front ++ new ∷ back) p.requests p.replies on sound.replies),
      on,
    )

pub moves_keep : (l : Lawbook) (keys : List Key) (moves : List Move) (p : Past) → Sound keys p
    → AllMayHappen (is_planned keys) moves p
    → Sound keys (after_moves moves p) × Onward keys p.objects (after_moves moves p).objects
moves_keep l keys [] p sound may = (sound, l.client.itself keys p.objects)
moves_keep l keys (move ∷ moves) p sound may =
    let first = move_keeps l keys move p sound may.0 in
    let rest = moves_keep l keys moves (after_move move p) first.0 may.1 in (
      rest.0,
      l.client.twice keys p.objects (after_move move p).objects (after_moves moves (after_move move p)).objects
          first.1 rest.1,
    )

pub delivered_keeps : (l : Lawbook) (keys : List Key) (old new : Past) → Sound keys old
    → Delivered (is_planned keys) old new
    → Sound keys new × Onward keys old.objects new.objects
delivered_keeps l keys old new sound delivered =
    subst (λ p. Sound keys p × Onward keys old.objects p.objects) (sym delivered.is)
    (moves_keep l keys delivered.moves old sound delivered.may)
