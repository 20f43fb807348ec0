-- Whatever happens, the past stays an image of the plan machine.
use Rattle.std.proofs.Common.{◌≡◌, ◌++◌, ℕ, List, [], ◌∷◌, filter_map, option_to_list, append-nil, Option, None, Result, Ok, Err, refl, sym, ap, subst, ◌∙◌, inl, inr}
use Rattle.std.proofs.lemmas.List.Elements.{All-contains}
use Rattle.kmip_messages.specs.Items.{requests_in}
use Rattle.kmip_objects.specs.Objects.{Object, object_named}
use Rattle.kmip_batch_items.specs.declared.reply.Reply.{Reply}
use Rattle.kmip_batch_items.specs.declared.request.Request.{Request}
use Rattle.kmip_objects.specs.declared.step.Step.{Step}
use Rattle.kmip_plan.specs.Plans.{IsPlanned}
use Rattle.kmip_plan.specs.declared.key.Key.{Key}
use Rattle.kmip_client.specs.Places.{position}
use Rattle.kmip_server.specs.declared.effect.Effect.{Effect}
use Rattle.kmip_protocol.specs.declared.link_fault.LinkFault.{LinkFault}
use Rattle.kmip_protocol.specs.declared.link_fault.LinkFault.TheVariants.{Io, Frame, NoMemory}
use Rattle.kmip_protocol.specs.Exchanges.{Exchanged, HandsOver, with_asked, with_exchange}
use Rattle.kmip_protocol.specs.PrivateLawbook.{Lawbook}
use Rattle.kmip_protocol.specs.Machine.{IsMirrored, pair_asked}
use Rattle.kmip_protocol.specs.Moves.{Move, Serve, Unanswered, Refuse, Comes, Changes, after_move, MayHappen, AllMayHappen, after_moves, Delivered, Serves}
use Rattle.kmip_protocol.specs.Past.{Past, is_planned, steps_on}
use Rattle.kmip_protocol.specs.Sound.{HarmlessMessage, IsHarmless, Sound}
use Rattle.kmip_protocol.proofs.OutsideLemmas.{look_leaves}
use Rattle.kmip_protocol.proofs.ChangeLemmas.{KeyChange, stays, comes, advances, place_in}
use Rattle.kmip_protocol.proofs.ExchangeLemmas.{asked_sound}
use Rattle.kmip_protocol.proofs.KeepingLemmas.{move_keeps}
use Rattle.kmip_protocol.proofs.MovingLemmas.{ObjectsMove, nothing_joins, comes_moves, foreign_moves}
use Rattle.kmip_protocol.proofs.ServedLemmas.{serve_does}
use Rattle.kmip_protocol.proofs.TurnLemmas.{no_more, none_joined, mirrored_requests, mirrored_step}

-- no step is no change of the place
still : (key : Key) (old new : Option Object) (steps : List Step) → steps ≡ [] → KeyChange key old new steps → place_in key old ≡ place_in key new
still key old new steps none (stays same also) = ap (place_in key) (sym same)
still key old new steps none (comes uid fits was now one) = absurd cc
still key old new steps none (advances o state step was now one further joins) = absurd cc

stands_still : (keys : List Key) (old new : List Object) (key : Key) → IsPlanned keys key → ObjectsMove keys old new None → position key old ≡ position key new
stands_still keys old new key planned moves =
    still key (object_named key.attrs.name old) (object_named key.attrs.name new) (steps_on key.attrs.name (option_to_list None)) refl (moves.each key planned)

mirrored_serve : (l : Lawbook) (keys : List Key) (p q : Past) (request : Request) (reply : Reply) (joined : Option Effect) → Sound keys p → IsMirrored keys p
    → Serves p request reply q.objects joined → p.requests ≡ q.requests → p.effects ++ option_to_list joined ≡ q.effects → IsMirrored keys q
mirrored_serve l keys p q request reply joined sound image serves same more =
    by (All-contains (IsHarmless keys p.objects) p.requests request sound.requests serves.asked) where
      stood : q.objects ≡ p.objects → IsMirrored keys q
      stood kept =
          let none : joined ≡ None =
          none_joined joined (λ name. nothing_joins p.objects q.objects joined name serves.effects (ap (object_named name) kept)) in
          no_more keys p q image (λ key planned. ap (position key) (sym kept)) (ap (filter_map (pair_asked keys)) same)
          (sym (append-nil p.effects) ∙ ap (λ j. p.effects ++ option_to_list j) (sym none) ∙ more)

      by : IsHarmless keys p.objects request → IsMirrored keys q
      by (inl just) = elim (serve_does l keys just.key p.room p.objects q.objects request.ask reply.outcome just.is_planned sound.objects sound.names sound.uids just.may serves.step) [
        | inl kept ↦ stood kept
        | inr steps ↦ mirrored_step keys p q request joined just image serves.asked serves.effects steps same more
      ]
      by (inr outside) = stood (look_leaves p.room p.objects q.objects request.ask reply.outcome outside.no_step serves.step)

pub mirrored_move : (l : Lawbook) (keys : List Key) (move : Move) (p : Past) → Sound keys p → IsMirrored keys p → MayHappen (is_planned keys) move p
    → IsMirrored keys (after_move move p)
mirrored_move l keys (Serve request reply objects joined) p sound image serves =
    mirrored_serve l keys p (after_move (Serve request reply objects joined) p) request reply joined sound image serves refl refl
mirrored_move l keys (Unanswered request reply objects joined) p sound image serves =
    mirrored_serve l keys p (after_move (Unanswered request reply objects joined) p) request reply joined sound image serves refl refl
mirrored_move l keys (Refuse reply) p sound image failed = no_more keys p (after_move (Refuse reply) p) image (λ key planned. refl) refl refl
mirrored_move l keys (Comes o) p sound image new =
    let moves = comes_moves l keys p o sound.names sound.uids new in
    no_more keys p (after_move (Comes o) p) image (λ key planned. stands_still keys p.objects (p.objects ++ o ∷ []) key planned moves) refl refl
mirrored_move l keys (Changes front old new back) p sound image foreign =
    let moves = foreign_moves keys p front old new back foreign in
    no_more keys p (after_move (Changes front old new back) p) image (λ key planned. stands_still keys p.objects (front ++ new ∷ back) key planned moves) refl refl

mirrored_moves : (l : Lawbook) (keys : List Key) (moves : List Move) (p : Past) → Sound keys p → IsMirrored keys p → AllMayHappen (is_planned keys) moves p
    → IsMirrored keys (after_moves moves p)
mirrored_moves l keys [] p sound image may = image
mirrored_moves l keys (move ∷ moves) p sound image may =
    mirrored_moves l keys moves (after_move move p) (move_keeps l keys move p sound may.0).0 (mirrored_move l keys move p sound image may.0) may.1

pub mirrored_delivered : (l : Lawbook) (keys : List Key) (old new : Past) → Sound keys old → IsMirrored keys old → Delivered (is_planned keys) old new
    → IsMirrored keys new
mirrored_delivered l keys old new sound image delivered =
    subst (IsMirrored keys) (sym delivered.is) (mirrored_moves l keys delivered.moves old sound image delivered.may)

pub mirrored_asked : (keys : List Key) (p : Past) (sent : List ℕ) → IsMirrored keys p → HarmlessMessage keys p.objects sent → IsMirrored keys (with_asked sent p)
mirrored_asked keys p sent image may = mirrored_requests keys p (requests_in sent) image may

-- an exchange that is noted moves nothing
pub mirrored_handed : (keys : List Key) (p : Past) (sent : List ℕ) (answer : Option (List ℕ)) → IsMirrored keys p → IsMirrored keys (with_exchange sent answer p)
mirrored_handed keys p sent answer image = no_more keys p (with_exchange sent answer p) image (λ key planned. refl) refl refl

mirrored_over : (l : Lawbook) (keys : List Key) (old new : Past) (sent : List ℕ) (answer : Option (List ℕ)) → Sound keys old → IsMirrored keys old
    → HarmlessMessage keys old.objects sent → HandsOver (is_planned keys) old sent answer new → IsMirrored keys new
mirrored_over l keys old new sent answer sound image may hands =
    let between = mirrored_delivered l keys (with_asked sent old) hands.between (asked_sound keys old (requests_in sent) sound may) (mirrored_asked keys old sent image may) hands.delivered in
    subst (IsMirrored keys) (sym hands.is) (mirrored_handed keys hands.between sent answer between)

pub mirrored_exchange : (l : Lawbook) (keys : List Key) (old new : Past) (sent : List ℕ) (answer : Result (Option (List ℕ)) LinkFault) → Sound keys old
    → IsMirrored keys old → HarmlessMessage keys old.objects sent → Exchanged (is_planned keys) old sent answer new → IsMirrored keys new
mirrored_exchange l keys old new sent (Ok answer) sound image may done = mirrored_over l keys old new sent answer sound image may done
mirrored_exchange l keys old new sent (Err Io) sound image may done = mirrored_over l keys old new sent None sound image may done
mirrored_exchange l keys old new sent (Err Frame) sound image may done = mirrored_over l keys old new sent None sound image may done
mirrored_exchange l keys old new sent (Err NoMemory) sound image may done = elim done [
  | inl before ↦ mirrored_delivered l keys old new sound image before
  | inr later ↦
      mirrored_delivered l keys (with_asked sent old) new (asked_sound keys old (requests_in sent) sound may) (mirrored_asked keys old sent image may) later
]
