-- What arrives late: for each key nothing changes, or the step that was under way has taken effect, and none is under
-- way after it.
use Rattle.std.proofs.Common.{◌≡◌, ◌≤◌, ℕ, zero, suc, ◌+◌, Bool, true, false, nat_eq, List, [], ◌∷◌, ◌++◌, length, take}
use Rattle.std.proofs.Common.{option_to_list, append-nil, length-append, Option, Some, None, subst, refl, sym, ap, ◌∙◌}
use Rattle.std.proofs.Common.{inl, inr, arith}
use Rattle.std.specs.Cmp.Lexicographic.{pointwise}
use Rattle.std.specs.List.{slice_get}
use Rattle.std.specs.Option.{option_map_or}
use Rattle.std.proofs.lemmas.Bool.{cases_Bool}
use Rattle.std.proofs.lemmas.List.{length-take-le}
use Rattle.std.proofs.lemmas.Slice.Eq.{bytes_eq-Decides}
use Rattle.kmip_objects.specs.Objects.{Object}
use Rattle.kmip_objects.specs.declared.step.Step.{Step}
use Rattle.kmip_batch_items.specs.declared.reply.Reply.{Reply}
use Rattle.kmip_batch_items.specs.declared.request.Request.{Request}
use Rattle.kmip_plan.specs.Chains.{chain, step_at}
use Rattle.kmip_plan.specs.declared.key.Key.{Key}
use Rattle.kmip_plan.specs.Plans.{IsPlanned}
use Rattle.kmip_client.specs.Places.{position}
use Rattle.kmip_server.specs.Effects.{effect_of}
use Rattle.kmip_protocol.specs.Moves.{Move, Serve, Unanswered, Refuse, Comes, Changes, after_move, MayHappen}
use Rattle.kmip_protocol.specs.Moves.{AllMayHappen, after_moves, Delivered, Serves}
use Rattle.kmip_protocol.specs.Past.{Past, is_planned, steps_on}
use Rattle.kmip_protocol.specs.Sound.{Sound}
use Rattle.kmip_server.specs.declared.effect.Effect.{Effect}
use Rattle.kmip_protocol.specs.PrivateSettlingLawbook.{Lawbook}
use Rattle.kmip_protocol.specs.Losing.{is_under_way, was_asked}
use Rattle.kmip_protocol.proofs.AskedLemmas.{effect_was_asked, none_beyond}
use Rattle.kmip_protocol.proofs.NeedLemmas.{position_within}

-- ---- the fronts of a chain

front_same : {A : Type 0} (xs : List A) (i j : ℕ) → i ≤ length xs → j ≤ length xs → take j xs ≡ take i xs → j ≡ i
front_same xs i j first second same =
    omega (arith, length-take-le i xs first, length-take-le j xs second, ap length same)

front_more : {A : Type 0} (xs : List A) (i j : ℕ) (x : A) → i ≤ length xs → j ≤ length xs
    → take j xs ≡ take i xs ++ x ∷ [] → j ≡ i + 1
front_more xs i j x first second more =
    omega (
      arith,
      length-take-le i xs first,
      length-take-le j xs second,
      ap length more,
      length-append (take i xs)
          (x ∷ []),
    )

head_is : {A : Type 0} (x y : A) (xs ys : List A) → x ∷ xs ≡ y ∷ ys → Some x ≡ Some y
head_is x y xs ys is = cc

tail_is : {A : Type 0} (x y : A) (xs ys : List A) → x ∷ xs ≡ y ∷ ys → xs ≡ ys
tail_is x y xs ys is = cc

next_of_front : {A : Type 0} (xs : List A) (i : ℕ) (x : A) → take (suc i) xs ≡ take i xs ++ x ∷ []
    → slice_get xs i ≡ Some x
next_of_front [] zero x more = absurd cc
next_of_front [] (suc i) x more = absurd cc
next_of_front (a ∷ xs) zero x more = head_is a x [] [] more
next_of_front (a ∷ xs) (suc i) x more = next_of_front xs i x (tail_is a a (take (suc i) xs) (take i xs ++ x ∷ []) more)

-- ---- one key

-- by how far it has come
abbrev under_way_at : Key → List Request → ℕ → Bool
under_way_at key requests place = option_map_or (was_asked key requests) (step_at key.target (place + 1)) false

pub data Arrives (key : Key) (old new : Past) : Type 0 where
  as_it_was : position key new.objects ≡ position key old.objects → is_under_way key new ≡ is_under_way key old
      → Arrives key old new
  took_effect : position key new.objects ≡ position key old.objects + 1 → is_under_way key old ≡ true
      → is_under_way key new ≡ false → Arrives key old new

arrives_twice : (key : Key) (old between new : Past) → Arrives key old between → Arrives key between new
    → Arrives key old new
arrives_twice key old between new (as_it_was p w) (as_it_was q v) = as_it_was (q ∙ p) (v ∙ w)
arrives_twice key old between new (as_it_was p w) (took_effect q v none) =
    took_effect (omega (arith, p, q)) (sym w ∙ v) none
arrives_twice key old between new (took_effect p w none) (as_it_was q v) =
    took_effect (omega (arith, p, q)) w (v ∙ none)
arrives_twice key old between new (took_effect p w none) (took_effect q v other) =
    let t : false ≡ true = sym none ∙ v in absurd cc

stays_there : (l : Lawbook) (keys : List Key) (old new : Past) (key : Key) → Sound keys old → Sound keys new
    → IsPlanned keys key → new.requests ≡ old.requests
    → steps_on key.attrs.name new.effects ≡ steps_on key.attrs.name old.effects → Arrives key old new
stays_there l keys old new key sound after planned asked same =
    let here : position key new.objects ≡ position key old.objects =
    front_same (chain key.target) (position key old.objects) (position key new.objects)
    (position_within l.plan.reached key old.objects) (position_within l.plan.reached key new.objects)
    (sym (after.effects.planned key planned) ∙ same ∙ sound.effects.planned key planned) in
    as_it_was here (ap (λ requests. under_way_at key requests (position key new.objects)) asked
    ∙ ap (under_way_at key old.requests) here)

takes_effect : (l : Lawbook) (keys : List Key) (old new : Past) (key : Key) (step : Step) → Sound keys old
    → Sound keys new → IsPlanned keys key
    → new.requests ≡ old.requests → steps_on key.attrs.name new.effects ≡ steps_on key.attrs.name old.effects ++
    step ∷ []
    → was_asked key old.requests step ≡ true → Arrives key old new
takes_effect l keys old new key step sound after planned same more asked =
    let p : ℕ = position key old.objects in
    let q : ℕ = position key new.objects in
    let front : take q (chain key.target) ≡ take p (chain key.target) ++ step ∷ [] =
    sym (after.effects.planned key planned) ∙ more
    ∙ ap (λ steps. steps ++ step ∷ []) (sound.effects.planned key planned) in
    let further : q ≡ p + 1 = front_more (chain key.target) p q step (position_within l.plan.reached key old.objects)
    (position_within l.plan.reached key new.objects) front in
    let one : p + 1 ≡ suc p = omega arith in
    let stands : step_at key.target (p + 1) ≡ Some step =
    ap (step_at key.target) one ∙ next_of_front (chain key.target) p step
    (ap (λ n. take n (chain key.target)) (sym (further ∙ one)) ∙ front) in
    took_effect further (ap (λ s. option_map_or (was_asked key old.requests) s false) stands ∙ asked)
    (ap (λ requests. under_way_at key requests q) same ∙ beyond (step_at key.target (q + 1)) refl further) where
      beyond : (found : Option Step) → step_at key.target (position key new.objects + 1) ≡ found
          → position key new.objects ≡ position key old.objects + 1
          → option_map_or (was_asked key old.requests) found false ≡ false
      beyond None is further = refl
      beyond (Some next) is further =
          let place = (l.plan.places key.target (position key new.objects + 1) next
          (let some : 1 ≤ position key new.objects + 1 = omega arith in some)).0 is in
          none_beyond keys old key next sound planned (omega (arith, place, further))

-- ---- one move

steps_more : (name : List ℕ) (effects more : List Effect)
    → steps_on name (effects ++ more) ≡ steps_on name effects ++ steps_on name more
steps_more name [] more = refl
steps_more name (effect ∷ effects) more = elim (cases_Bool (pointwise nat_eq name effect.name)) [
  | inl same ↦ rw same (ap (λ steps. effect.step ∷ steps) (steps_more name effects more))
  | inr apart ↦ rw apart (steps_more name effects more)
]

serve_arrives : (l : Lawbook) (keys : List Key) (old new : Past) (key : Key) (request : Request) (reply : Reply)
    (objects : List Object) (joined : Option Effect)
    → Sound keys old → Sound keys new → IsPlanned keys key → Serves old request reply objects joined
    → new.requests ≡ old.requests
    → new.effects ≡ old.effects ++ option_to_list joined → Arrives key old new
serve_arrives l keys old new key request reply objects joined sound after planned serves same more =
    by_effect (effect_of old.objects request.ask reply.outcome) refl where
      now : (found : Option Effect) → effect_of old.objects request.ask reply.outcome ≡ found
          → steps_on key.attrs.name new.effects ≡ steps_on key.attrs.name old.effects ++ steps_on key.attrs.name
          (option_to_list found)
      now found is =
          ap (steps_on key.attrs.name) more
          ∙ steps_more key.attrs.name old.effects (option_to_list joined)
          ∙ ap (λ steps. steps_on key.attrs.name old.effects ++ steps)
          (serves.effects key.attrs.name
          ∙ sym (l.exchanges.joins old.room old.objects objects request.ask reply.outcome sound.names sound.uids
          serves.step key.attrs.name)
          ∙ ap (λ f. steps_on key.attrs.name (option_to_list f)) is)

      by_effect : (found : Option Effect) → effect_of old.objects request.ask reply.outcome ≡ found
          → Arrives key old new
      by_effect None is =
          stays_there l keys old new key sound after planned same
          (now None is ∙ append-nil (steps_on key.attrs.name old.effects))
      by_effect (Some effect) is = elim (cases_Bool (pointwise nat_eq key.attrs.name effect.name)) [
        | inl named ↦
            takes_effect l keys old new key effect.step sound after planned same (rw named at (now (Some effect) is))
            (effect_was_asked l keys old key request reply.outcome effect sound planned serves.asked is
            ((bytes_eq-Decides key.attrs.name effect.name).0 named))
        | inr apart ↦
            stays_there l keys old new key sound after planned same
            (rw apart at (now (Some effect) is) ∙ append-nil (steps_on key.attrs.name old.effects))
      ]

move_arrives : (l : Lawbook) (keys : List Key) (move : Move) (p : Past) (key : Key) → Sound keys p
    → Sound keys (after_move move p) → IsPlanned keys key
    → MayHappen (is_planned keys) move p → Arrives key p (after_move move p)
move_arrives l keys (Serve request reply objects joined) p key sound after planned may =
    serve_arrives l keys p (after_move (Serve request reply objects joined) p) key request reply objects joined sound
    after planned may refl refl
move_arrives l keys (Unanswered request reply objects joined) p key sound after planned may =
    serve_arrives l keys p (after_move (Unanswered request reply objects joined) p) key request reply objects joined
    sound after planned may refl refl
move_arrives l keys (Refuse reply) p key sound after planned may =
    stays_there l keys p (after_move (Refuse reply) p) key sound after planned refl refl
move_arrives l keys (Comes o) p key sound after planned may =
    stays_there l keys p (after_move (Comes o) p) key sound after planned refl refl
move_arrives l keys (Changes front old new back) p key sound after planned may =
    stays_there l keys p (after_move (Changes front old new back) p) key sound after planned refl refl

moves_arrive : (l : Lawbook) (keys : List Key) (moves : List Move) (p : Past) (key : Key) → Sound keys p
    → IsPlanned keys key
    → AllMayHappen (is_planned keys) moves p → Arrives key p (after_moves moves p)
moves_arrive l keys [] p key sound planned may = as_it_was refl refl
moves_arrive l keys (move ∷ moves) p key sound planned may =
    let after = l.exchanges.deliveries keys p (after_move move p) sound
    (record { moves = move ∷ []; may = (may.0, tt); is = refl }) in
    arrives_twice key p (after_move move p) (after_moves moves (after_move move p))
    (move_arrives l keys move p key sound after planned may.0)
    (moves_arrive l keys moves (after_move move p) key after planned may.1)

pub delivered_arrives : (l : Lawbook) (keys : List Key) (old new : Past) (key : Key) → Sound keys old
    → IsPlanned keys key
    → Delivered (is_planned keys) old new → Arrives key old new
delivered_arrives l keys old new key sound planned delivered =
    subst (λ p. Arrives key old p) (sym delivered.is)
    (moves_arrive l keys delivered.moves old key sound planned delivered.may)
