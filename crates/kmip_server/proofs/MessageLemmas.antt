-- The questions of a message are served in turn.
use Rattle.std.proofs.Common.{◌≡◌, ℕ, ℤ, Bool, List, [], ◌∷◌, true, Result, Ok, Err, IfOk, OnErr, OnOk, ap, subst, refl, sym, ◌∙◌, inl, inr}
use Rattle.std.specs.List.{All, AllByRecursion}
use Rattle.std.specs.Option.{option_map_or}
use Rattle.std.proofs.lemmas.Bool.{and_parts, cases_Bool}
use Rattle.std.proofs.lemmas.List.Elements.{recursion_from_All}
use Rattle.kmip_batch_items.specs.BatchItems.{Question}
use Rattle.kmip_batch_items.specs.Ranges.{is_batch_id}
use Rattle.kmip_batch_items.specs.RequestFits.{ask_fits}
use Rattle.kmip_messages.specs.Ranges.{QuestionFits}
use Rattle.kmip_ttlv.specs.Spelling.{canon}
use Rattle.kmip_messages.specs.Items as items
use Rattle.kmip_messages.specs.Written.{replies_item}
use Rattle.kmip_batch_items.specs.declared.refusal.Refusal.{Refusal}
use Rattle.kmip_batch_items.specs.declared.reply.Reply.{Reply}
use Rattle.kmip_batch_items.specs.declared.ask.Ask.{Ask}
use Rattle.kmip_batch_items.specs.declared.request.Request.{Request}
use Rattle.kmip_store.specs.Stock.{IsKept, Stock}
use Rattle.kmip_server.specs.PrivateAnswering.{Tells}
use Rattle.kmip_server.specs.Batching as batch
use Rattle.kmip_server.specs.Batching.{effects_of, is_last, replies_to, stock_after_all, AreBegun, GrownBy}
use Rattle.kmip_server.specs.Private.{IsCutShort}
use Rattle.kmip_server.specs.declared.effect.Effect.{Effect}
use Rattle.kmip_server.specs.Messages.{IsServedBy}
use Rattle.kmip_server.specs.ServerStep.{ServerStep}
use Rattle.kmip_server.specs.Serving.{answer, reply_to, stock_after_read}
use Rattle.kmip_server.specs.Shown.{objects_in, room_in}
use Rattle.kmip_server.proofs.ChangeLemmas.{follows, room_stays}

-- each answer is a step of the server
abbrev pub AnswersAreSteps : Type 0
AnswersAreSteps =
    (s : Stock) (ask : Ask) → IsKept s.rows s.room
    → ServerStep (room_in s) (objects_in s) ask (answer s ask).0 (objects_in (answer s ask).1)

-- and keeps what holds of the records
abbrev pub AnswersKeep : Type 0
AnswersKeep = (s : Stock) (ask : Ask) → ask_fits ask ≡ true → IsKept s.rows s.room → IsKept (answer s ask).1.rows (answer s ask).1.room

part_served : AnswersAreSteps → (s : Stock) (part : Result Request Refusal) → IsKept s.rows s.room
    → IsServedBy part (reply_to s part) s (stock_after_read s part)
part_served steps s (Ok request) kept = record {
  step = steps s request.ask kept;
  operation_is = refl;
  id_is = refl;
  room_is = room_stays s request.ask (answer s request.ask).1 (follows s request.ask);
}
part_served steps s (Err refusal) kept = record { reply_is = refl; same = refl }

part_kept : AnswersKeep → (s : Stock) (q : Question) → QuestionFits q → IsKept s.rows s.room → IsKept (stock_after_read s q).rows (stock_after_read s q).room
part_kept keep s (Ok request) fits kept = keep s request.ask (and_parts (option_map_or is_batch_id request.id true) (ask_fits request.ask) fits.0).1 kept
part_kept keep s (Err refusal) fits kept = kept

all_served : AnswersAreSteps → AnswersKeep → (stops : Bool) (qs : List Question) (s : Stock) → AllByRecursion QuestionFits qs → IsKept s.rows s.room
    → batch.AreServedInTurn stops qs (replies_to stops qs s) (effects_of stops qs s) s (stock_after_all stops qs s)
all_served steps keep stops [] s fit kept = (refl, refl)
all_served steps keep stops (q ∷ qs) s fit kept =
    let served = part_served steps s q kept in
    let rest = all_served steps keep stops qs (stock_after_read s q) fit.1 (part_kept keep s q fit.0 kept) in
    elim (cases_Bool (is_last stops (reply_to s q))) [
      | inl over ↦ (stock_after_read s q, [], served, rw over refl, inl (over, rw over refl, refl, rw over refl))
      | inr on ↦ (stock_after_read s q, effects_of stops qs (stock_after_read s q), served, rw on refl, inr (on, rw on rest))
    ]

pub told_bytes : {A E : Type 0} (r : Result A E) (bytes : A → List ℕ) (replies : List Reply) (now z : ℤ) → z ≡ now
    → IfOk r (λ v. Tells (bytes v) replies z) → IfOk r (λ v. bytes v ≡ canon (replies_item replies now))
told_bytes (Ok v) bytes replies now z is tells = tells.bytes_are ∙ ap (λ t. canon (replies_item replies t)) is
told_bytes (Err e) bytes replies now z is tells = tt

pub batch_served : AnswersAreSteps → AnswersKeep → {A E : Type 0} (r : Result A E) (bytes : A → List ℕ) (old new : Stock) (stops : Bool)
    (parts : List Question) (effects : List Effect) (now : ℤ) → All QuestionFits parts → IsKept old.rows old.room
    → IfOk r (λ v. Tells (bytes v) (replies_to stops parts old) now) → OnOk r (new ≡ stock_after_all stops parts old)
    → effects ≡ effects_of stops parts old
    → IfOk r (λ v. batch.AreServedInTurn stops parts (items.replies_in (bytes v)) effects old new)
batch_served steps keep (Ok v) bytes old new stops parts effects now fit kept tells after done =
    subst (λ rs. batch.AreServedInTurn stops parts rs effects old new) (sym tells.says)
    (subst (λ s. batch.AreServedInTurn stops parts (replies_to stops parts old) effects old s) (sym after)
    (subst (λ es. batch.AreServedInTurn stops parts (replies_to stops parts old) es old (stock_after_all stops parts old)) (sym done)
    (all_served steps keep stops parts old (recursion_from_All QuestionFits parts fit) kept)))
batch_served steps keep (Err e) bytes old new stops parts effects now fit kept tells after done = tt

cut_begun : AnswersAreSteps → AnswersKeep → (stops : Bool) (qs : List Question) (effects : List Effect) (s new : Stock) → AllByRecursion QuestionFits qs
    → IsKept s.rows s.room → IsCutShort stops qs effects s new → AreBegun stops qs effects s new
cut_begun steps keep stops [] effects s new fit kept none = none
cut_begun steps keep stops (q ∷ qs) effects s new fit kept (inl same) = inl same
cut_begun steps keep stops (q ∷ qs) effects s new fit kept (inr (more, is, on, cut)) =
    inr (
      reply_to s q,
      stock_after_read s q,
      more,
      part_served steps s q kept,
      is,
      on,
      cut_begun steps keep stops qs more (stock_after_read s q) new fit.1 (part_kept keep s q fit.0 kept) cut,
    )

pub batch_begun : AnswersAreSteps → AnswersKeep → {A E : Type 0} (r : Result A E) (old new : Stock) (before after : List Effect) (stops : Bool)
    (parts : List Question) → All QuestionFits parts → IsKept old.rows old.room
    → OnErr r (GrownBy (λ more. IsCutShort stops parts more old new) before after)
    → OnErr r (GrownBy (λ more. AreBegun stops parts more old new) before after)
batch_begun steps keep (Ok v) old new before after stops parts fit kept cut = tt
batch_begun steps keep (Err e) old new before after stops parts fit kept (more, is, cut) =
    (more, is, cut_begun steps keep stops parts more old new (recursion_from_All QuestionFits parts fit) kept cut)

-- ---- how many objects there may be

part_room : (s : Stock) (q : Question) → (stock_after_read s q).room ≡ s.room
part_room s (Ok request) = room_stays s request.ask (answer s request.ask).1 (follows s request.ask)
part_room s (Err refusal) = refl

all_room : (stops : Bool) (qs : List Question) (s : Stock) → (stock_after_all stops qs s).room ≡ s.room
all_room stops [] s = refl
all_room stops (q ∷ qs) s =
    let rest = all_room stops qs (stock_after_read s q) in
    elim (cases_Bool (is_last stops (reply_to s q))) [
      | inl over ↦ rw over (part_room s q)
      | inr on ↦ rw on (rest ∙ part_room s q)
    ]

cut_room : (stops : Bool) (qs : List Question) (effects : List Effect) (s new : Stock) → IsCutShort stops qs effects s new → new.room ≡ s.room
cut_room stops [] effects s new none = absurd none
cut_room stops (q ∷ qs) effects s new (inl same) = ap (λ t. t.room) same.1
cut_room stops (q ∷ qs) effects s new (inr (more, is, on, cut)) = cut_room stops qs more (stock_after_read s q) new cut ∙ part_room s q

pub batch_room : {A E : Type 0} (r : Result A E) (old new : Stock) (before after : List Effect) (stops : Bool) (parts : List Question)
    → OnOk r (new ≡ stock_after_all stops parts old) → OnErr r (GrownBy (λ more. IsCutShort stops parts more old new) before after)
    → new.room ≡ old.room
batch_room (Ok v) old new before after stops parts done cut = ap (λ t. t.room) done ∙ all_room stops parts old
batch_room (Err e) old new before after stops parts done (more, is, cut) = cut_room stops parts more old new cut
