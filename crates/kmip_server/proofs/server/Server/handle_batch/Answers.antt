-- As for one question; and what was begun is begun by steps of the server, whatever was noted of it.
use Rattle.std.proofs.Common.{List, Result, Ok, Err, OnErr, refl, rules, subst}
use Rattle.std.proofs.Math.Facts.{to_z-of_z}
use Rattle.kmip_server.specs.Batching.{batch_reply, effects_in, stock_after_batch, GrownBy}
use Rattle.kmip_server.specs.Shown.{HasLawfulObjects}
use Rattle.kmip_server.specs.declared.effect.Effect.{Effect}
use Rattle.kmip_store.specs.Stock.{IsKept}
use Rattle.kmip_server.proofs.MessageLemmas.{batch_begun, batch_room, batch_served, told_bytes}
use Rattle.kmip_server.proofs.ObjectLemmas.{kept_objects}
use Rattle.kmip_server.proofs.server.Server.handle_batch.Goals as goal

noted : {A E : Type 0} (r : Result A E) (P : List Effect → Type 0) (before after : List Effect)
    → OnErr r (GrownBy P before after)
    → OnErr r ((effects : List Effect) × P effects)
noted (Ok v) P before after grown = tt
noted (Err e) P before after (more, is, begun) = (more, begun)

pub returns-clause-handled : goal.returns-clause-handled
unfolding batch_reply stock_after_batch effects_in
returns-clause-handled g c =
    let reply = c.handle_parts-reply.result in
    let told = c.handle_parts-reply.ensures in
    let after = c.handle_parts-reply.new.self in
    let kept = subst (λ s. IsKept s.rows s.room) c.self.view_is c.the_records_are_kept.ensures in
    record {
      reply = told_bytes reply (λ v. v.items) _ c.args.now _ (to_z-of_z c.ranges.now) told.tells;
      after = search rules;
      begun = noted reply _ _ _
          (batch_begun c.serving_is_a_step.ensures c.serving_keeps_the_records.ensures reply c.args.self.now after
          c.args.effects.now.items c.handle_parts-reply.new.effects.items _ _
          (c.the_laws_of_messages_hold.ensures.questions_fit c.args.message.now) kept told.begun);
      room = batch_room reply c.args.self.now after c.args.effects.now.items c.handle_parts-reply.new.effects.items _
          _ told.after told.begun;
      kept_before = kept;
      kept = subst (λ s. IsKept s.rows s.room) c.self-2.view_is c.the_records_are_kept-2.ensures;
      objects_before = subst HasLawfulObjects c.self.view_is (kept_objects _ c.the_records_are_kept.ensures);
      objects = subst HasLawfulObjects c.self-2.view_is (kept_objects _ c.the_records_are_kept-2.ensures);
      served = batch_served c.serving_is_a_step.ensures c.serving_keeps_the_records.ensures reply (λ v. v.items)
          c.args.self.now after
          _ _ _ _ (c.the_laws_of_messages_hold.ensures.questions_fit c.args.message.now) kept told.tells told.after
          refl;
    }

pub returns-clause-begun : goal.returns-clause-begun
returns-clause-begun g c =
    batch_begun c.serving_is_a_step.ensures c.serving_keeps_the_records.ensures c.handle_parts-reply.result
    c.args.self.now c.handle_parts-reply.new.self
    c.args.effects.now.items c.handle_parts-reply.new.effects.items _ _
    (c.the_laws_of_messages_hold.ensures.questions_fit c.args.message.now)
    (subst (λ s. IsKept s.rows s.room) c.self.view_is c.the_records_are_kept.ensures) c.handle_parts-reply.ensures.begun
