-- The word that is taken is no part of the past.
use Rattle.std.proofs.Common.{subst, ◌∙◌}
use Rattle.kmip_protocol.specs.Moves.{Delivered}
use Rattle.kmip_scripted.specs.Private.{IsTaken, WasAsked}
use Rattle.kmip_scripted.specs.Scenes.{past_in}
use Rattle.kmip_scripted.proofs.scripted.Scripted.take_and_play.Goals as goal

pub returns-in_err-answer-clause-delivered : goal.returns-in_err-answer-clause-delivered
returns-in_err-answer-clause-delivered g c = λ names asked.
    subst (λ s. WasAsked c.args.request.now s → Delivered names (past_in s) (past_in c.play.new.self)) c.take_word-word.ensures.rest (c.play.ensures.delivered names) asked

pub returns-clause-taken : goal.returns-clause-taken
returns-clause-taken g c = λ pass asked.
    subst (λ s. WasAsked c.args.request.now s
    → IsTaken c.args.request.now s c.play.new.self)
    c.take_word-word.ensures.rest (c.in_ok-answer.ensures.taken (c.take_word-word.ensures.word ∙ pass)) asked

pub returns-clause-delivered : goal.returns-clause-delivered
returns-clause-delivered g c = λ names asked.
    subst (λ s. WasAsked c.args.request.now s → Delivered names (past_in s) (past_in c.play.new.self)) c.take_word-word.ensures.rest (c.play.ensures.delivered names) asked
