-- What was answered and what is left make up the whole.
use Rattle.std.proofs.Common.{◌≡◌, ◌++◌, List}
use Rattle.kmip_server.specs.declared.effect.Effect.{Effect}
use Rattle.kmip_server.proofs.BatchLemmas.{AreAnswered}
use Rattle.kmip_server.proofs.batching.answer_all.Given as goal

abbrev pub invariant-loop-question : goal.invariant-loop-question
invariant-loop-question g l =
    (joined : List Effect) × (l.effects.items ≡ l.fn.effects.items ++ joined)
    × AreAnswered l.stops l.questions (g.S.Records.stock l.fn.store) l.question-index l.replies.items joined (g.S.Records.stock l.store)
