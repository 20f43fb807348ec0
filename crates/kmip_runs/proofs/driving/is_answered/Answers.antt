-- Each of what was heard is asked whether it is an answer.
use Rattle.std.proofs.Common.{rules, tests}
use Rattle.std.proofs.lemmas.Iterator.{YieldsList-from_slice}
use Rattle.std.proofs.lemmas.Iterator.Search.{any_from_yields_List}
use Rattle.kmip_protocol.specs.Turns.{answers_part}
use Rattle.kmip_runs.proofs.driving.is_answered.Goals as goal

pub returns : goal.returns
returns c =
    any_from_yields_List (answers_part c.args.part.now) _ _ _ c.any.ensures.ran (YieldsList-from_slice c.args.heard.now cc) (λ x b q called. search (rules, tests))
