-- The first key that has the name.
use Rattle.std.proofs.Common.{rules, tests}
use Rattle.std.proofs.lemmas.Iterator.{YieldsList-from_slice}
use Rattle.std.proofs.lemmas.Iterator.Search.{find_from_yields_List}
use Rattle.kmip_plan.specs.TargetWords.{is_text}
use Rattle.kmip_plan.proofs.plan.named.Goals as goal

pub returns : goal.returns
returns c = find_from_yields_List (λ k. is_text c.args.name.now k.attrs.name) _ _ _ c.find.ensures.ran (YieldsList-from_slice c.args.keys.now cc) (λ x b q k. search (rules, tests))
