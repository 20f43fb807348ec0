-- By the place of `prolong`.
use Rattle.std.proofs.Common.{sym, ◌∙◌}
use Rattle.kmip_scripted.proofs.PartLemmas.{none_parted, parted_at}
use Rattle.kmip_scripted.proofs.runs.parts.Goals as goal

pub returns-in_default-clause-before : goal.returns-in_default-clause-before
returns-in_default-clause-before c = (none_parted c.args.words.now (sym c.in_default.is ∙ c.prolong_place.ensures)).0

pub returns-in_default-clause-behind : goal.returns-in_default-clause-behind
returns-in_default-clause-behind c = (none_parted c.args.words.now (sym c.in_default.is ∙ c.prolong_place.ensures)).1

pub returns-clause-before : goal.returns-clause-before
returns-clause-before c = c.split_at.ensures.front ∙ (parted_at c.args.words.now c.in-Some.place c.in-Some.ensures).0

pub returns-clause-behind : goal.returns-clause-behind
returns-clause-behind c = c.split_at-2.ensures.back ∙ (parted_at c.args.words.now c.in-Some.place c.in-Some.ensures).1
