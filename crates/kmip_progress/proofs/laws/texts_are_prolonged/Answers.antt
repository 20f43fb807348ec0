-- The lines speak of the first keys of the new plan.
use Rattle.kmip_progress.specs.declared.format.Format.TheVariants.{One, Two}
use Rattle.kmip_progress.proofs.LawLemmas.{read_on}
use Rattle.kmip_progress.proofs.laws.texts_are_prolonged.Goals as goal

pub returns-clause-written : goal.returns-clause-written
returns-clause-written c = λ new old progress lawful prolongs suits texts. read_on Two new old progress lawful prolongs suits texts

pub returns-clause-old : goal.returns-clause-old
returns-clause-old c = λ new old progress lawful prolongs suits texts. read_on One new old progress lawful prolongs suits texts
