use Rattle.std.proofs.Common.{inl}
use Rattle.kmip_disk.proofs.HistoryLemmas.{add_up, closed_on, one_text}
use Rattle.kmip_disk.proofs.Moments.{started}
use Rattle.kmip_disk.proofs.laws.texts_add_up.Goals as goal

pub returns-clause-none : goal.returns-clause-none
returns-clause-none g c = λ first lawful. started (g.D.Disk.view first) _ lawful (λ c left. inl left)

pub returns-clause-one : goal.returns-clause-one
returns-clause-one g c = λ first last. one_text (g.D.Disk.view first) (g.D.Disk.view last)

pub returns-clause-more : goal.returns-clause-more
returns-clause-more g c = λ first next last. add_up (g.D.Disk.view first) (g.D.Disk.view next) (g.D.Disk.view last)

pub returns-clause-none_more : goal.returns-clause-none_more
returns-clause-none_more g c = λ first next last texts. closed_on (g.D.Disk.view first) (g.D.Disk.view next) (g.D.Disk.view last) _
