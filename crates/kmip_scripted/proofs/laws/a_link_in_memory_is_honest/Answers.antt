-- For every script, and once no word of it is left.
use Rattle.std.proofs.Common.{rules}
use Rattle.kmip_scripted.proofs.laws.a_link_in_memory_is_honest.Goals as goal

pub returns-clause-honest : goal.returns-clause-honest
returns-clause-honest g c = search rules

pub returns-clause-calm : goal.returns-clause-calm
returns-clause-calm g c = search rules
