-- Turn by turn.
use Rattle.kmip_company.proofs.ActLemmas.{run_acts, turn_acts}
use Rattle.kmip_company.proofs.OccurLemmas.{run_may, turn_may}
use Rattle.kmip_company.proofs.laws.runs_are_acts.Goals as goal

pub returns-clause-turn : goal.returns-clause-turn
returns-clause-turn c = turn_acts

pub returns-clause-run : goal.returns-clause-run
returns-clause-run c = run_acts

pub returns-clause-turn_may_occur : goal.returns-clause-turn_may_occur
returns-clause-turn_may_occur c = turn_may

pub returns-clause-run_may_occur : goal.returns-clause-run_may_occur
returns-clause-run_may_occur c = run_may
