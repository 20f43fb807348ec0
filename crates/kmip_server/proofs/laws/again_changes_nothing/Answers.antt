use Rattle.kmip_server.proofs.AgainLaws.{again_refused}
use Rattle.kmip_server.proofs.laws.again_changes_nothing.Goals as goal

-- src/laws.rt:24:1
pub returns : goal.returns
returns c = λ s ask between changing done. again_refused s ask between changing done
