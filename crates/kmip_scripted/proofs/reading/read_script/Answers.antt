-- What is read is the script, or the first line at fault.
use Rattle.std.proofs.Common.{subst}
use Rattle.kmip_scripted.specs.ScriptReading.{GivesScript, script_read}
use Rattle.kmip_scripted.proofs.ScriptLaws.{fails_is, found_is, is_fails, is_script}
use Rattle.kmip_scripted.proofs.reading.read_script.Goals as goal

pub returns-clause-found : goal.returns-clause-found
returns-clause-found c = found_is c.args.text.now c.whole_script.result c.whole_script.ensures

pub returns-clause-only : goal.returns-clause-only
returns-clause-only c = λ words is.
    subst (λ read. GivesScript (λ script. script) c.whole_script.result read) (is_script c.args.text.now words is) c.whole_script.ensures

pub returns-clause-fault : goal.returns-clause-fault
returns-clause-fault c = λ number is.
    fails_is c.args.text.now number (subst (λ r. GivesScript (λ script. script) r (script_read c.args.text.now)) is c.whole_script.ensures)

pub returns-clause-first : goal.returns-clause-first
returns-clause-first c = λ number fails.
    subst (λ read. GivesScript (λ script. script) c.whole_script.result read) (is_fails c.args.text.now number fails) c.whole_script.ensures
