-- A plan prolongs itself.
use Rattle.std.proofs.Common.{◌≡◌, true, rules}
use Rattle.kmip_progress.specs.Suiting.{are_texts}
use Rattle.kmip_progress.specs.Texts.{progress_text}
use Rattle.kmip_progress.proofs.LawLemmas.{says_own}
use Rattle.kmip_progress.proofs.progress.Progress.write_text.Goals as goal

pub returns-clause-says : goal.returns-clause-says
returns-clause-says c =
    let plan = c.args.plan.now in
    let progress = c.args.self.now in
    let text : c.from_string.result ≡ progress_text plan progress = search rules in
    let utf8 : are_texts progress ≡ true = search rules in
    says_own plan c.from_string.result progress c.keys.ensures.lawful c.requires utf8 text
