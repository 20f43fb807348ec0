-- The test is that it suits.
use Rattle.std.proofs.Common.{◌≡◌, sym, ◌∙◌, rules}
use Rattle.kmip_progress.specs.Private.{all_fit}
use Rattle.kmip_progress.proofs.SuitingLemmas.{suits_so, so_suits}
use Rattle.kmip_progress.proofs.progress.suits.Goals as goal

pub returns : goal.returns
returns c =
    let same : c.all_fit.result ≡ all_fit c.args.plan.now c.args.progress.now = search rules in (
      λ is. suits_so c.args.plan.now c.args.progress.now (sym same ∙ is),
      λ suits. same ∙ so_suits c.args.plan.now c.args.progress.now suits,
    )
