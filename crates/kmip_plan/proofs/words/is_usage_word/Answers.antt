-- The words are those of the table.
use Rattle.std.proofs.Common.{sym, ap, ◌∙◌}
use Rattle.std.specs.List.{list_any}
use Rattle.kmip_plan.specs.TargetWords.{is_text}
use Rattle.kmip_plan.proofs.WordLemmas.{list_any-map}
use Rattle.kmip_plan.proofs.words.is_usage_word.Goals as goal

pub returns : goal.returns
returns c =
    c.is_first_of.ensures
    ∙ sym (list_any-map (λ u. is_text c.args.word.now u.0) (λ u. (u.0.now, u.1)) c.usages.result.now)
    ∙ ap (list_any (λ u. is_text c.args.word.now u.0)) c.usages.ensures
