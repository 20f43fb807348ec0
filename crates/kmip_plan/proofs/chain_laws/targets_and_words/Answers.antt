-- Word by word.
use Rattle.std.proofs.Common.{ap, ◌∙◌}
use Rattle.kmip_plan.specs.TargetWords.{target_of_word}
use Rattle.kmip_plan.proofs.TargetLemmas.{word_of_target, target_of_its_word}
use Rattle.kmip_plan.proofs.chain_laws.targets_and_words.Goals as goal

pub returns : goal.returns
returns c = λ target word. (word_of_target word target, λ is. ap target_of_word is ∙ target_of_its_word target)
