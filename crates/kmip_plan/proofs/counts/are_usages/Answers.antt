-- Each element of the vector, and each item.
use Rattle.std.proofs.Common.{ap, ◌∙◌, false}
use Rattle.std.specs.List.{list_all}
use Rattle.std.specs.Option.{option_map_or}
use Rattle.toml.specs.Data.{as_str}
use Rattle.toml.specs.View.{view}
use Rattle.kmip_plan.specs.Words.{is_usage_word}
use Rattle.kmip_plan.proofs.TableLemmas.{all_words-view}
use Rattle.kmip_plan.proofs.counts.are_usages.Goals as goal

pub returns : goal.returns
returns c =
    c.all_usages.ensures
    ∙ ap (list_all (λ v. option_map_or is_usage_word (as_str (view v)) false)) c.as_slice.ensures.value
    ∙ all_words-view is_usage_word c.args.array.now.items
