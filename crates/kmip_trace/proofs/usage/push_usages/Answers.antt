-- The words are those of the table.
use Rattle.std.proofs.Common.{◌++◌, ℕ, List, Bor, flat_map, string_bytes, sym, ap, ◌∙◌}
use Rattle.std.proofs.lemmas.List.Folds.{flat_map-map}
use Rattle.kmip_trace.specs.UsageWords.{usage_word}
use Rattle.kmip_trace.proofs.usage.push_usages.Goals as goal

abbrev told : Bor (List ℕ) × ℕ → List ℕ × ℕ
told usage = (usage.0.now, usage.1)

pub returns : goal.returns
returns c =
    let word = usage_word c.args.bits in
    let named = sym (flat_map-map word told c.named_usages.result.now) ∙ ap (flat_map word) c.named_usages.ensures in
    c.in_ok-push_words.ensures ∙ ap (λ words. string_bytes c.args.text.now ++ words) named
