-- The words so far are those of the usages that were looked at.
use Rattle.std.proofs.Common.{◌≡◌, ◌++◌, take, flat_map, string_bytes}
use Rattle.kmip_trace.specs.UsageWords.{usage_word}
use Rattle.kmip_trace.proofs.usage.push_words.Given as goal

abbrev pub invariant-loop-usage : goal.invariant-loop-usage
invariant-loop-usage l =
    string_bytes l.text ≡ string_bytes l.fn.text ++ flat_map (λ usage. usage_word l.bits (usage.0.now, usage.1)) (take l.usage-index l.usages)
