-- Line by line.
use Rattle.std.proofs.Common.{◌≡◌, ◌+◌, arith, rules}
use Rattle.kmip_scripted.specs.ScriptTexts.{most_lines}
use Rattle.kmip_scripted.proofs.ScriptLemmas.{too_many}
use Rattle.kmip_scripted.proofs.reading.words_of.Goals as goal

pub returns-then-not-is_empty : goal.returns-then-not-is_empty
returns-then-not-is_empty c =
    let last : c.loop-number.number ≡ most_lines + 1 = omega (arith, c.loop-number-test.false, c.loop-number.auto.number-end) in
    too_many c.loop-number.words.items c.loop-number.rest.now c.loop-number.number _ (search rules) last c.loop-number.invariant.so_far
