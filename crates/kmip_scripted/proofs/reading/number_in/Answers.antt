-- Digits, and not too many, are a number.
use Rattle.std.proofs.Common.{◌≡◌, ◌≤◌, ◌∙◌, length, true, rules}
use Rattle.std.specs.List.{list_all}
use Rattle.kmip_scripted.specs.ScriptTexts.{is_digit}
use Rattle.kmip_scripted.proofs.ScriptLemmas.{number_given}
use Rattle.kmip_scripted.proofs.reading.number_in.Goals as goal

pub returns : goal.returns
returns c =
    let all : list_all is_digit c.args.word.now ≡ true = search rules in
    let some : 1 ≤ length c.args.word.now = search rules in
    let few : length c.args.word.now ≤ 6 = search rules in
    c.ok.ensures.value ∙ number_given c.args.word.now c.parse.result c.parse.ensures.value.0 all some few
