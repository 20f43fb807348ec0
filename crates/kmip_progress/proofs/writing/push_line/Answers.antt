-- The words of the line, each with the byte behind it.
use Rattle.std.proofs.Common.{◌≡◌, [], ◌∷◌, ◌++◌, decimal, string_bytes, ◌∙◌, rules}
use Rattle.kmip_plan.specs.TargetWords.{target_word}
use Rattle.kmip_progress.specs.declared.format.Format.TheVariants.{Two}
use Rattle.kmip_progress.specs.Texts.{reason_for}
use Rattle.kmip_progress.specs.Words.{reason_word, identifier_word}
use Rattle.kmip_progress.proofs.WritingLemmas.{words_joined}
use Rattle.kmip_progress.proofs.writing.push_line.Goals as goal

pub returns-clause-text : goal.returns-clause-text
returns-clause-text c =
    let old = string_bytes c.args.text.now in
    let name = c.args.key.now.attrs.name in
    let target = target_word c.args.key.now.target in
    let reason = reason_word (reason_for Two c.args.key.now) in
    let done = decimal c.args.known.now.done in
    let identifier = identifier_word c.args.known.now.identifier in
    let text : string_bytes c.push.new.self
    ≡ old ++ (name ++ 32 ∷ []) ++ (target ++ 32 ∷ []) ++ (reason ++ 32 ∷ []) ++ (done ++ 32 ∷ []) ++ identifier ++ 10 ∷ [] = search rules in
    text ∙ words_joined old name target reason done identifier
