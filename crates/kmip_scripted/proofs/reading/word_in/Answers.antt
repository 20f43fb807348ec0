-- A line is parted at its first space.
use Rattle.std.proofs.Common.{sym, ◌∙◌, lit<}
use Rattle.std.proofs.lemmas.Str.Pattern.{split_parts}
use Rattle.kmip_scripted.proofs.ScriptLemmas.{none_by, parted, unparted}
use Rattle.kmip_scripted.proofs.reading.word_in.Goals as goal

pub returns-in-Some : goal.returns-in-Some
returns-in-Some c =
    let parts = split_parts 32 c.args.line.now c.split_once.result c.split_once.ensures.cases (lit< tt) in
    let found = rw c.in-Some.is at parts in
    c.numbered_word.ensures ∙ sym (parted c.args.line.now c.in-Some.word.now c.in-Some.number.now found.0 (none_by 32 c.in-Some.word.now found.1))

pub returns-in-None : goal.returns-in-None
returns-in-None c =
    let parts = split_parts 32 c.args.line.now c.split_once.result c.split_once.ensures.cases (lit< tt) in
    let none = rw c.in-None.is at parts in
    c.plain_word.ensures ∙ sym (unparted c.args.line.now (none_by 32 c.args.line.now none))
