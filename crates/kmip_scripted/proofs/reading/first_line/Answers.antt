-- The line ends at the first line feed, or with the text.
use Rattle.std.proofs.Common.{ap, ◌∙◌, lit<}
use Rattle.std.proofs.lemmas.Str.Pattern.{split_parts}
use Rattle.kmip_scripted.specs.ScriptTexts.{lines_in}
use Rattle.kmip_scripted.proofs.ScriptLemmas.{last_line, line_then, none_by}
use Rattle.kmip_scripted.proofs.reading.first_line.Goals as goal

pub returns-in-Some : goal.returns-in-Some
returns-in-Some c =
    let parts = split_parts 10 c.args.text.now c.split_once.result c.split_once.ensures.cases (lit< tt) in
    let found = rw c.in-Some.is at parts in
    ap lines_in found.0 ∙ line_then c.in-Some.line.now c.in-Some.behind.now (none_by 10 c.in-Some.line.now found.1)

pub returns-in-None : goal.returns-in-None
returns-in-None c =
    let parts = split_parts 10 c.args.text.now c.split_once.result c.split_once.ensures.cases (lit< tt) in
    let none = rw c.in-None.is at parts in
    last_line c.args.text.now c.requires (none_by 10 c.args.text.now none)
