-- What stands after `crash` is parted at its first space.
use Rattle.std.proofs.Common.{sym, ◌∙◌, lit<}
use Rattle.std.proofs.lemmas.Str.Pattern.{split_parts}
use Rattle.kmip_scripted.proofs.ScriptLemmas.{crash_parted, crash_unparted, none_by}
use Rattle.kmip_scripted.proofs.reading.crash_in.Goals as goal

pub returns-in-Some : goal.returns-in-Some
returns-in-Some c =
    let parts = split_parts 32 c.args.text.now c.split_once.result c.split_once.ensures.cases (lit< tt) in
    let found = rw c.in-Some.is at parts in
    c.crash_by.ensures
    ∙ sym (crash_parted c.args.text.now c.in-Some.number.now c.in-Some.left.now found.0 (none_by 32 c.in-Some.number.now found.1))

pub returns-in-None : goal.returns-in-None
returns-in-None c =
    let parts = split_parts 32 c.args.text.now c.split_once.result c.split_once.ensures.cases (lit< tt) in
    let none = rw c.in-None.is at parts in
    sym (crash_unparted c.args.text.now (none_by 32 c.args.text.now none))
