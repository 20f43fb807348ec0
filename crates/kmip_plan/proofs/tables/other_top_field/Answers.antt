-- The first key of the map that does not pass is the first other member.
use Rattle.std.proofs.Common.{ap, ◌∙◌, Some}
use Rattle.kmip_plan.specs.Tables.{is_top_field}
use Rattle.kmip_plan.proofs.TableLemmas.{other_found}
use Rattle.kmip_plan.proofs.tables.other_top_field.Goals as goal

pub returns-in-Some : goal.returns-in-Some
returns-in-Some c =
    ap Some c.as_str.ensures.value
    ∙ other_found is_top_field c.args.table.now.entries c.other_top.result _ c.other_top.ensures c.in-Some.is

pub returns-in-None : goal.returns-in-None
returns-in-None c = other_found is_top_field c.args.table.now.entries c.other_top.result _ c.other_top.ensures c.in-None.is
