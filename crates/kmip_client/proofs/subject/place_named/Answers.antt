-- No other key has the name.
use Rattle.std.proofs.Common.{sym, ◌∙◌}
use Rattle.kmip_client.proofs.SubjectLemmas.{named_at}
use Rattle.kmip_client.proofs.subject.place_named.Goals as goal

pub returns-then-is_named_at : goal.returns-then-is_named_at
returns-then-is_named_at c =
    named_at c.args.keys.now c.args.name.now c.args.likely c.the_laws_of_plans_hold.ensures.distinct c.requires
    (sym c.is_named_at.ensures ∙ c.if-is_named_at.true)
