-- The set has the name of the new key too.
use Rattle.std.proofs.Common.{subst, sym, ◌∙◌}
use Rattle.kmip_plan.specs.PrivateNames.{AreNamesOf}
use Rattle.kmip_plan.proofs.NameLemmas.{names_more}
use Rattle.kmip_plan.proofs.named_keys.NamedKeys.with.Goals as goal

pub invariant_of-self : goal.invariant_of-self
invariant_of-self c =
    subst (AreNamesOf c.insert.new.self) (sym c.in_ok-push.ensures.items)
    (names_more c.self.inside.names c.insert.new.self c.self.inside.keys.items c.args.key c.in_ok-name.name
    c.self.invariant (c.in_ok-name.ensures.ok ∙ c.as_str.ensures) c.in_ok-insert.ensures.updates)
