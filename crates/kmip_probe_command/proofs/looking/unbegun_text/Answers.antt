-- Nothing is told where both names are seen to be free.
use Rattle.std.proofs.Common.{refl, sym, ◌∙◌}
use Rattle.kmip_probe_command.proofs.looking.unbegun_text.Goals as goal

pub returns : goal.returns
returns c =
    let first = sym c.is_free_at.ensures ∙ c.if-not-is_free_at.false in
    let second = sym c.is_free_at-2.ensures ∙ c.if-not-is_free_at-2.false in rw (first, second) refl
