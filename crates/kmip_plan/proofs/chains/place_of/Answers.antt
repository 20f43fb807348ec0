-- The places are counted from one.
use Rattle.std.proofs.Common.{◌==◌, ◌+◌, option_map, sym, ap, ◌∙◌}
use Rattle.std.specs.List.{position}
use Rattle.kmip_objects.specs.States.{state_number}
use Rattle.kmip_plan.proofs.chains.place_of.Goals as goal

pub returns-in-Some : goal.returns-in-Some
returns-in-Some c =
    ap (option_map (λ index. index + 1))
    (sym c.in-Some.is ∙ c.index_of.ensures ∙ ap (position (λ state. state_number state == c.args.state)) c.states_to.ensures)
