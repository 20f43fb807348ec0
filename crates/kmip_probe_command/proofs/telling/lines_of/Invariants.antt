-- The lines so far, and then those that are left.
use Rattle.std.proofs.Common.{◌≡◌, ◌++◌, drop, flat_map}
use Rattle.kmip_probe_command.specs.ProbeText.{line_of}
use Rattle.kmip_probe_command.proofs.telling.lines_of.Given as goal

abbrev pub invariant-loop-premise : goal.invariant-loop-premise
invariant-loop-premise l =
    l.text.items ++ flat_map (line_of l.form l.findings) (drop l.premise-index l.premises)
    ≡ flat_map (line_of l.form l.findings) l.premises
