-- The lines so far, and then those that are left.
use Rattle.std.proofs.Common.{◌≡◌, ◌++◌, drop, flat_map, string_bytes}
use Rattle.kmip_probe_command.specs.Wording.{risk_line}
use Rattle.kmip_probe_command.specs.declared.premise.TheConstants.{PREMISES}
use Rattle.kmip_probe_command.proofs.wording.risk_lines.Given as goal

abbrev pub invariant-loop-premise : goal.invariant-loop-premise
invariant-loop-premise l = string_bytes l.text ++ flat_map (risk_line l.findings) (drop l.premise-index PREMISES) ≡ flat_map (risk_line l.findings) PREMISES
