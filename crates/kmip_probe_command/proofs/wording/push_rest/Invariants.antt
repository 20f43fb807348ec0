-- The reasons so far, and then those that are left.
use Rattle.std.proofs.Common.{◌≡◌, ◌++◌, codes, drop, flat_map, string_bytes}
use Rattle.std.specs.Fmt.{decimal}
use Rattle.kmip_probe_command.proofs.wording.push_rest.Given as goal

abbrev pub invariant-loop-reason : goal.invariant-loop-reason
invariant-loop-reason l =
    string_bytes l.text ++ flat_map (λ n. codes ", " ++ decimal n) (drop l.reason-index l.reasons)
    ≡ string_bytes l.initial.text ++ flat_map (λ n. codes ", " ++ decimal n) l.reasons
