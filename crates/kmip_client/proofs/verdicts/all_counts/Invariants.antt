-- What is pushed, and then what is left, are the counts of all.
use Rattle.std.proofs.Common.{◌≡◌, ◌++◌, drop}
use Rattle.kmip_client.specs.Verdicts.{counts_of}
use Rattle.kmip_client.proofs.verdicts.all_counts.Given as goal

abbrev pub invariant-loop-known : goal.invariant-loop-known
invariant-loop-known l = l.counts.items ++ counts_of (drop l.known-index l.knowns) ≡ counts_of l.knowns
