-- What is pushed, and then what is left, is what is kept of each.
use Rattle.std.proofs.Common.{◌≡◌, ◌++◌, map, drop}
use Rattle.kmip_client.specs.Saving.{known_of}
use Rattle.kmip_client.proofs.saving.all_known.Given as goal

abbrev pub invariant-loop-knowledge : goal.invariant-loop-knowledge
invariant-loop-knowledge l = l.known.items ++ map known_of (drop l.knowledge-index l.knowns) ≡ map known_of l.knowns
