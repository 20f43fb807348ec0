-- What is pushed, and then what is left, is what is known of each.
use Rattle.std.proofs.Common.{◌≡◌, ◌++◌, map, drop}
use Rattle.kmip_client.specs.Saving.{knowledge_from}
use Rattle.kmip_client.proofs.saving.all_knowledge.Given as goal

abbrev pub invariant-loop-known : goal.invariant-loop-known
invariant-loop-known l = l.knowns.items ++ map knowledge_from (drop l.known-index l.saved) ≡ map knowledge_from l.saved
