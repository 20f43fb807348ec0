-- What is pushed, and then one for each key that is left, is one for each key.
use Rattle.std.proofs.Common.{◌≡◌, ◌++◌, map, drop}
use Rattle.kmip_client.specs.Knowledge.{fresh_knowledge}
use Rattle.kmip_client.proofs.client.nothing_known.Given as goal

abbrev pub invariant-loop-key : goal.invariant-loop-key
invariant-loop-key l =
    l.knowns.items ++ map (λ key. fresh_knowledge) (drop l._key-index l.keys) ≡ map (λ key. fresh_knowledge) l.keys
