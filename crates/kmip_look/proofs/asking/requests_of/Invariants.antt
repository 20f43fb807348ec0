-- What stands there, and then what is left, are all requests.
use Rattle.std.proofs.Common.{◌≡◌, ◌++◌, drop}
use Rattle.kmip_look.specs.PrivateAsking.{requests_of}
use Rattle.kmip_look.proofs.asking.requests_of.Given as goal

abbrev pub invariant-loop-place : goal.invariant-loop-place
invariant-loop-place l =
    l.requests.items ++ requests_of l.part l.mark (drop l.place l.keys) (drop l.place l.lookeds) ≡ requests_of l.part l.mark l.keys l.lookeds
