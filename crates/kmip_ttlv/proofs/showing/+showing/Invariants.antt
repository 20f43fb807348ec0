-- What the items so far gave, with what the rest gives, is what all give.
use Rattle.std.proofs.Common.{◌≡◌, ◌++◌, string_bytes, drop}
use Rattle.kmip_ttlv.specs.Node.{nodes_of}
use Rattle.kmip_ttlv.specs.View.{views}
use Rattle.kmip_ttlv.specs.Showing.{shown_all}
use Rattle.kmip_ttlv.proofs.showing.+showing.Given as goal

abbrev pub invariant-push_all-loop-item : goal.invariant-push_all-loop-item
invariant-push_all-loop-item l =
    string_bytes l.out ++ shown_all l.indent (nodes_of (views (drop l.item-index l.items)))
    ≡ string_bytes l.fn.out ++ shown_all l.indent (nodes_of (views l.items))
