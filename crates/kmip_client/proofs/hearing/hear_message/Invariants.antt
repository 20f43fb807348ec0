-- What was heard, and then what is heard of the replies that are left, is all; so it is with what is known.
use Rattle.std.proofs.Common.{◌≡◌, ◌≤◌, ◌+◌, ◌++◌, length}
use Rattle.std.specs.Vec.{vec_len, vec_capacity}
use Rattle.kmip_messages.specs.Items.{replies_in}
use Rattle.kmip_client.specs.Hearing.{hear_each, known_after_each}
use Rattle.kmip_client.specs.Clients.{working_count}
use Rattle.kmip_client.proofs.hearing.hear_message.Given as goal

abbrev pub invariant-loop-replies : goal.invariant-loop-replies
invariant-loop-replies g l =
    (l.working ≡ working_count l.keys l.knowns.items)
    × (vec_len l.heard + length l.replies.items ≤ vec_capacity l.heard)
    × (l.heard.items ++ hear_each l.keys l.replies.items l.knowns.items ≡ hear_each l.keys (replies_in l.bytes) l.fn.knowns.items)
    × (known_after_each l.keys l.replies.items l.knowns.items ≡ known_after_each l.keys (replies_in l.bytes) l.fn.knowns.items)

abbrev pub decreases-loop-replies : goal.decreases-loop-replies
decreases-loop-replies g l = goal.left-loop-replies g l
