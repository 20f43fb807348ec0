-- The replies so far are not too long, and what they take with those that are left is what all take.
use Rattle.std.proofs.Common.{◌≡◌, ◌+◌, ◌≤◌, drop}
use Rattle.kmip_messages.specs.Private.{answers_size}
use Rattle.kmip_messages.proofs.fitting.is_short.Given as goal

abbrev pub invariant-loop-reply : goal.invariant-loop-reply
invariant-loop-reply l = (l.size ≤ 8192) × (l.size + answers_size (drop l.reply-index l.replies) ≡ 88 + answers_size l.replies)
