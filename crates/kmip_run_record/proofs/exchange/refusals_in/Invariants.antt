-- What is counted, and then what is left, are all refusals.
use Rattle.std.proofs.Common.{◌≡◌, ◌≤◌, ◌+◌, drop}
use Rattle.kmip_run_record.specs.Exchanges.{refusals_in}
use Rattle.kmip_run_record.proofs.exchange.refusals_in.Given as goal

abbrev pub invariant-loop-reply : goal.invariant-loop-reply
invariant-loop-reply l =
    (l.count + refusals_in (drop l.reply-index l.replies) ≡ refusals_in l.replies) × (l.count ≤ l.reply-index)
