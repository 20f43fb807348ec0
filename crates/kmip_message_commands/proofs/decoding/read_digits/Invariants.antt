-- The pairs of digits so far are read, or one was no pair of digits.
use Rattle.kmip_message_commands.proofs.DecodingLemmas.{IsRead}
use Rattle.kmip_message_commands.proofs.decoding.read_digits.Given as goal

abbrev pub invariant-bytes : goal.invariant-bytes
invariant-bytes l = IsRead l.digits l.bytes l.i l.are_digits
