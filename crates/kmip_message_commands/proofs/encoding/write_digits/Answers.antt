-- The digits of one byte more, and of all.
use Rattle.std.proofs.Common.{arith}
use Rattle.hex.proofs.Pairs.{encode_step, encode_done}
use Rattle.hex.specs.Hex.{lower_digits}
use Rattle.kmip_message_commands.proofs.encoding.write_digits.Goals as goal

pub bytes-preserved : goal.bytes-preserved
bytes-preserved c =
    encode_step lower_digits c.args.bytes.now c.bytes.digits c.bytes.i _ _ (omega arith) (omega arith) c.digit_of-high.ensures c.digit_of-low.ensures c.bytes.invariant

pub returns : goal.returns
returns c = encode_done lower_digits _ _ c.bytes.i (omega arith) (omega arith) c.bytes.invariant
