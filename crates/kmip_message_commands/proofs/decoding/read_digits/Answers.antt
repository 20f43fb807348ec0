-- One pair of digits more, and all of them.
use Rattle.std.proofs.Common.{arith}
use Rattle.hex.proofs.Pairs.{decode_start}
use Rattle.kmip_message_commands.proofs.DecodingLemmas.{read_more, read_all, refused_one}
use Rattle.kmip_message_commands.proofs.decoding.read_digits.Goals as goal

pub bytes-init : goal.bytes-init
bytes-init c = decode_start c.args.digits.now c.args.bytes.now

pub bytes-preserved : goal.bytes-preserved
bytes-preserved c =
    read_more c.args.digits.now c.bytes.bytes c.bytes.i _ _ c.bytes.are_digits (omega arith) (omega arith) c.value_of-high.ensures c.value_of-low.ensures c.bytes.invariant

pub returns-clause-read : goal.returns-clause-read
returns-clause-read c are = read_all c.args.digits.now c.bytes.bytes c.bytes.i c.bytes.are_digits (omega arith) (omega arith) c.bytes.invariant are

pub returns-clause-refused : goal.returns-clause-refused
returns-clause-refused c are = refused_one c.args.digits.now c.bytes.bytes c.bytes.i c.bytes.are_digits (omega arith) c.bytes.invariant are
