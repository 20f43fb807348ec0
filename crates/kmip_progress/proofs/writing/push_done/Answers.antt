-- A text stands for each number of steps that a chain has.
use Rattle.std.proofs.Common.{string_bytes, arith}
use Rattle.kmip_progress.proofs.WritingLemmas.{digit_written}
use Rattle.kmip_progress.proofs.writing.push_done.Goals as goal

pub returns-in_ok-push_str-in-0 : goal.returns-in_ok-push_str-in-0
returns-in_ok-push_str-in-0 c =
    digit_written (string_bytes c.args.text.now) (string_bytes c.push_str.new.self) c.args.done 0 (omega arith) c.in-0.is c.in_ok-push_str-in-0.ensures.bytes

pub returns-in_ok-push_str-in-1 : goal.returns-in_ok-push_str-in-1
returns-in_ok-push_str-in-1 c =
    digit_written (string_bytes c.args.text.now) (string_bytes c.push_str-in-1.new.self) c.args.done 1 (omega arith) c.in-1.is c.in_ok-push_str-in-1.ensures.bytes

pub returns-in_ok-push_str-in-2 : goal.returns-in_ok-push_str-in-2
returns-in_ok-push_str-in-2 c =
    digit_written (string_bytes c.args.text.now) (string_bytes c.push_str-in-2.new.self) c.args.done 2 (omega arith) c.in-2.is c.in_ok-push_str-in-2.ensures.bytes

pub returns-in_ok-push_str-in-3 : goal.returns-in_ok-push_str-in-3
returns-in_ok-push_str-in-3 c =
    digit_written (string_bytes c.args.text.now) (string_bytes c.push_str-in-3.new.self) c.args.done 3 (omega arith) c.in-3.is c.in_ok-push_str-in-3.ensures.bytes

pub returns-in_ok-push_str-in-4 : goal.returns-in_ok-push_str-in-4
returns-in_ok-push_str-in-4 c =
    digit_written (string_bytes c.args.text.now) (string_bytes c.push_str-in-4.new.self) c.args.done 4 (omega arith) c.in-4.is c.in_ok-push_str-in-4.ensures.bytes
