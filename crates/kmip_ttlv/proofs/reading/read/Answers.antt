-- Reading is the reading function, whose laws are these.
use Rattle.std.proofs.Common.{arith}
use Rattle.kmip_ttlv.proofs.Laws.{is_found, is_writable, is_only, is_back, is_fault, is_refused}
use Rattle.kmip_ttlv.proofs.reading.read.Goals as goal

pub returns-clause-found : goal.returns-clause-found
returns-clause-found c = is_found c.args.bytes.now c.item_of.result (λ i. omega (arith, c.type_inv.bytes i)) c.item_of.ensures.exact

pub returns-clause-only : goal.returns-clause-only
returns-clause-only c = λ n count fits spells. is_only c.args.bytes.now c.item_of.result n count c.item_of.ensures.exact fits spells

pub returns-clause-back : goal.returns-clause-back
returns-clause-back c = λ n rest fits is. is_back c.args.bytes.now c.item_of.result n rest c.item_of.ensures.exact fits is

pub returns-clause-writable : goal.returns-clause-writable
returns-clause-writable c = is_writable c.args.bytes.now c.item_of.result (λ i. omega (arith, c.type_inv.bytes i)) c.item_of.ensures.exact

pub returns-clause-fault : goal.returns-clause-fault
returns-clause-fault c = is_fault c.args.bytes.now c.item_of.result (λ i. omega (arith, c.type_inv.bytes i)) c.item_of.ensures.exact

pub returns-clause-refused : goal.returns-clause-refused
returns-clause-refused c = λ e wrong. is_refused c.args.bytes.now c.item_of.result e (λ i. omega (arith, c.type_inv.bytes i)) c.item_of.ensures.exact wrong
