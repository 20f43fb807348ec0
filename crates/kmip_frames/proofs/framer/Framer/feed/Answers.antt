-- First the head is taken, and then what it says.
use Rattle.std.proofs.Common.{◌+◌, arith}
use Rattle.kmip_frames.proofs.Sizes.{size_needed_most}
use Rattle.kmip_frames.proofs.Steps.{tested_none, tested_some, failed_same, head_taken, IsRefused, refused, IsTaken, body_taken, taken_answer, taken_front, taken_within, taken_whole, taken_some}
use Rattle.kmip_frames.proofs.framer.Framer.feed.Goals as goal

pub returns-then-is_some-clause-held : goal.returns-then-is_some-clause-held
returns-then-is_some-clause-held c =
    let found = tested_some c.args.self.now c.self.inside.held.items c.as_slice.result.now c.fault_of.result c.is_some.result c.self.view_is c.as_slice.ensures.value c.fault_of.ensures c.is_some.ensures c.if-is_some.true in
    failed_same c.args.self.now c.args.piece.now found.0 found.1

is_refused : (c : goal.In-Some) → IsRefused c.args.self.now c.args.piece.now c.fill-of_head.new.held.items c.in-Some.fault
is_refused c =
    let none = tested_none c.args.self.now c.self.inside.held.items c.as_slice.result.now c.fault_of.result c.is_some.result c.self.view_is c.as_slice.ensures.value c.fault_of.ensures c.is_some.ensures c.if-is_some.false in
    let head = head_taken c.args.self.now c.self.inside.held.items c.args.piece.now c.fill-of_head.new.held.items c.fill-of_head.result c.self.view_is c.self.invariant.1 none c.fill-of_head.ensures.count c.fill-of_head.ensures.items in
    refused c.args.self.now c.args.piece.now c.fill-of_head.new.held.items c.as_slice-2.result.now c.fill-of_head.result c.fault_of-2.result c.in-Some.fault head c.as_slice-2.ensures.value c.fault_of-2.ensures c.in-Some.is

pub invariant_of-self : goal.invariant_of-self
invariant_of-self c = (omega (arith, c.self.invariant.0, c.fill-of_head.ensures.room), (is_refused c).within)

pub returns-in-Some-clause-answer : goal.returns-in-Some-clause-answer
returns-in-Some-clause-answer c = (is_refused c).answer

pub returns-in-Some-clause-held : goal.returns-in-Some-clause-held
returns-in-Some-clause-held c = (is_refused c).held_is

pub returns-in-Some-clause-refused : goal.returns-in-Some-clause-refused
returns-in-Some-clause-refused c = λ before. (is_refused c).fault_is

pub fill-of_body-requires : goal.fill-of_body-requires
fill-of_body-requires c = omega (arith, c.self.invariant.0, c.fill-of_head.ensures.room, c.size_needed-size.ensures, size_needed_most c.as_slice-3.result.now)

is_taken : (c : goal.After-fill-of_body) → IsTaken c.args.self.now c.args.piece.now c.fill-of_body.new.held.items (c.fill-of_head.result + c.fill-of_body.result)
is_taken c =
    let none = tested_none c.args.self.now c.self.inside.held.items c.as_slice.result.now c.fault_of.result c.is_some.result c.self.view_is c.as_slice.ensures.value c.fault_of.ensures c.is_some.ensures c.if-is_some.false in
    let head = head_taken c.args.self.now c.self.inside.held.items c.args.piece.now c.fill-of_head.new.held.items c.fill-of_head.result c.self.view_is c.self.invariant.1 none c.fill-of_head.ensures.count c.fill-of_head.ensures.items in
    body_taken c.args.self.now c.args.piece.now c.fill-of_head.new.held.items c.as_slice-2.result.now c.as_slice-3.result.now c.fill-of_body.new.held.items c.fill-of_head.result c.size_needed-size.result c.fill-of_body.result c.fault_of-2.result head c.as_slice-2.ensures.value c.fault_of-2.ensures c.in_default.not-Some c.as_slice-3.ensures.value c.size_needed-size.ensures c.fill-of_body.ensures.count c.fill-of_body.ensures.items

pub invariant_of-self-2 : goal.invariant_of-self-2
invariant_of-self-2 c =
    (omega (arith, c.self.invariant.0, c.fill-of_head.ensures.room, c.fill-of_body.ensures.room), taken_within c.args.self.now c.args.piece.now c.fill-of_body.new.held.items (c.fill-of_head.result + c.fill-of_body.result) (is_taken c))

pub returns-clause-answer : goal.returns-clause-answer
returns-clause-answer c = taken_answer c.args.self.now c.args.piece.now c.fill-of_body.new.held.items (c.fill-of_head.result + c.fill-of_body.result) (is_taken c)

pub returns-clause-held : goal.returns-clause-held
returns-clause-held c = (is_taken c).held_is

pub returns-clause-taken : goal.returns-clause-taken
returns-clause-taken c = taken_front c.args.self.now c.args.piece.now c.fill-of_body.new.held.items (c.fill-of_head.result + c.fill-of_body.result) (is_taken c)

pub returns-clause-whole : goal.returns-clause-whole
returns-clause-whole c = taken_whole c.args.self.now c.args.piece.now c.fill-of_body.new.held.items (c.fill-of_head.result + c.fill-of_body.result) (is_taken c)

pub returns-clause-some : goal.returns-clause-some
returns-clause-some c = taken_some c.args.self.now c.args.piece.now c.fill-of_body.new.held.items (c.fill-of_head.result + c.fill-of_body.result) (is_taken c)
