-- A message waits where as much is held as is needed.
use Rattle.std.proofs.Common.{◌∙◌, refl, rules, arith}
use Rattle.std.proofs.lemmas.Result.{err_from_is_err_and}
use Rattle.kmip_frames.proofs.Steps.{tested_none, waits_none, waits_whole}
use Rattle.kmip_frames.proofs.framer.Framer.next.Goals as goal

pub returns-then-len-size_needed : goal.returns-then-len-size_needed
returns-then-len-size_needed c = (
  tested_none c.args.self.now c.self.inside.held.items c.as_slice.result.now c.fault_of.result c.is_some.result c.self.view_is c.as_slice.ensures.value c.fault_of.ensures c.is_some.ensures c.if-is_some.false,
  waits_none c.args.self.now c.self.inside.held.items c.as_slice-2.result.now c.len.result c.size_needed.result c.self.view_is c.as_slice-2.ensures.value (c.len.ensures ∙ c.self.inside.held.ok.0) c.size_needed.ensures c.if-len-size_needed.true,
  refl,
)

pub returns-in_err-message : goal.returns-in_err-message
returns-in_err-message c =
    let none = tested_none c.args.self.now c.self.inside.held.items c.as_slice.result.now c.fault_of.result c.is_some.result c.self.view_is c.as_slice.ensures.value c.fault_of.ensures c.is_some.ensures c.if-is_some.false in
    let whole = waits_whole c.args.self.now c.self.inside.held.items c.as_slice-2.result.now c.len.result c.size_needed.result c.self.view_is c.self.invariant.1 c.as_slice-2.ensures.value (c.len.ensures ∙ c.self.inside.held.ok.0) c.size_needed.ensures c.if-len-size_needed.false none in
    let p = err_from_is_err_and c.from_residual.result c.from_residual.ensures.1 in
    rw (p.1, p.2) (whole, refl)

pub returns : goal.returns
returns c =
    let none = tested_none c.args.self.now c.self.inside.held.items c.as_slice.result.now c.fault_of.result c.is_some.result c.self.view_is c.as_slice.ensures.value c.fault_of.ensures c.is_some.ensures c.if-is_some.false in
    let whole = waits_whole c.args.self.now c.self.inside.held.items c.as_slice-2.result.now c.len.result c.size_needed.result c.self.view_is c.self.invariant.1 c.as_slice-2.ensures.value (c.len.ensures ∙ c.self.inside.held.ok.0) c.size_needed.ensures c.if-len-size_needed.false none in
    (whole, c.in_ok-message.ensures.items ∙ c.as_slice-3.ensures.value ∙ c.self.view_is, search rules)

pub invariant_of-self : goal.invariant_of-self
invariant_of-self c = (rw c.clear.ensures.capacity c.self.invariant.0, rw c.clear.ensures.items (omega arith))
