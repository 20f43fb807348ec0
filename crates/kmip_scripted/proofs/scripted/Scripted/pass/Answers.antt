-- The request was served, or half of it, and its reply was copied.
use Rattle.std.proofs.Common.{inl, inr}
use Rattle.std.proofs.lemmas.Result.{IfOk-from_err}
use Rattle.kmip_scripted.proofs.WordLemmas.{on_err}
use Rattle.kmip_scripted.proofs.scripted.Scripted.pass.Goals as goal

pub returns-clause-ok : goal.returns-clause-ok
returns-clause-ok g c = c.in_ok-serve.ensures.ok

pub returns-clause-taken : goal.returns-clause-taken
returns-clause-taken g c = c.in_ok-serve.ensures.taken

pub returns-clause-delivered : goal.returns-clause-delivered
returns-clause-delivered g c = c.serve.ensures.delivered

pub returns-in_err-serve : goal.returns-in_err-serve
returns-in_err-serve g c = record {
  answer = IfOk-from_err c.from_residual.result _ c.from_residual.ensures.0;
  ok = IfOk-from_err c.from_residual.result _ c.from_residual.ensures.0;
  begun = on_err c.from_residual.result (inl c.in_err-serve.ensures.begun);
  taken = IfOk-from_err c.from_residual.result _ c.from_residual.ensures.0;
  delivered = c.serve.ensures.delivered;
}

pub returns-in_err-reply : goal.returns-in_err-reply
returns-in_err-reply g c = record {
  answer = IfOk-from_err c.from_residual-in_err-reply.result _ c.from_residual-in_err-reply.ensures.0;
  ok = IfOk-from_err c.from_residual-in_err-reply.result _ c.from_residual-in_err-reply.ensures.0;
  begun = on_err c.from_residual-in_err-reply.result (inr c.in_ok-serve.ensures.ok);
  taken = IfOk-from_err c.from_residual-in_err-reply.result _ c.from_residual-in_err-reply.ensures.0;
  delivered = c.serve.ensures.delivered;
}
