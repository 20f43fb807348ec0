-- The call that was made is one of those after which the records are these.
use Rattle.std.proofs.Common.{◌≡◌, ℕ, ◌+◌, ◌<◌, List, [], ◌∷◌, ◌++◌, length, get_or, take, drop, IsTrue, ap, subst, sym, ◌∙◌, append_assoc, append-nil, arith}
use Rattle.std.proofs.Math.Seq.{drop-length, take-length}
use Rattle.std.proofs.lemmas.List.{drop_more}
use Rattle.std.proofs.lemmas.List.Sums.{AllPass-from_list_all}
use Rattle.std.proofs.lemmas.Result.{err_from_is_err_and}
use Rattle.kmip_store.specs.declared.answer.Answer.{Answer}
use Rattle.kmip_store.specs.declared.call.Call.{Call}
use Rattle.kmip_store.specs.Stock.{Stock}
use Rattle.kmip_store.specs.Calling.{answer_to, answers_to, may_call, stock_after_call, stock_after_calls}
use Rattle.kmip_store.proofs.CallingLemmas.{one_call_more}
use Rattle.kmip_store.proofs.calling.call_all.Goals as goal

pub returns-in_err-push : goal.returns-in_err-push
returns-in_err-push g c =
    let stock = g.S.Records.stock in
    let after =
    one_call_more c.args.calls.now c.loop-call.call-index c.call-item.result (stock c.args.store.now) (stock c.loop-call.store)
    (stock c.call_one.new.store) c.loop-call-test.true c.call-item.is c.loop-call.invariant.1 c.in_ok-answer.ensures.stock in
    let fault = err_from_is_err_and c.from_residual-in_err-push.result c.from_residual-in_err-push.ensures.1 in
    record { answers = rw fault.1 tt; stock = rw fault.1 tt; broken_off = rw fault.1 (c.loop-call.call-index + 1, after) }

pub returns-in_err-answer : goal.returns-in_err-answer
returns-in_err-answer g c =
    let fault = err_from_is_err_and c.from_residual.result c.from_residual.ensures.1 in
    let same = c.in_err-answer.ensures.same ∙ c.loop-call.invariant.1 in
    record { answers = rw fault.1 tt; stock = rw fault.1 tt; broken_off = rw fault.1 (c.loop-call.call-index, same) }

pub call_one-requires : goal.call_one-requires
call_one-requires g c =
    subst (λ call. IsTrue (may_call call)) (sym c.call-item.is)
    (AllPass-from_list_all may_call c.args.calls.now c.requires c.loop-call.call-index c.call-item.result c.loop-call-test.true)

-- one answer more, and one call fewer is left
one_answer_more : (calls : List Call) (i : ℕ) (call : Call) (old new : Stock) (done : List Answer) (answer : Answer) (all : List Answer) → i < length calls
    → call ≡ get_or calls i call → answer ≡ answer_to call old → new ≡ stock_after_call call old → done ++ answers_to (drop i calls) old ≡ all
    → (done ++ answer ∷ []) ++ answers_to (drop (i + 1) calls) new ≡ all
one_answer_more calls i call old new done answer all within is said after before =
    let left = drop (i + 1) calls in
    append_assoc done (answer ∷ []) (answers_to left new) ∙ ap (λ a. done ++ a ∷ answers_to left new) said
    ∙ ap (λ s. done ++ answer_to call old ∷ answers_to left s) after
    ∙ ap (λ (c : Call). done ++ answer_to c old ∷ answers_to left (stock_after_call c old)) is
    ∙ ap (λ cs. done ++ answers_to cs old) (sym (drop_more calls i call within)) ∙ before

pub loop-call-preserved : goal.loop-call-preserved
loop-call-preserved g c =
    let stock = g.S.Records.stock in
    let within = c.loop-call-test.true in
    let said = c.in_ok-answer.ensures.answer in
    let changed = c.in_ok-answer.ensures.stock in (
      rw c.in_ok-push.ensures.items
          (one_answer_more c.args.calls.now c.loop-call.call-index c.call-item.result (stock c.loop-call.store) (stock c.call_one.new.store)
          c.loop-call.answers.items c.in_ok-answer.answer (answers_to c.args.calls.now (stock c.args.store.now)) within c.call-item.is said changed
          c.loop-call.invariant.0),
      one_call_more c.args.calls.now c.loop-call.call-index c.call-item.result (stock c.args.store.now) (stock c.loop-call.store)
          (stock c.call_one.new.store) within c.call-item.is c.loop-call.invariant.1 changed,
    )

pub returns : goal.returns
returns g c =
    let stock = g.S.Records.stock in
    let calls = c.args.calls.now in
    let end : c.loop-call.call-index ≡ length calls = omega (arith, c.loop-call-test.false, c.loop-call.auto.call-index-end) in record {
      answers = sym (append-nil c.loop-call.answers.items)
          ∙ ap (λ cs. c.loop-call.answers.items ++ answers_to cs (stock c.loop-call.store)) (sym (ap (λ n. drop n calls) end ∙ drop-length calls)) ∙ c.loop-call.invariant.0;
      stock = c.loop-call.invariant.1 ∙ ap (λ cs. stock_after_calls cs (stock c.args.store.now)) (ap (λ n. take n calls) end ∙ take-length calls);
      broken_off = tt;
    }
