-- What is reported is appended, all of it or none.
use Rattle.std.proofs.Common.{◌≡◌, inl, inr, ℕ, Bool, List, [], ◌++◌, Option, Some, Result, Ok, Err, refl, sym, ap, ◌∙◌, append-nil}
use Rattle.std.specs.Result.{IfOk, OnErr}
use Rattle.std.proofs.lemmas.Result.{IfOk-from_err}
use Rattle.kmip_plan.specs.declared.key.Key.{Key}
use Rattle.kmip_report.specs.declared.form.Form.{Form}
use Rattle.kmip_ttlv.specs.declared.no_memory.NoMemory.{NoMemory}
use Rattle.kmip_sim_command.specs.Writing.{BreaksOffSim, TellsSim, WritesSim}
use Rattle.kmip_sim_command.specs.declared.sim_input.SimInput.{SimInput}
use Rattle.kmip_sim_command.proofs.running.push_sim.Goals as goal

module _ (form : Form) (keys : List Key) (further : Option (List Key)) (input : SimInput) (text old new : List ℕ) where
  whole : (ended : Result Bool NoMemory) → TellsSim form keys further input ended text → new ≡ old ++ text
      → IfOk ended (λ refused. WritesSim form keys further input refused (Some old) (Some new))
  whole (Ok refused) tells written = record { text = text; tells = tells; written = written }
  whole (Err want) tells written = tt

  broken : (ended : Result Bool NoMemory) → TellsSim form keys further input ended text → new ≡ old ++ text
      → OnErr ended (BreaksOffSim form keys further input [] (Some old) (Some new))
  broken (Ok refused) tells written = tt
  broken (Err want) tells written = record { text = text; tells = inr (want, tells); written = written ∙ ap (λ t. old ++ t) (sym (append-nil text)) }

  nothing : (ended : Result Bool NoMemory) → new ≡ old → OnErr ended (BreaksOffSim form keys further input [] (Some old) (Some new))
  nothing (Ok refused) kept = tt
  nothing (Err want) kept = record { text = []; tells = inl refl; written = kept ∙ sym (append-nil old) }

pub push_report-requires-clause-batch : goal.push_report-requires-clause-batch
push_report-requires-clause-batch c = c.requires.batch

pub push_report-requires-clause-empty : goal.push_report-requires-clause-empty
push_report-requires-clause-empty c = c.new-report.ensures.items

pub returns-clause-text : goal.returns-clause-text
returns-clause-text c =
    whole _ _ _ _ c.push_report.new.report.items _ _ c.in_ok-ended.ended c.in_ok-ended.ensures (c.in_ok-push_text.ensures.ok ∙ ap (λ t. c.args.text.now.items ++ t) c.as_slice.ensures.value)

pub returns-clause-broken : goal.returns-clause-broken
returns-clause-broken c =
    broken _ _ _ _ c.push_report.new.report.items _ _ c.in_ok-ended.ended c.in_ok-ended.ensures (c.in_ok-push_text.ensures.ok ∙ ap (λ t. c.args.text.now.items ++ t) c.as_slice.ensures.value)

pub returns-in_err-ended-clause-text : goal.returns-in_err-ended-clause-text
returns-in_err-ended-clause-text c = IfOk-from_err _ _ c.from_residual.ensures.0

pub returns-in_err-ended-clause-broken : goal.returns-in_err-ended-clause-broken
returns-in_err-ended-clause-broken c = nothing _ _ _ _ [] _ _ c.from_residual.result refl

pub returns-in_err-push_text-clause-text : goal.returns-in_err-push_text-clause-text
returns-in_err-push_text-clause-text c = IfOk-from_err _ _ c.from_residual-in_err-push_text.ensures.0

pub returns-in_err-push_text-clause-broken : goal.returns-in_err-push_text-clause-broken
returns-in_err-push_text-clause-broken c = nothing _ _ _ _ [] _ _ c.from_residual-in_err-push_text.result c.in_err-push_text.ensures.err
