-- A crash is noted as what ends the run.
use Rattle.std.proofs.Common.{◌++◌, [], ◌∷◌, false, Some, ap, sym, ◌∙◌, append_assoc}
use Rattle.kmip_scripted.specs.Runs.{crashes_from}
use Rattle.kmip_scripted.proofs.crashing.note.Goals as goal

pub returns-in_ok-push-in-Crash : goal.returns-in_ok-push-in-Crash
returns-in_ok-push-in-Crash c = λ rest.
    ap (λ ends. ends ++ crashes_from false rest) c.in_ok-push-in-Crash.ensures.items
    ∙ append_assoc c.args.crashes.now.items (Some c.in-Crash.crash ∷ []) (crashes_from false rest)
    ∙ ap (λ w. c.args.crashes.now.items ++ crashes_from c.args.begun (w ∷ rest)) (sym c.in-Crash.is)
