-- The end of a run counts nothing.
use Rattle.std.proofs.Common.{true, ap, refl, ◌∙◌}
use Rattle.kmip_protocol.specs.Past.{is_planned}
use Rattle.kmip_scripted.specs.Scenes.{disturbances_in, past_in}
use Rattle.kmip_scripted.proofs.CallLemmas.{follows_end}
use Rattle.kmip_scripted.proofs.CountLemmas.{begun_keep, run_keeps}
use Rattle.kmip_scripted.proofs.link.ScriptedLink.end_run.Goals as goal

pub returns-in-Ok-clause-undisturbed : goal.returns-in-Ok-clause-undisturbed
returns-in-Ok-clause-undisturbed g c = ap disturbances_in c.in-Ok.ensures.exact ∙ run_keeps c.args.self.now

pub returns-in-Err-clause-undisturbed : goal.returns-in-Err-clause-undisturbed
returns-in-Err-clause-undisturbed g c =
    begun_keep true c.args.self.now.words c.args.self.now c.finish_run.new.self c.in-Err.ensures.begun

pub returns-in-Ok-clause-followed : goal.returns-in-Ok-clause-followed
returns-in-Ok-clause-followed g c = λ memory. follows_end c.args.self.now c.finish_run.new.self c.in-Ok.ensures.exact

pub returns-in-Err-clause-followed : goal.returns-in-Err-clause-followed
returns-in-Err-clause-followed g c = λ memory. absurd (memory refl)

pub returns-in-Ok-clause-amid : goal.returns-in-Ok-clause-amid
returns-in-Ok-clause-amid g c = λ keys.
    c.the_laws_amid_others_hold.ensures.deliveries_amid keys (past_in c.args.self.now) (past_in c.finish_run.new.self)
    (c.finish_run.ensures.delivered (is_planned keys))

pub returns-in-Err-clause-amid : goal.returns-in-Err-clause-amid
returns-in-Err-clause-amid g c = λ keys.
    c.the_laws_amid_others_hold.ensures.deliveries_amid keys (past_in c.args.self.now) (past_in c.finish_run.new.self)
    (c.finish_run.ensures.delivered (is_planned keys))
