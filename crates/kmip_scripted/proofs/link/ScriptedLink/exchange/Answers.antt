-- The counts stay until an exchange is handed over; and where no word is left, and the server has room, then too. An
-- exchange ends no run.
use Rattle.std.proofs.Common.{Err, Ok, ap, option_map, refl, subst, ◌∙◌}
use Rattle.kmip_protocol.specs.Clean.{IsRoomy}
use Rattle.kmip_protocol.specs.Past.{is_planned}
use Rattle.kmip_protocol.specs.declared.link_fault.LinkFault.TheVariants.{NoMemory}
use Rattle.kmip_scripted.specs.Scenes.{disturbances_in, past_in}
use Rattle.kmip_scripted.proofs.CallLemmas.{follows_exchange}
use Rattle.kmip_scripted.proofs.CountLemmas.{calm_is_kept, exchange_begun_keeps, no_fewer}
use Rattle.kmip_scripted.proofs.EndingLemmas.{begun_ended, exchange_ended}
use Rattle.kmip_scripted.proofs.link.ScriptedLink.exchange.Goals as goal

pub returns-in-Ok-clause-undisturbed : goal.returns-in-Ok-clause-undisturbed
returns-in-Ok-clause-undisturbed g c = λ names none roomy.
    ap disturbances_in c.in-Ok.ensures.exact
    ∙ calm_is_kept c.args.request.now c.args.self.now none
    (subst (λ answer. IsRoomy (Ok answer)) c.in-Ok.ensures.answer roomy)

pub returns-in-Err-clause-disturbed : goal.returns-in-Err-clause-disturbed
returns-in-Err-clause-disturbed g c = λ names.
    no_fewer c.args.self.now c.follow.new.self
    (exchange_begun_keeps c.args.request.now c.args.self.now c.follow.new.self c.in-Err.ensures.begun)

pub returns-in-Ok-clause-ended : goal.returns-in-Ok-clause-ended
returns-in-Ok-clause-ended g c =
    exchange_ended c.args.request.now c.args.self.now c.follow.new.self c.in-Ok.ensures.exact

pub returns-in-Err-clause-ended : goal.returns-in-Err-clause-ended
returns-in-Err-clause-ended g c =
    begun_ended c.args.request.now c.args.self.now c.follow.new.self c.in-Err.ensures.begun

pub returns-in-Ok-clause-followed : goal.returns-in-Ok-clause-followed
returns-in-Ok-clause-followed g c =
    λ memory. follows_exchange c.args.request.now c.args.self.now c.follow.new.self c.in-Ok.ensures.exact

pub returns-in-Err-clause-followed : goal.returns-in-Err-clause-followed
returns-in-Err-clause-followed g c = λ memory. absurd (memory refl)

pub returns-in-Ok-clause-amid : goal.returns-in-Ok-clause-amid
returns-in-Ok-clause-amid g c = λ keys.
    c.the_laws_amid_others_hold.ensures.exchanges_amid keys (past_in c.args.self.now) (past_in c.follow.new.self)
    c.args.request.now
    (Ok (option_map (λ v. v.items) c.in-Ok.answer)) (c.in-Ok.ensures.hands (is_planned keys))

pub returns-in-Err-clause-amid : goal.returns-in-Err-clause-amid
returns-in-Err-clause-amid g c = λ keys.
    c.the_laws_amid_others_hold.ensures.exchanges_amid keys (past_in c.args.self.now) (past_in c.follow.new.self)
    c.args.request.now (Err NoMemory)
    (c.in-Err.ensures.want (is_planned keys))
