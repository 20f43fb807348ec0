-- The exchange of the link in memory.
use Rattle.std.proofs.Common.{Err, refl, subst}
use Rattle.kmip_company.specs.Sharing.{Sharing, past_of}
use Rattle.kmip_protocol.specs.Amid.{ExchangedAmid, with_talk}
use Rattle.kmip_protocol.specs.Past.{is_planned}
use Rattle.kmip_protocol.specs.declared.link_fault.LinkFault.TheVariants.{NoMemory}
use Rattle.kmip_scripted.specs.Scenes.{past_in}
use Rattle.kmip_company.proofs.SharedLemmas.{on_err, wanting}
use Rattle.kmip_company.proofs.shared.Shared.talk.Goals as goal

pub returns-in_err-answer-clause-unmade : goal.returns-in_err-answer-clause-unmade
returns-in_err-answer-clause-unmade g c =
    on_err c.from_residual.result
    (λ keys.
    let old = past_in c.self.inside.link in
    let new = past_in c.follow.new.self in
    let request = c.args.request.now in
    let sent = c.self.inside.sent.items in
    let handed = c.self.inside.handed.items in
    subst (λ (s : Sharing). ExchangedAmid keys (past_of s) request (Err NoMemory) (with_talk sent handed new))
    c.self.view_is
    (wanting c.the_laws_amid_others_hold.ensures.blind keys old new request sent sent handed handed refl refl
    (c.the_laws_amid_others_hold.ensures.exchanges_amid keys old new request (Err NoMemory)
    (c.in_err-answer.ensures.want (is_planned keys)))))
