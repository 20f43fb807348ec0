-- No more is counted than a chain has steps.
use Rattle.std.proofs.Common.{◌≡◌, subst}
use Rattle.kmip_client.specs.Clients.{ClientState}
use Rattle.kmip_client.specs.Verdicts.{AreWithin, counts_of}
use Rattle.kmip_client.proofs.CountLemmas.{shaped_within}
use Rattle.kmip_client.proofs.AskingLemmas.{if_ok}
use Rattle.kmip_client.proofs.client.Client.counts.Goals as goal

pub returns-clause-within : goal.returns-clause-within
returns-clause-within c =
    let inside = c.self.inside in
    if_ok (λ counts. counts.items ≡ counts_of c.as_slice.result.now) (λ counts. AreWithin c.args.self.now.keys counts.items) c.all_counts.result
    (λ counts is.
    rw (is, c.as_slice.ensures.value)
    (subst (λ (s : ClientState). AreWithin s.keys (counts_of inside.knowns.items)) c.self.view_is
    (shaped_within inside.plan.now inside.knowns.items c.self.invariant.0.each))) c.all_counts.ensures
