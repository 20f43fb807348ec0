-- It is made of the progress, which suits the plan.
use Rattle.std.proofs.Common.{ap}
use Rattle.kmip_client.specs.Clients.{ClientState}
use Rattle.kmip_client.proofs.KeepingUpLemmas.{text_made}
use Rattle.kmip_client.proofs.client.Client.saved_text.Goals as goal

pub returns : goal.returns
returns c =
    let made = c.in_ok-progress.ensures in
    text_made c.args.self.now c.self.inside.plan.now c.in_ok-progress.progress c.new.result
    (ap (λ (s : ClientState). s.keys) c.self.view_is) made.progress made.suits c.new.ensures.saved c.new.ensures.utf8
