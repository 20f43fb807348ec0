-- A reply that is learnt from takes nothing back, and neither does a loss.
use Rattle.std.proofs.Common.{ap}
use Rattle.kmip_client.specs.Clients.{ClientState}
use Rattle.kmip_runs.proofs.GoodLemmas.{keeps_then}
use Rattle.kmip_runs.proofs.driving.hear.Goals as goal

pub returns-in-Ok-clause-kept : goal.returns-in-Ok-clause-kept
returns-in-Ok-clause-kept g c =
    keeps_then c.args.client.now c.hear.new.self c.lose_unanswered.new.client
    (record {
      keys_stay = ap (λ (s : ClientState). s.keys) c.hear.ensures.stays;
      batch_stays = ap (λ (s : ClientState). s.batch) c.hear.ensures.stays;
      kept = c.hear.ensures.kept;
    })
    c.lose_unanswered.ensures.kept
