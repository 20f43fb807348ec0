-- Something is known of each key.
use Rattle.std.proofs.lemmas.Slice.Zip.{AllZip-long}
use Rattle.kmip_client.specs.Private.{IsShaped}
use Rattle.kmip_client.proofs.client.Client.verdicts.Goals as goal

pub all_verdicts-requires : goal.all_verdicts-requires
all_verdicts-requires c =
    rw (c.as_slice.ensures.value, c.keys.ensures.value) (AllZip-long IsShaped c.self.inside.plan.now c.self.inside.knowns.items c.self.invariant.0.each)
