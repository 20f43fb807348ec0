-- All entries but the last are left.
use Rattle.kmip_store.proofs.IndexingLemmas.{popped_front}
use Rattle.kmip_store.proofs.places.take_back.Goals as goal

pub returns : goal.returns
returns c = popped_front c.args.places.now.entries c.pop.new.self.entries c.pop.result c.pop.ensures.entries c.pop.ensures.found
