-- As many as before, once the last was taken away.
use Rattle.kmip_server.proofs.batching.refuse_last.Goals as goal

pub write_with-requires-clause-some : goal.write_with-requires-clause-some
write_with-requires-clause-some c = c.take_back.ensures.count c.requires.some
