-- Where a reply was lost, the writer failed.
use Rattle.std.proofs.Math.Facts.{to_z-of_z}
use Rattle.kmip_transport.proofs.ServingLemmas.{lost_is_io, serves_at}
use Rattle.kmip_transport.proofs.serving.serve_stream.Goals as goal

pub returns-in-Err : goal.returns-in-Err
returns-in-Err g c =
    serves_at _ _ _ _ _ _ _ _ _ (to_z-of_z c.ranges.now)
    (lost_is_io _ _ _ _ _ _ _ _ c.the_laws_of_sizes_hold.ensures.short c.in-Err.ensures.lost)
