-- A failure is the last where it stops what is behind it.
use Rattle.std.proofs.Common.{◌≡◌, Bool, true, false, ◌&&◌, refl}
use Rattle.kmip_server.proofs.batching.is_last.Goals as goal

as_told : (stops : Bool) → stops ≡ (stops && true)
as_told true = refl
as_told false = refl

pub returns-in-Failed : goal.returns-in-Failed
returns-in-Failed c = rw c.in-Failed.is (as_told c.args.stops)
