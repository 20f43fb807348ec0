-- Who has not given up.
use Rattle.std.proofs.Common.{◌≡◌, Bool, true, false, not, IsTrue, refl}

-- who goes on has not given up, and had not before
pub still_patient : (was is goes : Bool) → goes ≡ true → goes ≡ not is → (IsTrue was → IsTrue is) → is ≡ was
still_patient true true goes on says stays = refl
still_patient false false goes on says stays = refl
still_patient true false goes on says stays = let both = stays refl in absurd cc
still_patient false true goes on says stays = absurd cc
