-- Private: what the trait of links asks of a shared link.
-- Source: own (law).
use Rattle.std.specs.Prelude.{◌++◌, ◌∷◌, [], List, refl, ℕ}
use Rattle.std.proofs.Common.{subst}
use Rattle.kmip_company.specs.Sharing.{AreShared, GoesOn, Sharing}

-- Exchanges after which others are made.
shared_both : (first second : List (List ℕ)) (x y z : Sharing) → AreShared first x y → AreShared second y z → AreShared (first ++ second) x z
shared_both [] second x y z a b = subst (λ s. AreShared second s z) a b
shared_both (request ∷ first) second x y z a b = (a.0, a.1, a.2, shared_both first second a.1 y z a.3 b)

-- No call changes nothing.
pub goes_nowhere : (x : Sharing) → GoesOn x x
goes_nowhere x = record { requests = []; shared = refl }

-- What calls make of what calls made, all of them made.
pub goes_on_twice : (x y z : Sharing) → GoesOn x y → GoesOn y z → GoesOn x z
goes_on_twice x y z a b = record { requests = a.requests ++ b.requests; shared = shared_both a.requests b.requests x y z a.shared b.shared }
