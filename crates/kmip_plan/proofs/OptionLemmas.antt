-- A value that there is not.
use Rattle.std.proofs.Common.{◌≡◌, Option, Some, None}

abbrev none : (A : Type 0) → Option A
none A = None

abbrev some : (A : Type 0) → A → Option A
some A a = Some a

pub not_some : {A X : Type 0} (a : A) → none A ≡ some A a → X
not_some a is = absurd cc
