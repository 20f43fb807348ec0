-- One step of reading after another, where each gives a value or a fault.
-- Source: own (order): the standard says no order of checks, and the first fault is to be named.
use Rattle.std.specs.Prelude.{Result, Ok, Err}

infixl 10 ◌>>=◌
-- The second step, of the value that the first gave; where the first gave a fault, that fault.
-- The reading functions of this crate and of the crates above are said with it.
abbrev pub ◌>>=◌ : {E A B : Type 0} → Result A E → (A → Result B E) → Result B E
(Ok x) >>= f = f x
(Err e) >>= f = Err e
