-- For lemma files above: what a reading function reads, as a property of the value.
use Rattle.std.proofs.Common.{◌≡◌, Result, Ok, Err, refl, sym, ap, subst}
use Rattle.kmip_ttlv.specs.Binding.{◌>>=◌}

-- what is read has the property, and what has the property is read
pub record Reads {E A : Type 0} (r : Result A E) (P : A → Type 0) : Type 0 where
  pub sound : (a : A) → r ≡ Ok a → P a
  pub complete : (a : A) → P a → r ≡ Ok a

-- a value and a fault
abbrev pub ok : (E A : Type 0) → A → Result A E
ok E A a = Ok a

abbrev pub err : (E A : Type 0) → E → Result A E
err E A e = Err e

pub same_ok : {E A : Type 0} (x y : A) → ok E A x ≡ ok E A y → x ≡ y
same_ok x y e = cc

pub not_ok : {E A X : Type 0} (e : E) (a : A) → err E A e ≡ ok E A a → X
not_ok e a is = absurd cc

-- a value
pub reads-ok : {E A : Type 0} (x : A) → Reads (ok E A x) (λ a. x ≡ a)
reads-ok x = record { sound = λ a e. same_ok x a e; complete = λ a e. ap Ok e }

-- a step after a step, which may rest on what the first one gave
pub reads-bind_known : {E A B : Type 0} (r : Result A E) (f : A → Result B E) (P : A → Type 0) (Q : A → B → Type 0)
    → Reads r P → ((a : A) → P a → Reads (f a) (Q a)) → Reads (r >>= f) (λ b. (a : A) × P a × Q a b)
reads-bind_known (Ok x) f P Q h k = record {
  sound = λ b e. (x, h.sound x refl, (k x (h.sound x refl)).sound b e);
  complete = λ b p.
      let same : x ≡ p.0 = same_ok x p.0 (h.complete p.0 p.1) in
      (k x (h.sound x refl)).complete b (subst (λ a. Q a b) (sym same) p.2);
}
reads-bind_known (Err e) f P Q h k = record {
  sound = λ b is. not_ok e b is;
  complete = λ b p. not_ok e p.0 (h.complete p.0 p.1);
}

-- a step after a step
pub reads-bind : {E A B : Type 0} (r : Result A E) (f : A → Result B E) (P : A → Type 0) (Q : A → B → Type 0)
    → Reads r P → ((a : A) → Reads (f a) (Q a)) → Reads (r >>= f) (λ b. (a : A) × P a × Q a b)
reads-bind r f P Q h k = reads-bind_known r f P Q h (λ a p. k a)

-- the same in other words
pub reads-as : {E A : Type 0} (r : Result A E) (P Q : A → Type 0) → ((a : A) → P a → Q a) → ((a : A) → Q a → P a) → Reads r P → Reads r Q
reads-as r P Q there back h = record {
  sound = λ a e. there a (h.sound a e);
  complete = λ a q. h.complete a (back a q);
}
