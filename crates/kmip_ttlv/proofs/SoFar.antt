-- Reading items one after the other, as a loop does.
use Rattle.std.proofs.Common.{◌≡◌, ℕ, zero, suc, ◌+◌, ◌-◌, ◌≤◌, ◌<◌, Bool, true, false, eqb, List, [], ◌∷◌, ◌++◌, length, drop, Result, Ok, Err, refl, sym, ap, ◌∙◌, append_assoc, arith}
use Rattle.std.proofs.lemmas.List.{append-nil, length-append, length-drop, nil_from_length}
use Rattle.std.proofs.lemmas.Bool.{true≢false, eqb-true}
use Rattle.kmip_ttlv.specs.declared.ttlv_fault.TtlvFault.{TtlvFault}
use Rattle.kmip_ttlv.specs.declared.ttlv_fault.TtlvFault.TheVariants as faults
use Rattle.kmip_ttlv.specs.Node.{Node}
use Rattle.kmip_ttlv.specs.Binding.{◌>>=◌}
use Rattle.kmip_ttlv.specs.Reading.{FailsContent, Reader, all_at}

-- what was read before, and what is still read
abbrev pub with_front : List Node → Result (List Node) TtlvFault → Result (List Node) TtlvFault
with_front front read = read >>= λ ns. Ok (front ++ ns)

-- front was read of the bytes from at on; rest is left of them, from place on
pub record AreReadSoFar (reader : Reader) (at : ℕ) (bytes : List ℕ) (front : List Node) (place : ℕ) (rest : List ℕ) : Type 0 where
  pub read : with_front front (all_at reader (length bytes - length front) place rest) ≡ all_at reader (length bytes) at bytes
  pub most : length rest + length front ≤ length bytes
  pub place_is : place + length rest ≡ at + length bytes

with_nothing : (read : Result (List Node) TtlvFault) → with_front [] read ≡ read
with_nothing (Ok ns) = refl
with_nothing (Err e) = refl

pub none_read : (reader : Reader) (at : ℕ) (bytes : List ℕ) → AreReadSoFar reader at bytes [] at bytes
none_read reader at bytes = record {
  read = let all : length bytes - 0 ≡ length bytes = omega arith in rw all (with_nothing (all_at reader (length bytes) at bytes));
  most = omega arith;
  place_is = refl;
}

regroup : (front : List Node) (n : Node) (read : Result (List Node) TtlvFault) → with_front front (read >>= λ ns. Ok (n ∷ ns)) ≡ with_front (front ++ n ∷ []) read
regroup front n (Ok ns) = ap (λ (ms : List Node). Ok ms) (sym (append_assoc front (n ∷ []) ns))
regroup front n (Err f) = refl

-- one item of a rest that is not empty
pub one_at : (reader : Reader) (most place : ℕ) (rest : List ℕ) → 0 < length rest → 0 < most
    → all_at reader most place rest ≡ (reader place rest >>= λ first. all_at reader (most - 1) (place + first.1) (drop first.1 rest) >>= λ others. Ok (first.0 ∷ others))
unfolding all_at
one_at reader zero place rest full some = absurd (omega arith)
one_at reader (suc most) place [] full some = absurd (omega arith)
one_at reader (suc most) place (b ∷ bs) full some =
    let e : suc most - 1 ≡ most = omega arith in rw e refl

pub one_read : (reader : Reader) (at : ℕ) (bytes : List ℕ) (front : List Node) (place : ℕ) (rest : List ℕ) (n : Node) (size : ℕ)
    → AreReadSoFar reader at bytes front place rest → 0 < length rest → 0 < size → size ≤ length rest → reader place rest ≡ Ok (n, size)
    → AreReadSoFar reader at bytes (front ++ n ∷ []) (place + size) (drop size rest)
one_read reader at bytes front place rest n size so_far full some fits is =
    let left = length bytes - length front in
    let fewer : left - 1 ≡ length bytes - length (front ++ n ∷ []) = omega (arith, length-append front (n ∷ []), so_far.most) in
    let next : all_at reader left place rest ≡ (all_at reader (length bytes - length (front ++ n ∷ [])) (place + size) (drop size rest) >>= λ others. Ok (n ∷ others)) =
    one_at reader left place rest full (omega (arith, so_far.most)) ∙ rw (is, fewer) refl in
    record {
      read =
          sym (regroup front n (all_at reader (length bytes - length (front ++ n ∷ [])) (place + size) (drop size rest)))
          ∙ ap (with_front front) (sym next) ∙ so_far.read;
      most = omega (arith, so_far.most, length-append front (n ∷ []), length-drop size rest);
      place_is = omega (arith, so_far.place_is, length-drop size rest);
    }

stops : (reader : Reader) (at : ℕ) (bytes : List ℕ) (front : List Node) (place : ℕ) (rest : List ℕ) (e : TtlvFault)
    → AreReadSoFar reader at bytes front place rest → 0 < length rest → reader place rest ≡ Err e → all_at reader (length bytes) at bytes ≡ Err e
stops reader at bytes front place rest e so_far full fails =
    let left = length bytes - length front in
    let here : all_at reader left place rest ≡ Err e = one_at reader left place rest full (omega (arith, so_far.most)) ∙ rw fails refl in
    sym so_far.read ∙ ap (with_front front) here

pub one_fails : (reader : Reader) (at : ℕ) (bytes : List ℕ) (front : List Node) (place : ℕ) (rest : List ℕ) (e : TtlvFault)
    → AreReadSoFar reader at bytes front place rest → 0 < length rest → FailsContent e (reader place rest) → FailsContent e (all_at reader (length bytes) at bytes)
one_fails reader at bytes front place rest faults.NoMemory so_far full fails = tt
one_fails reader at bytes front place rest e so_far full fails = stops reader at bytes front place rest e so_far full fails

pub none_left : (reader : Reader) (most place : ℕ) → all_at reader most place [] ≡ Ok []
unfolding all_at
none_left reader zero place = refl
none_left reader (suc most) place = refl

pub all_read : (reader : Reader) (at : ℕ) (bytes : List ℕ) (front : List Node) (place : ℕ) (rest : List ℕ)
    → AreReadSoFar reader at bytes front place rest → length rest ≡ 0 → all_at reader (length bytes) at bytes ≡ Ok front
all_read reader at bytes front place rest so_far empty =
    let left = length bytes - length front in
    let here : all_at reader left place rest ≡ Ok [] = ap (all_at reader left place) (nil_from_length rest empty) ∙ none_left reader left place in
    sym so_far.read ∙ ap (with_front front) here ∙ ap (λ (ns : List Node). Ok ns) (append-nil front)

-- what an emptiness test says
pub is_full : (b : Bool) (n : ℕ) → b ≡ eqb n 0 → b ≡ false → 0 < n
is_full b zero is f = absurd (true≢false (sym is ∙ f))
is_full b (suc n) is f = omega arith

pub is_none : (b : Bool) (n : ℕ) → b ≡ eqb n 0 → b ≡ true → n ≡ 0
is_none b n is t = eqb-true n 0 (sym is ∙ t)
