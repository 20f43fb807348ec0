-- For lemma files above, which speak of ranges where no call stands near, so that no clause serves: the sizes of messages in
-- kmip_batch_items, and the identifiers of kmip_store and kmip_server.
use Rattle.std.proofs.Common.{◌≡◌, ℕ, ◌≤◌, true, List, length, refl, lit<, arith}
use Rattle.std.specs.Fmt.{decimal}
use Rattle.std.proofs.lemmas.Bool.{and_parts, leb-true, le-leb}
use Rattle.std.proofs.lemmas.Fmt.{decimal_nonempty, length-decimal-le}
use Rattle.kmip_objects.specs.Ranges.{is_name, is_identifier}

-- a name has at most 64 bytes
pub name_length : (s : List ℕ) → is_name s ≡ true → length s ≤ 64
name_length s h = leb-true _ _ (and_parts _ _ (and_parts _ _ h).0).1

-- an identifier has at most 64 bytes
pub uid_length : (s : List ℕ) → is_identifier s ≡ true → length s ≤ 64
uid_length s h = leb-true _ _ (and_parts _ _ h).1

-- the decimal number of a place is an identifier
pub decimal_identifier : (n : ℕ) → n ≤ 10000 → is_identifier (decimal n) ≡ true
decimal_identifier n h =
    let some : 1 ≤ length (decimal n) = decimal_nonempty n (omega (arith, h)) in
    let short : length (decimal n) ≤ 64 = omega (arith, length-decimal-le 5 n (lit< tt) (omega (arith, h)) (omega (arith, h))) in
    rw (le-leb 1 (length (decimal n)) some, le-leb (length (decimal n)) 64 short) refl
