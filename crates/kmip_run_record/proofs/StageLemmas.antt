-- What a function sees of a list that changes, and what a client knows, key by key.
use Rattle.std.proofs.Common.{◌≡◌, ◌+◌, ◌<◌, ℕ, suc, List, [], ◌∷◌, length, drop, map, slice_set, refl, ap, sym, ◌∙◌, arith, zero, get_or}
use Rattle.kmip_client.specs.Clients.{ClientState}
use Rattle.kmip_plan.specs.declared.key.Key.{Key}
use Rattle.kmip_run_record.specs.RunFindings.{FindingsState, begun_from, known_at, known_from}
use Rattle.kmip_run_record.specs.Stages.{known_stage}
use Rattle.kmip_run_record.specs.Stories.{begun}

-- the function's values stay, if the new element has that of the old one
pub map_set : {A B : Type 0} (f : A → B) (xs : List A) (i : ℕ) (x y : A) → x ≡ get_or xs i x → f y ≡ f x → map f (slice_set xs i y) ≡ map f xs
map_set f [] i x y there same = refl
map_set f (z ∷ zs) zero x y there same = cc
map_set f (z ∷ zs) (suc i) x y there same = ap (λ rest. f z ∷ rest) (map_set f zs i x y there same)

-- what is left begins with the element at the place
first_left : {A : Type 0} (xs : List A) (i : ℕ) → i < length xs → (x : A) × (drop i xs ≡ x ∷ drop (suc i) xs)
first_left [] i within = absurd (omega arith)
first_left (x ∷ xs) zero within = (x, refl)
first_left (x ∷ xs) (suc i) within = first_left xs i (omega arith)

-- the same, with the next place as code has it
one_more : {A : Type 0} (xs : List A) (i : ℕ) → i < length xs → (x : A) × (drop i xs ≡ x ∷ drop (i + 1) xs)
one_more xs i within =
    let left = first_left xs i within in
    let next : suc i ≡ i + 1 = omega arith in
    (left.0, left.1 ∙ ap (λ n. left.0 ∷ drop n xs) next)

-- what a client knows of one key more is taken in
pub known_more : (client : ClientState) (place : ℕ) (keys : List Key) (findings : FindingsState) → place < length keys
    → known_from client place (drop place keys) findings ≡ known_from client (place + 1) (drop (place + 1) keys) (known_at client findings place)
known_more client place keys findings within =
    ap (λ left. known_from client place left findings) (one_more keys place within).1

-- the story of one key more begins
pub begun_more : (client : ClientState) (place : ℕ) (keys : List Key) → place < length keys
    → begun_from client place (drop place keys) ≡ begun (known_stage client place) ∷ begun_from client (place + 1) (drop (place + 1) keys)
begun_more client place keys within = ap (begun_from client place) (one_more keys place within).1
