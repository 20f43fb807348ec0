-- The lines before the last one.
use Rattle.std.proofs.Common.{◌≡◌, ◌==◌, ◌≤◌, ℕ, true, false, List, [], ◌∷◌, ◌++◌, length, map, Option, Some, None, option_map, refl, sym, ◌∙◌, ap, arith}
use Rattle.std.proofs.lemmas.Bool.{ne_eqb}
use Rattle.std.proofs.lemmas.List.{append_assoc, map-append}
use Rattle.kmip_progress.specs.Reading.{body_of}
use Rattle.kmip_progress.proofs.WordLemmas.{same_some, not_some}

-- a line before
abbrev onto : List ℕ → List (List ℕ) × List ℕ → List (List ℕ) × List ℕ
onto line b = (line ∷ b.0, b.1)

-- a line before two others is no last one
before : (line : List ℕ) (lines : List (List ℕ)) → 2 ≤ length lines → body_of (line ∷ lines) ≡ option_map (onto line) (body_of lines)
before line [] many = refl
before line ([] ∷ []) many = absurd (omega (arith, many))
before line ([] ∷ next ∷ lines) many = refl
before line ((byte ∷ bytes) ∷ lines) many = refl

two_more : (body : List (List ℕ)) (a b : List ℕ) → 2 ≤ length (body ++ a ∷ b ∷ [])
two_more [] a b = omega arith
two_more (line ∷ body) a b = omega (arith, two_more body a b)

pub body_here : (body : List (List ℕ)) (end : List ℕ) → body_of (body ++ end ∷ [] ∷ []) ≡ Some (body, end)
body_here [] end = refl
body_here (line ∷ body) end = before line (body ++ end ∷ [] ∷ []) (two_more body end []) ∙ ap (option_map (onto line)) (body_here body end)

pub no_body : (lines : List (List ℕ)) (byte : ℕ) (rest : List ℕ) → body_of (lines ++ (byte ∷ rest) ∷ []) ≡ None
no_body [] byte rest = refl
no_body (line ∷ []) byte rest = refl
no_body (line ∷ next ∷ []) byte rest =
    before line (next ∷ (byte ∷ rest) ∷ []) (omega arith) ∙ ap (option_map (onto line)) (no_body (next ∷ []) byte rest)
no_body (line ∷ next ∷ third ∷ lines) byte rest =
    before line (next ∷ third ∷ lines ++ (byte ∷ rest) ∷ []) (omega arith) ∙ ap (option_map (onto line)) (no_body (next ∷ third ∷ lines) byte rest)

not_empty : (lines : List (List ℕ)) (last : List ℕ) → false ≡ (length last == 0) → None ≡ body_of (lines ++ last ∷ [])
not_empty lines [] not = absurd cc
not_empty lines (byte ∷ bytes) not = sym (no_body lines byte bytes)

empty : (last : List ℕ) → true ≡ (length last == 0) → last ≡ []
empty [] is = refl
empty (byte ∷ bytes) is = let apart : (length (byte ∷ bytes) == 0) ≡ false = ne_eqb (length (byte ∷ bytes)) 0 (λ e. omega arith) in absurd cc

-- the same of lines that are seen by a view
pub not_ended : {A : Type 0} (view : A → List ℕ) (lines front : List A) (last : A) → lines ≡ front ++ last ∷ []
    → false ≡ (length (view last) == 0) → None ≡ body_of (map view lines)
not_ended view lines front last is not =
    not_empty (map view front) (view last) not ∙ sym (ap (λ l. body_of (map view l)) is ∙ ap body_of (map-append view front (last ∷ [])))

pub ended : {A : Type 0} (view : A → List ℕ) (lines front body : List A) (last end : A) → lines ≡ front ++ last ∷ [] → front ≡ body ++ end ∷ []
    → true ≡ (length (view last) == 0) → Some (map view body, view end) ≡ body_of (map view lines)
ended view lines front body last end is behind nothing =
    sym (
    ap (λ l. body_of (map view l)) (is ∙ ap (λ l. l ++ last ∷ []) behind ∙ append_assoc body (end ∷ []) (last ∷ []))
    ∙ ap body_of (map-append view body (end ∷ last ∷ []))
    ∙ ap (λ rest. body_of (map view body ++ view end ∷ rest ∷ [])) (empty (view last) nothing)
    ∙ body_here (map view body) (view end))

-- the lines that were found are there
onto_found : (line : List ℕ) (o : Option (List (List ℕ) × List ℕ)) (body : List (List ℕ)) (end : List ℕ) → option_map (onto line) o ≡ Some (body, end)
    → (b : List (List ℕ) × List ℕ) × (o ≡ Some b) × (line ∷ b.0 ≡ body) × (b.1 ≡ end)
onto_found line None body end is = absurd cc
onto_found line (Some b) body end is =
    let same = same_some (line ∷ b.0, b.1) (body, end) is in
    (b, refl, ap (λ (p : List (List ℕ) × List ℕ). p.0) same, ap (λ (p : List (List ℕ) × List ℕ). p.1) same)

pub body_found : (lines body : List (List ℕ)) (end : List ℕ) → body_of lines ≡ Some (body, end) → lines ≡ body ++ end ∷ [] ∷ []
body_found [] body end is = not_some (body, end) is
body_found (line ∷ []) body end is = not_some (body, end) is
body_found (line ∷ [] ∷ []) body end is =
    let same = same_some ([], line) (body, end) is in
    (λ i. ((same i).0 ++ (same i).1 ∷ [] ∷ []))
body_found (line ∷ (b ∷ bs) ∷ []) body end is = not_some (body, end) is
body_found (line ∷ next ∷ third ∷ lines) body end is =
    let many = before line (next ∷ third ∷ lines) (omega arith) in
    let (b, found, body_is, end_is) = onto_found line (body_of (next ∷ third ∷ lines)) body end (sym many ∙ is) in
    ap (λ l. line ∷ l) (body_found (next ∷ third ∷ lines) b.0 b.1 found) ∙ (λ i. (body_is i ++ end_is i ∷ [] ∷ []))
