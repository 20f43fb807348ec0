-- One key more of those that the file knows, and of what the server said about them.
use Rattle.std.proofs.Common.{◌≡◌, ◌<◌, ℕ, suc, ◌+◌, get_or, drop, append_assoc, true, false, List, [], ◌∷◌, ◌++◌, length, refl, sym, ap, ◌∙◌, arith, if◌then◌else◌}
use Rattle.std.proofs.lemmas.List.{drop_more}
use Rattle.std.specs.Option.{is_some}
use Rattle.kmip_plan.specs.declared.key.Key.{Key}
use Rattle.kmip_progress.specs.declared.known.Known.{Known}
use Rattle.kmip_look.specs.declared.looked.Looked.{Looked}
use Rattle.kmip_refresh.specs.KnownKeys.{KnownKey, judged_look, keys_of, known_from, looks_judged}
use Rattle.kmip_refresh.specs.Refreshing.{lookeds_of}
use Rattle.kmip_refresh.specs.declared.key_look.KeyLook.{KeyLook}

parted : {A : Type 0} (xs : List A) (place : ℕ) (x : A) → place < length xs → x ≡ get_or xs place x → drop place xs ≡ x ∷ drop (place + 1) xs
parted xs place x inside is = drop_more xs place x inside ∙ ap (λ y. y ∷ drop (place + 1) xs) (sym is)

-- what is left at a place is the key there, if an identifier of it is known, and what is left after it
both_parted : (keys : List Key) (known : List Known) (place : ℕ) (key : Key) (here : Known) → place < length keys → length known ≡ length keys
    → key ≡ get_or keys place key → here ≡ get_or known place here
    → known_from place (drop place keys) (drop place known) ≡ known_from place (key ∷ drop (place + 1) keys) (here ∷ drop (place + 1) known)
both_parted keys known place key here inside many is at =
    ap (λ ks. known_from place ks (drop place known)) (parted keys place key inside is)
    ∙ ap (λ ls. known_from place (key ∷ drop (place + 1) keys) ls) (parted known place here (omega (arith, inside, many)) at)

pub one_known : (keys : List Key) (known : List Known) (place : ℕ) (key : Key) (here : Known) → place < length keys → length known ≡ length keys
    → key ≡ get_or keys place key → here ≡ get_or known place here → is_some here.identifier ≡ true
    → known_from place (drop place keys) (drop place known)
    ≡ record { place = place; key = key; known = here } ∷ known_from (place + 1) (drop (place + 1) keys) (drop (place + 1) known)
one_known keys known place key here inside many is at some =
    let left : List KnownKey = known_from (place + 1) (drop (place + 1) keys) (drop (place + 1) known) in
    let first : KnownKey = record { place = place; key = key; known = here } in
    both_parted keys known place key here inside many is at ∙ ap (λ b. if b then first ∷ left else left) some

pub none_known : (keys : List Key) (known : List Known) (place : ℕ) (key : Key) (here : Known) → place < length keys → length known ≡ length keys
    → key ≡ get_or keys place key → here ≡ get_or known place here → is_some here.identifier ≡ false
    → known_from place (drop place keys) (drop place known) ≡ known_from (place + 1) (drop (place + 1) keys) (drop (place + 1) known)
none_known keys known place key here inside many is at none =
    let left : List KnownKey = known_from (place + 1) (drop (place + 1) keys) (drop (place + 1) known) in
    let first : KnownKey = record { place = place; key = key; known = here } in
    both_parted keys known place key here inside many is at ∙ ap (λ b. if b then first ∷ left else left) none

-- ---- the keys are copied

pub copied_one : (known more : List KnownKey) (first : KnownKey) (copies new all : List Key) (copy : Key) → known ≡ first ∷ more → copy ≡ first.key
    → new ≡ copies ++ copy ∷ [] → copies ++ keys_of known ≡ all → new ++ keys_of more ≡ all
copied_one known more first copies new all copy is same grown before =
    ap (λ ks. ks ++ keys_of more) grown ∙ append_assoc copies (copy ∷ []) (keys_of more)
    ∙ ap (λ k. copies ++ (k ∷ keys_of more)) same ∙ ap (λ ks. copies ++ keys_of ks) (sym is) ∙ before

pub copied_none : (known more : List KnownKey) (copies new all : List Key) → known ≡ more → new ≡ copies → copies ++ keys_of known ≡ all
    → new ++ keys_of more ≡ all
copied_none known more copies new all is same before = ap (λ ks. ks ++ keys_of more) same ∙ ap (λ ks. copies ++ keys_of ks) (sym is) ∙ before

-- ---- the answers are judged

pub judged_one : (known more : List KnownKey) (first : KnownKey) (rest left : List Looked) (looked : Looked) (looks new all : List KeyLook)
    → known ≡ first ∷ more → rest ≡ looked ∷ left → new ≡ looks ++ judged_look first looked ∷ []
    → looks ++ looks_judged known rest ≡ all → new ++ looks_judged more left ≡ all
judged_one known more first rest left looked looks new all is at grown before =
    ap (λ ls. ls ++ looks_judged more left) grown ∙ append_assoc looks (judged_look first looked ∷ []) (looks_judged more left)
    ∙ ap (λ ks. looks ++ looks_judged ks (looked ∷ left)) (sym is) ∙ ap (λ ls. looks ++ looks_judged known ls) (sym at) ∙ before

pub judged_none : (known more : List KnownKey) (rest : List Looked) (looks new all : List KeyLook) → known ≡ more → new ≡ looks
    → looks ++ looks_judged known rest ≡ all → new ++ looks_judged more rest ≡ all
judged_none known more rest looks new all is same before =
    ap (λ ls. ls ++ looks_judged more rest) same ∙ ap (λ ks. looks ++ looks_judged ks rest) (sym is) ∙ before

-- ---- what was judged is what the server said

pub lookeds_stay : (known : List KnownKey) (lookeds : List Looked) → length lookeds ≡ length known → lookeds_of (looks_judged known lookeds) ≡ lookeds
lookeds_stay [] [] many = refl
lookeds_stay [] (looked ∷ lookeds) many = absurd (omega (arith, many))
lookeds_stay (k ∷ known) [] many = absurd (omega (arith, many))
lookeds_stay (k ∷ known) (looked ∷ lookeds) many = ap (λ ls. looked ∷ ls) (lookeds_stay known lookeds (omega (arith, many)))

pub as_many_keys : (known : List KnownKey) → length (keys_of known) ≡ length known
as_many_keys [] = refl
as_many_keys (k ∷ known) = ap suc (as_many_keys known)
