-- The requests of a part: they have a written form, and are looks.
use Rattle.std.proofs.Common.{◌≡◌, ◌≤◌, ◌<◌, ℕ, ◌+◌, get_or, drop, append_assoc, true, false, ◌&&◌, nat_le, List, [], ◌∷◌, ◌++◌, length, refl, sym, ap, subst, ◌∙◌, inl, inr, arith, if◌then◌else◌}
use Rattle.std.specs.Bool.{⊤}
use Rattle.std.proofs.lemmas.Bool.{and_from, and_parts, cases_Bool, le-leb, leb-true}
use Rattle.std.proofs.lemmas.List.{drop_more, length-append}
use Rattle.std.proofs.lemmas.List.Elements.{All-cons, All-head, All-nil, All-tail}
use Rattle.std.specs.List.{All, Contains, list_all}
use Rattle.std.specs.Option.{unwrap_or}
use Rattle.kmip_objects.specs.Ranges.{attrs_fit, is_algorithm, is_identifier, is_length, is_name, is_name_byte, is_usage}
use Rattle.kmip_batch_items.specs.Ranges.{is_batch_id}
use Rattle.kmip_batch_items.specs.RequestFits.{ask_fits, request_fits}
use Rattle.kmip_batch_items.specs.declared.request.Request.{Request}
use Rattle.kmip_messages.specs.Members.{may_have}
use Rattle.kmip_messages.specs.Written.{requests_fit}
use Rattle.kmip_plan.specs.Plans.{key_fits, reason_fits}
use Rattle.kmip_plan.specs.declared.key.Key.{Key}
use Rattle.kmip_look.specs.Looks.{IsLook}
use Rattle.kmip_look.specs.PrivateAsking.{ask_of, id_of, is_asked, part_number, request_of, requests_of}
use Rattle.kmip_look.specs.PrivateKeeping as keeping
use Rattle.kmip_look.specs.PrivateKeeping.{AreFit, AreShaped, IsAt}
use Rattle.kmip_look.specs.declared.looked.Looked.{Looked}
use Rattle.kmip_look.specs.declared.part.Part.{Part}
use Rattle.kmip_look.specs.declared.part.Part.TheVariants.{Find, Tell}
use Rattle.kmip_look.proofs.HeardLemmas.{told_is_not_asked, unheard_not_told}

-- ---- in their ranges

pub name_of : (key : Key) → key_fits key ≡ true → is_name key.attrs.name ≡ true
name_of key fits =
    (and_parts (is_name key.attrs.name) (is_algorithm key.attrs.algorithm)
    (and_parts (is_name key.attrs.name && is_algorithm key.attrs.algorithm) (is_length key.attrs.algorithm key.attrs.length)
    (and_parts (is_name key.attrs.name && is_algorithm key.attrs.algorithm && is_length key.attrs.algorithm key.attrs.length) (is_usage key.attrs.usage)
    (and_parts (attrs_fit key.attrs) (reason_fits key.target key.reason) fits).0).0).0).0

name_length : (name : List ℕ) → is_name name ≡ true → length name ≤ 64
name_length name fits = leb-true (length name) 64
    (and_parts (nat_le 1 (length name)) (nat_le (length name) 64)
    (and_parts (nat_le 1 (length name) && nat_le (length name) 64) (list_all is_name_byte name) fits).0).1

id_fits : (part : Part) (mark : List ℕ) (key : Key) → length mark ≤ 16 → key_fits key ≡ true → is_batch_id (id_of part mark key) ≡ true
id_fits part mark key few fits =
    let short : length key.attrs.name ≤ 64 = name_length key.attrs.name (name_of key fits) in
    let both = length-append mark key.attrs.name in
    le-leb (length (part_number part ∷ (mark ++ key.attrs.name))) 128 (omega (arith, short, both, few))

asked_fits : (part : Part) (mark : List ℕ) (key : Key) (looked : Looked) → length mark ≤ 16 → key_fits key ≡ true → is_asked part looked ≡ true
    → IsAt ⊤ (λ uid. ⊤) (λ looked. ⊤) looked → request_fits (request_of part mark key looked) ≡ true
asked_fits Find mark key looked few fits asked at =
    and_from (is_batch_id (id_of Find mark key)) (ask_fits (ask_of Find key looked.known)) (id_fits Find mark key few fits) (name_of key fits)
asked_fits Tell mark key looked few fits asked (keeping.unheard u known shown) = absurd (unheard_not_told looked known asked)
asked_fits Tell mark key looked few fits asked (keeping.found {uid = uid} in_range f known shown) =
    and_from (is_batch_id (id_of Tell mark key)) (ask_fits (ask_of Tell key looked.known)) (id_fits Tell mark key few fits)
    (subst (λ k. is_identifier (unwrap_or k.identifier []) ≡ true) (sym known) in_range)
asked_fits Tell mark key looked few fits asked (keeping.told told so) = absurd (told_is_not_asked Tell looked told asked)

all_fit : (part : Part) (mark : List ℕ) (keys : List Key) (lookeds : List Looked) → length mark ≤ 16 → AreFit keys → AreShaped keys lookeds
    → list_all request_fits (requests_of part mark keys lookeds) ≡ true
all_fit part mark [] lookeds few fits at = refl
all_fit part mark (key ∷ keys) [] few fits at = refl
all_fit part mark (key ∷ keys) (looked ∷ lookeds) few fits at =
    let request : Request = request_of part mark key looked in
    let more : List Request = requests_of part mark keys lookeds in
    let rest : list_all request_fits more ≡ true = all_fit part mark keys lookeds few (All-tail (λ (k : Key). key_fits k ≡ true) key keys fits) at.1 in
    elim (cases_Bool (is_asked part looked)) [
      | inl asked ↦ subst (λ b. list_all request_fits (if b then request ∷ more else more) ≡ true) (sym asked)
          (and_from (request_fits request) (list_all request_fits more)
          (asked_fits part mark key looked few (All-head (λ (k : Key). key_fits k ≡ true) key keys fits) asked at.0) rest)
      | inr idle ↦ subst (λ b. list_all request_fits (if b then request ∷ more else more) ≡ true) (sym idle) rest
    ]

no_more : (part : Part) (mark : List ℕ) (keys : List Key) (lookeds : List Looked) → length (requests_of part mark keys lookeds) ≤ length keys
no_more part mark [] lookeds = omega arith
no_more part mark (key ∷ keys) [] = omega arith
no_more part mark (key ∷ keys) (looked ∷ lookeds) =
    let request : Request = request_of part mark key looked in
    let more : List Request = requests_of part mark keys lookeds in
    let rest : length more ≤ length keys = no_more part mark keys lookeds in
    elim (cases_Bool (is_asked part looked)) [
      | inl asked ↦ subst (λ b. length (if b then request ∷ more else more) ≤ length (key ∷ keys)) (sym asked) (omega (arith, rest))
      | inr idle ↦ subst (λ b. length (if b then request ∷ more else more) ≤ length (key ∷ keys)) (sym idle) (omega (arith, rest))
    ]

pub written : (part : Part) (mark : List ℕ) (keys : List Key) (lookeds : List Looked) (requests : List Request) → requests ≡ requests_of part mark keys lookeds
    → may_have (length keys) ≡ true → 1 ≤ length requests → length mark ≤ 16 → AreFit keys → AreShaped keys lookeds → requests_fit requests ≡ true
written part mark keys lookeds requests is many some few fits at =
    let within : length keys ≤ 8 = leb-true (length keys) 8 (and_parts (nat_le 1 (length keys)) (nat_le (length keys) 8) many).1 in
    let less : length (requests_of part mark keys lookeds) ≤ length keys = no_more part mark keys lookeds in
    let same : length requests ≡ length (requests_of part mark keys lookeds) = ap length is in
    and_from (may_have (length requests)) (list_all request_fits requests)
    (and_from (nat_le 1 (length requests)) (nat_le (length requests) 8) (le-leb 1 (length requests) some) (le-leb (length requests) 8 (omega (arith, within, less, same))))
    (subst (λ rs. list_all request_fits rs ≡ true) (sym is) (all_fit part mark keys lookeds few fits at))

-- ---- and looks

look_about : (plan : List Key) (part : Part) (mark : List ℕ) (key : Key) (looked : Looked) → Contains plan key → IsLook plan mark (request_of part mark key looked)
look_about plan Find mark key looked planned = record { key = key; planned = planned; looks = inl refl; id_is = refl }
look_about plan Tell mark key looked planned = record { key = key; planned = planned; looks = inr (_, refl); id_is = refl }

pub looks_of : (plan : List Key) (part : Part) (mark : List ℕ) (keys : List Key) (lookeds : List Looked) → All (Contains plan) keys
    → All (IsLook plan mark) (requests_of part mark keys lookeds)
looks_of plan part mark [] lookeds planned = All-nil (IsLook plan mark)
looks_of plan part mark (key ∷ keys) [] planned = All-nil (IsLook plan mark)
looks_of plan part mark (key ∷ keys) (looked ∷ lookeds) planned =
    let request : Request = request_of part mark key looked in
    let more : List Request = requests_of part mark keys lookeds in
    let rest : All (IsLook plan mark) more = looks_of plan part mark keys lookeds (All-tail (Contains plan) key keys planned) in
    elim (cases_Bool (is_asked part looked)) [
      | inl asked ↦ subst (λ b. All (IsLook plan mark) (if b then request ∷ more else more)) (sym asked)
          (All-cons (IsLook plan mark) request more (look_about plan part mark key looked (All-head (Contains plan) key keys planned)) rest)
      | inr idle ↦ subst (λ b. All (IsLook plan mark) (if b then request ∷ more else more)) (sym idle) rest
    ]

-- ---- one key more

abbrev AreMade : Part → List ℕ → List Key → List Looked → List Request → ℕ → Type 0
AreMade part mark keys lookeds requests place =
    requests ++ requests_of part mark (drop place keys) (drop place lookeds) ≡ requests_of part mark keys lookeds

parted : {A : Type 0} (xs : List A) (place : ℕ) (x : A) → place < length xs → x ≡ get_or xs place x → drop place xs ≡ x ∷ drop (place + 1) xs
parted xs place x inside is = drop_more xs place x inside ∙ ap (λ y. y ∷ drop (place + 1) xs) (sym is)

both_parted : (part : Part) (mark : List ℕ) (keys : List Key) (lookeds : List Looked) (place : ℕ) (key : Key) (looked : Looked) → place < length keys
    → length lookeds ≡ length keys → key ≡ get_or keys place key → looked ≡ get_or lookeds place looked
    → requests_of part mark (drop place keys) (drop place lookeds)
    ≡ requests_of part mark (key ∷ drop (place + 1) keys) (looked ∷ drop (place + 1) lookeds)
both_parted part mark keys lookeds place key looked inside many is at =
    ap (λ ks. requests_of part mark ks (drop place lookeds)) (parted keys place key inside is)
    ∙ ap (λ ls. requests_of part mark (key ∷ drop (place + 1) keys) ls) (parted lookeds place looked (omega (arith, inside, many)) at)

pub one_asked : (part : Part) (mark : List ℕ) (keys : List Key) (lookeds : List Looked) (place : ℕ) (key : Key) (looked : Looked) (requests more : List Request)
    (request : Request) → place < length keys → length lookeds ≡ length keys → key ≡ get_or keys place key → looked ≡ get_or lookeds place looked
    → is_asked part looked ≡ true → request ≡ request_of part mark key looked → more ≡ requests ++ request ∷ []
    → AreMade part mark keys lookeds requests place → AreMade part mark keys lookeds more (place + 1)
one_asked part mark keys lookeds place key looked requests more request inside many is at asked made grown before =
    let left : List Request = requests_of part mark (drop (place + 1) keys) (drop (place + 1) lookeds) in
    let here : requests_of part mark (drop place keys) (drop place lookeds) ≡ request ∷ left =
    both_parted part mark keys lookeds place key looked inside many is at
    ∙ ap (λ b. if b then request_of part mark key looked ∷ left else left) asked
    ∙ ap (λ r. r ∷ left) (sym made) in
    ap (λ rs. rs ++ left) grown ∙ append_assoc requests (request ∷ []) left ∙ ap (λ rs. requests ++ rs) (sym here) ∙ before

pub none_asked : (part : Part) (mark : List ℕ) (keys : List Key) (lookeds : List Looked) (place : ℕ) (key : Key) (looked : Looked) (requests more : List Request)
    → place < length keys → length lookeds ≡ length keys → key ≡ get_or keys place key → looked ≡ get_or lookeds place looked
    → is_asked part looked ≡ false → more ≡ requests
    → AreMade part mark keys lookeds requests place → AreMade part mark keys lookeds more (place + 1)
none_asked part mark keys lookeds place key looked requests more inside many is at idle same before =
    let left : List Request = requests_of part mark (drop (place + 1) keys) (drop (place + 1) lookeds) in
    let here : requests_of part mark (drop place keys) (drop place lookeds) ≡ left =
    both_parted part mark keys lookeds place key looked inside many is at
    ∙ ap (λ b. if b then request_of part mark key looked ∷ left else left) idle in
    ap (λ rs. rs ++ left) same ∙ ap (λ rs. requests ++ rs) (sym here) ∙ before
