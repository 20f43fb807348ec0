-- Objects found by names and identifiers, where one comes and where one changes its state.
use Rattle.std.proofs.Common.{◌≡◌, ◌≢◌, ℕ, Bool, true, false, nat_eq, List, [], ◌∷◌, ◌++◌, map, Option, Some, None, if◌then◌else◌, ◌⊎◌, refl, sym, ap, subst, ◌∙◌, inl, inr, arith}
use Rattle.std.specs.Cmp.Lexicographic.{pointwise}
use Rattle.std.specs.List.{find, filter, Contains}
use Rattle.std.specs.Option.{option_map, option_or, option_to_list}
use Rattle.std.proofs.lemmas.Bool.{cases_Bool, false_from_ne_true, both_ways}
use Rattle.std.proofs.lemmas.List.Elements.{Contains-append_left, Contains-append_right, Contains-append_cases, Contains-push, Contains-push_cases}
use Rattle.std.proofs.lemmas.List.Folds.{find-append}
use Rattle.std.proofs.lemmas.Slice.Eq.{bytes_eq-Decides}
use Rattle.kmip_objects.specs.declared.key_state.KeyState.{KeyState}
use Rattle.kmip_objects.specs.Objects.{Object, object_named, object_with, restated, all_restated, DistinctBy, DistinctNames, DistinctUids}

-- the first that has the key
abbrev found_by : {T : Type 0} → (T → List ℕ) → List ℕ → List T → Option T
found_by f key xs = find (λ x. pointwise nat_eq key (f x)) xs

-- two keys that are apart one way are apart the other way
apart_back : (a b : List ℕ) → pointwise nat_eq a b ≡ false → pointwise nat_eq b a ≡ false
apart_back a b apart =
    false_from_ne_true (pointwise nat_eq b a) (λ same. both_ways _ apart ((bytes_eq-Decides a b).1 (sym ((bytes_eq-Decides b a).0 same))))

same_some : {T : Type 0} (x y : T) → Some x ≡ Some y → x ≡ y
same_some x y e = cc

-- ---- what is found

found_has : {T : Type 0} (f : T → List ℕ) (key : List ℕ) (xs : List T) (x : T) → found_by f key xs ≡ Some x → (f x ≡ key) × Contains xs x
found_has f key [] x is = absurd cc
found_has f key (y ∷ ys) x is = elim (cases_Bool (pointwise nat_eq key (f y))) [
  | inl passes ↦
      let one : y ≡ x = same_some y x (rw passes at is) in (
        sym ((bytes_eq-Decides key (f y)).0 passes ∙ ap f one),
        subst (Contains (y ∷ ys)) one (Contains-append_left (y ∷ []) ys y (Contains-push [] y)),
      )
  | inr fails ↦
      let there = found_has f key ys x (rw fails at is) in
      (there.0, Contains-append_right (y ∷ []) ys x there.1)
]

-- of the first of some, or of the others
first_or_later : {T : Type 0} (y : T) (ys : List T) (x : T) → Contains (y ∷ ys) x → (y ≡ x) ⊎ Contains ys x
first_or_later y ys x has = elim (Contains-append_cases (y ∷ []) ys x has) [
  | inl first ↦ elim (Contains-push_cases [] y x first) [
    | inl none ↦ let below = none.1 in absurd (omega (arith, below))
    | inr one ↦ inl one
  ]
  | inr later ↦ inr later
]

not_there : {T : Type 0} (f : T → List ℕ) (key : List ℕ) (y : T) (ys : List T) → found_by f key (y ∷ ys) ≡ None
    → (pointwise nat_eq key (f y) ≡ false) × (found_by f key ys ≡ None)
not_there f key y ys none = elim (cases_Bool (pointwise nat_eq key (f y))) [
  | inl passes ↦ let some : Some y ≡ None = rw passes at none in absurd cc
  | inr fails ↦ (fails, rw fails at none)
]

-- where none has the key, each has another
another_key : {T : Type 0} (f : T → List ℕ) (key : List ℕ) (xs : List T) (x : T) → found_by f key xs ≡ None → Contains xs x
    → pointwise nat_eq key (f x) ≡ false
another_key f key [] x none has = let below = has.1 in absurd (omega (arith, below))
another_key f key (y ∷ ys) x none has =
    let parts = not_there f key y ys none in
    elim (first_or_later y ys x has) [
      | inl one ↦ subst (λ z. pointwise nat_eq key (f z) ≡ false) one parts.0
      | inr later ↦ another_key f key ys x parts.1 later
    ]

-- where keys are distinct, each is the one of its key
distinct_found : {T : Type 0} (f : T → List ℕ) (xs : List T) (x : T) → DistinctBy f xs → Contains xs x → found_by f (f x) xs ≡ Some x
distinct_found f [] x distinct has = let below = has.1 in absurd (omega (arith, below))
distinct_found f (y ∷ ys) x distinct has = elim (first_or_later y ys x has) [
  | inl one ↦
      let passes : pointwise nat_eq (f x) (f y) ≡ true = (bytes_eq-Decides (f x) (f y)).1 (ap f (sym one)) in
      rw passes (ap Some one)
  | inr later ↦
      let fails : pointwise nat_eq (f x) (f y) ≡ false = apart_back (f y) (f x) (another_key f (f y) ys x distinct.0 later) in
      rw fails (distinct_found f ys x distinct.1 later)
]

none_filtered : {T : Type 0} (f : T → List ℕ) (key : List ℕ) (xs : List T) → found_by f key xs ≡ None → filter (λ x. pointwise nat_eq key (f x)) xs ≡ []
none_filtered f key [] none = refl
none_filtered f key (y ∷ ys) none =
    let parts = not_there f key y ys none in
    let fails : pointwise nat_eq key (f y) ≡ false = parts.0 in
    rw fails (none_filtered f key ys parts.1)

-- where keys are distinct, no other has the key of the one that is found
distinct_filtered : {T : Type 0} (f : T → List ℕ) (key : List ℕ) (xs : List T) → DistinctBy f xs
    → filter (λ x. pointwise nat_eq key (f x)) xs ≡ option_to_list (found_by f key xs)
distinct_filtered f key [] distinct = refl
distinct_filtered f key (y ∷ ys) distinct = elim (cases_Bool (pointwise nat_eq key (f y))) [
  | inl passes ↦
      let none : found_by f key ys ≡ None = ap (λ k. found_by f k ys) ((bytes_eq-Decides key (f y)).0 passes) ∙ distinct.0 in
      rw passes (ap (λ zs. y ∷ zs) (none_filtered f key ys none))
  | inr fails ↦ rw fails (distinct_filtered f key ys distinct.1)
]

-- ---- more after them

found_before : {T : Type 0} (f : T → List ℕ) (key : List ℕ) (xs more : List T) (x : T) → found_by f key xs ≡ Some x → found_by f key (xs ++ more) ≡ Some x
found_before f key xs more x is =
    find-append (λ y. pointwise nat_eq key (f y)) xs more ∙ ap (λ o. option_or o (found_by f key more)) is

found_among : {T : Type 0} (f : T → List ℕ) (key : List ℕ) (xs more : List T) → found_by f key xs ≡ None → found_by f key (xs ++ more) ≡ found_by f key more
found_among f key xs more none =
    find-append (λ y. pointwise nat_eq key (f y)) xs more ∙ ap (λ o. option_or o (found_by f key more)) none

distinct_more : {T : Type 0} (f : T → List ℕ) (xs : List T) (x : T) → DistinctBy f xs → found_by f (f x) xs ≡ None → DistinctBy f (xs ++ x ∷ [])
distinct_more f [] x distinct free = (refl, tt)
distinct_more f (y ∷ ys) x distinct free =
    let parts = not_there f (f x) y ys free in
    let fails : pointwise nat_eq (f y) (f x) ≡ false = apart_back (f x) (f y) parts.0 in
    (found_among f (f y) ys (x ∷ []) distinct.0 ∙ rw fails refl, distinct_more f ys x distinct.1 parts.1)

-- ---- all changed, but for their keys

found_map : {T : Type 0} (f : T → List ℕ) (g : T → T) → ((x : T) → f (g x) ≡ f x) → (key : List ℕ) (xs : List T)
    → found_by f key (map g xs) ≡ option_map g (found_by f key xs)
found_map f g keeps key [] = refl
found_map f g keeps key (x ∷ xs) = elim (cases_Bool (pointwise nat_eq key (f x))) [
  | inl passes ↦ rw (keeps x, passes) refl
  | inr fails ↦ rw (keeps x, fails) (found_map f g keeps key xs)
]

distinct_map : {T : Type 0} (f : T → List ℕ) (g : T → T) → ((x : T) → f (g x) ≡ f x) → (xs : List T) → DistinctBy f xs → DistinctBy f (map g xs)
distinct_map f g keeps [] distinct = tt
distinct_map f g keeps (x ∷ xs) distinct = (
  ap (λ key. found_by f key (map g xs)) (keeps x) ∙ found_map f g keeps (f x) xs ∙ ap (option_map g) distinct.0,
  distinct_map f g keeps xs distinct.1,
)

keys_map : {T : Type 0} (f : T → List ℕ) (g : T → T) → ((x : T) → f (g x) ≡ f x) → (xs : List T) → map f (map g xs) ≡ map f xs
keys_map f g keeps [] = refl
keys_map f g keeps (x ∷ xs) = rw (keeps x, keys_map f g keeps xs) refl

-- ---- objects

abbrev name_of : Object → List ℕ
name_of o = o.attrs.name

abbrev uid_of : Object → List ℕ
uid_of o = o.uid

pub named_is_one : (name : List ℕ) (objects : List Object) (o : Object) → object_named name objects ≡ Some o → (o.attrs.name ≡ name) × Contains objects o
named_is_one name objects o is = found_has name_of name objects o is

pub identified_is_one : (uid : List ℕ) (objects : List Object) (o : Object) → object_with uid objects ≡ Some o → (o.uid ≡ uid) × Contains objects o
identified_is_one uid objects o is = found_has uid_of uid objects o is

-- an object of which the test of its key fails
other_key : (key own : List ℕ) → pointwise nat_eq key own ≡ false → own ≢ key
other_key key own fails same = both_ways _ fails ((bytes_eq-Decides key own).1 (sym same))

pub none_is_named : (name : List ℕ) (objects : List Object) (o : Object) → object_named name objects ≡ None → Contains objects o → o.attrs.name ≢ name
none_is_named name objects o none has = other_key name o.attrs.name (another_key name_of name objects o none has)

pub none_is_identified : (uid : List ℕ) (objects : List Object) (o : Object) → object_with uid objects ≡ None → Contains objects o → o.uid ≢ uid
none_is_identified uid objects o none has = other_key uid o.uid (another_key uid_of uid objects o none has)

pub named_is_all : (name : List ℕ) (objects : List Object) → DistinctNames objects
    → filter (λ o. pointwise nat_eq name o.attrs.name) objects ≡ option_to_list (object_named name objects)
named_is_all name objects distinct = distinct_filtered name_of name objects distinct

pub identified_is_all : (uid : List ℕ) (objects : List Object) → DistinctUids objects
    → filter (λ o. pointwise nat_eq uid o.uid) objects ≡ option_to_list (object_with uid objects)
identified_is_all uid objects distinct = distinct_filtered uid_of uid objects distinct

pub one_is_named : (objects : List Object) (o : Object) → DistinctNames objects → Contains objects o → object_named o.attrs.name objects ≡ Some o
one_is_named objects o distinct has = distinct_found name_of objects o distinct has

pub one_is_identified : (objects : List Object) (o : Object) → DistinctUids objects → Contains objects o → object_with o.uid objects ≡ Some o
one_is_identified objects o distinct has = distinct_found uid_of objects o distinct has

pub named_is_identified : (name : List ℕ) (objects : List Object) (o : Object) → DistinctUids objects → object_named name objects ≡ Some o
    → object_with o.uid objects ≡ Some o
named_is_identified name objects o distinct is = one_is_identified objects o distinct (named_is_one name objects o is).1

pub identified_is_named : (uid : List ℕ) (objects : List Object) (o : Object) → DistinctNames objects → object_with uid objects ≡ Some o
    → object_named o.attrs.name objects ≡ Some o
identified_is_named uid objects o distinct is = one_is_named objects o distinct (identified_is_one uid objects o is).1

pub named_before : (name : List ℕ) (objects more : List Object) (o : Object) → object_named name objects ≡ Some o → object_named name (objects ++ more) ≡ Some o
named_before name objects more o is = found_before name_of name objects more o is

pub named_among : (name : List ℕ) (objects more : List Object) → object_named name objects ≡ None → object_named name (objects ++ more) ≡ object_named name more
named_among name objects more none = found_among name_of name objects more none

pub identified_before : (uid : List ℕ) (objects more : List Object) (o : Object) → object_with uid objects ≡ Some o → object_with uid (objects ++ more) ≡ Some o
identified_before uid objects more o is = found_before uid_of uid objects more o is

pub identified_among : (uid : List ℕ) (objects more : List Object) → object_with uid objects ≡ None → object_with uid (objects ++ more) ≡ object_with uid more
identified_among uid objects more none = found_among uid_of uid objects more none

pub names_more : (objects : List Object) (o : Object) → DistinctNames objects → object_named o.attrs.name objects ≡ None → DistinctNames (objects ++ o ∷ [])
names_more objects o distinct free = distinct_more name_of objects o distinct free

pub uids_more : (objects : List Object) (o : Object) → DistinctUids objects → object_with o.uid objects ≡ None → DistinctUids (objects ++ o ∷ [])
uids_more objects o distinct free = distinct_more uid_of objects o distinct free

pub own_is_restated : (uid : List ℕ) (state : KeyState) (o : Object) → o.uid ≡ uid → restated uid state o ≡ record o { state = state }
own_is_restated uid state o is =
    let passes : pointwise nat_eq uid o.uid ≡ true = (bytes_eq-Decides uid o.uid).1 (sym is) in
    rw passes refl

pub other_is_kept : (uid : List ℕ) (state : KeyState) (o : Object) → o.uid ≢ uid → restated uid state o ≡ o
other_is_kept uid state o other =
    let fails : pointwise nat_eq uid o.uid ≡ false = false_from_ne_true _ (λ same. other (sym ((bytes_eq-Decides uid o.uid).0 same))) in
    rw fails refl

-- an object whose state may be another
keeps_both : (b : Bool) (state : KeyState) (o : Object)
    → ((if b then record o { state = state } else o).uid ≡ o.uid) × ((if b then record o { state = state } else o).attrs ≡ o.attrs)
keeps_both true state o = (refl, refl)
keeps_both false state o = (refl, refl)

pub restated_keeps : (uid : List ℕ) (state : KeyState) (o : Object) → ((restated uid state o).uid ≡ o.uid) × ((restated uid state o).attrs ≡ o.attrs)
restated_keeps uid state o = keeps_both (pointwise nat_eq uid o.uid) state o

name_stays : (uid : List ℕ) (state : KeyState) (o : Object) → name_of (restated uid state o) ≡ name_of o
name_stays uid state o = ap (λ attrs. attrs.name) (restated_keeps uid state o).1

uid_stays : (uid : List ℕ) (state : KeyState) (o : Object) → uid_of (restated uid state o) ≡ uid_of o
uid_stays uid state o = (restated_keeps uid state o).0

pub names_are_kept : (uid : List ℕ) (state : KeyState) (objects : List Object)
    → map (λ o. o.attrs.name) (all_restated uid state objects) ≡ map (λ o. o.attrs.name) objects
names_are_kept uid state objects = keys_map name_of (restated uid state) (name_stays uid state) objects

pub uids_are_kept : (uid : List ℕ) (state : KeyState) (objects : List Object)
    → map (λ o. o.uid) (all_restated uid state objects) ≡ map (λ o. o.uid) objects
uids_are_kept uid state objects = keys_map uid_of (restated uid state) (uid_stays uid state) objects

pub named_is_restated : (name uid : List ℕ) (state : KeyState) (objects : List Object)
    → object_named name (all_restated uid state objects) ≡ option_map (restated uid state) (object_named name objects)
named_is_restated name uid state objects = found_map name_of (restated uid state) (name_stays uid state) name objects

pub identified_is_restated : (own uid : List ℕ) (state : KeyState) (objects : List Object)
    → object_with own (all_restated uid state objects) ≡ option_map (restated uid state) (object_with own objects)
identified_is_restated own uid state objects = found_map uid_of (restated uid state) (uid_stays uid state) own objects

pub names_stay_distinct : (uid : List ℕ) (state : KeyState) (objects : List Object) → DistinctNames objects → DistinctNames (all_restated uid state objects)
names_stay_distinct uid state objects distinct = distinct_map name_of (restated uid state) (name_stays uid state) objects distinct

pub uids_stay_distinct : (uid : List ℕ) (state : KeyState) (objects : List Object) → DistinctUids objects → DistinctUids (all_restated uid state objects)
uids_stay_distinct uid state objects distinct = distinct_map uid_of (restated uid state) (uid_stays uid state) objects distinct
