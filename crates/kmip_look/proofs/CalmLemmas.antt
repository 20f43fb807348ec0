-- Over a calm link each question has its answer, and each key is told.
use Rattle.std.proofs.Common.{◌≡◌, ◌≤◌, ℕ, Bool, true, false, ◌||◌, ◌==◌, not, List, [], ◌∷◌, length, map, Option, Some}
use Rattle.std.proofs.Common.{None, Result, Ok, Err, refl, sym, ap, subst, ◌∙◌, inl, inr, ◌⊎◌, arith, eq-eqb}
use Rattle.std.proofs.Common.{if◌then◌else◌}
use Rattle.std.specs.Prelude.{nat_eq}
use Rattle.std.specs.Cmp.Lexicographic.{pointwise}
use Rattle.std.proofs.lemmas.Bool.{and_from, and_parts, cases_Bool}
use Rattle.std.proofs.lemmas.List.{append_cancel_left}
use Rattle.std.proofs.lemmas.List.Elements.{All-cons, All-contains, All-contains_itself, All-filter, All-head, All-nil}
use Rattle.std.proofs.lemmas.List.Elements.{All-tail, All-weaker, Contains-append_right, filter_passes}
use Rattle.std.proofs.lemmas.Slice.Eq.{bytes_eq-Decides}
use Rattle.std.specs.List.{All, AllZip, Contains, find, list_any}
use Rattle.std.specs.Option.{option_map_or, unwrap_or}
use Rattle.kmip_objects.specs.Attributes.{attributes_of, by_name}
use Rattle.kmip_objects.specs.Objects.{Object, object_with, DistinctUids}
use Rattle.kmip_objects.specs.Searching.{every_state}
use Rattle.kmip_objects.specs.declared.attrs.Attrs.{Attrs}
use Rattle.kmip_batch_items.specs.BatchItems.{answer_fits}
use Rattle.kmip_batch_items.specs.Fits.{outcome_fits}
use Rattle.kmip_batch_items.specs.Operations.{operation_of}
use Rattle.kmip_batch_items.specs.declared.ask.Ask.TheVariants.{GetAttributes, Locate}
use Rattle.kmip_batch_items.specs.declared.outcome.Outcome.{Outcome}
use Rattle.kmip_batch_items.specs.declared.outcome.Outcome.TheVariants.{Located, Attributes, Failed}
use Rattle.kmip_batch_items.specs.declared.reply.Reply.{Reply}
use Rattle.kmip_batch_items.specs.declared.request.Request.{Request}
use Rattle.kmip_plan.specs.declared.key.Key.{Key}
use Rattle.kmip_client.specs.Knowledge.{fresh_knowledge}
use Rattle.kmip_client.specs.Learning.{attributes_learnt, is_named, is_planned, one_learnt, state_learnt, with_clash}
use Rattle.kmip_client.specs.declared.clash.Clash.TheVariants as clashes
use Rattle.kmip_client.specs.declared.hear_fault.HearFault.{HearFault}
use Rattle.kmip_client.specs.declared.hear_fault.HearFault.TheVariants.{OtherIdentifier, OtherName}
use Rattle.kmip_client.specs.declared.knowledge.Knowledge.{Knowledge}
use Rattle.kmip_server.specs.ServerStep.{ServerStep}
use Rattle.kmip_protocol.specs.Calm.{AreTaken, IsServed}
use Rattle.kmip_protocol.specs.Headline.{all_named}
use Rattle.kmip_protocol.specs.Moves.{HasFailed}
use Rattle.kmip_protocol.specs.Past.{Past}
use Rattle.kmip_look.specs.Laws.{AsksALook}
use Rattle.kmip_look.specs.PrivateAsking.{ask_of, id_of, is_asked, is_refused, part_number, request_of, requests_of}
use Rattle.kmip_look.specs.PrivateHearing.{heard, heard_each, heard_found, heard_from, heard_told, is_answer, learnt_by}
use Rattle.kmip_look.specs.PrivateKeeping as keeping
use Rattle.kmip_look.specs.PrivateKeeping.{IsAfter, IsAt, IsBefore, IsOnly, LookLaws}
use Rattle.kmip_look.specs.Standings as standings
use Rattle.kmip_look.specs.Standings.{IsThere, StandsSo, is_told, shown_of}
use Rattle.kmip_look.specs.declared.looked.Looked.{Looked}
use Rattle.kmip_look.specs.declared.part.Part.{Part}
use Rattle.kmip_look.specs.declared.part.Part.TheVariants.{Find, Tell}
use Rattle.kmip_look.specs.declared.why.Why.{Why}
use Rattle.kmip_look.proofs.HeardLemmas.{answer_id, attributes_told, first_fits, fits_of, found_in, found_not_looked}
use Rattle.kmip_look.proofs.HeardLemmas.{made_of, told_is_not_asked}
use Rattle.kmip_look.proofs.ServedLemmas.{same_effects, same_objects, told_of}

-- ---- served one by one

-- the reply is what the server answers the request over these objects
pub record Replied (objects : List Object) (request : Request) (reply : Reply) : Type 0 where
  pub room : ℕ
  pub step : ServerStep room objects request.ask reply.outcome objects
  pub operation_is : (reply.operation ≡ Some (operation_of request.ask)) ⊎
      ((reply.operation ≡ None) × HasFailed reply.outcome)
  pub id_is : (reply.id ≡ request.id) ⊎ ((reply.id ≡ None) × HasFailed reply.outcome)

-- nothing was changed, and these replies are what the server answers these requests
pub record AllServed (objects : List Object) (requests : List Request) (replies : List Reply) (old new : Past) : Type
    0 where
  pub objects_are : new.objects ≡ objects
  pub effects_are : new.effects ≡ old.effects
  pub replied : AllZip (Replied objects) requests replies

one_served : (objects : List Object) (request : Request) (reply : Reply) (old new : Past) → AsksALook request.ask
    → old.objects ≡ objects
    → IsServed request reply old new → AllServed objects (request ∷ []) (reply ∷ []) old new
one_served objects request reply old new look same served =
    let moved : served.objects ≡ old.objects = same_objects old.room old.objects served.objects request.ask
    reply.outcome look served.serves.step in
    let step : ServerStep old.room old.objects request.ask reply.outcome old.objects =
    subst (λ os. ServerStep old.room old.objects request.ask reply.outcome os) moved served.serves.step in
    record {
      objects_are = ap (λ p. p.objects) served.is ∙ moved ∙ same;
      effects_are = ap (λ p. p.effects) served.is
          ∙ same_effects old.effects old.objects served.objects served.joined moved served.serves.effects;
      replied = (
        record {
          room = old.room;
          step = subst (λ os. ServerStep old.room os request.ask reply.outcome os) same step;
          operation_is = served.serves.operation_is;
          id_is = served.serves.id_is;
        },
        tt,
      );
    }

none_left : (request : Request) (requests : List Request) → length (request ∷ requests) ≤ 1 → requests ≡ []
none_left request [] few = refl
none_left request (other ∷ requests) few = absurd (omega (arith, few))

pub all_served : (stops : Bool) (requests : List Request) (replies : List Reply) (objects : List Object)
    (old new : Past)
    → All (λ (request : Request). AsksALook request.ask) requests → (stops ≡ true → length requests ≤ 1)
    → old.objects ≡ objects
    → AreTaken stops (map (λ request. Ok request) requests) replies old new → AllServed objects requests replies old new
all_served stops [] [] objects old new looks one same is = record {
  objects_are = ap (λ p. p.objects) is ∙ same;
  effects_are = ap (λ p. p.effects) is;
  replied = tt;
}
all_served stops [] (reply ∷ replies) objects old new looks one same taken = absurd taken
all_served stops (request ∷ requests) [] objects old new looks one same taken = absurd taken
all_served stops (request ∷ requests) (reply ∷ replies) objects old new looks one same
    (between, served, inl (stop, none, is)) =
    let first = one_served objects request reply old between
    (All-head (λ (r : Request). AsksALook r.ask) request requests looks) same served in
    let left : requests ≡ [] = none_left request requests (one (and_parts stops _ stop).0) in
    record {
      objects_are = ap (λ p. p.objects) is ∙ first.objects_are;
      effects_are = ap (λ p. p.effects) is ∙ first.effects_are;
      replied = (
        first.replied.0,
        subst (λ qs. AllZip (Replied objects) qs replies) (sym left)
            (subst (λ rs. AllZip (Replied objects) [] rs) (sym none) tt),
      );
    }
all_served stops (request ∷ requests) (reply ∷ replies) objects old new looks one same
    (between, served, inr (go, rest)) =
    let first = one_served objects request reply old between
    (All-head (λ (r : Request). AsksALook r.ask) request requests looks) same served in
    let more = all_served stops requests replies objects between new
    (All-tail (λ (r : Request). AsksALook r.ask) request requests looks)
    (λ stop. let few = one stop in omega (arith, few)) first.objects_are rest in
    record {
      objects_are = more.objects_are;
      effects_are = more.effects_are ∙ first.effects_are;
      replied = (first.replied.0, more.replied);
    }

-- ---- two lists, pair by pair

zip_there : {A B : Type 0} (R : A → B → Type 0) (xs : List A) (ys : List B) → AllZip R xs ys
    → All (λ x. (y : B) × Contains ys y × R x y) xs
zip_there {A} {B} R [] [] zip = All-nil (λ (x : A). (y : B) × Contains [] y × R x y)
zip_there R [] (y ∷ ys) zip = absurd zip
zip_there R (x ∷ xs) [] zip = absurd zip
zip_there {A} {B} R (x ∷ xs) (y ∷ ys) zip =
    All-cons (λ (a : A). (b : B) × Contains (y ∷ ys) b × R a b) x xs (y, (0, omega arith, refl), zip.0)
    (All-weaker (λ (a : A). (b : B) × Contains ys b × R a b) (λ (a : A). (b : B) × Contains (y ∷ ys) b × R a b)
    (λ a some. let (b, there, related) = some in (b, Contains-append_right (y ∷ []) ys b there, related)) xs
    (zip_there R xs ys zip.1))

zip_back : {A B : Type 0} (R : A → B → Type 0) (xs : List A) (ys : List B) → AllZip R xs ys
    → All (λ y. (x : A) × Contains xs x × R x y) ys
zip_back {A} {B} R [] [] zip = All-nil (λ (y : B). (x : A) × Contains [] x × R x y)
zip_back R [] (y ∷ ys) zip = absurd zip
zip_back R (x ∷ xs) [] zip = absurd zip
zip_back {A} {B} R (x ∷ xs) (y ∷ ys) zip =
    All-cons (λ (b : B). (a : A) × Contains (x ∷ xs) a × R a b) y ys (x, (0, omega arith, refl), zip.0)
    (All-weaker (λ (b : B). (a : A) × Contains xs a × R a b) (λ (b : B). (a : A) × Contains (x ∷ xs) a × R a b)
    (λ b some. let (a, there, related) = some in (a, Contains-append_right (x ∷ []) xs a there, related)) ys
    (zip_back R xs ys zip.1))

-- ---- what was asked

-- a key of the group that the request is about
record AsksOf (part : Part) (mark : List ℕ) (objects : List Object) (request : Request) : Type 0 where
  key : Key
  looked : Looked
  before : IsBefore part objects key looked
  asked : is_asked part looked ≡ true
  is : request ≡ request_of part mark key looked

asked_of : (part : Part) (mark : List ℕ) (objects : List Object) (keys : List Key) (lookeds : List Looked)
    → AllZip (IsBefore part objects) keys lookeds
    → All (AsksOf part mark objects) (requests_of part mark keys lookeds)
asked_of part mark objects [] lookeds before = All-nil (AsksOf part mark objects)
asked_of part mark objects (key ∷ keys) [] before = All-nil (AsksOf part mark objects)
asked_of part mark objects (key ∷ keys) (looked ∷ lookeds) before =
    let request : Request = request_of part mark key looked in
    let more : List Request = requests_of part mark keys lookeds in
    let rest : All (AsksOf part mark objects) more = asked_of part mark objects keys lookeds before.1 in
    elim (cases_Bool (is_asked part looked)) [
      | inl asked ↦ subst (λ b. All (AsksOf part mark objects) (if b then request ∷ more else more)) (sym asked)
          (All-cons (AsksOf part mark objects) request more
          (record { key = key; looked = looked; before = before.0; asked = asked; is = refl }) rest)
      | inr idle ↦ subst (λ b. All (AsksOf part mark objects) (if b then request ∷ more else more)) (sym idle) rest
    ]

-- where the part asks about the key, its request is one of these
abbrev Requested : Part → List ℕ → List Request → Key → Looked → Type 0
Requested part mark requests key looked =
    is_asked part looked ≡ true → Contains requests (request_of part mark key looked)

requested : (part : Part) (mark : List ℕ) (objects : List Object) (all : List Request) (keys : List Key)
    (lookeds : List Looked)
    → AllZip (IsBefore part objects) keys lookeds
    → ((request : Request) → Contains (requests_of part mark keys lookeds) request → Contains all request)
    → AllZip (Requested part mark all) keys lookeds
requested part mark objects all [] [] before among = tt
requested part mark objects all [] (looked ∷ lookeds) before among = absurd before
requested part mark objects all (key ∷ keys) [] before among = absurd before
requested part mark objects all (key ∷ keys) (looked ∷ lookeds) before among =
    let request : Request = request_of part mark key looked in
    let more : List Request = requests_of part mark keys lookeds in
    elim (cases_Bool (is_asked part looked)) [
      | inl asked ↦
          let within : (r : Request) → Contains (request ∷ more) r → Contains all r =
          subst (λ b. (r : Request) → Contains (if b then request ∷ more else more) r → Contains all r) asked among in (
            λ is. within request (0, omega arith, refl),
            requested part mark objects all keys lookeds before.1
                (λ r there. within r (Contains-append_right (request ∷ []) more r there)),
          )
      | inr idle ↦
          let within : (r : Request) → Contains more r → Contains all r =
          subst (λ b. (r : Request) → Contains (if b then request ∷ more else more) r → Contains all r) idle among in (
            λ is. let t : true ≡ false = sym is ∙ idle in absurd cc,
            requested part mark objects all keys lookeds before.1 within,
          )
    ]

-- ---- one object alone

abbrev head_or : Object → List Object → Object
head_or other [] = other
head_or other (o ∷ objects) = o

only_is_one : (objects : List Object) (key other : Key) (uid own : List ℕ) → other.attrs.name ≡ key.attrs.name
    → IsOnly objects key uid → IsOnly objects other own
    → own ≡ uid
only_is_one objects key other uid own names (o, alone, is) (p, single, has) =
    let here : all_named key.attrs.name objects ≡ p ∷ [] = subst (λ n. all_named n objects ≡ p ∷ []) names single in
    let same : p ≡ o = only_head p o (sym here ∙ alone) in
    has ∙ ap (λ (x : Object). x.uid) same ∙ sym is where
      only_head : (p o : Object) → p ∷ [] ≡ o ∷ [] → p ≡ o
      only_head p o is = ap (head_or p) is

-- it is one of the objects, and has the name
only_there : (name : List ℕ) (objects : List Object) (o : Object) → all_named name objects ≡ o ∷ []
    → Contains objects o × (o.attrs.name ≡ name)
only_there name objects o alone = (
  All-head (Contains objects) o []
      (subst (All (Contains objects)) alone (All-filter (λ (x : Object). pointwise nat_eq name x.attrs.name)
      (Contains objects) objects (All-contains_itself objects))),
  sym ((bytes_eq-Decides name o.attrs.name).0
      (All-head (λ (x : Object). pointwise nat_eq name x.attrs.name ≡ true) o []
      (subst (All (λ (x : Object). pointwise nat_eq name x.attrs.name ≡ true)) alone
      (filter_passes (λ (x : Object). pointwise nat_eq name x.attrs.name) objects)))),
)

-- ---- the same question

same_ask : (part : Part) (objects : List Object) (key other : Key) (looked old : Looked)
    → other.attrs.name ≡ key.attrs.name → IsBefore part objects key looked
    → IsBefore part objects other old → is_asked part looked ≡ true → is_asked part old ≡ true
    → ask_of part other old.known ≡ ask_of part key looked.known
same_ask Find objects key other looked old names before earlier asked was =
    ap (λ name. Locate (Some every_state) (by_name name)) names
same_ask Tell objects key other looked old names (keeping.unheard u known shown, unrefused) earlier asked was = absurd u
same_ask Tell objects key other looked old names (keeping.told told so, unrefused) earlier asked was =
    absurd (told_is_not_asked Tell looked told asked)
same_ask Tell objects key other looked old names (keeping.found in_range only known shown, unrefused)
    (keeping.unheard u k s, r) asked was = absurd u
same_ask Tell objects key other looked old names (keeping.found in_range only known shown, unrefused)
    (keeping.told told so, r) asked was =
    absurd (told_is_not_asked Tell old told was)
same_ask Tell objects key other looked old names (keeping.found {uid = uid} in_range only known shown, unrefused)
    (keeping.found {uid = own} in_own single k s, r) asked was =
    ap (λ (x : Knowledge). GetAttributes (unwrap_or x.identifier [])) k
    ∙ ap GetAttributes (only_is_one objects key other uid own names only single)
    ∙ ap (λ (x : Knowledge). GetAttributes (unwrap_or x.identifier [])) (sym known)

abbrev tail_of : Option (List ℕ) → List ℕ
tail_of None = []
tail_of (Some []) = []
tail_of (Some (operation ∷ rest)) = rest

-- ---- what an answer says

-- the outcome is what the server answers the part's question about the key
abbrev IsRight : Part → List Object → Key → Looked → Outcome → Type 0
IsRight part objects key looked outcome =
    (room : ℕ) × ServerStep room objects (ask_of part key looked.known) outcome objects

right_answer : (part : Part) (mark : List ℕ) (objects : List Object) (requests : List Request) (replies : List Reply)
    (key : Key) (looked : Looked) (reply : Reply)
    → AllZip (Replied objects) requests replies → All (AsksOf part mark objects) requests
    → IsBefore part objects key looked → is_asked part looked ≡ true
    → Contains replies reply → is_answer (part_number part) (id_of part mark key) reply ≡ true
    → IsRight part objects key looked reply.outcome
right_answer part mark objects requests replies key looked reply replied asks before asked there answers =
    let (request, member, by) = All-contains
    (λ (y : Reply). (x : Request) × Contains requests x × Replied objects x y) replies reply
    (zip_back (Replied objects) requests replies replied) there in
    let of = All-contains (AsksOf part mark objects) requests request asks member in
    let own : reply.id ≡ Some (id_of part mark key) = answer_id (part_number part) (id_of part mark key) reply answers
    in
    elim by.id_is [
      | inl same ↦
          let ids : Some (id_of part mark of.key) ≡ Some (id_of part mark key) = sym
          (ap (λ (r : Request). r.id) of.is) ∙ sym same ∙ own in
          let names : of.key.attrs.name ≡ key.attrs.name = append_cancel_left mark of.key.attrs.name key.attrs.name
          (ap tail_of ids) in
          let ask : request.ask ≡ ask_of part key looked.known =
          ap (λ (r : Request). r.ask) of.is ∙ same_ask part objects key of.key looked of.looked names before of.before
          asked of.asked in
          (by.room, subst (λ a. ServerStep by.room objects a reply.outcome objects) ask by.step)
      | inr (none, failed) ↦ let t : None ≡ Some (id_of part mark key) = sym none ∙ own in absurd cc
    ]

-- a Locate
located_right : LookLaws → (objects : List Object) (key : Key) (looked : Looked) (outcome : Outcome)
    → IsRight Find objects key looked outcome
    → outcome ≡ Located (map (λ (o : Object). o.uid) (all_named key.attrs.name objects))
located_right l objects key looked outcome (room, step) =
    (l.server.all_located room objects objects key.attrs.name outcome step).1

-- a Get Attributes of the one object of the name
attributes_right : LookLaws → (objects : List Object) (key : Key) (looked : Looked) (uid : List ℕ) (o : Object)
    (outcome : Outcome) → DistinctUids objects
    → looked.known ≡ one_learnt uid fresh_knowledge → all_named key.attrs.name objects ≡ o ∷ [] → uid ≡ o.uid
    → IsRight Tell objects key looked outcome
    → (object_with uid objects ≡ Some o) × (outcome ≡ Attributes uid (attributes_of o))
attributes_right l objects key looked uid o outcome distinct known alone is (room, step) =
    let own : object_with uid objects ≡ Some o =
    subst (λ u. object_with u objects ≡ Some o) (sym is)
    (l.objects.one_identified objects o distinct (only_there key.attrs.name objects o alone).0) in (
      own,
      told_of uid o room objects objects (ask_of Tell key looked.known) outcome own
          (ap (λ (k : Knowledge). GetAttributes (unwrap_or k.identifier [])) known) step,
    )

never_failed : LookLaws → (part : Part) (objects : List Object) (key : Key) (looked : Looked) (outcome : Outcome)
    → DistinctUids objects
    → IsBefore part objects key looked → is_asked part looked ≡ true → IsRight part objects key looked outcome
    → HasFailed outcome → ⊥
never_failed l Find objects key looked outcome distinct before asked right (reason, failed) =
    let t : Failed reason ≡ Located (map (λ (o : Object). o.uid) (all_named key.attrs.name objects)) = sym failed
    ∙ located_right l objects key looked outcome right in
    absurd cc
never_failed l Tell objects key looked outcome distinct (keeping.unheard u known shown, unrefused) asked right
    failed = absurd u
never_failed l Tell objects key looked outcome distinct (keeping.told told so, unrefused) asked right failed =
    absurd (told_is_not_asked Tell looked told asked)
never_failed l Tell objects key looked outcome distinct
    (keeping.found {uid = uid} in_range (o, alone, is) known shown, unrefused) asked right (reason, failed) =
    let t : Failed reason ≡ Attributes uid (attributes_of o) =
    sym failed ∙ (attributes_right l objects key looked uid o outcome distinct known alone is right).1 in absurd cc

-- ---- there is an answer

passes : (part : Part) (mark : List ℕ) (key : Key) (looked : Looked) (reply : Reply)
    → reply.id ≡ Some (id_of part mark key)
    → (reply.operation ≡ Some (part_number part)) ⊎ (reply.operation ≡ None)
    → is_answer (part_number part) (id_of part mark key) reply ≡ true
passes part mark key looked reply id operation =
    and_from (option_map_or (λ other. pointwise nat_eq (id_of part mark key) other) reply.id false)
    (option_map_or (λ n. n == part_number part) reply.operation true)
    (subst (λ told. option_map_or (λ other. pointwise nat_eq (id_of part mark key) other) told false ≡ true) (sym id)
    ((bytes_eq-Decides (id_of part mark key) (id_of part mark key)).1 refl))
    (elim operation [
      | inl is ↦ subst (λ told. option_map_or (λ n. n == part_number part) told true ≡ true) (sym is)
          (eq-eqb (part_number part) (part_number part) refl)
      | inr none ↦ subst (λ told. option_map_or (λ n. n == part_number part) told true ≡ true) (sym none) refl
    ])

number_of : (part : Part) (key : Key) (known : Knowledge) → operation_of (ask_of part key known) ≡ part_number part
number_of Find key known = refl
number_of Tell key known = refl

answered : LookLaws → (part : Part) (mark : List ℕ) (objects : List Object) (requests : List Request)
    (replies : List Reply) (key : Key) (looked : Looked)
    → DistinctUids objects → AllZip (Replied objects) requests replies → IsBefore part objects key looked
    → is_asked part looked ≡ true
    → Contains requests (request_of part mark key looked)
    → (reply : Reply) × Contains replies reply × (is_answer (part_number part) (id_of part mark key) reply ≡ true)
answered l part mark objects requests replies key looked distinct replied before asked member =
    let (reply, there, by) = All-contains (λ (x : Request). (y : Reply) × Contains replies y × Replied objects x y)
    requests (request_of part mark key looked)
    (zip_there (Replied objects) requests replies replied) member in
    elim by.id_is [
      | inl same ↦ (
        reply,
        there,
        passes part mark key looked reply same (elim by.operation_is [
          | inl is ↦ inl (is ∙ ap Some (number_of part key looked.known))
          | inr (none, failed) ↦ inr none
        ]),
      )
      | inr (none, failed) ↦ absurd (never_failed l part objects key looked reply.outcome distinct before asked
          (by.room, by.step) failed)
    ]

-- what is found where something is there
finds : {X : Type 0} (test : X → Bool) (xs : List X) (x : X) → Contains xs x → test x ≡ true → find test xs ≡ None → ⊥
finds {X} test xs x there passes none =
    let fails : test x ≡ false = All-contains (λ (y : X). test y ≡ false) xs x (none_passes test xs none) there in
    let t : true ≡ false = sym passes ∙ fails in absurd cc where
      none_passes : {Y : Type 0} (test : Y → Bool) (ys : List Y) → find test ys ≡ None → All (λ y. test y ≡ false) ys
      none_passes {Y} test [] none = All-nil (λ (y : Y). test y ≡ false)
      none_passes {Y} test (y ∷ ys) none = elim (cases_Bool (test y)) [
        | inl is ↦ let t : Some y ≡ None = subst (λ b. ◌≡◌ (if b then Some y else find test ys) None) is none in
            absurd cc
        | inr fails ↦ All-cons (λ (z : Y). test z ≡ false) y ys fails
            (none_passes test ys (subst (λ b. ◌≡◌ (if b then Some y else find test ys) None) fails none))
      ]

-- ---- and it tells

two_named : (xs : List Object) (o p : Object) (more : List Object) → xs ≡ o ∷ p ∷ more → 2 ≤ length xs
two_named xs o p more is = subst (λ ys. 2 ≤ length ys) (sym is) (omega arith)

after_found : (objects : List Object) (key : Key) (why : Why) (operation : Option ℕ) (found : List Object)
    → all_named key.attrs.name objects ≡ found
    → outcome_fits operation (Located (map (λ (o : Object). o.uid) found)) ≡ true → is_refused why ≡ false
    → IsBefore Tell objects key (heard_found key (Located (map (λ (o : Object). o.uid) found))
    (record { known = fresh_knowledge; shown = None; why = why }))
after_found objects key why operation [] is fits unrefused =
    (keeping.told refl (standings.absent is refl refl), unrefused)
after_found objects key why operation (o ∷ []) is fits unrefused =
    (keeping.found (first_fits operation o.uid [] fits) (o, is, refl) refl refl, unrefused)
after_found objects key why operation (o ∷ p ∷ more) is fits unrefused = (
  keeping.told refl (standings.several (two_named (all_named key.attrs.name objects) o p more is) refl refl),
  unrefused,
)

after_learnt : (objects : List Object) (key : Key) (uid : List ℕ) (o : Object) (why : Why) (known : Knowledge)
    → object_with uid objects ≡ Some o
    → o.attrs.name ≡ key.attrs.name → attributes_learnt key (attributes_of o) (one_learnt uid fresh_knowledge) ≡ Ok
    known → is_refused why ≡ false
    → IsAfter Tell objects key (record { known = known; shown = Some (shown_of (attributes_of o)); why = why })
after_learnt objects key uid o why known stands names learnt unrefused = (
  keeping.told (attributes_told key (attributes_of o) uid known learnt)
      (standings.there (record {
        uid = uid;
        object = o;
        stands = stands;
        name_is = names;
        shown_is = refl;
        learnt = learnt;
      })),
  unrefused,
)

after_told : (objects : List Object) (key : Key) (uid : List ℕ) (o : Object) (why : Why)
    → object_with uid objects ≡ Some o → o.attrs.name ≡ key.attrs.name
    → is_refused why ≡ false
    → IsAfter Tell objects key (heard_told key (Attributes uid (attributes_of o))
    (record { known = one_learnt uid fresh_knowledge; shown = None; why = why }))
after_told objects key uid o why stands names unrefused =
    let told : Attrs = attributes_of o in
    let known : Knowledge = if is_planned key told then state_learnt key told.state (one_learnt uid fresh_knowledge)
    else with_clash clashes.Attributes (one_learnt uid fresh_knowledge) in
    let named : is_named key told ≡ true = (bytes_eq-Decides o.attrs.name key.attrs.name).1 names in
    let own : pointwise nat_eq uid uid ≡ true = (bytes_eq-Decides uid uid).1 refl in
    let learnt : attributes_learnt key told (one_learnt uid fresh_knowledge) ≡ Ok known =
    subst (λ b. ◌≡◌ {A = Result Knowledge HearFault} (if b then Ok known else Err OtherName) (Ok known)) (sym named)
    refl in
    let before : Looked = record { known = one_learnt uid fresh_knowledge; shown = None; why = why } in
    subst (λ b. IsAfter Tell objects key (learnt_by
    (if b then attributes_learnt key told (one_learnt uid fresh_knowledge) else Err OtherIdentifier)
    (Some (shown_of told)) before))
    (sym own)
    (subst (λ r. IsAfter Tell objects key (learnt_by r (Some (shown_of told)) before)) (sym learnt)
    (after_learnt objects key uid o why known stands names learnt unrefused))

after_answer : LookLaws → (part : Part) (objects : List Object) (key : Key) (looked : Looked) (reply : Reply)
    → DistinctUids objects
    → IsBefore part objects key looked → is_asked part looked ≡ true → IsRight part objects key looked reply.outcome
    → answer_fits reply ≡ true
    → IsAfter part objects key (heard part key reply.outcome looked)
after_answer l Find objects key looked reply distinct (keeping.unheard u known shown, unrefused) asked right fits =
    let is = located_right l objects key looked reply.outcome right in
    subst (λ x. IsBefore Tell objects key (heard_found key reply.outcome x))
    (sym (made_of looked fresh_knowledge None known shown))
    (subst (λ o. IsBefore Tell objects key (heard_found key o
    (record { known = fresh_knowledge; shown = None; why = looked.why }))) (sym is)
    (after_found objects key looked.why reply.operation (all_named key.attrs.name objects) refl
    (subst (λ o. outcome_fits reply.operation o ≡ true) is (fits_of reply fits)) unrefused))
after_answer l Find objects key looked reply distinct (keeping.found in_range only known shown, unrefused) asked right
    fits = absurd only
after_answer l Find objects key looked reply distinct (keeping.told told so, unrefused) asked right fits =
    absurd (told_is_not_asked Find looked told asked)
after_answer l Tell objects key looked reply distinct (keeping.unheard u known shown, unrefused) asked right fits =
    absurd u
after_answer l Tell objects key looked reply distinct
    (keeping.found {uid = uid} in_range (o, alone, is) known shown, unrefused) asked right fits =
    let (stands, so) = attributes_right l objects key looked uid o reply.outcome distinct known alone is right in
    subst (λ x. IsAfter Tell objects key (heard_told key reply.outcome x))
    (sym (made_of looked (one_learnt uid fresh_knowledge) None known shown))
    (subst (λ a. IsAfter Tell objects key (heard_told key a
    (record { known = one_learnt uid fresh_knowledge; shown = None; why = looked.why }))) (sym so)
    (after_told objects key uid o looked.why stands (only_there key.attrs.name objects o alone).1 unrefused))
after_answer l Tell objects key looked reply distinct (keeping.told told so, unrefused) asked right fits =
    absurd (told_is_not_asked Tell looked told asked)

-- ---- a key that the part does not ask about is through with it

idle_fresh : (looked : Looked) → looked.known ≡ fresh_knowledge → is_refused looked.why ≡ false
    → is_asked Find looked ≡ false → ⊥
idle_fresh looked known unrefused idle =
    let fresh : not (is_refused looked.why) ≡ false =
    subst (λ k. is_asked Find (record { known = k; shown = looked.shown; why = looked.why }) ≡ false) known idle in
    let t : true ≡ false = subst (λ b. not b ≡ false) unrefused fresh in absurd cc

idle_found : (uid : List ℕ) (looked : Looked) → looked.known ≡ one_learnt uid fresh_knowledge
    → is_refused looked.why ≡ false → is_asked Tell looked ≡ false → ⊥
idle_found uid looked known unrefused idle =
    let found : not (is_refused looked.why) ≡ false =
    subst (λ k. is_asked Tell (record { known = k; shown = looked.shown; why = looked.why }) ≡ false) known idle in
    let t : true ≡ false = subst (λ b. not b ≡ false) unrefused found in absurd cc

idle_after : (part : Part) (objects : List Object) (key : Key) (looked : Looked) → IsBefore part objects key looked
    → is_asked part looked ≡ false
    → IsAfter part objects key looked
idle_after Find objects key looked (keeping.unheard u known shown, unrefused) idle =
    absurd (idle_fresh looked known unrefused idle)
idle_after Find objects key looked (keeping.found in_range only known shown, unrefused) idle = absurd only
idle_after Find objects key looked (keeping.told told so, unrefused) idle = (keeping.told told so, unrefused)
idle_after Tell objects key looked (keeping.unheard u known shown, unrefused) idle = absurd u
idle_after Tell objects key looked (keeping.found {uid = uid} in_range only known shown, unrefused) idle =
    absurd (idle_found uid looked known unrefused idle)
idle_after Tell objects key looked (keeping.told told so, unrefused) idle = (keeping.told told so, unrefused)

pub all_idle : (part : Part) (objects : List Object) (keys : List Key) (lookeds : List Looked)
    → AllZip (IsBefore part objects) keys lookeds
    → list_any (is_asked part) lookeds ≡ false → AllZip (IsAfter part objects) keys lookeds
all_idle part objects [] [] before idle = tt
all_idle part objects [] (looked ∷ lookeds) before idle = absurd before
all_idle part objects (key ∷ keys) [] before idle = absurd before
all_idle part objects (key ∷ keys) (looked ∷ lookeds) before idle = elim (cases_Bool (is_asked part looked)) [
  | inl asked ↦ let t : true ≡ false = subst (λ b. (b || list_any (is_asked part) lookeds) ≡ false) asked idle in
      absurd cc
  | inr not_asked ↦ (
    idle_after part objects key looked before.0 not_asked,
    all_idle part objects keys lookeds before.1
        (subst (λ b. (b || list_any (is_asked part) lookeds) ≡ false) not_asked idle),
  )
]

-- ---- and a key that is through with it is not asked about

not_asked_again : (part : Part) (objects : List Object) (key : Key) (looked : Looked)
    → IsAfter part objects key looked → is_asked part looked ≡ false
not_asked_again part objects key looked after = elim (cases_Bool (is_asked part looked)) [
  | inl asked ↦ absurd (through part objects key looked after asked)
  | inr idle ↦ idle
] where
  through : (part : Part) (objects : List Object) (key : Key) (looked : Looked) → IsAfter part objects key looked
      → is_asked part looked ≡ true → ⊥
  through Find objects key looked (keeping.unheard u known shown, unrefused) asked = u
  through Find objects key looked (keeping.found {uid = uid} in_range only known shown, unrefused)
      asked = found_not_looked uid looked known asked
  through Find objects key looked (keeping.told told so, unrefused) asked = told_is_not_asked Find looked told asked
  through Tell objects key looked (keeping.unheard u known shown, unrefused) asked = u
  through Tell objects key looked (keeping.found in_range none known shown, unrefused) asked = none
  through Tell objects key looked (keeping.told told so, unrefused) asked = told_is_not_asked Tell looked told asked

pub none_asked : (part : Part) (objects : List Object) (keys : List Key) (lookeds : List Looked)
    → AllZip (IsAfter part objects) keys lookeds
    → list_any (is_asked part) lookeds ≡ false
none_asked part objects [] [] after = refl
none_asked part objects [] (looked ∷ lookeds) after = absurd after
none_asked part objects (key ∷ keys) [] after = absurd after
none_asked part objects (key ∷ keys) (looked ∷ lookeds) after =
    subst (λ b. (b || list_any (is_asked part) lookeds) ≡ false) (sym (not_asked_again part objects key looked after.0))
    (none_asked part objects keys lookeds after.1)

-- ---- all keys

from_calm : LookLaws → (part : Part) (mark : List ℕ) (why : Why) (objects : List Object) (requests : List Request)
    (replies : List Reply) (key : Key)
    (looked : Looked) (found : Option Reply)
    → find (is_answer (part_number part) (id_of part mark key)) replies ≡ found → DistinctUids objects
    → All (λ r. answer_fits r ≡ true) replies → AllZip (Replied objects) requests replies
    → All (AsksOf part mark objects) requests
    → IsBefore part objects key looked → is_asked part looked ≡ true
    → Contains requests (request_of part mark key looked)
    → IsAfter part objects key (heard_from part key why found looked)
from_calm l part mark why objects requests replies key looked None none distinct fits replied asks before asked member =
    let (reply, there, is) = answered l part mark objects requests replies key looked distinct replied before asked
    member in
    absurd (finds (is_answer (part_number part) (id_of part mark key)) replies reply there is none)
from_calm l part mark why objects requests replies key looked (Some reply) is distinct fits replied asks before asked
    member =
    let (there, answers) = found_in (is_answer (part_number part) (id_of part mark key)) replies reply is in
    after_answer l part objects key looked reply distinct before asked
    (right_answer part mark objects requests replies key looked reply replied asks before asked there answers)
    (All-contains (λ r. answer_fits r ≡ true) replies reply fits there)

calm_each : LookLaws → (part : Part) (mark : List ℕ) (why : Why) (objects : List Object) (requests : List Request)
    (replies : List Reply) (keys : List Key)
    (lookeds : List Looked) → DistinctUids objects → All (λ r. answer_fits r ≡ true) replies
    → AllZip (Replied objects) requests replies
    → All (AsksOf part mark objects) requests → AllZip (IsBefore part objects) keys lookeds
    → AllZip (Requested part mark requests) keys lookeds
    → AllZip (IsAfter part objects) keys (heard_each part mark why replies keys lookeds)
calm_each l part mark why objects requests replies [] [] distinct fits replied asks before members = tt
calm_each l part mark why objects requests replies [] (looked ∷ lookeds) distinct fits replied asks before members =
    absurd before
calm_each l part mark why objects requests replies (key ∷ keys) [] distinct fits replied asks before members =
    absurd before
calm_each l part mark why objects requests replies (key ∷ keys) (looked ∷ lookeds) distinct fits replied asks before
    members =
    let found : Option Reply = find (is_answer (part_number part) (id_of part mark key)) replies in
    let rest = calm_each l part mark why objects requests replies keys lookeds distinct fits replied asks before.1
    members.1 in
    elim (cases_Bool (is_asked part looked)) [
      | inl asked ↦ (
        subst (λ b. IsAfter part objects key (if b then heard_from part key why found looked else looked)) (sym asked)
            (from_calm l part mark why objects requests replies key looked found refl distinct fits replied asks
            before.0 asked (members.0 asked)),
        rest,
      )
      | inr idle ↦ (
        subst (λ b. IsAfter part objects key (if b then heard_from part key why found looked else looked)) (sym idle)
            (idle_after part objects key looked before.0 idle),
        rest,
      )
    ]

pub calm_after : LookLaws → (part : Part) (mark : List ℕ) (why : Why) (objects : List Object)
    (requests : List Request) (replies : List Reply)
    (keys : List Key) (lookeds : List Looked) → requests ≡ requests_of part mark keys lookeds → DistinctUids objects
    → All (λ r. answer_fits r ≡ true) replies
    → AllZip (Replied objects) requests replies → AllZip (IsBefore part objects) keys lookeds
    → AllZip (IsAfter part objects) keys (heard_each part mark why replies keys lookeds)
calm_after l part mark why objects requests replies keys lookeds is distinct fits replied before =
    calm_each l part mark why objects requests replies keys lookeds distinct fits replied
    (subst (All (AsksOf part mark objects)) (sym is) (asked_of part mark objects keys lookeds before)) before
    (requested part mark objects requests keys lookeds before
    (λ request there. subst (λ rs. Contains rs request) (sym is) there))
