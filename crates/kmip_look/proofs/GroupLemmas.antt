-- What a group and a whole look do to the past.
use Rattle.std.proofs.Common.{◌≡◌, ◌≤◌, ℕ, zero, suc, min, take, drop, ◌+◌, ◌*◌, Bool, true, false, nat_le, List, [], ◌∷◌, ◌++◌, length, refl, sym, ap, subst, ◌∙◌, arith, ◌==◌, append-nil, append_assoc}
use Rattle.std.specs.Bool.{⊤}
use Rattle.std.proofs.lemmas.Bool.{and_from, and_parts, eqb-true, le-leb, leb-true}
use Rattle.std.proofs.lemmas.List.{length-append, take-append-drop}
use Rattle.std.proofs.lemmas.List.Elements.{All-contains_itself, All-weaker, Contains-append_left, Contains-append_right}
use Rattle.std.specs.List.{All, AllZip, Contains}
use Rattle.kmip_objects.specs.Objects.{DistinctUids}
use Rattle.kmip_messages.specs.Members.{may_have}
use Rattle.kmip_plan.specs.declared.key.Key.{Key}
use Rattle.kmip_protocol.specs.Past.{Names, Past}
use Rattle.kmip_look.specs.Looks.{IsFresh, IsSaid, Sends, TellsAll}
use Rattle.kmip_look.specs.Moments as moments
use Rattle.kmip_look.specs.Moments.{IsLater, WasSo}
use Rattle.kmip_look.specs.PrivateKeeping.{ComesThrough, Goes, GoesThrough, IsAfter, IsAt, GroupsCalmly, IsSame, Kept, LooksAt, SendsLooks, WereSo, both_parts, unasked}
use Rattle.kmip_look.specs.declared.looked.Looked.{Looked}
use Rattle.kmip_look.specs.declared.part.Part.TheVariants.{Tell}
use Rattle.kmip_look.proofs.KeptLemmas.{kept_fresh, nothing_later}
use Rattle.kmip_look.proofs.PastLemmas.{all_said, all_told, same_nowhere, same_on, sends_none, sends_on, sends_within, unasked_before, unasked_so, were_later}

-- ---- group after group

pub zip_more : {A B : Type 0} (R : A → B → Type 0) (xs vs : List A) (ys ws : List B) → AllZip R xs ys → AllZip R vs ws → AllZip R (xs ++ vs) (ys ++ ws)
zip_more R [] vs [] ws first second = second
zip_more R [] vs (y ∷ ys) ws first second = absurd first
zip_more R (x ∷ xs) vs [] ws first second = absurd first
zip_more R (x ∷ xs) vs (y ∷ ys) ws first second = (first.0, zip_more R xs vs ys ws first.1 second)

-- what holds after some groups, over an honest link
pub record SoFar (names : Names) (mark : List ℕ) (keys rest : List Key) (lookeds : List Looked) (start now : Past) : Type 0 where
  pub front : List Key
  pub is : front ++ rest ≡ keys
  pub later : IsLater names start now
  pub so : IsFresh mark start → Kept names mark start now × WereSo names start now front lookeds
  pub sends : Sends keys mark (8 * length front) start now

pub far_first : (names : Names) (mark : List ℕ) (keys : List Key) (p : Past) → SoFar names mark keys keys [] p p
far_first names mark keys p = record {
  front = [];
  is = refl;
  later = nothing_later names p;
  so = λ fresh. (kept_fresh names mark p fresh, tt);
  sends = sends_none keys mark 0 p;
}

-- the keys of the next group are keys of the plan
group_within : (front group later keys : List Key) → front ++ (group ++ later) ≡ keys → All (Contains keys) group
group_within front group later keys is =
    subst (λ ks. All (Contains ks) group) is
    (All-weaker (Contains group) (Contains (front ++ (group ++ later)))
    (λ key there. Contains-append_right front (group ++ later) key (Contains-append_left group later key there)) group (All-contains_itself group))

pub far_next : (names : Names) (mark : List ℕ) (keys rest group later : List Key) (lookeds more : List Looked) (start now new : Past)
    → group ++ later ≡ rest → SoFar names mark keys rest lookeds start now → 1 ≤ length group → SendsLooks group mark 8 now new
    → LooksAt names mark group more now new → SoFar names mark keys later (lookeds ++ more) start new
far_next names mark keys rest group later lookeds more start now new parts far some sends looks =
    let is : far.front ++ (group ++ later) ≡ keys = ap (λ ks. far.front ++ ks) parts ∙ far.is in
    let many = length-append far.front group in
    record {
      front = far.front ++ group;
      is = append_assoc far.front group later ∙ is;
      later = moments.onward far.later looks.later;
      so = λ fresh.
          let before = far.so fresh in
          let after = looks.so start before.0 in (
            after.0,
            zip_more (λ key. IsAt ⊤ (λ uid. ⊤) (WasSo names start new key)) far.front group lookeds more
                (were_later names start now new far.front lookeds looks.later before.1) after.1,
          );
      sends = sends_on keys mark (8 * length far.front) 8 (8 * length (far.front ++ group)) start now new (omega (arith, many, some)) far.sends
          (sends keys (group_within far.front group later keys is));
    }

pub far_broken : (names : Names) (mark : List ℕ) (keys rest group later : List Key) (lookeds : List Looked) (start now new : Past)
    → group ++ later ≡ rest → SoFar names mark keys rest lookeds start now → 1 ≤ length rest → SendsLooks group mark 8 now new
    → Sends keys mark (8 * length keys) start new
far_broken names mark keys rest group later lookeds start now new parts far some sends =
    let is : far.front ++ (group ++ later) ≡ keys = ap (λ ks. far.front ++ ks) parts ∙ far.is in
    let many : length keys ≡ length far.front + length rest = ap length (sym far.is) ∙ length-append far.front rest in
    sends_on keys mark (8 * length far.front) 8 (8 * length keys) start now new (omega (arith, many, some)) far.sends
    (sends keys (group_within far.front group later keys is))

pub far_sent : (names : Names) (mark : List ℕ) (keys rest : List Key) (lookeds : List Looked) (start now : Past)
    → SoFar names mark keys rest lookeds start now → Sends keys mark (8 * length keys) start now
far_sent names mark keys rest lookeds start now far =
    let many : length keys ≡ length far.front + length rest = ap length (sym far.is) ∙ length-append far.front rest in
    sends_within keys mark (8 * length far.front) (8 * length keys) start now (omega (arith, many)) far.sends

pub front_is : (front rest keys : List Key) → front ++ rest ≡ keys → rest ≡ [] → front ≡ keys
front_is front rest keys is none = sym (append-nil front) ∙ ap (λ ks. front ++ ks) (sym none) ∙ is

pub far_said : (names : Names) (mark : List ℕ) (keys rest : List Key) (lookeds : List Looked) (start now : Past) → rest ≡ []
    → SoFar names mark keys rest lookeds start now → IsFresh mark start → AllZip (IsSaid names start now) keys lookeds
far_said names mark keys rest lookeds start now none far fresh =
    subst (λ ks. AllZip (IsSaid names start now) ks lookeds) (front_is far.front rest keys far.is none)
    (all_said names start now far.front lookeds (far.so fresh).1)

-- what holds after some groups, over a calm link
pub record CalmSoFar (keys rest : List Key) (lookeds : List Looked) (goes_on : Bool) (start now : Past) : Type 0 where
  pub front : List Key
  pub is : front ++ rest ≡ keys
  pub same : IsSame start now
  pub comes : DistinctUids start.objects → ComesThrough Tell (2 * length front) front lookeds goes_on start now

pub calm_first : (keys : List Key) (p : Past) → CalmSoFar keys keys [] true p p
calm_first keys p = record {
  front = [];
  is = refl;
  same = same_nowhere p;
  comes = λ distinct. record { stand = tt; goes = refl; few = omega arith };
}

pub calm_next : (keys rest group later : List Key) (lookeds more : List Looked) (might may : Bool) (start now new : Past) → group ++ later ≡ rest
    → 1 ≤ length group → CalmSoFar keys rest lookeds might start now → GroupsCalmly group more might may now new
    → CalmSoFar keys later (lookeds ++ more) may start new
calm_next keys rest group later lookeds more might may start now new parts some far goes = record {
  front = far.front ++ group;
  is = append_assoc far.front group later ∙ ap (λ ks. far.front ++ ks) parts ∙ far.is;
  same = same_on start now new far.same goes.same;
  comes = λ distinct.
      let before = far.comes distinct in
      let after = goes.comes before.goes (subst DistinctUids (sym far.same.objects) distinct) in
      let many = length-append far.front group in
      record {
        stand = zip_more (IsAfter Tell start.objects) far.front group lookeds more before.stand
            (subst (λ objects. AllZip (IsAfter Tell objects) group more) far.same.objects after.stand);
        goes = after.goes;
        few = omega (arith, before.few, after.few, many, some);
      };
}

pub calm_told : (keys rest : List Key) (lookeds : List Looked) (goes_on : Bool) (start now : Past) → rest ≡ [] → CalmSoFar keys rest lookeds goes_on start now
    → DistinctUids start.objects → TellsAll keys lookeds start now
calm_told keys rest lookeds goes_on start now none far distinct =
    let whole = front_is far.front rest keys far.is none in
    let all = far.comes distinct in
    subst (λ ks. TellsAll ks lookeds start now) whole
    (record { stand = all_told start.objects far.front lookeds all.stand; few = all.few })

-- ---- a group

pub group_asked : (names : Names) (mark : List ℕ) (keys : List Key) (olds news : List Looked) (old new : Past) → length olds ≡ length keys
    → All (λ looked. looked ≡ unasked) olds → Goes names mark keys olds news old new → LooksAt names mark keys news old new
group_asked names mark keys olds news old new many all goes = record {
  later = goes.later;
  so = λ start kept. goes.so start kept (unasked_so names start old keys olds many all);
}

pub group_calm : (keys : List Key) (olds news : List Looked) (might may : Bool) (old new : Past) → length olds ≡ length keys
    → All (λ looked. looked ≡ unasked) olds → GoesThrough both_parts keys olds news may old new → GroupsCalmly keys news might may old new
group_calm keys olds news might may old new many all goes = record {
  same = goes.same;
  comes = λ on distinct. goes.comes distinct (unasked_before old.objects keys olds many all);
}

pub group_idle : (keys : List Key) (lookeds : List Looked) (might : Bool) (p : Past) → might ≡ false → GroupsCalmly keys lookeds might might p p
group_idle keys lookeds might p idle = record {
  same = same_nowhere p;
  comes = λ on distinct. let t : true ≡ false = sym on ∙ idle in absurd cc;
}

pub group_left : (names : Names) (mark : List ℕ) (keys : List Key) (lookeds : List Looked) (p : Past) → length lookeds ≡ length keys
    → All (λ looked. looked ≡ unasked) lookeds → LooksAt names mark keys lookeds p p
group_left names mark keys lookeds p many all = record {
  later = nothing_later names p;
  so = λ start kept. (kept, unasked_so names start p keys lookeds many all);
}

-- ---- counts

pub one_left : (n : ℕ) → false ≡ (n == 0) → 1 ≤ n
one_left zero is = absurd cc
one_left (suc n) is = omega arith

pub joined : {A : Type 0} (n : ℕ) (xs front back : List A) → front ≡ take n xs → back ≡ drop n xs → front ++ back ≡ xs
joined n xs front back is so = ap (λ ys. ys ++ back) is ∙ ap (λ zs. take n xs ++ zs) so ∙ take-append-drop n xs

-- how many keys a group has
pub group_size : (batch left n size : ℕ) → may_have batch ≡ true → false ≡ (left == 0) → n ≡ min batch left → size ≡ n → (may_have size ≡ true) × (1 ≤ size)
group_size batch left n size many some is same =
    let low : 1 ≤ batch = leb-true 1 batch (and_parts (nat_le 1 batch) (nat_le batch 8) many).0 in
    let high : batch ≤ 8 = leb-true batch 8 (and_parts (nat_le 1 batch) (nat_le batch 8) many).1 in
    let there : 1 ≤ left = one_left left some in
    let within : 1 ≤ size = omega (arith, low, there, is, same) in
    let under : size ≤ 8 = omega (arith, high, is, same) in
    (and_from (nat_le 1 size) (nat_le size 8) (le-leb 1 size within) (le-leb size 8 under), within)

pub none_there : {A : Type 0} (xs : List A) → true ≡ (length xs == 0) → xs ≡ []
none_there [] is = refl
none_there (x ∷ xs) is = let zero = eqb-true (length (x ∷ xs)) 0 (sym is) in absurd (omega (arith, zero))
