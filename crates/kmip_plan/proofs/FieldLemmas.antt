-- A field is read just where it is lawful, and the steps of a reader.
use Rattle.std.proofs.Common.{◌≡◌, ℕ, zero, suc, leb, ℤ, pos, ◌≤◌, Bool, true, false, not, ◌&&◌, ◌==◌, cond, List, codes, Option, Some, None, Result, Ok, Err, if◌then◌else◌, refl, sym, ap, ◌∙◌, inl, inr, arith}
use Rattle.std.proofs.lemmas.Bool.{cases_Bool, and_parts, eqb-true, leb-true, le-leb, false_from_ne_true}
use Rattle.std.specs.Option.{option_and_then}
use Rattle.kmip_objects.specs.Ranges.{is_usage}
use Rattle.kmip_ttlv.proofs.ReadSteps.{Reads, reads-as}
use Rattle.toml.specs.Data.{Items, Members, no_members, member}
use Rattle.kmip_plan.specs.declared.plan_fault.PlanFault.{PlanFault}
use Rattle.kmip_plan.specs.declared.plan_fault.PlanFault.TheVariants as faults
use Rattle.kmip_plan.specs.declared.target.Target.{Target}
use Rattle.kmip_plan.specs.Fields.{if_so, algorithm_of, are_once, bit_of, mask_of, usage_in, usage_of, target_of}
use Rattle.kmip_plan.specs.Plans.{IsUsage, IsAlgorithm}
use Rattle.kmip_plan.specs.Reading.{need, guard, none_other}
use Rattle.kmip_plan.specs.Tables.{text_at, array_at, has_only, first_other, times, all_words}
use Rattle.kmip_plan.specs.TargetWords.{target_word, target_of_word}
use Rattle.kmip_plan.specs.Words.{algorithm_of_word, is_usage_word}
use Rattle.std.proofs.lemmas.Option.{same_Some}
use Rattle.kmip_plan.proofs.OptionLemmas.{not_some}
use Rattle.kmip_plan.proofs.TargetLemmas.{word_of_target, target_of_its_word}
use Rattle.kmip_plan.proofs.WordLemmas.{word_of_algorithm, algorithm_of_its_word}

-- ---- the steps of a reader

abbrev pub ok : (A : Type 0) → A → Result A PlanFault
ok A a = Ok a

abbrev err : (A : Type 0) → PlanFault → Result A PlanFault
err A e = Err e

same_ok : {A : Type 0} (x y : A) → ok A x ≡ ok A y → x ≡ y
same_ok x y e = cc

not_ok : {A X : Type 0} (e : PlanFault) (a : A) → err A e ≡ ok A a → X
not_ok e a is = absurd cc

pub reads-need : {A : Type 0} (fault : PlanFault) (o : Option A) → Reads (need fault o) (λ a. o ≡ Some a)
reads-need fault None = record { sound = λ a e. not_ok fault a e; complete = λ a e. not_some a e }
reads-need fault (Some x) = record { sound = λ a e. ap Some (same_ok x a e); complete = λ a e. ap Ok (same_Some x a e) }

pub reads-guard : (fault : PlanFault) (b : Bool) → Reads (guard fault b) (λ u. b ≡ true)
reads-guard fault true = record { sound = λ u e. refl; complete = λ u e. refl }
reads-guard fault false = record { sound = λ u e. not_ok fault u e; complete = λ u e. absurd cc }

none_if_only : (known : List ℕ → Bool) (ms : Members) → has_only known ms ≡ true → first_other known ms ≡ None
none_if_only known no_members h = refl
none_if_only known (member word d ms) h =
    let parts = and_parts (known word) (has_only known ms) h in
    rw parts.0 (none_if_only known ms parts.1)

only_step : (b : Bool) (word : List ℕ) (rest : Option (List ℕ)) (only : Bool) → (rest ≡ None → only ≡ true)
    → cond b rest (Some word) ≡ None → (b && only) ≡ true
only_step true word rest only h e = h e
only_step false word rest only h e = absurd cc

only_if_none : (known : List ℕ → Bool) (ms : Members) → first_other known ms ≡ None → has_only known ms ≡ true
only_if_none known no_members e = refl
only_if_none known (member word d ms) e = only_step (known word) word (first_other known ms) (has_only known ms) (only_if_none known ms) e

reads-nothing : (place : ℕ) (o : Option (List ℕ)) → Reads (none_other place o) (λ u. o ≡ None)
reads-nothing place None = record { sound = λ u e. refl; complete = λ u e. refl }
reads-nothing place (Some word) = record { sound = λ u e. not_ok (faults.Unknown word place) u e; complete = λ u e. absurd cc }

pub reads-only : (place : ℕ) (known : List ℕ → Bool) (ms : Members) → Reads (none_other place (first_other known ms)) (λ u. has_only known ms ≡ true)
reads-only place known ms =
    reads-as _ _ (λ u. has_only known ms ≡ true) (λ u e. only_if_none known ms e) (λ u e. none_if_only known ms e)
    (reads-nothing place (first_other known ms))

-- ---- the fields

-- a value that was found, and then judged
pub there : {A B : Type 0} (f : A → Option B) (o : Option A) (b : B) → option_and_then f o ≡ Some b → (a : A) × (o ≡ Some a) × (f a ≡ Some b)
there f None b e = not_some b e
there f (Some a) b e = (a, refl, e)

judged : {A B : Type 0} (f : A → Option B) (o : Option A) (a : A) (b : B) → o ≡ Some a → f a ≡ Some b → option_and_then f o ≡ Some b
judged f o a b is e = ap (option_and_then f) is ∙ e

passed : {A : Type 0} (test : A → Bool) (b : Bool) (a x : A) → test a ≡ b → (if b then Some a else None) ≡ Some x → (Some a ≡ Some x) × (test x ≡ true)
passed test true a x h e = (e, ap test (sym (same_Some a x e)) ∙ h)
passed test false a x h e = not_some x e

-- a value that passes a test, as the value and the test
pub found_so : {A : Type 0} (test : A → Bool) (o : Option A) (x : A) → option_and_then (if_so test) o ≡ Some x → (o ≡ Some x) × (test x ≡ true)
found_so test o x e =
    let (a, is, so) = there (if_so test) o x e in
    let (same, fits) = passed test (test a) a x refl so in
    (is ∙ same, fits)

pub read_so : {A : Type 0} (test : A → Bool) (o : Option A) (x : A) → o ≡ Some x → test x ≡ true → option_and_then (if_so test) o ≡ Some x
read_so test o x is fits = judged (if_so test) o x x is (rw fits refl)

pub algorithm_found : (ms : Members) (a : ℕ) → algorithm_of ms ≡ Some a → IsAlgorithm ms a
algorithm_found ms a e =
    let (word, is, names) = there algorithm_of_word (text_at (codes "algorithm") ms) a e in
    record { word = word; stands = is; named = word_of_algorithm word a names }

pub algorithm_read : (ms : Members) (a : ℕ) → IsAlgorithm ms a → algorithm_of ms ≡ Some a
algorithm_read ms a h = judged algorithm_of_word _ h.word a h.stands (algorithm_of_its_word a h.word h.named)

pub target_found : (ms : Members) (t : Target) → target_of ms ≡ Some t → text_at (codes "target") ms ≡ Some (target_word t)
target_found ms t e =
    let (word, is, names) = there target_of_word (text_at (codes "target") ms) t e in
    is ∙ ap Some (word_of_target word t names)

pub target_read : (ms : Members) (t : Target) → text_at (codes "target") ms ≡ Some (target_word t) → target_of ms ≡ Some t
target_read ms t is = judged target_of_word _ (target_word t) t is (target_of_its_word t)

pub bit_within : (items : Items) (word : List ℕ) (bit : ℕ) → bit_of items word bit ≤ bit
bit_within items word bit =
    elim (cases_Bool (times word items == 0)) [
      | inl none ↦ rw none (omega arith)
      | inr some ↦ rw some (omega arith)
    ]

pub mask_within : (items : Items) → mask_of items ≤ 511
mask_within items =
    omega (
      arith,
      bit_within items (codes "sign") 1,
      bit_within items (codes "verify") 2,
      bit_within items (codes "encrypt") 4,
      bit_within items (codes "decrypt") 8,
      bit_within items (codes "wrap-key") 16,
      bit_within items (codes "unwrap-key") 32,
      bit_within items (codes "mac-generate") 128,
      bit_within items (codes "mac-verify") 256,
    )

both_tests : (a b : Bool) → a ≡ true → b ≡ false → (a && not b) ≡ true
both_tests a b h k = rw (h, k) refl

positive : (n : ℕ) → (n == 0) ≡ false → 1 ≤ n
positive zero e = absurd cc
positive (suc n) e = omega arith

not_large : (n : ℕ) → n ≤ 511 → 512 ≤ n → ⊥
not_large n small large = absurd (omega (arith, small, large))

-- a mask that is not zero is in its range, and one in its range is not zero
usage_in_range : (n : ℕ) → n ≤ 511 → (n == 0) ≡ false → is_usage (pos n) ≡ true
usage_in_range n small some = both_tests _ _ (le-leb 1 n (positive n some)) (false_from_ne_true (leb 512 n) (λ large. not_large n small (leb-true 512 n large)))

zero_is_none : is_usage (pos 0) ≡ true → ⊥
zero_is_none e = absurd cc

usage_not_zero : (n : ℕ) → is_usage (pos n) ≡ true → (n == 0) ≡ false
usage_not_zero n fits =
    elim (cases_Bool (n == 0)) [
      | inl zeroes ↦ absurd (zero_is_none (ap (λ m. is_usage (pos m)) (sym (eqb-true n 0 zeroes)) ∙ fits))
      | inr some ↦ some
    ]

usage_parts : (a b c : Bool) (mask : ℕ) (m : ℤ) → (if a && b then (if c then None else Some (pos mask)) else None) ≡ Some m
    → (a ≡ true) × (b ≡ true) × (c ≡ false) × (pos mask ≡ m)
usage_parts true true false mask m e = (refl, refl, refl, same_Some (pos mask) m e)
usage_parts true true true mask m e = not_some m e
usage_parts true false c mask m e = not_some m e
usage_parts false b c mask m e = not_some m e

pub usage_found : (ms : Members) (m : ℤ) → usage_of ms ≡ Some m → IsUsage ms m
usage_found ms m e =
    let (items, is, in_it) = there usage_in (array_at (codes "usage") ms) m e in
    let (words, once, some, same) = usage_parts (all_words is_usage_word items) (are_once items) (mask_of items == 0) (mask_of items) m in_it in
    record {
      items = items;
      stands = is;
      words = words;
      once = once;
      mask_is = sym same;
      in_range = ap is_usage (sym same) ∙ usage_in_range (mask_of items) (mask_within items) some;
    }

usage_whole : (a b c : Bool) (mask : ℕ) → a ≡ true → b ≡ true → c ≡ false → (if a && b then (if c then None else Some (pos mask)) else None) ≡ Some (pos mask)
usage_whole a b c mask words once some = rw (words, once, some) refl

pub usage_read : (ms : Members) (m : ℤ) → IsUsage ms m → usage_of ms ≡ Some m
usage_read ms m h =
    let some = usage_not_zero (mask_of h.items) (ap is_usage (sym h.mask_is) ∙ h.in_range) in
    judged usage_in _ h.items m h.stands
    (usage_whole _ _ (mask_of h.items == 0) (mask_of h.items) h.words h.once some ∙ ap Some (sym h.mask_is))
