-- A plan is read from a table just where the table is that plan.
use Rattle.std.proofs.Common.{◌≡◌, ℕ, ℤ, ◌+◌, ◌≤◌, Bool, true, false, not, ◌&&◌, ◌||◌, ◌==◌, nat_le, List, [], ◌∷◌, ◌++◌, length, codes, Option, Some, None, Result, Ok, Err, IfOk, if◌then◌else◌, subst, refl, sym, ap, ◌∙◌, append_assoc, arith}
use Rattle.std.proofs.lemmas.Bool.{leb-true, le-leb}
use Rattle.std.proofs.lemmas.List.{append-nil}
use Rattle.std.specs.List.{list_all}
use Rattle.std.specs.Option.{option_and_then}
use Rattle.kmip_objects.specs.Ranges.{is_name, is_length}
use Rattle.kmip_ttlv.proofs.ReadSteps.{Reads, reads-ok, reads-bind, reads-as}
use Rattle.toml.specs.Data.{Data, Items, no_items, item, Members, get_member, as_str, as_integer, as_array}
use Rattle.toml.specs.Parse.{parse_document}
use Rattle.kmip_plan.specs.declared.plan_fault.PlanFault.{PlanFault}
use Rattle.kmip_plan.specs.declared.plan_fault.PlanFault.TheVariants as faults
use Rattle.kmip_plan.specs.declared.field.Field.TheVariants as field
use Rattle.kmip_plan.specs.declared.key.Key.{Key}
use Rattle.kmip_plan.specs.declared.target.Target.{Target}
use Rattle.kmip_plan.specs.Chains.{is_revoked}
use Rattle.kmip_plan.specs.Fields.{name_of, algorithm_of, length_of, usage_of, target_of, reason_in, reason_of}
use Rattle.kmip_plan.specs.Limits.{most_keys}
use Rattle.kmip_plan.specs.Plans.{IsKey, AreKeys, HaveNewNames, IsPlan, key_fits, IsLawful}
use Rattle.kmip_plan.specs.Reading.{has_key_named, all_there, suite_of, key_in, keys_in, plan_in, plan_read, GivesPlan}
use Rattle.kmip_plan.specs.Tables.{text_at, integer_at, array_at, fields_of, is_top_field, is_key_field, has_only, count}
use Rattle.kmip_plan.specs.Words.{reason_of_word}
use Rattle.std.proofs.lemmas.Option.{same_Some}
use Rattle.kmip_plan.proofs.OptionLemmas.{not_some}
use Rattle.kmip_plan.proofs.WordLemmas.{algorithm_of_its_word, algorithm_in_range, reason_in_range}
use Rattle.kmip_plan.proofs.FieldLemmas.{ok, reads-need, reads-guard, reads-only, there, found_so, read_so, algorithm_found, algorithm_read, target_found, target_read, usage_found, usage_read}

-- ---- a key

-- each of the five fields has a value
abbrev IsThere : List ℕ → Members → Type 0
IsThere word ms = (d : Data) × (get_member word ms ≡ Some d)

pub record AreThere (ms : Members) : Type 0 where
  pub name : IsThere (codes "name") ms
  pub algorithm : IsThere (codes "algorithm") ms
  pub bits : IsThere (codes "length") ms
  pub usage : IsThere (codes "usage") ms
  pub target : IsThere (codes "target") ms

there-law : (place : ℕ) (ms : Members) → Reads (all_there place ms) (λ u. AreThere ms)
unfolding all_there
there-law place ms = reads-as (all_there place ms) _ (λ u. AreThere ms)
    (λ u (name, has_name, (algorithm, has_algorithm, (bits, has_bits, (usage, has_usage, (target, has_target, _))))). record {
      name = (name, has_name);
      algorithm = (algorithm, has_algorithm);
      bits = (bits, has_bits);
      usage = (usage, has_usage);
      target = (target, has_target);
    })
    (λ u p. (p.name.0, p.name.1, (p.algorithm.0, p.algorithm.1, (p.bits.0, p.bits.1, (p.usage.0, p.usage.1, (p.target.0, p.target.1, refl))))))
    (reads-bind _ _ _ _ (reads-need (faults.Missing field.Name place) (get_member (codes "name") ms)) (λ name.
    reads-bind _ _ _ _ (reads-need (faults.Missing field.Algorithm place) (get_member (codes "algorithm") ms)) (λ algorithm.
    reads-bind _ _ _ _ (reads-need (faults.Missing field.Length place) (get_member (codes "length") ms)) (λ bits.
    reads-bind _ _ _ _ (reads-need (faults.Missing field.Usage place) (get_member (codes "usage") ms)) (λ usage.
    reads-bind _ _ _ _ (reads-need (faults.Missing field.Target place) (get_member (codes "target") ms)) (λ target.
    reads-ok tt))))))

value_there : {A : Type 0} (f : Data → Option A) (word : List ℕ) (ms : Members) (a : A) → option_and_then f (get_member word ms) ≡ Some a → IsThere word ms
value_there f word ms a e =
    let (d, is, so) = there f (get_member word ms) a e in
    (d, is)

all_are_there : (ms : Members) (k : Key) → IsKey ms k → AreThere ms
all_are_there ms k h = record {
  name = value_there as_str (codes "name") ms _ h.name;
  algorithm = value_there as_str (codes "algorithm") ms _ h.algorithm.stands;
  bits = value_there as_integer (codes "length") ms _ h.bits;
  usage = value_there as_array (codes "usage") ms _ h.usage.stands;
  target = value_there as_str (codes "target") ms _ h.target;
}

-- the algorithm and the length of its keys
pub record IsSuite (ms : Members) (suite : ℕ × ℤ) : Type 0 where
  pub algorithm : algorithm_of ms ≡ Some suite.0
  pub bits : length_of suite.0 ms ≡ Some suite.1

suite-law : (place : ℕ) (ms : Members) → Reads (suite_of place ms) (IsSuite ms)
unfolding suite_of
suite-law place ms = reads-as (suite_of place ms) _ (IsSuite ms)
    (λ a p. subst (IsSuite ms) p.2.2 (record { algorithm = p.1; bits = p.2.1 }))
    (λ a p. (a.0, p.algorithm, (a.1, p.bits, refl)))
    (reads-bind _ _ _ _ (reads-need (faults.BadLength place) (algorithm_of ms)) (λ algorithm.
    reads-bind _ _ _ _ (reads-need (faults.BadLength place) (length_of algorithm ms)) (λ bits.
    reads-ok (algorithm, bits))))

-- the key of a table, with a name that no key before it has
pub record IsNewKey (keys : List Key) (ms : Members) (key : Key) : Type 0 where
  pub is : IsKey ms key
  pub new : has_key_named key.attrs.name keys ≡ false

opposite : (b : Bool) → not b ≡ true → b ≡ false
opposite false e = refl
opposite true e = absurd cc

new_key : (keys : List Key) (ms : Members) (name : List ℕ) (suite : ℕ × ℤ) (usage : ℤ) (target : Target) (reason : ℕ)
    → has_only is_key_field ms ≡ true → name_of ms ≡ Some name → IsSuite ms suite → usage_of ms ≡ Some usage → target_of ms ≡ Some target
    → reason_of target ms ≡ Some reason → not (has_key_named name keys) ≡ true
    → IsNewKey keys ms (record { attrs = record { name = name; algorithm = suite.0; length = suite.1; usage = usage }; target = target; reason = reason })
new_key keys ms name suite usage target reason only called suits used goes because new =
    let (stands, fits) = found_so is_name (text_at (codes "name") ms) name called in
    let (long, bits) = found_so (is_length suite.0) (integer_at (codes "length") ms) suite.1 suits.bits in
    record {
      is = record {
        no_others = only;
        name = stands;
        name_in_range = fits;
        algorithm = algorithm_found ms suite.0 suits.algorithm;
        bits = long;
        bits_in_range = bits;
        usage = usage_found ms usage used;
        target = target_found ms target goes;
        reason = because;
      };
      new = opposite (has_key_named name keys) new;
    }

key-law : (keys : List Key) (ms : Members) → Reads (key_in keys ms) (IsNewKey keys ms)
unfolding key_in
key-law keys ms =
    let place = length keys + 1 in
    reads-as (key_in keys ms) _ (IsNewKey keys ms)
    (λ a (_, _, (_, only, (name, called, (suite, suits, (usage, used, (target, goes, (reason, because, (_, new, same)))))))).
    subst (IsNewKey keys ms) same (new_key keys ms name suite usage target reason only called suits used goes because new))
    (λ a p. (
      tt,
      all_are_there ms a p.is,
      (
        tt,
        p.is.no_others,
        (
          a.attrs.name,
          read_so is_name _ a.attrs.name p.is.name p.is.name_in_range,
          (
            (a.attrs.algorithm, a.attrs.length),
            record {
              algorithm = algorithm_read ms a.attrs.algorithm p.is.algorithm;
              bits = read_so (is_length a.attrs.algorithm) _ a.attrs.length p.is.bits p.is.bits_in_range;
            },
            (
              a.attrs.usage,
              usage_read ms a.attrs.usage p.is.usage,
              (
                a.target,
                target_read ms a.target p.is.target,
                (
                  a.reason,
                  p.is.reason,
                  (
                    tt,
                    ap not p.new,
                    refl,
                  ),
                ),
              ),
            ),
          ),
        ),
      ),
    ))
    (reads-bind _ _ _ _ (there-law place ms) (λ found.
    reads-bind _ _ _ _ (reads-only place is_key_field ms) (λ known.
    reads-bind _ _ _ _ (reads-need (faults.BadName place) (name_of ms)) (λ name.
    reads-bind _ _ _ _ (suite-law place ms) (λ suite.
    reads-bind _ _ _ _ (reads-need (faults.BadUsage place) (usage_of ms)) (λ usage.
    reads-bind _ _ _ _ (reads-need (faults.BadTarget place) (target_of ms)) (λ target.
    reads-bind _ _ _ _ (reads-need (faults.BadReason place) (reason_of target ms)) (λ reason.
    reads-bind _ _ _ _ (reads-guard (faults.SameName place) (not (has_key_named name keys))) (λ new.
    reads-ok (record { attrs = record { name = name; algorithm = suite.0; length = suite.1; usage = usage }; target = target; reason = reason }))))))))))

-- ---- the keys

-- the keys before, and those of the items behind them
pub record AreRead (before : List Key) (items : Items) (all : List Key) : Type 0 where
  pub keys : List Key
  pub behind : all ≡ before ++ keys
  pub each : AreKeys items keys
  pub new : HaveNewNames before keys

no_keys : (before all keys : List Key) → all ≡ before ++ keys → AreKeys no_items keys → before ≡ all
no_keys before all [] behind each = sym (behind ∙ append-nil before)
no_keys before all (k ∷ ks) behind each = absurd each

first_key : (before : List Key) (d : Data) (ds : Items) (all keys : List Key) → all ≡ before ++ keys → AreKeys (item d ds) keys → HaveNewNames before keys
    → (k : Key) × IsNewKey before (fields_of d) k × AreRead (before ++ k ∷ []) ds all
first_key before d ds all [] behind each new = absurd each
first_key before d ds all (k ∷ ks) behind each new = (
  k,
  record { is = each.0; new = new.0 },
  record {
    keys = ks;
    behind = behind ∙ sym (append_assoc before (k ∷ []) ks);
    each = each.1;
    new = new.1;
  },
)

no_more : (before all : List Key) → AreRead before no_items all → before ≡ all
no_more before all h = no_keys before all h.keys h.behind h.each

one_more : (before : List Key) (d : Data) (ds : Items) (all : List Key) → AreRead before (item d ds) all
    → (k : Key) × IsNewKey before (fields_of d) k × AreRead (before ++ k ∷ []) ds all
one_more before d ds all h = first_key before d ds all h.keys h.behind h.each h.new

keys-law : (before : List Key) (items : Items) → Reads (keys_in before items) (AreRead before items)
keys-law before no_items = reads-as (ok (List Key) before) _ (AreRead before no_items)
    (λ a e. record { keys = []; behind = sym e ∙ sym (append-nil before); each = tt; new = tt })
    (λ a h. no_more before a h)
    (reads-ok before)
keys-law before (item d ds) = reads-as (keys_in before (item d ds)) _ (AreRead before (item d ds))
    (λ a p. record {
      keys = p.0 ∷ p.2.keys;
      behind = p.2.behind ∙ append_assoc before (p.0 ∷ []) p.2.keys;
      each = (p.1.is, p.2.each);
      new = (p.1.new, p.2.new);
    })
    (λ a h. one_more before d ds a h)
    (reads-bind _ _ _ _ (key-law before (fields_of d)) (λ k. keys-law (before ++ k ∷ []) ds))

as_many : (items : Items) (keys : List Key) → AreKeys items keys → count items ≡ length keys
as_many no_items [] h = refl
as_many no_items (k ∷ ks) h = absurd h
as_many (item d ds) [] h = absurd h
as_many (item d ds) (k ∷ ks) h = grind (arith, as_many ds ks h.1)

plan-law : (ms : Members) → Reads (plan_in ms) (IsPlan ms)
unfolding plan_in
plan-law ms = reads-as (plan_in ms) _ (IsPlan ms)
    (λ a (_, no_others, (items, stands, (_, some, (_, few, read)))).
    let many = as_many items read.keys read.each in
    subst (IsPlan ms) (sym read.behind) (record {
      no_others = no_others;
      items = items;
      stands = stands;
      each = read.each;
      some = subst (λ n. 1 ≤ n) many (leb-true 1 (count items) some);
      few = subst (λ n. n ≤ most_keys) many (leb-true (count items) most_keys few);
      distinct = read.new;
    }))
    (λ a p.
    let many = sym (as_many p.items a p.each) in (
      tt,
      p.no_others,
      (
        p.items,
        p.stands,
        (
          tt,
          le-leb 1 (count p.items) (subst (λ n. 1 ≤ n) many p.some),
          (
            tt,
            le-leb (count p.items) most_keys (subst (λ n. n ≤ most_keys) many p.few),
            record { keys = a; behind = refl; each = p.each; new = p.distinct },
          ),
        ),
      ),
    ))
    (reads-bind _ _ _ _ (reads-only 0 is_top_field ms) (λ known.
    reads-bind _ _ _ _ (reads-need faults.NoKeys (array_at (codes "key") ms)) (λ items.
    reads-bind _ _ _ _ (reads-guard faults.NoKeys (nat_le 1 (count items))) (λ some.
    reads-bind _ _ _ _ (reads-guard faults.TooMany (nat_le (count items) most_keys)) (λ few.
    keys-law [] items)))))

-- ---- the text

-- the text is TOML of a plan
abbrev pub IsPlanText : List ℕ → List Key → Type 0
IsPlanText text keys = (ms : Members) × (parse_document text ≡ Some ms) × IsPlan ms keys

text-law : (text : List ℕ) → Reads (plan_read text) (IsPlanText text)
unfolding plan_read
text-law text = reads-bind _ _ _ _ (reads-need faults.Toml (parse_document text)) (λ ms. plan-law ms)

pub plan_found : (text : List ℕ) (keys : List Key) → plan_read text ≡ Ok keys → IsPlanText text keys
plan_found text keys e = (text-law text).sound keys e

pub plan_only : (text : List ℕ) (ms : Members) (keys : List Key) → parse_document text ≡ Some ms → IsPlan ms keys → plan_read text ≡ Ok keys
plan_only text ms keys is plan = (text-law text).complete keys (ms, is, plan)

pub is_found : (text : List ℕ) (r : Result (List Key) PlanFault) → GivesPlan (λ keys. keys) r (plan_read text) → IfOk r (λ keys. IsPlanText text keys)
is_found text (Ok keys) e = plan_found text keys e
is_found text (Err fault) e = tt

pub is_only : (text : List ℕ) (r : Result (List Key) PlanFault) (ms : Members) (keys : List Key) → GivesPlan (λ ks. ks) r (plan_read text)
    → parse_document text ≡ Some ms → IsPlan ms keys → GivesPlan (λ ks. ks) r (Ok keys)
is_only text r ms keys e is plan = subst (λ read. GivesPlan (λ ks. ks) r read) (plan_only text ms keys is plan) e

-- ---- what holds of the keys

reason_lawful : (b : Bool) (o : Option Data) (r : ℕ) → reason_in b o ≡ Some r
    → (if b then r == 1 || r == 4 || r == 5 || r == 6 || r == 7 else r == 0) ≡ true
reason_lawful true None r e = ap (λ n. n == 1 || n == 4 || n == 5 || n == 6 || n == 7) (sym (same_Some 1 r e))
reason_lawful true (Some d) r e =
    let (word, is, names) = there reason_of_word (as_str d) r e in
    reason_in_range word r names
reason_lawful false None r e = ap (λ n. n == 0) (sym (same_Some 0 r e))
reason_lawful false (Some d) r e = not_some r e

key_lawful : (ms : Members) (k : Key) → IsKey ms k → key_fits k ≡ true
key_lawful ms k h =
    rw (
      h.name_in_range,
      algorithm_in_range h.algorithm.word k.attrs.algorithm (algorithm_of_its_word k.attrs.algorithm h.algorithm.word h.algorithm.named),
      h.bits_in_range,
      h.usage.in_range,
      reason_lawful (is_revoked k.target) (get_member (codes "reason") ms) k.reason h.reason,
    ) refl

keys_lawful : (items : Items) (keys : List Key) → AreKeys items keys → list_all key_fits keys ≡ true
keys_lawful no_items [] h = refl
keys_lawful no_items (k ∷ ks) h = absurd h
keys_lawful (item d ds) [] h = absurd h
keys_lawful (item d ds) (k ∷ ks) h = ap (λ b. b && list_all key_fits ks) (key_lawful (fields_of d) k h.0) ∙ keys_lawful ds ks h.1

pub plan_lawful : (text : List ℕ) (keys : List Key) → plan_read text ≡ Ok keys → IsLawful keys
plan_lawful text keys e =
    let plan = (plan_found text keys e).2 in
    record { some = plan.some; few = plan.few; distinct = plan.distinct; fit = keys_lawful plan.items keys plan.each }
