-- What is noted at the ends of runs was reached, and stays so.
use Rattle.std.proofs.Common.{◌≡◌, ◌≢◌, ◌≤◌, ◌<◌, ℕ, zero, suc, List, [], ◌∷◌, ◌++◌, map, take, flat_map, slice_get}
use Rattle.std.proofs.Common.{Option, Some, None, IfSome, nat_le, sym, subst, refl, ◌∙◌, inl, inr, arith}
use Rattle.std.specs.Prelude.{⊤}
use Rattle.std.specs.List.{All, AllZip}
use Rattle.std.proofs.lemmas.Bool.{cases_Bool}
use Rattle.std.proofs.lemmas.List.Elements.{All-append, All-cons, All-head, All-nil, All-push, All-tail, All-weaker}
use Rattle.kmip_objects.specs.Objects.{Object}
use Rattle.kmip_objects.specs.declared.step.Step.{Step}
use Rattle.kmip_plan.specs.Chains.{chain, step_at, step_place}
use Rattle.kmip_plan.specs.Plans.{IsLawful, IsPlanned}
use Rattle.kmip_plan.specs.declared.key.Key.{Key}
use Rattle.kmip_plan.specs.declared.target.Target.{Target}
use Rattle.kmip_progress.specs.declared.known.Known.{Known}
use Rattle.kmip_client.specs.Clients.{ClientState}
use Rattle.kmip_client.specs.Held.{Held, TrueOf, TrueProgress}
use Rattle.kmip_client.specs.Knowledge.{chain_length, verdict_of}
use Rattle.kmip_client.specs.Places.{Onward, position}
use Rattle.kmip_client.specs.Verdicts.{counts_of, verdicts_of}
use Rattle.kmip_client.specs.declared.knowledge.Knowledge.{Knowledge}
use Rattle.kmip_protocol.specs.Amid.{PassedAmid, seen_by_others}
use Rattle.kmip_protocol.specs.Headline.{Safe}
use Rattle.kmip_protocol.specs.Laws.{IsReached}
use Rattle.kmip_protocol.specs.Past.{Past}
use Rattle.kmip_protocol.specs.Seen.{Seen}
use Rattle.kmip_protocol.specs.Sound.{Sound}
use Rattle.kmip_server.specs.declared.effect.Effect.{Effect}
use Rattle.kmip_runs.specs.PrivateLawbook.{Lawbook}
use Rattle.kmip_runs.specs.Headline.{GoodLink, reported, reported_by, steps_counted}
use Rattle.kmip_runs.specs.Campaign.{HasNoConflict, IsNoClash}
use Rattle.kmip_runs.specs.PrivateCampaignParts.{AreSame, Campaigned, IsEndOf, IsEnding, Noted, Reaches, Standing}
use Rattle.kmip_runs.specs.PrivateCampaignParts.{saved_with}
use Rattle.kmip_runs.specs.Driving.{IsGood, WentOn}
use Rattle.kmip_runs.specs.declared.campaign_end.CampaignEnd.{CampaignEnd}
use Rattle.kmip_runs.specs.declared.run.Run.{Run}
use Rattle.kmip_runs.specs.declared.run_end.RunEnd.{RunEnd}
use Rattle.kmip_runs.specs.declared.ending.Ending.{Ending}
use Rattle.kmip_runs.specs.declared.stop.Stop.{Stop}
use Rattle.kmip_runs.specs.declared.stop.Stop.TheVariants as stops
use Rattle.kmip_runs.proofs.OnLemmas.{on_nowhere}

-- ---- the keys of a plan

-- each of these keys is one of the plan's
abbrev AreOf : List Key → List Key → Type 0
AreOf plan keys = (place : ℕ) (key : Key) → slice_get keys place ≡ Some key → IsPlanned plan key

pub all_of : Lawbook → (keys : List Key) → IsLawful keys → AreOf keys keys
all_of l keys lawful = λ place key is. l.plan.found keys place key lawful is

-- what holds of each key and what is beside it still does
zip_onward : {B : Type 0} (R S : Key → B → Type 0) (plan : List Key)
    → ((key : Key) (b : B) → IsPlanned plan key → R key b → S key b)
    → (keys : List Key) (bs : List B) → AreOf plan keys → AllZip R keys bs → AllZip S keys bs
zip_onward R S plan on [] [] of zipped = tt
zip_onward R S plan on [] (b ∷ bs) of zipped = absurd zipped
zip_onward R S plan on (key ∷ keys) [] of zipped = absurd zipped
zip_onward R S plan on (key ∷ keys) (b ∷ bs) of zipped =
    (on key b (of zero key refl) zipped.0, zip_onward R S plan on keys bs (λ place k is. of (suc place) k is) zipped.1)

-- what was saved is true still
pub true_one_onward : Lawbook → (keys : List Key) (old new : List Object) (progress : List Known) → IsLawful keys
    → Onward keys old new
    → TrueProgress old keys progress → TrueProgress new keys progress
true_one_onward l keys old new progress lawful onward holds =
    zip_onward (TrueOf old) (TrueOf new) keys
    (λ key known planned is. record {
      uid_true = λ uid has. (onward key planned).uid_stays uid (is.uid_true uid has);
      done_true = let further = (onward key planned).never_falls in omega (arith, is.done_true, further);
      has_identifier = is.has_identifier;
    }) keys progress (all_of l keys lawful) holds

pub true_onward : Lawbook → (keys : List Key) (old new : List Object) (saved : List (List Known)) → IsLawful keys
    → Onward keys old new
    → All (TrueProgress old keys) saved → All (TrueProgress new keys) saved
true_onward l keys old new saved lawful onward holds =
    All-weaker (TrueProgress old keys) (TrueProgress new keys)
    (λ progress each. true_one_onward l keys old new progress lawful onward each) saved holds

pub noted_onward : Lawbook → (keys : List Key) (old new : List Object) (ends : List RunEnd)
    (saved : List (List Known)) → IsLawful keys → Onward keys old new
    → Noted old keys ends saved → Noted new keys ends saved
noted_onward l keys old new ends saved lawful onward noted = record {
  reached = All-weaker (λ (end : RunEnd). AllZip (Reaches old) keys end.counts.items)
      (λ (end : RunEnd). AllZip (Reaches new) keys end.counts.items)
      (λ end reached. zip_onward (Reaches old) (Reaches new) keys
      (λ key count planned reaches. let further = (onward key planned).never_falls in omega (arith, reaches, further))
      keys end.counts.items (all_of l keys lawful) reached)
      ends noted.reached;
  no_conflict = noted.no_conflict;
  true_saved = true_onward l keys old new saved lawful onward noted.true_saved;
}

-- ---- what is reported was reached

first_are : (P : Effect → Type 0) (f : Step → Effect) (xs : List Step) (n : ℕ)
    → ((k : ℕ) (x : Step) → slice_get xs k ≡ Some x → k < n → P (f x)) → All P (map f (take n xs))
first_are P f [] zero each = All-nil P
first_are P f [] (suc n) each = All-nil P
first_are P f (y ∷ ys) zero each = All-nil P
first_are P f (y ∷ ys) (suc n) each =
    All-cons P (f y) (map f (take n ys)) (each zero y refl (omega arith))
    (first_are P f ys n (λ k x is below. each (suc k) x is (omega (arith, below))))

at_place : (target : Target) (k : ℕ) (step : Step) → slice_get (chain target) k ≡ Some step
    → step_at target (suc k) ≡ Some step
at_place target k step is = is

counted_reached : Lawbook → (plan : List Key) (p : Past) (key : Key) (count : ℕ) → IsPlanned plan key
    → count ≤ position key p.objects
    → All (IsReached plan p) (steps_counted key count)
counted_reached l plan p key count planned reaches =
    first_are (IsReached plan p) (λ step. record { name = key.attrs.name; step = step }) (chain key.target) count
    (λ k step is below.
    let place : step_place key.target step ≡ suc k = (l.plan.places key.target (suc k) step (omega arith)).0
    (at_place key.target k step is) in
    (key, planned, refl, omega (arith, place), omega (arith, place, below, reaches)))

-- as many of the first keys as are counted have come at least so far
abbrev pub FrontReaches : List Object → List Key → List ℕ → Type 0
FrontReaches objects keys [] = ⊤
FrontReaches objects [] (count ∷ counts) = ⊥
FrontReaches objects (key ∷ keys) (count ∷ counts) = Reaches objects key count × FrontReaches objects keys counts

all_front : (objects : List Object) (keys : List Key) (counts : List ℕ) → AllZip (Reaches objects) keys counts
    → FrontReaches objects keys counts
all_front objects [] [] reached = tt
all_front objects [] (count ∷ counts) reached = absurd reached
all_front objects (key ∷ keys) [] reached = tt
all_front objects (key ∷ keys) (count ∷ counts) reached = (reached.0, all_front objects keys counts reached.1)

pub by_front : Lawbook → (plan : List Key) (p : Past) (keys : List Key) (counts : List ℕ) → AreOf plan keys
    → FrontReaches p.objects keys counts
    → All (IsReached plan p) (reported_by keys counts)
by_front l plan p [] [] of reached = All-nil (IsReached plan p)
by_front l plan p [] (count ∷ counts) of reached = absurd reached
by_front l plan p (key ∷ keys) [] of reached = All-nil (IsReached plan p)
by_front l plan p (key ∷ keys) (count ∷ counts) of reached =
    All-append (IsReached plan p) (steps_counted key count) (reported_by keys counts)
    (counted_reached l plan p key count (of zero key refl) reached.0)
    (by_front l plan p keys counts (λ place k is. of (suc place) k is) reached.1)

by_reached : Lawbook → (plan : List Key) (p : Past) (keys : List Key) (counts : List ℕ) → AreOf plan keys
    → AllZip (Reaches p.objects) keys counts
    → All (IsReached plan p) (reported_by keys counts)
by_reached l plan p keys counts of reached = by_front l plan p keys counts of (all_front p.objects keys counts reached)

pub all_flat : {X Y : Type 0} (P : Y → Type 0) (f : X → List Y) (xs : List X) → All (λ x. All P (f x)) xs
    → All P (flat_map f xs)
all_flat P f [] each = All-nil P
all_flat P f (x ∷ xs) each =
    All-append P (f x) (flat_map f xs) (All-head (λ y. All P (f y)) x xs each)
    (all_flat P f xs (All-tail (λ y. All P (f y)) x xs each))

pub saved_reached : (objects : List Object) (keys : List Key) (saved : List Known) → TrueProgress objects keys saved
    → AllZip (Reaches objects) keys (map (λ known. known.done) saved)
saved_reached objects [] [] holds = tt
saved_reached objects [] (known ∷ saved) holds = absurd holds
saved_reached objects (key ∷ keys) [] holds = absurd holds
saved_reached objects (key ∷ keys) (known ∷ saved) holds = (holds.0.done_true, saved_reached objects keys saved holds.1)

pub reported_reached : Lawbook → (keys : List Key) (p : Past) (ends : List RunEnd) (saved : List (List Known))
    → IsLawful keys → Noted p.objects keys ends saved
    → All (IsReached keys p) (reported keys ends saved)
reported_reached l keys p ends saved lawful noted =
    All-append (IsReached keys p) (flat_map (λ (end : RunEnd). reported_by keys end.counts.items) ends)
    (flat_map (λ progress. reported_by keys (map (λ known. known.done) progress)) saved)
    (all_flat (IsReached keys p) (λ (end : RunEnd). reported_by keys end.counts.items) ends
    (All-weaker (λ (end : RunEnd). AllZip (Reaches p.objects) keys end.counts.items)
    (λ (end : RunEnd). All (IsReached keys p) (reported_by keys end.counts.items))
    (λ end reached. by_reached l keys p keys end.counts.items (all_of l keys lawful) reached) ends noted.reached))
    (all_flat (IsReached keys p) (λ progress. reported_by keys (map (λ known. known.done) progress)) saved
    (All-weaker (TrueProgress p.objects keys)
    (λ progress. All (IsReached keys p) (reported_by keys (map (λ known. known.done) progress)))
    (λ progress holds. by_reached l keys p keys (map (λ known. known.done) progress) (all_of l keys lawful)
    (saved_reached p.objects keys progress holds)) saved noted.true_saved))

-- ---- what is known at an end

counts_reached : (objects : List Object) (keys : List Key) (knowns : List Knowledge) → Held objects keys knowns
    → AllZip (Reaches objects) keys (counts_of knowns)
counts_reached objects [] [] held = tt
counts_reached objects [] (known ∷ knowns) held = absurd held
counts_reached objects (key ∷ keys) [] held = absurd held
counts_reached objects (key ∷ keys) (known ∷ knowns) held =
    (held.0.holds.done_true, counts_reached objects keys knowns held.1)

-- if all is good, the past is safe for what is known
pub known_is_safe : Lawbook → (keys : List Key) (p : Past) (knowns : List Knowledge) → IsLawful keys → Sound keys p
    → Held p.objects keys knowns
    → Safe keys p (reported_by keys (counts_of knowns))
known_is_safe l keys p knowns lawful sound held =
    l.exchanges.safe keys p (reported_by keys (counts_of knowns)) sound
    (by_reached l keys p keys (counts_of knowns) (all_of l keys lawful) (counts_reached p.objects keys knowns held))

none_clashes : (key : Key) (known : Knowledge) → known.clash ≡ None → IsNoClash (verdict_of key known)
none_clashes key known none = λ clash is. elim (cases_Bool (nat_le (chain_length key) known.done)) [
  | inl done ↦ absurd cc
  | inr short ↦ absurd cc
]

no_clashes : (objects : List Object) (keys : List Key) (knowns : List Knowledge) → Held objects keys knowns
    → All IsNoClash (verdicts_of keys knowns)
no_clashes objects [] [] held = All-nil IsNoClash
no_clashes objects [] (known ∷ knowns) held = absurd held
no_clashes objects (key ∷ keys) [] held = absurd held
no_clashes objects (key ∷ keys) (known ∷ knowns) held =
    All-cons IsNoClash (verdict_of key known) (verdicts_of keys knowns) (none_clashes key known held.0.no_clash)
    (no_clashes objects keys knowns held.1)

pub noted_end : (objects : List Object) (keys : List Key) (knowns : List Knowledge) (stop : Stop) (exchanges : ℕ)
    (end : RunEnd) (ends : List RunEnd) (saved : List (List Known))
    → IsEndOf keys knowns stop exchanges end → stop ≢ stops.Conflict → Held objects keys knowns
    → Noted objects keys ends saved → Noted objects keys (ends ++ end ∷ []) saved
noted_end objects keys knowns stop exchanges end ends saved is none held noted = record {
  reached = All-push (λ (e : RunEnd). AllZip (Reaches objects) keys e.counts.items) ends end noted.reached
      (subst (λ counts. AllZip (Reaches objects) keys counts) (sym is.counts_are)
      (counts_reached objects keys knowns held));
  no_conflict = All-push HasNoConflict ends end noted.no_conflict (
    λ in_conflict. none (sym is.stop_is ∙ in_conflict),
    subst (λ verdicts. All IsNoClash verdicts)
        (sym is.verdicts_are) (no_clashes objects keys knowns held),
  );
  true_saved = noted.true_saved;
}

-- what holds of what was saved, and of what a run adds, holds of both
pub all_saved : (P : List Known → Type 0) (saved : Option (List Known)) (old : List (List Known)) → All P old
    → IfSome saved P → All P (saved_with saved old)
all_saved P None old all one = all
all_saved P (Some progress) old all one = All-push P old progress all one

-- what was made of a run is noted
pub noted_ending : (objects : List Object) (keys : List Key) (run : Run) (knowns : List Knowledge) (driven : Stop × ℕ)
    (ending : Ending) (old new : CampaignEnd)
    → IsEnding keys run knowns driven ending
    → (Held objects keys knowns → IfSome ending.saved (TrueProgress objects keys))
    → new.runs.items ≡ old.runs.items ++ ending.run ∷ [] → new.saved.items ≡ saved_with ending.saved old.saved.items
    → driven.0 ≢ stops.Conflict
    → Held objects keys knowns → Noted objects keys old.runs.items old.saved.items
    → Noted objects keys new.runs.items new.saved.items
noted_ending objects keys run knowns driven ending old new is holds joined saved none held noted =
    let ended = noted_end objects keys knowns driven.0 driven.1 ending.run old.runs.items old.saved.items is.end_is
    none held noted in
    rw (joined, saved)
    (record {
      reached = ended.reached;
      no_conflict = ended.no_conflict;
      true_saved = all_saved (TrueProgress objects keys) ending.saved old.saved.items ended.true_saved (holds held);
    })

-- nothing is noted
pub noted_still : (objects : List Object) (keys : List Key) (old new : CampaignEnd) → AreSame old new
    → Noted objects keys old.runs.items old.saved.items
    → Noted objects keys new.runs.items new.saved.items
noted_still objects keys old new same noted = rw (same.same_runs, same.same_saved) noted

pub noted_none : (objects : List Object) (keys : List Key) (ends : List RunEnd) (saved : List (List Known))
    → ends ≡ [] → saved ≡ [] → Noted objects keys ends saved
noted_none objects keys ends saved no_end none_saved =
    rw (no_end, none_saved)
    (record {
      reached = All-nil (λ (e : RunEnd). AllZip (Reaches objects) keys e.counts.items);
      no_conflict = All-nil HasNoConflict;
      true_saved = All-nil (TrueProgress objects keys);
    })

-- ---- one run

pub good_with : (a b : ClientState) (x : Seen) → b.keys ≡ a.keys → IsGood a x → Held x.past.objects b.keys b.knowns
    → IsGood b x
good_with a b x same good held = record {
  amid_for = subst (λ ks. x.amid ks) (sym same) good.amid_for;
  sound = subst (λ ks. Sound ks x.past) (sym same) good.sound;
  held = held;
}

-- begun, driven and noted
pub stood : Lawbook → (keys : List Key) (a b c : ClientState) (x y : Seen) (stop : Stop) (ends nexts : List RunEnd)
    (saved kept : List (List Known)) → IsLawful keys
    → a.keys ≡ keys → b.keys ≡ keys → c.keys ≡ keys
    → (All (TrueProgress x.past.objects keys) saved → Held x.past.objects a.keys a.knowns
    → Held x.past.objects b.keys b.knowns)
    → (IsGood b x → IsGood c y) → (IsGood b x → WentOn b.keys x.past y.past) → (IsGood b x → stop ≢ stops.Conflict)
    → ((objects : List Object) → stop ≢ stops.Conflict → Held objects c.keys c.knowns
    → Noted objects c.keys ends saved → Noted objects c.keys nexts kept)
    → Standing keys a x ends saved → Standing keys c y nexts kept × WentOn keys x.past y.past
stood l keys a b c x y stop ends nexts saved kept lawful a_keys b_keys c_keys begun good goes none notes standing =
    let begins = good_with a b x (b_keys ∙ sym a_keys) standing.good
    (begun standing.noted.true_saved standing.good.held) in
    let went = subst (λ ks. WentOn ks x.past y.past) b_keys (goes begins) in
    let driven = good begins in (
      record {
        good = driven;
        noted = subst (λ ks. Noted y.past.objects ks nexts kept) c_keys
            (notes y.past.objects (none begins) driven.held
            (subst (λ ks. Noted y.past.objects ks ends saved) (sym c_keys)
            (noted_onward l keys x.past.objects y.past.objects ends saved lawful went.onward standing.noted)));
      },
      went,
    )

-- and closed
pub closed : Lawbook → (keys : List Key) (c : ClientState) (x y z : Seen) (ends : List RunEnd)
    (saved : List (List Known)) → IsLawful keys → c.keys ≡ keys
    → ((keys : List Key) → y.amid keys → Sound keys y.past → z.amid keys × PassedAmid keys y.past z.past)
    → Standing keys c y ends saved × WentOn keys x.past y.past → Standing keys c z ends saved
    × WentOn keys x.past z.past
closed l keys c x y z ends saved lawful c_keys ended (standing, went) =
    let sound = subst (λ ks. Sound ks y.past) c_keys standing.good.sound in
    let step = ended keys (subst (λ ks. y.amid ks) c_keys standing.good.amid_for) sound in
    let kept = l.amid.passing keys y.past z.past sound step.1 in
    let on = kept.1 in (
      record {
        good = record {
          amid_for = subst (λ ks. z.amid ks) (sym c_keys) step.0;
          sound = subst (λ ks. Sound ks z.past) (sym c_keys) kept.0;
          held = l.client.known_for_good c.keys c.knowns y.past.objects z.past.objects
              (subst (λ ks. IsLawful ks) (sym c_keys) lawful)
              (subst (λ ks. Onward ks y.past.objects z.past.objects) (sym c_keys) on) standing.good.held;
        };
        noted = noted_onward l keys y.past.objects z.past.objects ends saved lawful on standing.noted;
      },
      record {
        onward = l.client.twice keys x.past.objects y.past.objects z.past.objects went.onward on;
        mirrored = λ image. l.amid.image_passing keys y.past z.past sound (went.mirrored image) step.1;
        passed = l.amid.joins keys (seen_by_others x.past) (seen_by_others y.past) (seen_by_others z.past) went.passed
            (l.amid.blind keys [] [] y.past z.past step.1);
      },
    )

-- a client that knows nothing begins
pub opened : Lawbook → (keys : List Key) (c : ClientState) (x : Seen) (ends : List RunEnd) (saved : List (List Known))
    → c.keys ≡ keys
    → Held x.past.objects c.keys c.knowns → ends ≡ [] → saved ≡ [] → GoodLink keys x
    → Standing keys c x ends saved × WentOn keys x.past x.past
opened l keys c x ends saved c_keys held no_end none_saved good = (
  record {
    good = record {
      amid_for = subst (λ ks. x.amid ks) (sym c_keys) good.amid_for;
      sound = subst (λ ks. Sound ks x.past) (sym c_keys) good.sound;
      held = held;
    };
    noted = noted_none x.past.objects keys ends saved no_end none_saved;
  },
  on_nowhere l.client.itself l.amid.nothing keys x.past,
)

pub campaigned : (keys : List Key) (c : ClientState) (x y : Seen) (ends : List RunEnd) (saved : List (List Known))
    → c.keys ≡ keys
    → Standing keys c y ends saved × WentOn keys x.past y.past → Campaigned keys x y ends saved
campaigned keys c x y ends saved c_keys (standing, went) = record {
  good = record {
    amid_for = subst (λ ks. y.amid ks) c_keys standing.good.amid_for;
    sound = subst (λ ks. Sound ks y.past) c_keys standing.good.sound;
  };
  on = went;
  noted = standing.noted;
}
