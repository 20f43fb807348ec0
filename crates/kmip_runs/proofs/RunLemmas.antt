-- Private: what holds between two runs of a campaign.
use Rattle.std.proofs.Common.{◌≡◌, ◌≢◌, ℕ, suc, Option, None, Result, Ok, Err, OnErr, OnOk, ◌+◌, List, [], ◌∷◌, ◌++◌}
use Rattle.std.proofs.Common.{length, filter, take, slice_get, Some, sym, ap, subst, refl, ◌∙◌, arith}
use Rattle.std.specs.Prelude.{⊤}
use Rattle.std.proofs.lemmas.List.{length-append}
use Rattle.std.proofs.lemmas.List.Elements.{All-nil}
use Rattle.std.specs.List.{All, AllZip}
use Rattle.std.specs.Result.{result_err}
use Rattle.kmip_objects.specs.Objects.{Object}
use Rattle.kmip_plan.specs.Plans.{IsLawful}
use Rattle.kmip_plan.specs.declared.key.Key.{Key}
use Rattle.kmip_progress.specs.Suiting.{Suits}
use Rattle.kmip_progress.specs.declared.known.Known.{Known}
use Rattle.kmip_client.specs.Clients.{ClientState, fresh}
use Rattle.kmip_client.specs.Held.{Held, TrueProgress}
use Rattle.kmip_protocol.specs.Past.{Names, Past}
use Rattle.kmip_protocol.specs.Seen.{Seen}
use Rattle.kmip_runs.specs.PrivateLawbook.{Lawbook}
use Rattle.kmip_runs.specs.Campaign.{CalmLink, IsEnd, Settles, saves}
use Rattle.kmip_runs.specs.Headline.{GoodLink}
use Rattle.kmip_runs.specs.PrivateCampaignParts.{Campaigned, HasRun, HasSettled, Standing}
use Rattle.kmip_runs.specs.Driving.{IsGood, KeepsFurther, WentOn}
use Rattle.kmip_runs.specs.Remembering.{AreKnownFrom, Notes, notes_of}
use Rattle.kmip_runs.specs.declared.campaign_end.CampaignEnd.{CampaignEnd}
use Rattle.kmip_runs.specs.declared.run.Run.{Run}
use Rattle.kmip_runs.specs.declared.run_end.RunEnd.{RunEnd}
use Rattle.kmip_runs.specs.declared.stop.Stop.{Stop}
use Rattle.kmip_runs.specs.declared.stop.Stop.TheVariants as stops
use Rattle.kmip_runs.proofs.CampaignLemmas.{campaigned, good_with, noted_none, opened, true_onward}
use Rattle.kmip_runs.proofs.FurtherLemmas.{calm_good, further_nowhere, further_then}
use Rattle.kmip_runs.proofs.OnLemmas.{on_nowhere, on_then}
use Rattle.kmip_runs.proofs.OrderLemmas.{ends_more, saved_long, saves_more, zip_more}
use Rattle.kmip_runs.proofs.RememberLemmas.{Recalled, recalled_more, recalled_none}

-- the first runs were made, and all is as it is to be before the next
pub record Running (keys : List Key) (carried : List (List Known)) (c : ClientState) (start link : Seen)
    (runs : List Run) (notes : Notes) (at : ℕ) : Type 0 where
  pub keys_are : c.keys ≡ keys
  pub suits : All (Suits keys) notes.saved
  pub stands : GoodLink keys start → All (TrueProgress start.past.objects keys) carried
      → Standing keys c link notes.ends notes.saved × WentOn keys start.past link.past
  pub honest_still : (names : Names) → start.honest names → link.honest names
  pub further : GoodLink keys start → All (TrueProgress start.past.objects keys) carried
      → KeepsFurther keys ⊤ start link
  pub each : AllZip (IsEnd keys) (take at runs) notes.ends
  pub settled : CalmLink keys start → All (TrueProgress start.past.objects keys) carried
      → AllZip (Settles keys) (take at runs) notes.ends × CalmLink keys link
  pub as_many_ends : length notes.ends ≡ at
  pub recalled : Recalled keys carried runs c start link notes.ends notes.saved
  pub as_many : length notes.saved ≡ length (filter saves (take at runs))

one_longer : (old new : List RunEnd) (end : RunEnd) (at : ℕ) → length old ≡ at → new ≡ old ++ end ∷ []
    → length new ≡ suc at
one_longer old new end at is joined = ap length joined ∙ length-append old (end ∷ []) ∙ omega (arith, is)

take-none : (runs : List Run) → take 0 runs ≡ []
take-none [] = refl
take-none (run ∷ runs) = refl

none_each : (R : Run → RunEnd → Type 0) (runs : List Run) → AllZip R (take 0 runs) []
none_each R runs = subst (λ rs. AllZip R rs []) (sym (take-none runs)) tt

module _ (keys : List Key) (carried : List (List Known)) where
  -- what was carried over is true still
  pub carried_on : Lawbook → (start link : Seen) → IsLawful keys → WentOn keys start.past link.past
      → All (TrueProgress start.past.objects keys) carried
      → All (TrueProgress link.past.objects keys) carried
  carried_on l start link lawful went holds = true_onward l keys start.past.objects link.past.objects carried lawful
      went.onward holds

  -- what stands after one more run, whether it was broken off or not
  pub ran_on : Lawbook → (a b : ClientState) (start x y : Seen) (runs : List Run) (at : ℕ) (whole : Type 0)
      (ends nexts : List RunEnd) (saved kept : List (List Known))
      → IsLawful keys → Running keys carried a start x runs (record { ends = ends; saved = saved }) at
      → (Standing keys a x ends saved → All (TrueProgress x.past.objects keys) carried
      → Standing keys b y nexts kept × WentOn keys x.past y.past)
      → (Standing keys a x ends saved → All (TrueProgress x.past.objects keys) carried → KeepsFurther keys whole x y)
      → GoodLink keys start → All (TrueProgress start.past.objects keys) carried
      → Standing keys b y nexts kept × WentOn keys start.past y.past × KeepsFurther keys whole start y
  ran_on l a b start x y runs at whole ends nexts saved kept lawful before stands further good holds =
      let (standing, went) = before.stands good holds in
      let now = carried_on l start x lawful went holds in
      let (then, on) = stands standing now in (
        then,
        on_then l.client.twice l.amid.joins keys start.past x.past y.past went on,
        further_then l.client.twice l.amid.joins keys start x y ⊤ whole (λ is. tt) (before.further good holds)
            (further standing now),
      )

  pub ran_off : Lawbook → (a b : ClientState) (start x y : Seen) (runs : List Run) (at : ℕ) (whole : Type 0)
      (ends nexts : List RunEnd) (saved kept : List (List Known))
      → IsLawful keys → b.keys ≡ keys → Running keys carried a start x runs (record { ends = ends; saved = saved }) at
      → (Standing keys a x ends saved → All (TrueProgress x.past.objects keys) carried
      → Standing keys b y nexts kept × WentOn keys x.past y.past)
      → (Standing keys a x ends saved → All (TrueProgress x.past.objects keys) carried → KeepsFurther keys whole x y)
      → GoodLink keys start → All (TrueProgress start.past.objects keys) carried
      → Campaigned keys start y nexts kept × KeepsFurther keys whole start y
  ran_off l a b start x y runs at whole ends nexts saved kept lawful b_keys before stands further good holds =
      let (standing, went, kept_further) = ran_on l a b start x y runs at whole ends nexts saved kept lawful before
      stands further good holds in
      (campaigned keys b start y nexts kept b_keys (standing, went), kept_further)

  -- and one more run
  pub running_more : Lawbook → (a b : ClientState) (start x y : Seen) (runs : List Run) (at : ℕ) (run : Run)
      (old new : CampaignEnd) → IsLawful keys
      → slice_get runs at ≡ Some run → Running keys carried a start x runs (notes_of old) at → b.keys ≡ keys
      → All (Suits keys) new.saved.items
      → (Standing keys a x old.runs.items old.saved.items → All (TrueProgress x.past.objects keys) carried
      → Standing keys b y new.runs.items new.saved.items × WentOn keys x.past y.past)
      → ((names : Names) → x.honest names → y.honest names)
      → (Standing keys a x old.runs.items old.saved.items → All (TrueProgress x.past.objects keys) carried
      → KeepsFurther keys ⊤ x y)
      → HasRun keys carried run (record { client = a; link = x; end = old })
      (record { client = b; link = y; end = new })
      → (Standing keys a x old.runs.items old.saved.items → All (TrueProgress x.past.objects keys) carried
      → CalmLink keys x
      → HasSettled keys run old.runs.items new.runs.items × CalmLink keys y)
      → Running keys carried b start y runs (notes_of new) (at + 1)
  running_more l a b start x y runs at run old new lawful is before b_keys suits stands still further ran settles =
      let e : at + 1 ≡ suc at = omega arith in
      subst (λ n. Running keys carried b start y runs (notes_of new) n) (sym e)
      (record {
        keys_are = b_keys;
        suits = suits;
        stands = λ good holds.
            let on = ran_on l a b start x y runs at ⊤ old.runs.items new.runs.items old.saved.items new.saved.items
            lawful before stands further good holds in
            (on.0, on.1);
        honest_still = λ names honestly. still names (before.honest_still names honestly);
        further = λ good holds.
            (ran_on l a b start x y runs at ⊤ old.runs.items new.runs.items old.saved.items new.saved.items lawful
            before stands further good holds).2;
        each = ends_more keys runs at run old.runs.items new.runs.items is before.each b.knowns ran.driven
            ran.ended.noted;
        settled = λ calmly holds.
            let first = before.settled calmly holds in
            let good = calm_good keys start calmly in
            let (standing, went) = before.stands good holds in
            let second = settles standing (carried_on l start x lawful went holds) first.1 in (
              zip_more (Settles keys) runs at run old.runs.items new.runs.items second.0.end is first.0
                  second.0.joined second.0.settles,
              second.1,
            );
        as_many_ends = one_longer old.runs.items new.runs.items ran.ended.noted.end at before.as_many_ends
            ran.ended.noted.joined;
        recalled = recalled_more keys carried runs a b start x y run old new at is before.as_many_ends before.recalled
            ran;
        as_many = saves_more runs at run (length old.saved.items) (length new.saved.items) is before.as_many
            (saved_long run b.knowns old.saved.items new.saved.items ran.ended.saved_are);
      })

  -- before the first
  pub running_none : Lawbook → (c : ClientState) (x : Seen) (runs : List Run) (ends : List RunEnd)
      (saved : List (List Known)) → c ≡ fresh keys
      → ((objects : List Object) → Held objects c.keys c.knowns) → ends ≡ [] → saved ≡ []
      → Running keys carried c x x runs (record { ends = ends; saved = saved }) 0
  running_none l c x runs ends saved is held no_end none_saved =
      let c_keys = ap (λ (s : ClientState). s.keys) is in
      record {
        keys_are = c_keys;
        suits = rw none_saved (All-nil (Suits keys));
        stands = λ good holds. opened l keys c x ends saved c_keys (held x.past.objects) no_end none_saved good;
        honest_still = λ names honestly. honestly;
        further = λ good holds. further_nowhere l.client.itself l.amid.nothing keys x ⊤;
        each = rw no_end (none_each (IsEnd keys) runs);
        settled = λ calmly holds. (rw no_end (none_each (Settles keys) runs), calmly);
        as_many_ends = ap length no_end;
        recalled = recalled_none keys carried runs c x ends saved (ap (λ (s : ClientState). s.knowns) is) no_end
            none_saved;
        as_many = ap length none_saved ∙ sym (ap (λ rs. length (filter saves rs)) (take-none runs));
      }

  -- no client was there to begin with
  pub ran_nothing : Lawbook → (x : Seen) (whole : Type 0) (ends : List RunEnd) (saved : List (List Known)) → ends ≡ []
      → saved ≡ [] → GoodLink keys x
      → Campaigned keys x x ends saved × KeepsFurther keys whole x x
  ran_nothing l x whole ends saved no_end none_saved good = (
    record {
      good = good;
      on = on_nowhere l.client.itself l.amid.nothing keys x.past;
      noted = noted_none x.past.objects keys ends saved no_end none_saved;
    },
    further_nowhere l.client.itself l.amid.nothing keys x whole,
  )

  -- a run is begun and driven
  pub driven_further : (a b : ClientState) (x y : Seen) (stop : Stop) (ends : List RunEnd) (saved : List (List Known))
      → a.keys ≡ keys → b.keys ≡ keys
      → (All (TrueProgress x.past.objects keys) saved → Held x.past.objects a.keys a.knowns
      → Held x.past.objects b.keys b.knowns)
      → (IsGood b x → KeepsFurther b.keys (stop ≢ stops.NoMemory) x y) → Standing keys a x ends saved
      → KeepsFurther keys (stop ≢ stops.NoMemory) x y
  driven_further a b x y stop ends saved a_keys b_keys begun further standing =
      subst (λ ks. KeepsFurther ks (stop ≢ stops.NoMemory) x y) b_keys
      (further (good_with a b x (b_keys ∙ sym a_keys) standing.good
      (begun standing.noted.true_saved standing.good.held)))

-- ---- all runs

pub if_ok : {E P : Type 0} (r : Result (Unit {0}) E) → r ≡ Ok tt → OnOk r P → P
if_ok (Ok tt) is holds = holds
if_ok (Err e) is holds = absurd cc

pub no_runs : (runs : List Run) → length runs ≡ 0 → runs ≡ []
no_runs [] none = refl
no_runs (run ∷ runs) none = absurd (omega (arith, none))

pub ok_of : {E : Type 0} (r : Result (Unit {0}) E) (fault : Option E) → fault ≡ result_err r → fault ≡ None → r ≡ Ok tt
ok_of (Ok tt) fault is none = refl
ok_of (Err e) fault is none = let both : Some e ≡ None = sym is ∙ none in absurd cc

pub of_ok : {E : Type 0} (r : Result (Unit {0}) E) (fault : Option E) → fault ≡ result_err r → r ≡ Ok tt → fault ≡ None
of_ok (Ok tt) fault is ok = is
of_ok (Err e) fault is ok = absurd cc

pub if_fault : {E P : Type 0} (r : Result (Unit {0}) E) (fault : Option E) → fault ≡ result_err r → fault ≢ None
    → OnErr r P → P
if_fault (Ok tt) fault is some holds = absurd (some is)
if_fault (Err e) fault is some holds = holds

pub known_if : (keys : List Key) (carried : List (List Known)) (runs : List Run) (notes : Notes)
    (honest whole other : Type 0) (old new : Past)
    → (other → whole) → AreKnownFrom keys carried runs notes honest whole old new
    → AreKnownFrom keys carried runs notes honest other old new
known_if keys carried runs notes honest whole other old new to known = record {
  known = known.known;
  shown = known.shown;
  forgets_nothing = known.forgets_nothing;
  saved_are = known.saved_are;
  until = known.until;
  heard = known.heard;
  takes_nothing_back = known.takes_nothing_back;
  later = known.later;
  few_more = known.few_more;
  no_more = λ is. known.no_more (to is);
}
