-- What is noted on plans in turn, for the last of them.
use Rattle.std.proofs.Common.{◌≡◌, ℕ, List, [], ◌∷◌, ◌++◌, drop, flat_map, length, map, sym, subst, arith}
use Rattle.std.specs.List.{All, AllZip}
use Rattle.std.proofs.lemmas.List.Concat.{flat_map-append}
use Rattle.std.proofs.lemmas.List.Elements.{All-append, All-nil, All-same, All-weaker}
use Rattle.std.proofs.lemmas.Slice.Zip.{AllZip-long}
use Rattle.kmip_objects.specs.Objects.{Object}
use Rattle.kmip_plan.specs.Plans.{IsLawful}
use Rattle.kmip_plan.specs.Prolonging.{Prolongs}
use Rattle.kmip_plan.specs.declared.key.Key.{Key}
use Rattle.kmip_progress.specs.Suiting.{nothing_known}
use Rattle.kmip_progress.specs.declared.known.Known.{Known}
use Rattle.kmip_client.specs.Held.{TrueOf, TrueProgress}
use Rattle.kmip_client.specs.Places.{Onward}
use Rattle.kmip_protocol.specs.Laws.{IsReached}
use Rattle.kmip_protocol.specs.Past.{Past}
use Rattle.kmip_runs.specs.PrivateLawbook.{Lawbook}
use Rattle.kmip_runs.specs.Campaign.{HasNoConflict}
use Rattle.kmip_runs.specs.Headline.{reported_by}
use Rattle.kmip_runs.specs.PrivateCampaignParts.{Noted, Reaches}
use Rattle.kmip_runs.specs.Campaigns.{IsTrueFor, carried_over}
use Rattle.kmip_runs.specs.PrivateCampaignsParts.{NotedFor}
use Rattle.kmip_runs.specs.declared.run_end.RunEnd.{RunEnd}
use Rattle.kmip_runs.proofs.CampaignLemmas.{FrontReaches, all_flat, all_of, by_front, saved_reached, true_one_onward}

-- ---- what was carried over

long : (objects : List Object) (keys : List Key) (saved : List Known) → TrueProgress objects keys saved
    → length saved ≡ length keys
long objects keys saved holds = AllZip-long (TrueOf objects) keys saved holds

-- what was true of a plan is true of one that prolongs it
pub true_over : Lawbook → (objects : List Object) (new old : List Key) (saved : List Known) → Prolongs new old
    → TrueProgress objects old saved → IsTrueFor objects new saved
true_over l objects new old saved prolongs holds =
    subst (λ n. TrueProgress objects new (saved ++ map (λ key. nothing_known) (drop n new)))
    (sym (long objects old saved holds)) (l.client.known_of_prolonged objects new old saved prolongs holds)

-- ---- what was reached

-- who has come so far on the way of a plan has come so far on that of one that prolongs it
front_over : Lawbook → (objects : List Object) (new old : List Key) (counts : List ℕ) → Prolongs new old
    → AllZip (Reaches objects) old counts → FrontReaches objects new counts
front_over l objects new [] [] prolongs reached = tt
front_over l objects new [] (count ∷ counts) prolongs reached = absurd reached
front_over l objects new (old ∷ olds) [] prolongs reached = absurd reached
front_over l objects [] (old ∷ olds) (count ∷ counts) prolongs reached = absurd prolongs
front_over l objects (new ∷ news) (old ∷ olds) (count ∷ counts) prolongs reached =
    let less = l.client.positions objects new old prolongs.0 in
    (omega (arith, reached.0, less), front_over l objects news olds counts prolongs.1 reached.1)

reached_over : Lawbook → Lawbook → (new old : List Key) (p : Past) (counts : List ℕ) → IsLawful new → Prolongs new old
    → AllZip (Reaches p.objects) old counts
    → All (IsReached new p) (reported_by new counts)
reached_over r l new old p counts lawful prolongs reached =
    by_front r new p new counts (all_of r new lawful) (front_over l p.objects new old counts prolongs reached)

pub noted_over : Lawbook → Lawbook → (new old : List Key) (p : Past) (ends : List RunEnd) (saved : List (List Known))
    → IsLawful new → Prolongs new old
    → Noted p.objects old ends saved → NotedFor new p ends saved
noted_over r l new old p ends saved lawful prolongs noted = record {
  ends_reached = all_flat (IsReached new p) (λ (end : RunEnd). reported_by new end.counts.items) ends
      (All-weaker (λ (end : RunEnd). AllZip (Reaches p.objects) old end.counts.items)
      (λ (end : RunEnd). All (IsReached new p) (reported_by new end.counts.items))
      (λ end reached. reached_over r l new old p end.counts.items lawful prolongs reached) ends noted.reached);
  saved_reached = all_flat (IsReached new p) (λ progress. reported_by new (map (λ known. known.done) progress)) saved
      (All-weaker (TrueProgress p.objects old)
      (λ progress. All (IsReached new p) (reported_by new (map (λ known. known.done) progress)))
      (λ progress holds. reached_over r l new old p (map (λ known. known.done) progress) lawful prolongs
      (saved_reached p.objects old progress holds)) saved noted.true_saved);
  no_conflict = noted.no_conflict;
  true_saved = All-weaker (TrueProgress p.objects old) (IsTrueFor p.objects new)
      (λ progress holds. true_over l p.objects new old progress prolongs holds) saved noted.true_saved;
}

-- ---- what is noted is noted for good

still_reached : (keys : List Key) (old new : Past) → Onward keys old.objects new.objects → (effects : List _)
    → All (IsReached keys old) effects → All (IsReached keys new) effects
still_reached keys old new onward effects reached =
    All-weaker (IsReached keys old) (IsReached keys new)
    (λ effect is. let further = (onward is.0 is.1).never_falls in
    (is.0, is.1, is.2, is.3, omega (arith, is.4, further))) effects reached

pub noted_for_onward : Lawbook → (keys : List Key) (old new : Past) (ends : List RunEnd) (saved : List (List Known))
    → IsLawful keys → Onward keys old.objects new.objects
    → NotedFor keys old ends saved → NotedFor keys new ends saved
noted_for_onward r keys old new ends saved lawful onward noted = record {
  ends_reached = still_reached keys old new onward
      (flat_map (λ (end : RunEnd). reported_by keys end.counts.items) ends) noted.ends_reached;
  saved_reached = still_reached keys old new onward
      (flat_map (λ progress. reported_by keys (map (λ known. known.done) progress)) saved) noted.saved_reached;
  no_conflict = noted.no_conflict;
  true_saved = All-weaker (IsTrueFor old.objects keys) (IsTrueFor new.objects keys)
      (λ progress holds. true_one_onward r keys old.objects new.objects (carried_over keys progress) lawful onward
      holds) saved noted.true_saved;
}

pub noted_for_none : (keys : List Key) (p : Past) (ends : List RunEnd) (saved : List (List Known)) → ends ≡ []
    → saved ≡ [] → NotedFor keys p ends saved
noted_for_none keys p ends saved no_end none_saved =
    rw (no_end, none_saved)
    (record {
      ends_reached = All-nil (IsReached keys p);
      saved_reached = All-nil (IsReached keys p);
      no_conflict = All-nil HasNoConflict;
      true_saved = All-nil (IsTrueFor p.objects keys);
    })

pub noted_for_both : (keys : List Key) (p : Past) (ends nexts : List RunEnd) (saved more : List (List Known))
    → NotedFor keys p ends saved → NotedFor keys p nexts more
    → NotedFor keys p (ends ++ nexts) (saved ++ more)
noted_for_both keys p ends nexts saved more first second = record {
  ends_reached =
      let by = λ (end : RunEnd). reported_by keys end.counts.items in
      All-same (IsReached keys p) (flat_map by (ends ++ nexts)) (flat_map by ends ++ flat_map by nexts)
      (flat_map-append by ends nexts)
      (All-append (IsReached keys p) (flat_map by ends) (flat_map by nexts) first.ends_reached second.ends_reached);
  saved_reached =
      let by = λ (progress : List Known). reported_by keys (map (λ known. known.done) progress) in
      All-same (IsReached keys p) (flat_map by (saved ++ more)) (flat_map by saved ++ flat_map by more)
      (flat_map-append by saved more)
      (All-append (IsReached keys p) (flat_map by saved) (flat_map by more) first.saved_reached second.saved_reached);
  no_conflict = All-append HasNoConflict ends nexts first.no_conflict second.no_conflict;
  true_saved = All-append (IsTrueFor p.objects keys) saved more first.true_saved second.true_saved;
}
