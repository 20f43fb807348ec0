-- Each event among clients of several plans keeps a company good and its past an image.
use Rattle.std.proofs.Common.{◌≡◌, ◌≢◌, ◌++◌, ◌∷◌, [], arith, Bool, false, List, map, nat_le, None, Option, refl}
use Rattle.std.proofs.Common.{slice_get, Some, subst, sym, true, ℕ, if◌then◌else◌}
use Rattle.std.specs.List.{All}
use Rattle.std.specs.Option.{option_map_or}
use Rattle.std.proofs.lemmas.List.Elements.{All-append, All-contains, All-nil, All-weaker}
use Rattle.kmip_client.specs.Asking.{IsAbout, after_ask, next_places, requests_at}
use Rattle.kmip_client.specs.Clients.{ClientState, fresh, lost_at, verdict_at}
use Rattle.kmip_client.specs.Held.{TrueOf}
use Rattle.kmip_client.specs.Known.{heard}
use Rattle.kmip_client.specs.Knowledge.{chain_length, clash_verdict, verdict_of}
use Rattle.kmip_client.specs.Places.{Onward}
use Rattle.kmip_client.specs.Saving.{progress, resume}
use Rattle.kmip_client.specs.Verdicts.{counts_of}
use Rattle.kmip_client.specs.declared.clash.Clash.{Clash}
use Rattle.kmip_client.specs.declared.clash.Clash.TheVariants as clashes
use Rattle.kmip_client.specs.declared.knowledge.Knowledge.{Knowledge}
use Rattle.kmip_client.specs.declared.question.Question.{Question}
use Rattle.kmip_client.specs.declared.verdict.Verdict.TheVariants.{Conflict, Finished, Working}
use Rattle.kmip_messages.specs.Batches.{replies_read}
use Rattle.kmip_messages.specs.Items.{requests_in}
use Rattle.kmip_objects.specs.Objects.{Object}
use Rattle.kmip_plan.specs.Plans.{IsLawful}
use Rattle.kmip_plan.specs.declared.key.Key.{Key}
use Rattle.kmip_progress.specs.declared.known.Known.{Known}
use Rattle.kmip_protocol.specs.Amid.{Occurs, OthersAsk, PassedAmid}
use Rattle.kmip_protocol.specs.Exchanges.{with_asked}
use Rattle.kmip_protocol.specs.Laws.{IsReached}
use Rattle.kmip_protocol.specs.Machine.{IsMirrored}
use Rattle.kmip_protocol.specs.Moves.{MayHappen, Move, after_move}
use Rattle.kmip_protocol.specs.Past.{Past, is_planned}
use Rattle.kmip_protocol.specs.Sound.{HarmlessMessage, IsHarmless, Sound}
use Rattle.kmip_runs.specs.Headline.{reported_by}
use Rattle.kmip_server.specs.declared.effect.Effect.{Effect}
use Rattle.kmip_company.specs.Companies.{Asks, Company, Event, Happens, Hears, Leaves, Loses, MayOccur, Reports}
use Rattle.kmip_company.specs.Companies.{Resumes, Saves, SetsBatch, Starts, joined_by, nobody, with_client}
use Rattle.kmip_company.specs.Mixed.{AllBeside, AllMayOccurAmong, IsGoodMixed, IsOlderMember, IsSafeMixed}
use Rattle.kmip_company.specs.Mixed.{MayOccurAmong, PlannedEvent, after_all_of, after_of, carried}
use Rattle.kmip_company.specs.PrivateLawbook.{Lawbook}
use Rattle.kmip_company.specs.Safety.{all_reported}
use Rattle.kmip_company.proofs.EventLemmas.{about_there, one_move, reached_on, there}
use Rattle.kmip_company.proofs.ListLemmas.{all_and, all_at, all_flat, all_set, all_without}
use Rattle.kmip_company.proofs.MixedAskLemmas.{counts_reached, known_counted, older_justified, saved_counted}
use Rattle.kmip_company.proofs.TruthLemmas.{all_harmless}
use Rattle.kmip_company.proofs.MixedMemberLemmas.{knows_again, knows_lost, knows_nothing, knows_on, knows_read}
use Rattle.kmip_company.proofs.MixedMemberLemmas.{saved_on, saves_true}

-- ---- the objects go onward

-- a company of a later past
good_on : Lawbook → (keys : List Key) (w : Company) (p : Past) → IsLawful keys → Sound keys p
    → Onward keys w.past.objects p.objects → IsGoodMixed keys w
    → IsGoodMixed keys (record w { past = p })
good_on l keys w p lawful sound on good = record {
  sound = sound;
  members = All-weaker (IsOlderMember keys w.past.objects) (IsOlderMember keys p.objects)
      (λ c. knows_on l keys w.past.objects p.objects c.keys c.knowns lawful on) w.clients good.members;
  true_saved = All-weaker (AllBeside (TrueOf w.past.objects) keys) (AllBeside (TrueOf p.objects) keys)
      (λ saved. saved_on l keys w.past.objects p.objects saved lawful on) w.saved good.true_saved;
  reached = All-weaker (IsReached keys w.past) (IsReached keys p) (λ effect. reached_on keys w.past p effect on)
      w.reported good.reached;
}

-- ---- a client changes

good_client : (keys : List Key) (w : Company) (place : ℕ) (c : ClientState) → IsGoodMixed keys w
    → IsOlderMember keys w.past.objects c
    → IsGoodMixed keys (with_client place c w)
good_client keys w place c good m = record {
  sound = good.sound;
  members = all_set (IsOlderMember keys w.past.objects) w.clients place c good.members m;
  true_saved = good.true_saved;
  reached = good.reached;
}

good_joined : (keys : List Key) (w : Company) (c : ClientState) → IsGoodMixed keys w
    → IsOlderMember keys w.past.objects c → IsGoodMixed keys (joined_by c w)
good_joined keys w c good m = record {
  sound = good.sound;
  members = all_and (IsOlderMember keys w.past.objects) w.clients c good.members m;
  true_saved = good.true_saved;
  reached = good.reached;
}

member_at : (keys : List Key) (w : Company) (place : ℕ) (c : ClientState) → IsGoodMixed keys w
    → slice_get w.clients place ≡ Some c → IsOlderMember keys w.past.objects c
member_at keys w place c good is = all_at (IsOlderMember keys w.past.objects) w.clients place c good.members is

-- ---- what is asked

harmless_message : Lawbook → (keys : List Key) (objects : List Object) (c : ClientState) (question : Question)
    → IsLawful keys → IsOlderMember keys objects c
    → IsAbout c.keys c.knowns (next_places c) question → HarmlessMessage keys objects question.bytes
harmless_message l keys objects c question lawful m about =
    subst (λ requests. All (IsHarmless keys objects) requests) (sym about.asks)
    (all_harmless keys objects (requests_at c.keys c.knowns (next_places c))
    (older_justified l keys objects c.keys c.knowns (next_places c) lawful m about.works))

good_asked : Lawbook → (keys : List Key) (w : Company) (place : ℕ) (c : ClientState) (question : Question)
    → IsLawful keys → IsGoodMixed keys w
    → slice_get w.clients place ≡ Some c → IsAbout c.keys c.knowns (next_places c) question
    → IsGoodMixed keys (with_client place (after_ask c) (record w { past = with_asked question.bytes w.past }))
good_asked l keys w place c question lawful good is about =
    let m = member_at keys w place c good is in
    let sound = l.exchanges.asking keys w.past (requests_in question.bytes) good.sound
    (harmless_message l keys w.past.objects c question lawful m about) in
    let asked = good_on l keys w (with_asked question.bytes w.past) lawful sound (l.client.itself keys w.past.objects)
    good in
    good_client keys (record w { past = with_asked question.bytes w.past }) place (after_ask c) asked m

-- ---- what is saved and reported

good_saved : (keys : List Key) (w : Company) (c : ClientState) → IsGoodMixed keys w
    → IsOlderMember keys w.past.objects c
    → IsGoodMixed keys (record w { saved = w.saved ++ progress c ∷ [] })
good_saved keys w c good m = record {
  sound = good.sound;
  members = good.members;
  true_saved = all_and (AllBeside (TrueOf w.past.objects) keys) w.saved (progress c) good.true_saved
      (saves_true keys w.past.objects c.keys c.knowns m);
  reached = good.reached;
}

good_reported : Lawbook → (keys : List Key) (e : PlannedEvent) (w : Company) (c : ClientState) → IsLawful keys
    → MayOccurAmong keys e w → IsGoodMixed keys w
    → IsOlderMember keys w.past.objects c → IsGoodMixed keys
    (record w { reported = w.reported ++ reported_by e.plan (counts_of c.knowns) })
good_reported l keys e w c lawful may good m = record {
  sound = good.sound;
  members = good.members;
  true_saved = good.true_saved;
  reached = All-append (IsReached keys w.past) w.reported (reported_by e.plan (counts_of c.knowns)) good.reached
      (counts_reached l keys w.past e.plan (counts_of c.knowns) lawful may.is_prolonged
      (known_counted keys w.past.objects c.keys c.knowns m));
}

-- ---- one event

-- the company is good after it, and its objects have gone onward
abbrev pub StaysGood : List Key → Company → Company → Type 0
StaysGood keys old new = IsGoodMixed keys new × Onward keys old.past.objects new.past.objects

pub good_event : Lawbook → (keys : List Key) (e : PlannedEvent) (w : Company) → IsLawful keys → MayOccurAmong keys e w
    → IsGoodMixed keys w
    → StaysGood keys w (after_of e.plan e.event w)
good_event l keys e w lawful may good = by_event e.event may.may where
  stays : Onward keys w.past.objects w.past.objects
  stays = l.client.itself keys w.past.objects

  by_event : (event : Event) → MayOccur keys event w → StaysGood keys w (after_of e.plan event w)
  by_event Starts m = (
    good_joined keys w (fresh e.plan) good
        (knows_nothing keys w.past.objects e.plan may.is_prolonged),
    stays,
  )
  by_event (Resumes place) m =
      there (StaysGood keys w) (slice_get w.saved place) _ w (good, stays)
      (λ saved is.
      let holds = all_at (AllBeside (TrueOf w.past.objects) keys) w.saved place saved good.true_saved is in (
        good_joined keys w (resume e.plan (carried e.plan saved)) good
            (knows_again keys w.past.objects e.plan saved may.is_prolonged holds),
        stays,
      ))
  by_event (SetsBatch place most) m =
      there (StaysGood keys w) (slice_get w.clients place) _ w (good, stays)
      (λ c is. (good_client keys w place (record c { batch = most }) good (member_at keys w place c good is), stays))
  by_event (Asks place question) m =
      there (StaysGood keys w) (slice_get w.clients place) _ w (good, stays)
      (λ c is. (
        good_asked l keys w place c question lawful good is
            (about_there (slice_get w.clients place) question c m is),
        stays,
      ))
  by_event (Happens move) m =
      let delivered = one_move keys move w.past m in
      let on = l.exchanges.onward keys w.past (after_move move w.past) good.sound delivered in (
        good_on l keys w (after_move move w.past) lawful
            (l.exchanges.deliveries keys w.past (after_move move w.past) good.sound delivered) on good,
        on,
      )
  by_event (Hears place bytes) m =
      there (StaysGood keys w) (slice_get w.clients place) _ w (good, stays)
      (λ c is.
      let told = l.exchanges.answers keys w.past bytes good.sound m in
      let knows = knows_read l keys w.past.objects c.keys c.knowns bytes (replies_read bytes) refl told
      (member_at keys w place c good is) in
      (good_client keys w place (record c { knowns = heard c.keys c.knowns (Some bytes) }) good knows, stays))
  by_event (Loses place key) m =
      there (StaysGood keys w) (slice_get w.clients place) _ w (good, stays)
      (λ c is. (
        good_client keys w place (lost_at c key) good
            (knows_lost l keys w.past.objects c.keys c.knowns key (member_at keys w place c good is)),
        stays,
      ))
  by_event (Saves place) m =
      there (StaysGood keys w) (slice_get w.clients place) _ w (good, stays)
      (λ c is. (good_saved keys w c good (member_at keys w place c good is), stays))
  by_event (Reports place) m =
      there (StaysGood keys w) (slice_get w.clients place) _ w (good, stays)
      (λ c is. (good_reported l keys e w c lawful may good (member_at keys w place c good is), stays))
  by_event (Leaves place) m = (
    record {
      sound = good.sound;
      members = all_without (IsOlderMember keys w.past.objects) w.clients place good.members;
      true_saved = good.true_saved;
      reached = good.reached;
    },
    stays,
  )

-- what holds of the past before it holds after it, where it does after what is asked and what happens
past_event : (keys : List Key) (e : PlannedEvent) (w : Company) (P : Past → Type 0) → MayOccurAmong keys e w → P w.past
    → ((c : ClientState) (question : Question) → (place : ℕ) → slice_get w.clients place ≡ Some c
    → IsAbout c.keys c.knowns (next_places c) question → P (with_asked question.bytes w.past))
    → ((move : Move) → MayHappen (is_planned keys) move w.past → P (after_move move w.past))
    → P (after_of e.plan e.event w).past
past_event keys e w P may was asked happens = by_event e.event may.may where
  by_event : (event : Event) → MayOccur keys event w → P (after_of e.plan event w).past
  by_event Starts m = was
  by_event (Resumes place) m = there (λ v. P v.past) (slice_get w.saved place) _ w was (λ saved is. was)
  by_event (SetsBatch place most) m = there (λ v. P v.past) (slice_get w.clients place) _ w was (λ c is. was)
  by_event (Asks place question) m =
      there (λ v. P v.past) (slice_get w.clients place) _ w was
      (λ c is. asked c question place is (about_there (slice_get w.clients place) question c m is))
  by_event (Happens move) m = happens move m
  by_event (Hears place bytes) m = there (λ v. P v.past) (slice_get w.clients place) _ w was (λ c is. was)
  by_event (Loses place key) m = there (λ v. P v.past) (slice_get w.clients place) _ w was (λ c is. was)
  by_event (Saves place) m = there (λ v. P v.past) (slice_get w.clients place) _ w was (λ c is. was)
  by_event (Reports place) m = there (λ v. P v.past) (slice_get w.clients place) _ w was (λ c is. was)
  by_event (Leaves place) m = was

image_event : Lawbook → (keys : List Key) (e : PlannedEvent) (w : Company) → IsLawful keys → MayOccurAmong keys e w
    → IsGoodMixed keys w → IsMirrored keys w.past
    → IsMirrored keys (after_of e.plan e.event w).past
image_event l keys e w lawful may good image =
    past_event keys e w (IsMirrored keys) may image
    (λ c question place is about.
    l.exchanges.image_asked keys w.past question.bytes image
    (harmless_message l keys w.past.objects c question lawful (member_at keys w place c good is) about))
    (λ move happens. l.exchanges.image_delivered keys w.past (after_move move w.past) good.sound image
    (one_move keys move w.past happens))

passes_event : Lawbook → (keys : List Key) (e : PlannedEvent) (w : Company) → IsLawful keys → MayOccurAmong keys e w
    → IsGoodMixed keys w
    → PassedAmid keys w.past (after_of e.plan e.event w).past
passes_event l keys e w lawful may good =
    past_event keys e w (PassedAmid keys w.past) may (l.amid.nothing keys w.past)
    (λ c question place is about. record {
      meanwhile = OthersAsk (requests_in question.bytes) ∷ [];
      may = (harmless_message l keys w.past.objects c question lawful (member_at keys w place c good is) about, tt);
      is = refl;
    })
    (λ move happens. record { meanwhile = Occurs move ∷ []; may = (happens, tt); is = refl })

-- ---- several events

pub good_events : Lawbook → (keys : List Key) (events : List PlannedEvent) (w : Company) → IsLawful keys
    → IsGoodMixed keys w → AllMayOccurAmong keys events w
    → StaysGood keys w (after_all_of events w)
good_events l keys [] w lawful good may = (good, l.client.itself keys w.past.objects)
good_events l keys (e ∷ events) w lawful good may =
    let next = after_of e.plan e.event w in
    let one = good_event l keys e w lawful may.0 good in
    let rest = good_events l keys events next lawful one.0 may.1 in
    (rest.0, l.client.twice keys w.past.objects next.past.objects (after_all_of events next).past.objects one.1 rest.1)

pub image_events : Lawbook → (keys : List Key) (events : List PlannedEvent) (w : Company) → IsLawful keys
    → IsGoodMixed keys w → IsMirrored keys w.past
    → AllMayOccurAmong keys events w → IsMirrored keys (after_all_of events w).past
image_events l keys [] w lawful good image may = image
image_events l keys (e ∷ events) w lawful good image may =
    image_events l keys events (after_of e.plan e.event w) lawful (good_event l keys e w lawful may.0 good).0
    (image_event l keys e w lawful may.0 good image) may.1

pub passes_events : Lawbook → (keys : List Key) (events : List PlannedEvent) (w : Company) → IsLawful keys
    → IsGoodMixed keys w → AllMayOccurAmong keys events w
    → PassedAmid keys w.past (after_all_of events w).past
passes_events l keys [] w lawful good may = l.amid.nothing keys w.past
passes_events l keys (e ∷ events) w lawful good may =
    let next = after_of e.plan e.event w in
    l.amid.joins keys w.past next.past (after_all_of events next).past (passes_event l keys e w lawful may.0 good)
    (passes_events l keys events next lawful (good_event l keys e w lawful may.0 good).0 may.1)

-- ---- a good company is safe

pub nobody_good : (keys : List Key) (p : Past) → Sound keys p → IsGoodMixed keys (nobody p)
nobody_good keys p sound = record {
  sound = sound;
  members = All-nil (IsOlderMember keys p.objects);
  true_saved = All-nil (AllBeside (TrueOf p.objects) keys);
  reached = All-nil (IsReached keys p);
}

reports_reached : Lawbook → (keys : List Key) (w : Company) → IsLawful keys → IsGoodMixed keys w
    → All (IsReached keys w.past) (all_reported keys w)
reports_reached l keys w lawful good =
    let by_saved : List Known → List Effect = λ saved. reported_by keys (map (λ known. known.done) saved) in
    All-append (IsReached keys w.past) w.reported _ good.reached
    (all_flat (IsReached keys w.past) by_saved w.saved
    (All-weaker (AllBeside (TrueOf w.past.objects) keys) (λ saved. All (IsReached keys w.past) (by_saved saved))
    (λ saved holds.
    counts_reached l keys w.past keys (map (λ known. known.done) saved) lawful (l.plan.plan_itself keys)
    (saved_counted keys w.past.objects saved holds))
    w.saved good.true_saved))

-- who finds a conflict has a key there, and a clash
conflict_there : (X : Type 0) (keys : List Key) (knowns : List Knowledge) (place : ℕ) (clash : Clash)
    → verdict_at keys knowns place ≡ Conflict clash
    → ((key : Key) (known : Knowledge) → slice_get keys place ≡ Some key → slice_get knowns place ≡ Some known
    → known.clash ≡ Some clash → X) → X
conflict_there X keys knowns place clash is given =
    by_found (slice_get keys place) (slice_get knowns place) refl refl is where
      by_clash : (key : Key) (known : Knowledge) → slice_get keys place ≡ Some key → slice_get knowns place ≡ Some known
          → (found : Option Clash) → known.clash ≡ found
          → clash_verdict found ≡ Conflict clash → X
      by_clash key known key_is known_is None at is = absurd cc
      by_clash key known key_is known_is (Some c) at is = given key known key_is known_is cc

      by_test : (key : Key) (known : Knowledge) → slice_get keys place ≡ Some key → slice_get knowns place ≡ Some known
          → (b : Bool)
          → (if b then Finished else clash_verdict known.clash) ≡ Conflict clash → X
      by_test key known key_is known_is true is = absurd cc
      by_test key known key_is known_is false is = by_clash key known key_is known_is known.clash refl is

      by_found : (key : Option Key) (known : Option Knowledge) → slice_get keys place ≡ key
          → slice_get knowns place ≡ known
          → option_map_or (λ k. option_map_or (λ x. verdict_of k x) known Working) key Working ≡ Conflict clash → X
      by_found None known key_is known_is is = absurd cc
      by_found (Some key) None key_is known_is is = absurd cc
      by_found (Some key) (Some known) key_is known_is is = by_test key known key_is known_is
          (nat_le (chain_length key) known.done) is

none_is_some : {X : Type 0} (found : Option Clash) (clash : Clash) → found ≡ None → found ≡ Some clash → X
none_is_some found clash none some = absurd cc

-- no conflict at a key that the newest plan takes no further
agrees_there : (keys : List Key) (objects : List Object) (c : ClientState) → IsOlderMember keys objects c
    → (place : ℕ) (own newest : Key)
    → slice_get c.keys place ≡ Some own → slice_get keys place ≡ Some newest → newest.target ≡ own.target
    → (clash : Clash)
    → verdict_at c.keys c.knowns place ≢ Conflict clash
agrees_there keys objects c m place own newest own_is newest_is same clash =
    λ is. conflict_there ⊥ c.keys c.knowns place clash is
    (λ key known key_is known_is some. none_is_some known.clash clash
    (m.agrees place own newest known own_is newest_is known_is same) some)

state_there : Lawbook → (keys : List Key) (objects : List Object) (c : ClientState) → IsOlderMember keys objects c
    → (place : ℕ) (clash : Clash)
    → verdict_at c.keys c.knowns place ≡ Conflict clash → clash ≡ clashes.State
state_there l keys objects c m place clash is =
    conflict_there (clash ≡ clashes.State) c.keys c.knowns place clash is
    (λ key known key_is known_is some.
    let (newest, newest_is, goes) = l.plan.old_stand keys c.keys place key m.is_prolonged key_is in
    (m.knows place newest known newest_is known_is).of_state clash some)

pub safe_mixed : Lawbook → (keys : List Key) (w : Company) → IsLawful keys → IsGoodMixed keys w
    → IsMirrored keys w.past → IsSafeMixed keys w
safe_mixed l keys w lawful good image = record {
  safe = l.exchanges.safe keys w.past (all_reported keys w) good.sound (reports_reached l keys w lawful good);
  machine = image;
  no_conflict = λ c among. agrees_there keys w.past.objects c
      (All-contains (IsOlderMember keys w.past.objects) w.clients c good.members among);
  of_state = λ c among. state_there l keys w.past.objects c
      (All-contains (IsOlderMember keys w.past.objects) w.clients c good.members among);
  good = good;
}
