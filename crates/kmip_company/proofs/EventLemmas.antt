-- Each event keeps a company good and its past an image.
use Rattle.std.proofs.Common.{◌≡◌, ◌≢◌, ◌≤◌, ◌+◌, ◌++◌, ◌∷◌, [], arith, Err, length, List, map, None, Ok, Option, refl}
use Rattle.std.proofs.Common.{Result, slice_get, Some, subst, sym, ℕ}
use Rattle.std.specs.List.{All}
use Rattle.std.proofs.lemmas.List.Elements.{All-append, All-contains, All-nil, All-weaker}
use Rattle.kmip_batch_items.specs.declared.message_fault.MessageFault.{MessageFault}
use Rattle.kmip_batch_items.specs.declared.reply.Reply.{Reply}
use Rattle.kmip_client.specs.Asking.{IsAbout, after_ask, next_places}
use Rattle.kmip_client.specs.Justified.{Justified, JustifiedMessage}
use Rattle.kmip_client.specs.Clients.{ClientState, fresh, lost_at, verdict_at}
use Rattle.kmip_client.specs.Hearing.{hear_all}
use Rattle.kmip_client.specs.Held.{Held, TrueProgress}
use Rattle.kmip_client.specs.Known.{heard, knowns_heard}
use Rattle.kmip_client.specs.Places.{Onward}
use Rattle.kmip_client.specs.Saving.{progress, resume}
use Rattle.kmip_client.specs.Truth.{TrueReply}
use Rattle.kmip_client.specs.Verdicts.{counts_of}
use Rattle.kmip_client.specs.declared.clash.Clash.{Clash}
use Rattle.kmip_client.specs.declared.knowledge.Knowledge.{Knowledge}
use Rattle.kmip_client.specs.declared.verdict.Verdict.TheVariants.{Conflict}
use Rattle.kmip_client.specs.declared.question.Question.{Question}
use Rattle.kmip_messages.specs.Batches.{replies_read}
use Rattle.kmip_messages.specs.Items.{replies_in, requests_in}
use Rattle.kmip_objects.specs.Objects.{Object}
use Rattle.kmip_plan.specs.Plans.{IsLawful}
use Rattle.kmip_plan.specs.declared.key.Key.{Key}
use Rattle.kmip_progress.specs.declared.known.Known.{Known}
use Rattle.kmip_protocol.specs.Exchanges.{AreGiven, with_asked}
use Rattle.kmip_protocol.specs.Laws.{IsReached}
use Rattle.kmip_protocol.specs.Machine.{IsMirrored}
use Rattle.kmip_protocol.specs.Moves.{Delivered, MayHappen, Move, after_move}
use Rattle.kmip_protocol.specs.Needs.{missing}
use Rattle.kmip_protocol.specs.Past.{Past, is_planned}
use Rattle.kmip_protocol.specs.Ready.{IsReady}
use Rattle.kmip_protocol.specs.Sound.{AreJustified, HarmlessMessage, Sound}
use Rattle.kmip_runs.specs.Headline.{reported_by}
use Rattle.kmip_server.specs.declared.effect.Effect.{Effect}
use Rattle.kmip_company.specs.Companies.{AllMayOccur, Asks, Company, Event, Happens, Hears, Leaves, Loses, MayAskNext}
use Rattle.kmip_company.specs.Companies.{MayOccur, Reports, Resumes, Saves, SetsBatch, Starts, after_event}
use Rattle.kmip_company.specs.Companies.{after_events, if_there, joined_by, nobody, with_client}
use Rattle.kmip_company.specs.PrivateLawbook.{Lawbook}
use Rattle.kmip_company.specs.Safety.{IsGoodCompany, IsMember, IsSafeCompany, all_reported}
use Rattle.kmip_company.proofs.ListLemmas.{all_and, all_at, all_flat, all_set, all_without}
use Rattle.kmip_company.proofs.TruthLemmas.{all_harmless, all_justified, all_reached, counts_reached, held_again, held_fresh}
use Rattle.kmip_company.proofs.TruthLemmas.{saved_reached, true_of_held, true_still}

-- ---- the objects go onward

pub member_on : Lawbook → (keys : List Key) (old new : List Object) (c : ClientState) → IsLawful keys
    → Onward keys old new → IsMember keys old c → IsMember keys new c
member_on l keys old new c lawful on m =
    record { keys_are = m.keys_are; held = l.client.known_for_good keys c.knowns old new lawful on m.held }

pub reached_on : (keys : List Key) (old new : Past) (effect : Effect) → Onward keys old.objects new.objects
    → IsReached keys old effect → IsReached keys new effect
reached_on keys old new effect on r =
    let further = (on r.0 r.1).never_falls in
    (r.0, r.1, r.2, r.3, omega (arith, further, r.4))

-- a company of a later past
pub good_on : Lawbook → (keys : List Key) (w : Company) (p : Past) → IsLawful keys → Sound keys p
    → Onward keys w.past.objects p.objects → IsGoodCompany keys w
    → IsGoodCompany keys (record w { past = p })
good_on l keys w p lawful sound on good = record {
  sound = sound;
  members = All-weaker (IsMember keys w.past.objects) (IsMember keys p.objects)
      (λ c. member_on l keys w.past.objects p.objects c lawful on) w.clients good.members;
  true_saved = All-weaker (TrueProgress w.past.objects keys) (TrueProgress p.objects keys)
      (λ saved. true_still l keys saved w.past.objects p.objects lawful on) w.saved good.true_saved;
  reached = All-weaker (IsReached keys w.past) (IsReached keys p) (λ effect. reached_on keys w.past p effect on)
      w.reported good.reached;
}

-- one thing happens
pub one_move : (keys : List Key) (move : Move) (p : Past) → MayHappen (is_planned keys) move p
    → Delivered (is_planned keys) p (after_move move p)
one_move keys move p may = record { moves = move ∷ []; may = (may, tt); is = refl }

-- ---- a client changes

good_client : (keys : List Key) (w : Company) (place : ℕ) (c : ClientState) → IsGoodCompany keys w
    → IsMember keys w.past.objects c
    → IsGoodCompany keys (with_client place c w)
good_client keys w place c good m = record {
  sound = good.sound;
  members = all_set (IsMember keys w.past.objects) w.clients place c good.members m;
  true_saved = good.true_saved;
  reached = good.reached;
}

good_joined : (keys : List Key) (w : Company) (c : ClientState) → IsGoodCompany keys w
    → IsMember keys w.past.objects c → IsGoodCompany keys (joined_by c w)
good_joined keys w c good m = record {
  sound = good.sound;
  members = all_and (IsMember keys w.past.objects) w.clients c good.members m;
  true_saved = good.true_saved;
  reached = good.reached;
}

-- what holds of who stands at a place holds of what is made of them
pub there : {A : Type 0} (P : Company → Type 0) (found : Option A) (f : A → Company) (w : Company) → P w
    → ((a : A) → found ≡ Some a → P (f a)) → P (if_there found f w)
there P None f w none some = none
there P (Some a) f w none some = some a refl

-- ---- what is asked

justified_message : Lawbook → (keys : List Key) (objects : List Object) (c : ClientState) (question : Question)
    → IsLawful keys → IsMember keys objects c
    → IsAbout c.keys c.knowns (next_places c) question → JustifiedMessage keys objects question.bytes
justified_message l keys objects c question lawful m about =
    let about : IsAbout keys c.knowns (next_places c) question = subst
    (λ ks. IsAbout ks c.knowns (next_places c) question) m.keys_are about in
    subst (λ requests. All (Justified keys objects) requests) (sym about.asks)
    (all_justified l keys objects c.knowns (next_places c) lawful m.held about.works)

pub harmless_message : Lawbook → (keys : List Key) (objects : List Object) (c : ClientState) (question : Question)
    → IsLawful keys → IsMember keys objects c
    → IsAbout c.keys c.knowns (next_places c) question → HarmlessMessage keys objects question.bytes
harmless_message l keys objects c question lawful m about =
    all_harmless keys objects (requests_in question.bytes)
    (justified_message l keys objects c question lawful m about)

abbrev some_client : ClientState → Option ClientState
some_client x = Some x

same_client : (x y : ClientState) → some_client x ≡ some_client y → x ≡ y
same_client x y e = cc

pub about_there : (found : Option ClientState) (question : Question) (c : ClientState) → MayAskNext found question
    → found ≡ Some c → IsAbout c.keys c.knowns (next_places c) question
about_there None question c may is = absurd cc
about_there (Some d) question c may is =
    subst (λ x. IsAbout x.keys x.knowns (next_places x) question) (same_client d c is) may

good_asked : Lawbook → (keys : List Key) (w : Company) (place : ℕ) (c : ClientState) (question : Question)
    → IsLawful keys → IsGoodCompany keys w
    → slice_get w.clients place ≡ Some c → IsAbout c.keys c.knowns (next_places c) question
    → IsGoodCompany keys (with_client place (after_ask c) (record w { past = with_asked question.bytes w.past }))
good_asked l keys w place c question lawful good is about =
    let m = all_at (IsMember keys w.past.objects) w.clients place c good.members is in
    let sound = l.exchanges.asking keys w.past (requests_in question.bytes) good.sound
    (harmless_message l keys w.past.objects c question lawful m about) in
    let asked = good_on l keys w (with_asked question.bytes w.past) lawful sound (l.client.itself keys w.past.objects)
    good in
    good_client keys (record w { past = with_asked question.bytes w.past }) place (after_ask c) asked
    (record { keys_are = m.keys_are; held = m.held })

-- ---- what is heard

pub held_read : Lawbook → (keys : List Key) (objects : List Object) (knowns : List Knowledge) (bytes : List ℕ)
    (read : Result (List Reply) MessageFault) → replies_read bytes ≡ read
    → All (TrueReply keys objects) (replies_in bytes) → Held objects keys knowns
    → Held objects keys (knowns_heard knowns (hear_all keys knowns read))
held_read l keys objects knowns bytes (Ok replies) is told held =
    l.client.heard objects keys replies knowns held
    (subst (λ rs. All (TrueReply keys objects) rs) (l.messages.said bytes replies is) told)
held_read l keys objects knowns bytes (Err fault) is told held = held

good_heard : Lawbook → (keys : List Key) (w : Company) (place : ℕ) (c : ClientState) (bytes : List ℕ)
    → IsGoodCompany keys w → slice_get w.clients place ≡ Some c
    → AreGiven w.past bytes → IsGoodCompany keys
    (with_client place (record c { knowns = heard c.keys c.knowns (Some bytes) }) w)
good_heard l keys w place c bytes good is given =
    let m = all_at (IsMember keys w.past.objects) w.clients place c good.members is in
    let told = l.exchanges.answers keys w.past bytes good.sound given in
    good_client keys w place (record c { knowns = heard c.keys c.knowns (Some bytes) }) good
    (record {
      keys_are = m.keys_are;
      held = subst (λ ks. Held w.past.objects keys (heard ks c.knowns (Some bytes))) (sym m.keys_are)
          (held_read l keys w.past.objects c.knowns bytes (replies_read bytes) refl told m.held);
    })

good_lost : Lawbook → (keys : List Key) (w : Company) (place key : ℕ) (c : ClientState) → IsGoodCompany keys w
    → slice_get w.clients place ≡ Some c
    → IsGoodCompany keys (with_client place (lost_at c key) w)
good_lost l keys w place key c good is =
    let m = all_at (IsMember keys w.past.objects) w.clients place c good.members is in
    good_client keys w place (lost_at c key) good
    (record {
      keys_are = m.keys_are;
      held = subst (λ ks. Held w.past.objects keys (lost_at (record c { keys = ks }) key).knowns) (sym m.keys_are)
          (l.client.lost w.past.objects keys c.knowns key m.held);
    })

-- ---- what is saved and reported

good_saved : (keys : List Key) (w : Company) (c : ClientState) → IsGoodCompany keys w → IsMember keys w.past.objects c
    → IsGoodCompany keys (record w { saved = w.saved ++ progress c ∷ [] })
good_saved keys w c good m = record {
  sound = good.sound;
  members = good.members;
  true_saved = all_and (TrueProgress w.past.objects keys) w.saved (progress c) good.true_saved
      (true_of_held w.past.objects keys c.knowns m.held);
  reached = good.reached;
}

good_reported : Lawbook → (keys : List Key) (w : Company) (c : ClientState) → IsLawful keys → IsGoodCompany keys w
    → IsMember keys w.past.objects c
    → IsGoodCompany keys (record w { reported = w.reported ++ reported_by keys (counts_of c.knowns) })
good_reported l keys w c lawful good m = record {
  sound = good.sound;
  members = good.members;
  true_saved = good.true_saved;
  reached = All-append (IsReached keys w.past) w.reported (reported_by keys (counts_of c.knowns)) good.reached
      (all_reached l keys w.past (counts_of c.knowns) lawful (counts_reached w.past.objects keys c.knowns m.held));
}

-- ---- one event

-- the company is good after it, and its objects have gone onward
abbrev pub StaysGood : List Key → Company → Company → Type 0
StaysGood keys old new = IsGoodCompany keys new × Onward keys old.past.objects new.past.objects

pub good_event : Lawbook → (keys : List Key) (event : Event) (w : Company) → IsLawful keys → MayOccur keys event w
    → IsGoodCompany keys w
    → StaysGood keys w (after_event keys event w)
good_event l keys Starts w lawful may good = (
  good_joined keys w (fresh keys) good (record { keys_are = refl; held = held_fresh w.past.objects keys }),
  l.client.itself keys w.past.objects,
)
good_event l keys (Resumes place) w lawful may good =
    there (StaysGood keys w) (slice_get w.saved place) _ w (good, l.client.itself keys w.past.objects)
    (λ saved is.
    let holds = all_at (TrueProgress w.past.objects keys) w.saved place saved good.true_saved is in (
      good_joined keys w (resume keys saved) good
          (record { keys_are = refl; held = held_again w.past.objects keys saved holds }),
      l.client.itself keys
          w.past.objects,
    ))
good_event l keys (SetsBatch place most) w lawful may good =
    there (StaysGood keys w) (slice_get w.clients place) _ w (good, l.client.itself keys w.past.objects)
    (λ c is.
    let m = all_at (IsMember keys w.past.objects) w.clients place c good.members is in (
      good_client keys w place (record c { batch = most }) good (record { keys_are = m.keys_are; held = m.held }),
      l.client.itself keys w.past.objects,
    ))
good_event l keys (Asks place question) w lawful may good =
    there (StaysGood keys w) (slice_get w.clients place) _ w (good, l.client.itself keys w.past.objects)
    (λ c is. (
      good_asked l keys w place c question lawful good is
          (about_there (slice_get w.clients place) question c may is),
      l.client.itself keys w.past.objects,
    ))
good_event l keys (Happens move) w lawful may good =
    let delivered = one_move keys move w.past may in
    let on = l.exchanges.onward keys w.past (after_move move w.past) good.sound delivered in (
      good_on l keys w (after_move move w.past) lawful
          (l.exchanges.deliveries keys w.past (after_move move w.past) good.sound delivered) on good,
      on,
    )
good_event l keys (Hears place bytes) w lawful may good =
    there (StaysGood keys w) (slice_get w.clients place) _ w (good, l.client.itself keys w.past.objects)
    (λ c is. (good_heard l keys w place c bytes good is may, l.client.itself keys w.past.objects))
good_event l keys (Loses place key) w lawful may good =
    there (StaysGood keys w) (slice_get w.clients place) _ w (good, l.client.itself keys w.past.objects)
    (λ c is. (good_lost l keys w place key c good is, l.client.itself keys w.past.objects))
good_event l keys (Saves place) w lawful may good =
    there (StaysGood keys w) (slice_get w.clients place) _ w (good, l.client.itself keys w.past.objects)
    (λ c is. (
      good_saved keys w c good (all_at (IsMember keys w.past.objects) w.clients place c good.members is),
      l.client.itself keys w.past.objects,
    ))
good_event l keys (Reports place) w lawful may good =
    there (StaysGood keys w) (slice_get w.clients place) _ w (good, l.client.itself keys w.past.objects)
    (λ c is. (
      good_reported l keys w c lawful good
          (all_at (IsMember keys w.past.objects) w.clients place c good.members is),
      l.client.itself keys w.past.objects,
    ))
good_event l keys (Leaves place) w lawful may good = (
  record {
    sound = good.sound;
    members = all_without (IsMember keys w.past.objects) w.clients place good.members;
    true_saved = good.true_saved;
    reached = good.reached;
  },
  l.client.itself keys w.past.objects,
)

-- the past after it is an image of the plan machine
pub image_event : Lawbook → (keys : List Key) (event : Event) (w : Company) → IsLawful keys → MayOccur keys event w
    → IsGoodCompany keys w → IsMirrored keys w.past
    → IsMirrored keys (after_event keys event w).past
image_event l keys Starts w lawful may good image = image
image_event l keys (Resumes place) w lawful may good image =
    there (λ v. IsMirrored keys v.past) (slice_get w.saved place) _ w image (λ saved is. image)
image_event l keys (SetsBatch place most) w lawful may good image =
    there (λ v. IsMirrored keys v.past) (slice_get w.clients place) _ w image (λ c is. image)
image_event l keys (Asks place question) w lawful may good image =
    there (λ v. IsMirrored keys v.past) (slice_get w.clients place) _ w image
    (λ c is.
    let m = all_at (IsMember keys w.past.objects) w.clients place c good.members is in
    l.exchanges.image_asked keys w.past question.bytes image
    (harmless_message l keys w.past.objects c question lawful m
    (about_there (slice_get w.clients place) question c may is)))
image_event l keys (Happens move) w lawful may good image =
    l.exchanges.image_delivered keys w.past (after_move move w.past) good.sound image (one_move keys move w.past may)
image_event l keys (Hears place bytes) w lawful may good image =
    there (λ v. IsMirrored keys v.past) (slice_get w.clients place) _ w image (λ c is. image)
image_event l keys (Loses place key) w lawful may good image =
    there (λ v. IsMirrored keys v.past) (slice_get w.clients place) _ w image (λ c is. image)
image_event l keys (Saves place) w lawful may good image =
    there (λ v. IsMirrored keys v.past) (slice_get w.clients place) _ w image (λ c is. image)
image_event l keys (Reports place) w lawful may good image =
    there (λ v. IsMirrored keys v.past) (slice_get w.clients place) _ w image (λ c is. image)
image_event l keys (Leaves place) w lawful may good image = image

-- ---- several events

pub good_events : Lawbook → (keys : List Key) (events : List Event) (w : Company) → IsLawful keys
    → IsGoodCompany keys w → AllMayOccur keys events w
    → StaysGood keys w (after_events keys events w)
good_events l keys [] w lawful good may = (good, l.client.itself keys w.past.objects)
good_events l keys (event ∷ events) w lawful good may =
    let next = after_event keys event w in
    let one = good_event l keys event w lawful may.0 good in
    let rest = good_events l keys events next lawful one.0 may.1 in (
      rest.0,
      l.client.twice keys w.past.objects next.past.objects (after_events keys events next).past.objects one.1
          rest.1,
    )

pub image_events : Lawbook → (keys : List Key) (events : List Event) (w : Company) → IsLawful keys
    → IsGoodCompany keys w → IsMirrored keys w.past → AllMayOccur keys events w
    → IsMirrored keys (after_events keys events w).past
image_events l keys [] w lawful good image may = image
image_events l keys (event ∷ events) w lawful good image may =
    image_events l keys events (after_event keys event w) lawful (good_event l keys event w lawful may.0 good).0
    (image_event l keys event w lawful may.0 good image) may.1

-- ---- what was asked may be asked still

just_event : Lawbook → (keys : List Key) (event : Event) (w : Company) → IsLawful keys → MayOccur keys event w
    → IsGoodCompany keys w → AreJustified keys w.past
    → AreJustified keys (after_event keys event w).past
just_event l keys Starts w lawful may good just = just
just_event l keys (Resumes place) w lawful may good just =
    there (λ v. AreJustified keys v.past) (slice_get w.saved place) _ w just (λ saved is. just)
just_event l keys (SetsBatch place most) w lawful may good just =
    there (λ v. AreJustified keys v.past) (slice_get w.clients place) _ w just (λ c is. just)
just_event l keys (Asks place question) w lawful may good just =
    there (λ v. AreJustified keys v.past) (slice_get w.clients place) _ w just
    (λ c is.
    let m = all_at (IsMember keys w.past.objects) w.clients place c good.members is in
    All-append (Justified keys w.past.objects) w.past.requests (requests_in question.bytes) just
    (justified_message l keys w.past.objects c question lawful m
    (about_there (slice_get w.clients place) question c may is)))
just_event l keys (Happens move) w lawful may good just =
    let delivered = one_move keys move w.past may in
    let new = after_move move w.past in
    let on = l.exchanges.onward keys w.past new good.sound delivered in
    subst (All (Justified keys new.objects))
    (sym (l.exchanges.requests_stay (is_planned keys) w.past new delivered).requests)
    (All-weaker (Justified keys w.past.objects) (Justified keys new.objects)
    (λ request one. l.client.asked_for_good keys w.past.objects new.objects request on one) w.past.requests just)
just_event l keys (Hears place bytes) w lawful may good just =
    there (λ v. AreJustified keys v.past) (slice_get w.clients place) _ w just (λ c is. just)
just_event l keys (Loses place key) w lawful may good just =
    there (λ v. AreJustified keys v.past) (slice_get w.clients place) _ w just (λ c is. just)
just_event l keys (Saves place) w lawful may good just =
    there (λ v. AreJustified keys v.past) (slice_get w.clients place) _ w just (λ c is. just)
just_event l keys (Reports place) w lawful may good just =
    there (λ v. AreJustified keys v.past) (slice_get w.clients place) _ w just (λ c is. just)
just_event l keys (Leaves place) w lawful may good just = just

pub just_events : Lawbook → (keys : List Key) (events : List Event) (w : Company) → IsLawful keys
    → IsGoodCompany keys w → AreJustified keys w.past → AllMayOccur keys events w
    → AreJustified keys (after_events keys events w).past
just_events l keys [] w lawful good just may = just
just_events l keys (event ∷ events) w lawful good just may =
    just_events l keys events (after_event keys event w) lawful (good_event l keys event w lawful may.0 good).0
    (just_event l keys event w lawful may.0 good just) may.1

-- ---- a good company is safe

pub nobody_good : (keys : List Key) (p : Past) → Sound keys p → IsGoodCompany keys (nobody p)
nobody_good keys p sound = record {
  sound = sound;
  members = All-nil (IsMember keys p.objects);
  true_saved = All-nil (TrueProgress p.objects keys);
  reached = All-nil (IsReached keys p);
}

reports_reached : Lawbook → (keys : List Key) (w : Company) → IsLawful keys → IsGoodCompany keys w
    → All (IsReached keys w.past) (all_reported keys w)
reports_reached l keys w lawful good =
    let by_saved : List Known → List Effect = λ saved. reported_by keys (map (λ known. known.done) saved) in
    All-append (IsReached keys w.past) w.reported _ good.reached
    (all_flat (IsReached keys w.past) by_saved w.saved
    (All-weaker (TrueProgress w.past.objects keys) (λ saved. All (IsReached keys w.past) (by_saved saved))
    (λ saved holds. all_reached l keys w.past (map (λ known. known.done) saved) lawful
    (saved_reached w.past.objects keys saved holds)) w.saved good.true_saved))

clients_agree : Lawbook → (keys : List Key) (w : Company) (c : ClientState) → IsMember keys w.past.objects c
    → (place : ℕ) (clash : Clash)
    → verdict_at c.keys c.knowns place ≢ Conflict clash
clients_agree l keys w c m place clash =
    subst (λ ks. verdict_at ks c.knowns place ≢ Conflict clash) (sym m.keys_are)
    (l.client.no_conflict w.past.objects keys c.knowns m.held place clash)

pub safe_company : Lawbook → (keys : List Key) (w : Company) → IsLawful keys → IsGoodCompany keys w
    → IsMirrored keys w.past → IsSafeCompany keys w
safe_company l keys w lawful good image = record {
  safe = l.exchanges.safe keys w.past (all_reported keys w) good.sound (reports_reached l keys w lawful good);
  machine = image;
  no_conflict = λ c among place clash. clients_agree l keys w c
      (All-contains (IsMember keys w.past.objects) w.clients c good.members among) place clash;
  good = good;
}

pub all_ready : Lawbook → (keys : List Key) (w : Company) → IsGoodCompany keys w
    → length w.past.objects + missing keys w.past.objects ≤ w.past.room
    → All (λ (c : ClientState). IsReady w.past.room keys w.past.objects c.knowns) w.clients
all_ready l keys w good roomy =
    All-weaker (IsMember keys w.past.objects) (λ (c : ClientState). IsReady w.past.room keys w.past.objects c.knowns)
    (λ c m. l.settling.ready keys w.past c.knowns good.sound m.held roomy) w.clients good.members
