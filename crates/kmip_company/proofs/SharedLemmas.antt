-- What goes over a link that is shared, seen with what this link alone sent and handed over.
use Rattle.std.proofs.Common.{◌≡◌, ◌≢◌, ◌≤◌, ◌++◌, ◌∷◌, [], arith, Err, IfSome, length, List, Ok, OnErr, OnOk, Option}
use Rattle.std.proofs.Common.{refl, Result, None, Some, ap, inl, inr, subst, sym, ◌∙◌, ℕ}
use Rattle.std.proofs.lemmas.List.Elements.{All-append, All-weaker, Contains-append_left}
use Rattle.std.specs.List.{Contains}
use Rattle.std.specs.Prelude.{⊤}
use Rattle.kmip_batch_items.specs.declared.reply.Reply.{Reply}
use Rattle.kmip_client.specs.Clients.{ClientState, NoneWorks}
use Rattle.kmip_client.specs.Held.{Held}
use Rattle.kmip_client.specs.Laws.{HeldForGood}
use Rattle.kmip_client.specs.Places.{Onward}
use Rattle.kmip_client.specs.Verdicts.{counts_of}
use Rattle.kmip_client.specs.declared.verdict.Verdict.TheVariants.{Finished, Working}
use Rattle.kmip_company.specs.Safety.{IsMember}
use Rattle.kmip_company.specs.Sharing.{AreTogether, GoesOn, SharesExchange, Sharing, TakesTurn, past_of}
use Rattle.kmip_messages.specs.Items.{replies_in}
use Rattle.kmip_objects.specs.Objects.{Object}
use Rattle.kmip_plan.specs.Plans.{IsLawful}
use Rattle.kmip_plan.specs.declared.key.Key.{Key}
use Rattle.kmip_protocol.specs.Amid.{ExchangedAmid, HandsOverAmid, Meanwhile, Occurs, OthersAsk, PassedAmid, after_all}
use Rattle.kmip_protocol.specs.Amid.{after_meanwhile, with_talk}
use Rattle.kmip_protocol.specs.AmidLaws.{ExchangesAmidKeepSound, PassingIsBlind, PassingJoins}
use Rattle.kmip_protocol.specs.Exchanges.{AreGiven, HandsOver, with_asked}
use Rattle.kmip_protocol.specs.Moves.{Changes, Comes, Refuse, Serve, Unanswered}
use Rattle.kmip_protocol.specs.Headline.{Safe}
use Rattle.kmip_protocol.specs.Past.{Names, Past, is_planned, steps_on}
use Rattle.kmip_protocol.specs.Seen.{Seen}
use Rattle.kmip_protocol.specs.Sound.{HarmlessMessage, Sound}
use Rattle.kmip_protocol.specs.declared.link_fault.LinkFault.TheVariants.{NoMemory}
use Rattle.kmip_runs.specs.Driving.{IsBorneOut, IsGood}
use Rattle.kmip_runs.specs.Headline.{reported_by}
use Rattle.kmip_runs.specs.Turning.{AreExchanged, IsTurned, Turns}
use Rattle.kmip_runs.specs.declared.stop.Stop.{Stop}
use Rattle.kmip_runs.specs.declared.stop.Stop.TheVariants as stops
use Rattle.kmip_scripted.specs.Scenes.{Scene, past_in, seen_in}
use Rattle.kmip_server.specs.declared.effect.Effect.{Effect}
use Rattle.kmip_company.specs.PrivateLawbook.{Lawbook}
use Rattle.kmip_company.proofs.OccurLemmas.{left_last}
use Rattle.kmip_company.proofs.TruthLemmas.{all_reached, counts_reached}

-- what is so at a fault is so whatever the call returned
pub on_err : {T E P : Type 0} (r : Result T E) → P → OnErr r P
on_err (Ok v) holds = tt
on_err (Err e) holds = holds

-- ---- what is sound, whatever was sent and handed over

pub sound_with : (keys : List Key) (sent : List (List ℕ)) (handed : List (Option (List ℕ))) (p : Past)
    → Sound keys (with_talk sent handed p) → Sound keys p
sound_with keys sent handed p sound = record {
  names = sound.names;
  uids = sound.uids;
  objects = sound.objects;
  effects = record { planned = sound.effects.planned; no_others = sound.effects.no_others };
  requests = sound.requests;
  replies = sound.replies;
}

-- ---- replies stay given

given_on : (one : Meanwhile) (p : Past) (reply : Reply) → Contains p.replies reply
    → Contains (after_meanwhile one p).replies reply
given_on (OthersAsk requests) p reply has = has
given_on (Occurs (Serve request other objects joined)) p reply has =
    Contains-append_left p.replies (other ∷ []) reply has
given_on (Occurs (Unanswered request other objects joined)) p reply has = has
given_on (Occurs (Refuse other)) p reply has = Contains-append_left p.replies (other ∷ []) reply has
given_on (Occurs (Comes o)) p reply has = has
given_on (Occurs (Changes front old new back)) p reply has = has

given_after : (more : List Meanwhile) (p : Past) (reply : Reply) → Contains p.replies reply
    → Contains (after_all more p).replies reply
given_after [] p reply has = has
given_after (one ∷ more) p reply has = given_after more (after_meanwhile one p) reply (given_on one p reply has)

given_still : (keys : List Key) (old new : Past) → PassedAmid keys old new → (reply : Reply)
    → Contains old.replies reply → Contains new.replies reply
given_still keys old new passed reply has =
    subst (λ p. Contains p.replies reply) (sym passed.is) (given_after passed.meanwhile old reply has)

if_given : (old new : Past) (answer : Option (List ℕ))
    → ((reply : Reply) → Contains old.replies reply → Contains new.replies reply) → IfSome answer (AreGiven old)
    → IfSome answer (AreGiven new)
if_given old new None still given = tt
if_given old new (Some bytes) still given =
    All-weaker (Contains old.replies) (Contains new.replies) still (replies_in bytes) given

-- ---- an exchange of its own

-- it was made, and nothing was noted of it
own_passed : PassingIsBlind → (keys : List Key) (old new : Sharing) (request : List ℕ) (answer : Option (List ℕ))
    → new.sent ≡ old.sent → new.handed ≡ old.handed
    → HandsOverAmid keys (past_in old.scene) request answer (past_in new.scene)
    → PassedAmid keys (with_asked request (past_of old)) (past_of new)
own_passed blind keys old new request answer sent_stays handed_stays hands =
    let p = past_in new.scene in
    subst (PassedAmid keys (with_asked request (past_of old)))
    (ap (with_talk old.sent old.handed) (sym hands.is) ∙ ap (λ sent. with_talk sent old.handed p) (sym sent_stays)
    ∙ ap (λ handed. with_talk new.sent handed p) (sym handed_stays))
    (blind keys old.sent old.handed (with_asked request (past_in old.scene)) hands.between hands.passed)

-- there was no memory in it
pub wanting : PassingIsBlind → (keys : List Key) (old new : Past) (request : List ℕ) (sent sents : List (List ℕ))
    (handed handeds : List (Option (List ℕ)))
    → sents ≡ sent → handeds ≡ handed → ExchangedAmid keys old request (Err NoMemory) new
    → ExchangedAmid keys (with_talk sent handed old) request (Err NoMemory) (with_talk sents handeds new)
wanting blind keys old new request sent sents handed handeds sent_is handed_is done =
    rw (sent_is, handed_is)
    (elim done [
      | inl before ↦ inl (blind keys sent handed old new before)
      | inr later ↦ inr (blind keys sent handed (with_asked request old) new later)
    ])

-- ---- the two clients

-- the other client is good over the link in memory
pub other_good : (keys : List Key) (other : ClientState) (scene : Scene) (sent : List (List ℕ))
    (handed : List (Option (List ℕ)))
    → IsMember keys (past_in scene).objects other → Sound keys (with_talk sent handed (past_in scene))
    → IsGood other (seen_in scene)
other_good keys other scene sent handed m sound = record {
  amid_for = tt;
  sound = subst (λ ks. Sound ks (past_in scene)) (sym m.keys_are) (sound_with keys sent handed (past_in scene) sound);
  held = subst (λ ks. Held (past_in scene).objects ks other.knowns) (sym m.keys_are) m.held;
}

-- and is one of the plan after what it did
pub still_together : (keys : List Key) (objects : List Object) (other next : ClientState) (link : Seen)
    → IsMember keys objects other → IsGood next link → next.keys ≡ other.keys
    → IsMember keys link.past.objects next
still_together keys objects other next link m good stays =
    let keys_are : next.keys ≡ keys = stays ∙ m.keys_are in
    record { keys_are = keys_are; held = subst (λ ks. Held link.past.objects ks next.knowns) keys_are good.held }

-- the other client stays as it is while objects go onward
pub together_on : HeldForGood → (keys : List Key) (old new : Sharing) → IsLawful keys
    → Onward keys (past_of old).objects (past_of new).objects
    → new.other ≡ old.other → AreTogether keys old → AreTogether keys new
together_on for_good keys old new lawful on same m =
    subst (λ c. IsMember keys (past_of new).objects c) (sym same)
    (record {
      keys_are = m.keys_are;
      held = for_good keys old.other.knowns (past_of old).objects (past_of new).objects
          lawful on m.held;
    })

-- ---- and then one of the other client

-- What both made, before it is noted.
pub record BothPassed (keys : List Key) (request : List ℕ) (answer : Option (List ℕ)) (old new : Sharing) : Type 0 where
  pub together : AreTogether keys new
  pub passed : PassedAmid keys (with_asked request (past_of old)) (past_of new)
  pub given : IfSome answer (AreGiven (past_of new))

pub both_passed : HeldForGood → ExchangesAmidKeepSound → PassingIsBlind → PassingJoins
    → (keys : List Key) (old mid new : Sharing) (request : List ℕ) (answer : Option (List ℕ))
    → IsLawful keys → AreTogether keys old → Sound keys (past_of old)
    → HarmlessMessage keys (past_of old).objects request
    → HandsOverAmid keys (past_in old.scene) request answer (past_in mid.scene) → mid.other ≡ old.other
    → mid.sent ≡ old.sent → mid.handed ≡ old.handed
    → (AreTogether keys mid → Sound keys (past_of mid) → AreTogether keys new)
    → (AreTogether keys mid → Sound keys (past_of mid) → PassedAmid keys (past_of mid) (past_of new))
    → BothPassed keys request answer old new
both_passed for_good keeps blind joins keys old mid new request answer lawful together sound may hands other_stays
    sent_stays handed_stays still passes =
    let first = own_passed blind keys old mid request answer sent_stays handed_stays hands in
    let kept = keeps keys (past_of old) (past_of mid) request (Err NoMemory) sound may (inr first) in
    let meanwhile = together_on for_good keys old mid lawful kept.1 other_stays together in
    let second = passes meanwhile kept.0 in
    let given : IfSome answer (AreGiven (past_of mid)) = subst (λ p. IfSome answer (AreGiven p)) (sym hands.is)
    hands.given in
    record {
      together = still meanwhile kept.0;
      passed = joins keys (with_asked request (past_of old)) (past_of mid) (past_of new) first second;
      given = if_given (past_of mid) (past_of new) answer (given_still keys (past_of mid) (past_of new) second) given;
    }

-- the exchange is noted
pub noted_amid : (keys : List Key) (old between new : Sharing) (request : List ℕ) (answer : Option (List ℕ))
    → new ≡ record between { sent = between.sent ++ request ∷ []; handed = between.handed ++ answer ∷ [] }
    → BothPassed keys request answer old between
    → AreTogether keys new × HandsOverAmid keys (past_of old) request answer (past_of new)
noted_amid keys old between new request answer noted both = (
  subst (AreTogether keys) (sym noted) both.together,
  record { between = past_of between; passed = both.passed; given = both.given; is = ap past_of noted },
)

-- or not
pub unnoted_amid : (keys : List Key) (old between new : Sharing) (request : List ℕ) (answer : Option (List ℕ))
    → new ≡ between → BothPassed keys request answer old between
    → AreTogether keys new × ExchangedAmid keys (past_of old) request (Err NoMemory) (past_of new)
unnoted_amid keys old between new request answer same both =
    subst (λ s. AreTogether keys s × ExchangedAmid keys (past_of old) request (Err NoMemory) (past_of s)) (sym same)
    (both.together, inr both.passed)

pub shares : (old mid between new : Sharing) (request : List ℕ) (answer : Option (List ℕ))
    → ((names : Names) → HandsOver names (past_in old.scene) request answer (past_in mid.scene))
    → mid.other ≡ old.other → mid.sent ≡ old.sent → mid.handed ≡ old.handed
    → TakesTurn mid.other between.other (past_in mid.scene) (past_in between.scene)
    → between.sent ≡ mid.sent → between.handed ≡ mid.handed
    → new ≡ record between { sent = between.sent ++ request ∷ []; handed = between.handed ++ answer ∷ [] }
    → SharesExchange request answer old new
shares old mid between new request answer exchanged other_stays sent_stays handed_stays turn sent_still handed_still
    noted =
    subst (SharesExchange request answer old) (sym noted)
    (record {
      between = past_in mid.scene;
      exchanged = exchanged;
      turn = subst (λ c. TakesTurn c between.other (past_in mid.scene) (past_in between.scene)) other_stays turn;
      sent_are = ap (λ sent. sent ++ request ∷ []) (sent_still ∙ sent_stays);
      handed_are = ap (λ handed. handed ++ answer ∷ []) (handed_still ∙ handed_stays);
    })

pub shared_once : (old new : Sharing) (request : List ℕ) (answer : Option (List ℕ))
    → SharesExchange request answer old new → GoesOn old new
shared_once old new request answer shares = record { requests = request ∷ []; shared = (answer, new, shares, refl) }

-- ---- its turn

finished_is_done : Finished ≡ Working → ⊥
finished_is_done same = absurd cc

-- a run that made no exchange has no key to work on
none_works : (stop : Stop) (made : ℕ) (c : ClientState) → stop ≢ stops.NoMemory → (stop ≡ stops.Limit → made ≡ 1)
    → 0 ≡ made → IsBorneOut stop c.keys c.knowns
    → NoneWorks c.keys c.knowns
none_works stops.AllFinished made c memory limit none stands =
    λ place within works. finished_is_done (sym (stands place within) ∙ works)
none_works stops.Limit made c memory limit none stands = absurd (omega (arith, limit refl, none))
none_works stops.Conflict made c memory limit none stands = stands.0
none_works stops.NoMemory made c memory limit none stands = absurd (memory refl)

one_turn : (stop : Stop) (made : ℕ) (c last next : ClientState) (p q : Past) (questions : List (List ℕ))
    (answers : List (Option (List ℕ))) → stop ≢ stops.NoMemory
    → (stop ≡ stops.Limit → made ≡ 1) → made ≤ 1 → IsBorneOut stop next.keys next.knowns → length questions ≡ made
    → Turns questions answers c last → next ≡ last
    → AreExchanged (is_planned c.keys) questions answers p q → TakesTurn c next p q
one_turn stop made c last next p q [] [] memory limit few stands many turns left exchanged =
    let same : next ≡ c = left ∙ turns in
    inr (
      subst (λ (s : ClientState). NoneWorks s.keys s.knowns) same
          (none_works stop made next memory limit many stands),
      same,
      exchanged,
    )
one_turn stop made c last next p q [] (answer ∷ answers) memory limit few stands many turns left exchanged =
    absurd turns
one_turn stop made c last next p q (sent ∷ questions) [] memory limit few stands many turns left exchanged =
    absurd turns
one_turn stop made c last next p q (sent ∷ []) (answer ∷ []) memory limit few stands many turns left exchanged =
    inl (record {
      question = turns.0;
      answer = answer;
      question_is = turns.1;
      hands_over =
          subst (HandsOver (is_planned c.keys) p turns.0.bytes answer) (sym exchanged.2)
          (subst (λ bytes. HandsOver (is_planned c.keys) p bytes answer exchanged.0) (sym turns.2) exchanged.1);
      next_is = left ∙ turns.4;
    })
one_turn stop made c last next p q (sent ∷ []) (answer ∷ other ∷ answers) memory limit few stands many turns left
    exchanged = absurd turns.4
one_turn stop made c last next p q (sent ∷ other ∷ questions) (answer ∷ answers) memory limit few stands many turns
    left exchanged =
    absurd (omega (arith, many, few))

pub turn_taken : (stop : Stop) (made : ℕ) (c next : ClientState) (p q : Past) → IsTurned ⊤ stop made c next p q
    → IsBorneOut stop next.keys next.knowns
    → (stop ≡ stops.Limit → made ≡ 1) → made ≤ 1 → stop ≢ stops.NoMemory → TakesTurn c next p q
turn_taken stop made c next p q turned stands limit few memory =
    one_turn stop made c turned.last next p q turned.questions turned.answers memory limit few stands turned.as_many
    turned.turns
    (left_last stop turned.last next memory turned.left) (turned.exchanged tt memory)

pub on_ok : {V E P Q : Type 0} (r : Result V E) → (P → Q) → OnOk r P → OnOk r Q
on_ok (Ok v) to holds = to holds
on_ok (Err e) to holds = tt

-- ---- what both report

pub both_safe : Lawbook → (keys : List Key) (p : Past) (other : ClientState) (told : List Effect) → IsLawful keys
    → Sound keys p → IsMember keys p.objects other → Safe keys p told
    → Safe keys p (told ++ reported_by keys (counts_of other.knowns))
both_safe l keys p other told lawful sound m safe =
    let counted = reported_by keys (counts_of other.knowns) in
    let also = l.exchanges.safe keys p counted sound
    (all_reached l keys p (counts_of other.knowns) lawful (counts_reached p.objects keys other.knowns m.held)) in
    record {
      one_object = safe.one_object;
      attrs = safe.attrs;
      effects = safe.effects;
      reported_true = All-append (λ (effect : Effect). Contains (steps_on effect.name p.effects) effect.step) told
          counted safe.reported_true also.reported_true;
      again = safe.again;
    }
