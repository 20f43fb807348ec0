-- Among others the past stays sound, and an image of the plan machine, by each thing that happens in turn.
use Rattle.std.proofs.Common.{◌≡◌, ℕ, List, [], ◌∷◌, ◌++◌, ap, Option, None, Result, Ok, Err, refl, sym, subst, ◌∙◌}
use Rattle.std.proofs.Common.{inl, inr}
use Rattle.kmip_batch_items.specs.declared.reply.Reply.{Reply}
use Rattle.kmip_batch_items.specs.declared.request.Request.{Request}
use Rattle.kmip_messages.specs.Items.{requests_in}
use Rattle.kmip_objects.specs.Objects.{Object}
use Rattle.kmip_server.specs.declared.effect.Effect.{Effect}
use Rattle.kmip_plan.specs.declared.key.Key.{Key}
use Rattle.kmip_client.specs.Places.{Onward}
use Rattle.kmip_protocol.specs.declared.link_fault.LinkFault.{LinkFault}
use Rattle.kmip_protocol.specs.declared.link_fault.LinkFault.TheVariants.{Io, Frame, NoMemory}
use Rattle.kmip_protocol.specs.Amid.{AllMayBe, ExchangedAmid, HandsOverAmid, Occurs, MayBe, Meanwhile, OthersAsk}
use Rattle.kmip_protocol.specs.Amid.{PassedAmid, after_all, after_meanwhile, seen_by_others, with_talk}
use Rattle.kmip_protocol.specs.Exchanges.{Exchanged, HandsOver, with_asked}
use Rattle.kmip_protocol.specs.Machine.{IsMirrored}
use Rattle.kmip_protocol.specs.Moves.{AllMayHappen, Changes, Comes, Delivered, MayHappen, Move, Refuse, Serve, Serves}
use Rattle.kmip_protocol.specs.Moves.{Unanswered, after_move, after_moves}
use Rattle.kmip_protocol.specs.Past.{Names, Past, is_planned}
use Rattle.kmip_protocol.specs.PrivateLawbook.{Lawbook}
use Rattle.kmip_protocol.specs.Sound.{HarmlessMessage, Sound}
use Rattle.kmip_protocol.proofs.ExchangeLemmas.{asked_sound, handed_sound}
use Rattle.kmip_protocol.proofs.KeepingLemmas.{move_keeps}
use Rattle.kmip_protocol.proofs.MirrorLemmas.{mirrored_asked, mirrored_handed, mirrored_move}
use Rattle.kmip_protocol.proofs.TurnLemmas.{mirrored_requests}

-- ---- what is sound

one_keeps : (l : Lawbook) (keys : List Key) (one : Meanwhile) (p : Past) → Sound keys p → MayBe keys one p
    → Sound keys (after_meanwhile one p) × Onward keys p.objects (after_meanwhile one p).objects
one_keeps l keys (OthersAsk requests) p sound may =
    (asked_sound keys p requests sound may, l.client.itself keys p.objects)
one_keeps l keys (Occurs move) p sound may = move_keeps l keys move p sound may

all_keep : (l : Lawbook) (keys : List Key) (more : List Meanwhile) (p : Past) → Sound keys p → AllMayBe keys more p
    → Sound keys (after_all more p) × Onward keys p.objects (after_all more p).objects
all_keep l keys [] p sound may = (sound, l.client.itself keys p.objects)
all_keep l keys (one ∷ more) p sound may =
    let first = one_keeps l keys one p sound may.0 in
    let rest = all_keep l keys more (after_meanwhile one p) first.0 may.1 in (
      rest.0,
      l.client.twice keys p.objects (after_meanwhile one p).objects
          (after_all more (after_meanwhile one p)).objects first.1 rest.1,
    )

pub passed_keeps : (l : Lawbook) (keys : List Key) (old new : Past) → Sound keys old → PassedAmid keys old new
    → Sound keys new × Onward keys old.objects new.objects
passed_keeps l keys old new sound passed =
    subst (λ p. Sound keys p × Onward keys old.objects p.objects) (sym passed.is)
    (all_keep l keys passed.meanwhile old sound passed.may)

handed_keeps : (l : Lawbook) (keys : List Key) (old new : Past) (sent : List ℕ) (answer : Option (List ℕ))
    → Sound keys old
    → HarmlessMessage keys old.objects sent → HandsOverAmid keys old sent answer new → Sound keys new
    × Onward keys old.objects new.objects
handed_keeps l keys old new sent answer sound may hands =
    let kept = passed_keeps l keys (with_asked sent old) hands.between
    (asked_sound keys old (requests_in sent) sound may) hands.passed in
    subst (λ p. Sound keys p × Onward keys old.objects p.objects) (sym hands.is)
    (handed_sound keys hands.between sent answer kept.0, kept.1)

pub exchanged_keeps : (l : Lawbook) (keys : List Key) (old new : Past) (sent : List ℕ)
    (answer : Result (Option (List ℕ)) LinkFault) → Sound keys old
    → HarmlessMessage keys old.objects sent → ExchangedAmid keys old sent answer new → Sound keys new
    × Onward keys old.objects new.objects
exchanged_keeps l keys old new sent (Ok answer) sound may done =
    handed_keeps l keys old new sent answer sound may done
exchanged_keeps l keys old new sent (Err Io) sound may done = handed_keeps l keys old new sent None sound may done
exchanged_keeps l keys old new sent (Err Frame) sound may done = handed_keeps l keys old new sent None sound may done
exchanged_keeps l keys old new sent (Err NoMemory) sound may done = elim done [
  | inl before ↦ passed_keeps l keys old new sound before
  | inr later ↦ passed_keeps l keys (with_asked sent old) new (asked_sound keys old (requests_in sent) sound may) later
]

-- ---- what is an image

one_mirrors : (l : Lawbook) (keys : List Key) (one : Meanwhile) (p : Past) → Sound keys p → IsMirrored keys p
    → MayBe keys one p
    → IsMirrored keys (after_meanwhile one p)
one_mirrors l keys (OthersAsk requests) p sound image may = mirrored_requests keys p requests image may
one_mirrors l keys (Occurs move) p sound image may = mirrored_move l keys move p sound image may

all_mirror : (l : Lawbook) (keys : List Key) (more : List Meanwhile) (p : Past) → Sound keys p → IsMirrored keys p
    → AllMayBe keys more p
    → IsMirrored keys (after_all more p)
all_mirror l keys [] p sound image may = image
all_mirror l keys (one ∷ more) p sound image may =
    all_mirror l keys more (after_meanwhile one p) (one_keeps l keys one p sound may.0).0
    (one_mirrors l keys one p sound image may.0) may.1

pub passed_mirrors : (l : Lawbook) (keys : List Key) (old new : Past) → Sound keys old → IsMirrored keys old
    → PassedAmid keys old new → IsMirrored keys new
passed_mirrors l keys old new sound image passed =
    subst (IsMirrored keys) (sym passed.is) (all_mirror l keys passed.meanwhile old sound image passed.may)

later_mirrors : (l : Lawbook) (keys : List Key) (old new : Past) (sent : List ℕ) → Sound keys old → IsMirrored keys old
    → HarmlessMessage keys old.objects sent → PassedAmid keys (with_asked sent old) new → IsMirrored keys new
later_mirrors l keys old new sent sound image may later =
    passed_mirrors l keys (with_asked sent old) new (asked_sound keys old (requests_in sent) sound may)
    (mirrored_asked keys old sent image may) later

handed_mirrors : (l : Lawbook) (keys : List Key) (old new : Past) (sent : List ℕ) (answer : Option (List ℕ))
    → Sound keys old → IsMirrored keys old
    → HarmlessMessage keys old.objects sent → HandsOverAmid keys old sent answer new → IsMirrored keys new
handed_mirrors l keys old new sent answer sound image may hands =
    subst (IsMirrored keys) (sym hands.is) (mirrored_handed keys hands.between sent answer
    (later_mirrors l keys old hands.between sent sound image may hands.passed))

pub exchanged_mirrors : (l : Lawbook) (keys : List Key) (old new : Past) (sent : List ℕ)
    (answer : Result (Option (List ℕ)) LinkFault) → Sound keys old
    → IsMirrored keys old → HarmlessMessage keys old.objects sent → ExchangedAmid keys old sent answer new
    → IsMirrored keys new
exchanged_mirrors l keys old new sent (Ok answer) sound image may done =
    handed_mirrors l keys old new sent answer sound image may done
exchanged_mirrors l keys old new sent (Err Io) sound image may done =
    handed_mirrors l keys old new sent None sound image may done
exchanged_mirrors l keys old new sent (Err Frame) sound image may done =
    handed_mirrors l keys old new sent None sound image may done
exchanged_mirrors l keys old new sent (Err NoMemory) sound image may done = elim done [
  | inl before ↦ passed_mirrors l keys old new sound image before
  | inr later ↦ later_mirrors l keys old new sent sound image may later
]

-- ---- one after the other

pub passed_nothing : (keys : List Key) (p : Past) → PassedAmid keys p p
passed_nothing keys p = record { meanwhile = []; may = tt; is = refl }

may_both : (keys : List Key) (early late : List Meanwhile) (p : Past) → AllMayBe keys early p
    → AllMayBe keys late (after_all early p) → AllMayBe keys (early ++ late) p
may_both keys [] late p may more = more
may_both keys (one ∷ early) late p may more = (may.0, may_both keys early late (after_meanwhile one p) may.1 more)

after_both : (early late : List Meanwhile) (p : Past) → after_all (early ++ late) p ≡ after_all late (after_all early p)
after_both [] late p = refl
after_both (one ∷ early) late p = after_both early late (after_meanwhile one p)

pub passed_both : (keys : List Key) (old between new : Past) → PassedAmid keys old between
    → PassedAmid keys between new → PassedAmid keys old new
passed_both keys old between new early late = record {
  meanwhile = early.meanwhile ++ late.meanwhile;
  may = may_both keys early.meanwhile late.meanwhile old early.may
      (subst (AllMayBe keys late.meanwhile) early.is late.may);
  is = late.is ∙ ap (after_all late.meanwhile) early.is ∙ sym (after_both early.meanwhile late.meanwhile old);
}

-- ---- whatever was sent and handed over

served_blind : (p : Past) (sent : List (List ℕ)) (handed : List (Option (List ℕ))) (request : Request) (reply : Reply)
    (objects : List Object) (joined : Option Effect)
    → Serves p request reply objects joined → Serves (with_talk sent handed p) request reply objects joined
served_blind p sent handed request reply objects joined serves = record {
  asked = serves.asked;
  step = serves.step;
  operation_is = serves.operation_is;
  id_is = serves.id_is;
  effects = serves.effects;
}

move_blind : (names : Names) (sent : List (List ℕ)) (handed : List (Option (List ℕ))) (move : Move) (p : Past)
    → MayHappen names move p
    → MayHappen names move (with_talk sent handed p)
move_blind names sent handed (Serve request reply objects joined) p may =
    served_blind p sent handed request reply objects joined may
move_blind names sent handed (Unanswered request reply objects joined) p may =
    served_blind p sent handed request reply objects joined may
move_blind names sent handed (Refuse reply) p may = may
move_blind names sent handed (Comes o) p may =
    record { foreign = may.foreign; name_is_free = may.name_is_free; uid_is_free = may.uid_is_free }
move_blind names sent handed (Changes front old new back) p may = record {
  stands = may.stands;
  was_foreign = may.was_foreign;
  is_foreign = may.is_foreign;
  names_differ = may.names_differ;
  uids_differ = may.uids_differ;
}

one_blind : (keys : List Key) (sent : List (List ℕ)) (handed : List (Option (List ℕ))) (one : Meanwhile) (p : Past)
    → MayBe keys one p
    → MayBe keys one (with_talk sent handed p)
one_blind keys sent handed (OthersAsk requests) p may = may
one_blind keys sent handed (Occurs move) p may = move_blind (is_planned keys) sent handed move p may

after_move_blind : (sent : List (List ℕ)) (handed : List (Option (List ℕ))) (move : Move) (p : Past)
    → after_move move (with_talk sent handed p) ≡ with_talk sent handed (after_move move p)
after_move_blind sent handed (Serve request reply objects joined) p = refl
after_move_blind sent handed (Unanswered request reply objects joined) p = refl
after_move_blind sent handed (Refuse reply) p = refl
after_move_blind sent handed (Comes o) p = refl
after_move_blind sent handed (Changes front old new back) p = refl

after_one_blind : (sent : List (List ℕ)) (handed : List (Option (List ℕ))) (one : Meanwhile) (p : Past)
    → after_meanwhile one (with_talk sent handed p) ≡ with_talk sent handed (after_meanwhile one p)
after_one_blind sent handed (OthersAsk requests) p = refl
after_one_blind sent handed (Occurs move) p = after_move_blind sent handed move p

all_blind : (keys : List Key) (sent : List (List ℕ)) (handed : List (Option (List ℕ))) (more : List Meanwhile)
    (p : Past) → AllMayBe keys more p
    → AllMayBe keys more (with_talk sent handed p)
all_blind keys sent handed [] p may = tt
all_blind keys sent handed (one ∷ more) p may = (
  one_blind keys sent handed one p may.0,
  subst (AllMayBe keys more) (sym (after_one_blind sent handed one p))
      (all_blind keys sent handed more (after_meanwhile one p) may.1),
)

after_all_blind : (sent : List (List ℕ)) (handed : List (Option (List ℕ))) (more : List Meanwhile) (p : Past)
    → with_talk sent handed (after_all more p) ≡ after_all more (with_talk sent handed p)
after_all_blind sent handed [] p = refl
after_all_blind sent handed (one ∷ more) p =
    after_all_blind sent handed more (after_meanwhile one p)
    ∙ ap (after_all more) (sym (after_one_blind sent handed one p))

pub passed_blind : (keys : List Key) (sent : List (List ℕ)) (handed : List (Option (List ℕ))) (old new : Past)
    → PassedAmid keys old new
    → PassedAmid keys (with_talk sent handed old) (with_talk sent handed new)
passed_blind keys sent handed old new passed = record {
  meanwhile = passed.meanwhile;
  may = all_blind keys sent handed passed.meanwhile old passed.may;
  is = ap (with_talk sent handed) passed.is ∙ after_all_blind sent handed passed.meanwhile old;
}

-- ---- an exchange is one of those of others

later_passes : (keys : List Key) (old new : Past) (sent : List ℕ) → HarmlessMessage keys old.objects sent
    → PassedAmid keys (with_asked sent old) new
    → PassedAmid keys (seen_by_others old) (seen_by_others new)
later_passes keys old new sent may later =
    let blind = passed_blind keys [] [] (with_asked sent old) new later in
    record { meanwhile = OthersAsk (requests_in sent) ∷ blind.meanwhile; may = (may, blind.may); is = blind.is }

handed_passes : (keys : List Key) (old new : Past) (sent : List ℕ) (answer : Option (List ℕ))
    → HarmlessMessage keys old.objects sent
    → HandsOverAmid keys old sent answer new → PassedAmid keys (seen_by_others old) (seen_by_others new)
handed_passes keys old new sent answer may hands =
    subst (λ p. PassedAmid keys (seen_by_others old) (seen_by_others p)) (sym hands.is)
    (later_passes keys old hands.between sent may hands.passed)

pub exchanged_passes : (keys : List Key) (old new : Past) (sent : List ℕ)
    (answer : Result (Option (List ℕ)) LinkFault) → HarmlessMessage keys old.objects sent
    → ExchangedAmid keys old sent answer new → PassedAmid keys (seen_by_others old) (seen_by_others new)
exchanged_passes keys old new sent (Ok answer) may done = handed_passes keys old new sent answer may done
exchanged_passes keys old new sent (Err Io) may done = handed_passes keys old new sent None may done
exchanged_passes keys old new sent (Err Frame) may done = handed_passes keys old new sent None may done
exchanged_passes keys old new sent (Err NoMemory) may done = elim done [
  | inl before ↦ passed_blind keys [] [] old new before
  | inr later ↦ later_passes keys old new sent may later
]

-- ---- where nobody else asks

abbrev all_happen : List Move → List Meanwhile
all_happen [] = []
all_happen (move ∷ moves) = Occurs move ∷ all_happen moves

they_may : (keys : List Key) (moves : List Move) (p : Past) → AllMayHappen (is_planned keys) moves p
    → AllMayBe keys (all_happen moves) p
they_may keys [] p may = tt
they_may keys (move ∷ moves) p may = (may.0, they_may keys moves (after_move move p) may.1)

they_are : (moves : List Move) (p : Past) → after_moves moves p ≡ after_all (all_happen moves) p
they_are [] p = refl
they_are (move ∷ moves) p = they_are moves (after_move move p)

pub delivered_amid : (keys : List Key) (old new : Past) → Delivered (is_planned keys) old new → PassedAmid keys old new
delivered_amid keys old new delivered = record {
  meanwhile = all_happen delivered.moves;
  may = they_may keys delivered.moves old delivered.may;
  is = delivered.is ∙ they_are delivered.moves old;
}

handed_amid : (keys : List Key) (old new : Past) (sent : List ℕ) (answer : Option (List ℕ))
    → HandsOver (is_planned keys) old sent answer new
    → HandsOverAmid keys old sent answer new
handed_amid keys old new sent answer hands = record {
  between = hands.between;
  passed = delivered_amid keys (with_asked sent old) hands.between hands.delivered;
  given = hands.given;
  is = hands.is;
}

pub exchanged_amid : (keys : List Key) (old new : Past) (sent : List ℕ) (answer : Result (Option (List ℕ)) LinkFault)
    → Exchanged (is_planned keys) old sent answer new → ExchangedAmid keys old sent answer new
exchanged_amid keys old new sent (Ok answer) done = handed_amid keys old new sent answer done
exchanged_amid keys old new sent (Err Io) done = handed_amid keys old new sent None done
exchanged_amid keys old new sent (Err Frame) done = handed_amid keys old new sent None done
exchanged_amid keys old new sent (Err NoMemory) done = elim done [
  | inl before ↦ inl (delivered_amid keys old new before)
  | inr later ↦ inr (delivered_amid keys (with_asked sent old) new later)
]
