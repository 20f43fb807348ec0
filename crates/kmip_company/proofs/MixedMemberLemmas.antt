-- What a client of an older plan knows stays true: as it begins, hears, and learns that no answer came.
use Rattle.std.proofs.Common.{◌≡◌, ◌∷◌, [], Bool, drop, Err, false, if◌then◌else◌, IfOk, length, List, map, None, Ok}
use Rattle.std.proofs.Common.{Option, refl, Result, slice_get, slice_set, Some, subst, sym, true, ℕ}
use Rattle.std.specs.List.{All}
use Rattle.std.specs.Option.{option_and_then, option_map_or}
use Rattle.std.proofs.lemmas.List.Elements.{All-head, All-tail}
use Rattle.kmip_batch_items.specs.declared.message_fault.MessageFault.{MessageFault}
use Rattle.kmip_batch_items.specs.declared.reply.Reply.{Reply}
use Rattle.kmip_client.specs.Clients.{changed_at, changed_by, fresh, lost_working}
use Rattle.kmip_client.specs.Hearing.{hear_all, heard_about, heard_at, heard_by, heard_in, is_asked_of}
use Rattle.kmip_client.specs.Hearing.{is_other_operation, known_after_each, known_after_reply, place_named, subject_at}
use Rattle.kmip_client.specs.Hearing.{subject_of, teach, with_heard}
use Rattle.kmip_client.specs.Held.{TrueOf}
use Rattle.kmip_client.specs.Known.{knowns_heard}
use Rattle.kmip_client.specs.Knowledge.{fresh_knowledge}
use Rattle.kmip_client.specs.Places.{Onward}
use Rattle.kmip_client.specs.Saving.{knowledge_from, known_of}
use Rattle.kmip_client.specs.Truth.{TrueReply}
use Rattle.kmip_client.specs.declared.hear_fault.HearFault.{HearFault}
use Rattle.kmip_client.specs.declared.hear_fault.HearFault.TheVariants as faults
use Rattle.kmip_client.specs.declared.knowledge.Knowledge.{Knowledge}
use Rattle.kmip_client.specs.declared.news.News.{News}
use Rattle.kmip_messages.specs.Batches.{replies_read}
use Rattle.kmip_messages.specs.Items.{replies_in}
use Rattle.kmip_objects.specs.Objects.{Object}
use Rattle.kmip_plan.specs.Plans.{IsLawful}
use Rattle.kmip_plan.specs.Prolonging.{Prolongs}
use Rattle.kmip_plan.specs.declared.key.Key.{Key}
use Rattle.kmip_progress.specs.declared.known.Known.{Known}
use Rattle.kmip_company.specs.Mixed.{AllBeside, IsKnownAmong, KnowsAmong, carried}
use Rattle.kmip_company.specs.PrivateLawbook.{Lawbook}
use Rattle.kmip_company.proofs.MixedKnownLemmas.{IsLearnt, known_on, loses_among, nothing_among, nothing_true}
use Rattle.kmip_company.proofs.MixedKnownLemmas.{saved_among, teaches, true_on}
use Rattle.kmip_company.proofs.MixedListLemmas.{carried_at, mapped_at, named_newest, same_at, set_at}

-- ---- as objects go onward

pub knows_on : Lawbook → (keys : List Key) (old new : List Object) (own : List Key) (knowns : List Knowledge)
    → IsLawful keys → Onward keys old new
    → KnowsAmong keys old own knowns → KnowsAmong keys new own knowns
knows_on l keys old new own knowns lawful on m = record {
  is_prolonged = m.is_prolonged;
  knows = λ place key known here there. known_on key known old new (on key (l.plan.found keys place key lawful here))
      (m.knows place key known here there);
  agrees = m.agrees;
}

pub saved_on : Lawbook → (keys : List Key) (old new : List Object) (saved : List Known) → IsLawful keys
    → Onward keys old new
    → AllBeside (TrueOf old) keys saved → AllBeside (TrueOf new) keys saved
saved_on l keys old new saved lawful on was =
    λ place key known here there. true_on key known old new (on key (l.plan.found keys place key lawful here))
    (was place key known here there)

-- ---- at the beginning

pub knows_nothing : (keys : List Key) (objects : List Object) (own : List Key) → Prolongs keys own
    → KnowsAmong keys objects own (fresh own).knowns
knows_nothing keys objects own on = record {
  is_prolonged = on;
  knows = λ place key known here there. subst (IsKnownAmong objects key) (is_nothing place known there)
      (nothing_among objects key);
  agrees = λ place older newest known older_is here there same.
      subst (λ (k : Knowledge). k.clash ≡ None) (is_nothing place known there) refl;
}
  where
    is_nothing : (place : ℕ) (known : Knowledge)
        → slice_get (map (λ (key : Key). fresh_knowledge) own) place ≡ Some known → fresh_knowledge ≡ known
    is_nothing place known there = (mapped_at (λ (key : Key). fresh_knowledge) own place known there).2

carried_true : (objects : List Object) (keys own : List Key) (saved : List Known)
    → AllBeside (TrueOf objects) keys saved
    → AllBeside (TrueOf objects) keys (carried own saved)
carried_true objects keys own saved was =
    λ place key known here there. carried_at (TrueOf objects key known) saved (drop (length saved) own) place known
    there
    (λ at. was place key known here at) (λ is. subst (TrueOf objects key) is (nothing_true objects key))

pub knows_again : (keys : List Key) (objects : List Object) (own : List Key) (saved : List Known) → Prolongs keys own
    → AllBeside (TrueOf objects) keys saved
    → KnowsAmong keys objects own (map knowledge_from (carried own saved))
knows_again keys objects own saved on was = record {
  is_prolonged = on;
  knows = λ place key known here there.
      let (x, at, is) = mapped_at knowledge_from (carried own saved) place known there in
      subst (IsKnownAmong objects key) is (saved_among objects key x
      (carried_true objects keys own saved was place key x here at));
  agrees = λ place older newest known older_is here there same.
      let (x, at, is) = mapped_at knowledge_from (carried own saved) place known there in
      subst (λ (k : Knowledge). k.clash ≡ None) is refl;
}

-- what is saved of it
pub saves_true : (keys : List Key) (objects : List Object) (own : List Key) (knowns : List Knowledge)
    → KnowsAmong keys objects own knowns
    → AllBeside (TrueOf objects) keys (map known_of knowns)
saves_true keys objects own knowns m =
    λ place key known here there.
    let (x, at, is) = mapped_at known_of knowns place known there in
    subst (TrueOf objects key) is (m.knows place key x here at).holds

-- ---- what changes at a place

knows_set : (keys : List Key) (objects : List Object) (own : List Key) (knowns : List Knowledge) (place : ℕ)
    (older newest : Key) (known : Knowledge)
    → slice_get own place ≡ Some older → slice_get keys place ≡ Some newest → KnowsAmong keys objects own knowns
    → IsLearnt objects older newest known
    → KnowsAmong keys objects own (slice_set knowns place known)
knows_set keys objects own knowns place older newest known older_is newest_is m learnt = record {
  is_prolonged = m.is_prolonged;
  knows = λ other key k here there.
      set_at (IsKnownAmong objects key k) knowns place other known k there
      (λ at is.
      let key_is = same_at (slice_get keys place) newest key newest_is
      (subst (λ n. slice_get keys n ≡ Some key) (sym at) here) in
      subst (IsKnownAmong objects key) is (subst (λ x. IsKnownAmong objects x known) key_is learnt.0))
      (λ old. m.knows other key k here old);
  agrees = λ other was key k was_is here there same.
      set_at (k.clash ≡ None) knowns place other known k there
      (λ at is.
      let key_is = same_at (slice_get keys place) newest key newest_is
      (subst (λ n. slice_get keys n ≡ Some key) (sym at) here) in
      let own_is = same_at (slice_get own place) older was older_is
      (subst (λ n. slice_get own n ≡ Some was) (sym at) was_is) in
      subst (λ (x : Knowledge). x.clash ≡ None) is
      (learnt.1 (subst (λ (x : Key). newest.target ≡ x.target) (sym own_is)
      (subst (λ (x : Key). x.target ≡ was.target) (sym key_is) same))))
      (λ old. m.agrees other was key k was_is here old same);
}

-- what was known at a place
learnt_at : (keys : List Key) (objects : List Object) (own : List Key) (knowns : List Knowledge) (place : ℕ)
    (older newest : Key) (known : Knowledge)
    → slice_get own place ≡ Some older → slice_get keys place ≡ Some newest → slice_get knowns place ≡ Some known
    → KnowsAmong keys objects own knowns
    → IsLearnt objects older newest known
learnt_at keys objects own knowns place older newest known older_is newest_is known_is m =
    (m.knows place newest known newest_is known_is, m.agrees place older newest known older_is newest_is known_is)

pub knows_lost : Lawbook → (keys : List Key) (objects : List Object) (own : List Key) (knowns : List Knowledge)
    (place : ℕ) → KnowsAmong keys objects own knowns
    → KnowsAmong keys objects own (changed_at lost_working own knowns place)
knows_lost l keys objects own knowns place m = by_found (slice_get own place) (slice_get knowns place) refl refl where
  by_found : (key : Option Key) (known : Option Knowledge) → slice_get own place ≡ key → slice_get knowns place ≡ known
      → KnowsAmong keys objects own (changed_by lost_working knowns place key known)
  by_found None known key_is known_is = m
  by_found (Some key) None key_is known_is = m
  by_found (Some key) (Some known) key_is known_is =
      let (newest, newest_is, goes) = l.plan.old_stand keys own place key m.is_prolonged key_is in
      knows_set keys objects own knowns place key newest (lost_working key known) key_is newest_is m
      (loses_among objects key newest known (learnt_at keys objects own knowns place key newest known key_is newest_is
      known_is m))

-- ---- what is heard

-- what is known after a lesson
after_lesson : (keys : List Key) (objects : List Object) (own : List Key) (knowns : List Knowledge)
    (place operation : ℕ) (older newest : Key) (r : Result (News × Knowledge) HearFault)
    → slice_get own place ≡ Some older → slice_get keys place ≡ Some newest → KnowsAmong keys objects own knowns
    → IfOk r (λ lesson. IsLearnt objects older newest lesson.1)
    → KnowsAmong keys objects own (known_after_reply
    (with_heard (record { key = place; operation = operation }) knowns r) knowns)
after_lesson keys objects own knowns place operation older newest (Ok lesson) older_is newest_is m learnt =
    knows_set keys objects own knowns place older newest lesson.1 older_is newest_is m learnt
after_lesson keys objects own knowns place operation older newest (Err fault) older_is newest_is m learnt = m

knows_reply : Lawbook → (keys : List Key) (objects : List Object) (own : List Key) (knowns : List Knowledge)
    (reply : Reply) → KnowsAmong keys objects own knowns
    → TrueReply keys objects reply → KnowsAmong keys objects own (known_after_reply (heard_in own reply knowns) knowns)
knows_reply l keys objects own knowns reply m told = by_id reply.id refl where
  by_key : (operation : ℕ) (name : List ℕ) (place : ℕ) → reply.id ≡ Some (operation ∷ name)
      → place_named name own ≡ Some place
      → (key : Option Key) (known : Option Knowledge) → slice_get own place ≡ key → slice_get knowns place ≡ known
      → KnowsAmong keys objects own (known_after_reply
      (heard_by (record { key = place; operation = operation }) reply.outcome knowns key known) knowns)
  by_key operation name place id_is at None known key_is known_is = m
  by_key operation name place id_is at (Some key) None key_is known_is = m
  by_key operation name place id_is at (Some key) (Some known) key_is known_is =
      let (newest, newest_is, goes) = l.plan.old_stand keys own place key m.is_prolonged key_is in
      let so = told operation name newest id_is (named_newest keys own name place newest m.is_prolonged at newest_is) in
      let was = learnt_at keys objects own knowns place key newest known key_is newest_is known_is m in
      after_lesson keys objects own knowns place operation key newest (teach key reply.outcome known) key_is newest_is m
      (teaches l objects key newest reply.outcome known goes was so)

  by_other : (operation : ℕ) (name : List ℕ) (place : ℕ) → reply.id ≡ Some (operation ∷ name)
      → place_named name own ≡ Some place → (other : Bool)
      → KnowsAmong keys objects own
      (known_after_reply (if other then Err faults.WrongOperation else heard_at own
      (record { key = place; operation = operation }) reply.outcome knowns) knowns)
  by_other operation name place id_is at true = m
  by_other operation name place id_is at false = by_key operation name place id_is at (slice_get own place)
      (slice_get knowns place) refl refl

  by_asked : (operation : ℕ) (name : List ℕ) (place : ℕ) → reply.id ≡ Some (operation ∷ name)
      → place_named name own ≡ Some place → (asked : Bool)
      → KnowsAmong keys objects own
      (known_after_reply (heard_about own reply
      (if asked then Some (record { key = place; operation = operation }) else None) knowns) knowns)
  by_asked operation name place id_is at false = m
  by_asked operation name place id_is at true = by_other operation name place id_is at
      (is_other_operation reply.operation operation)

  by_place : (operation : ℕ) (name : List ℕ) → reply.id ≡ Some (operation ∷ name) → (found : Option ℕ)
      → place_named name own ≡ found
      → KnowsAmong keys objects own (known_after_reply
      (heard_about own reply (option_and_then (λ place. subject_at own operation place) found) knowns) knowns)
  by_place operation name id_is None at = m
  by_place operation name id_is (Some place) at =
      by_asked operation name place id_is at (option_map_or (λ key. is_asked_of key operation) (slice_get own place)
      false)

  by_id : (id : Option (List ℕ)) → reply.id ≡ id
      → KnowsAmong keys objects own (known_after_reply (heard_about own reply (subject_of own id) knowns) knowns)
  by_id None is = m
  by_id (Some []) is = m
  by_id (Some (operation ∷ name)) is = by_place operation name is (place_named name own) refl

pub knows_replies : Lawbook → (keys : List Key) (objects : List Object) (own : List Key) (replies : List Reply)
    (knowns : List Knowledge) → KnowsAmong keys objects own knowns
    → All (TrueReply keys objects) replies → KnowsAmong keys objects own (known_after_each own replies knowns)
knows_replies l keys objects own [] knowns m told = m
knows_replies l keys objects own (reply ∷ replies) knowns m told =
    knows_replies l keys objects own replies (known_after_reply (heard_in own reply knowns) knowns)
    (knows_reply l keys objects own knowns reply m (All-head (TrueReply keys objects) reply replies told))
    (All-tail (TrueReply keys objects) reply replies told)

pub knows_read : Lawbook → (keys : List Key) (objects : List Object) (own : List Key) (knowns : List Knowledge)
    (bytes : List ℕ) (read : Result (List Reply) MessageFault)
    → replies_read bytes ≡ read → All (TrueReply keys objects) (replies_in bytes) → KnowsAmong keys objects own knowns
    → KnowsAmong keys objects own (knowns_heard knowns (hear_all own knowns read))
knows_read l keys objects own knowns bytes (Ok replies) is told m =
    knows_replies l keys objects own replies knowns m
    (subst (λ rs. All (TrueReply keys objects) rs) (l.messages.said bytes replies is) told)
knows_read l keys objects own knowns bytes (Err fault) is told m = m
