-- What exchanges keep and teach, one after the other.
use Rattle.std.proofs.Common.{◌≡◌, ◌≢◌, ℕ, ◌+◌, List, [], ◌∷◌, ◌++◌, length, flat_map, Option, Result, Ok, OnOk, sym}
use Rattle.std.proofs.Common.{ap, subst, refl, inl, inr, ◌⊎◌, ◌≤◌, ◌∙◌, append_assoc, append-nil, arith}
use Rattle.std.proofs.lemmas.List.{length-append}
use Rattle.std.proofs.lemmas.List.Concat.{flat_map-append}
use Rattle.std.proofs.lemmas.List.Elements.{All-append, All-nil}
use Rattle.std.specs.List.{AllZip}
use Rattle.kmip_messages.specs.Items.{requests_in}
use Rattle.kmip_plan.specs.Plans.{IsLawful}
use Rattle.kmip_plan.specs.declared.key.Key.{Key}
use Rattle.kmip_client.specs.Clients.{ClientState}
use Rattle.kmip_client.specs.Known.{facts, heard, known_after}
use Rattle.kmip_client.specs.Laws.{HearingIsBlind}
use Rattle.kmip_client.specs.Shapes.{IsKept}
use Rattle.kmip_client.specs.declared.knowledge.Knowledge.{Knowledge}
use Rattle.kmip_protocol.specs.Amid.{PassedAmid}
use Rattle.kmip_protocol.specs.Laws.{DeliveriesKeepTheRequests}
use Rattle.kmip_protocol.specs.Moves.{Delivered}
use Rattle.kmip_protocol.specs.Past.{Names, Past, is_planned}
use Rattle.kmip_protocol.specs.Seen.{Seen}
use Rattle.kmip_protocol.specs.Sound.{Sound}
use Rattle.kmip_protocol.specs.Ready.{IsReady}
use Rattle.kmip_runs.specs.PrivateLawbook.{Lawbook}
use Rattle.kmip_runs.specs.Driving.{AsksOne, IsGood, IsQuestion, Keeps, Learnt, LearntUntil, TakesNothingBack, WentOn}
use Rattle.kmip_runs.specs.Driving.{need}
use Rattle.kmip_runs.specs.declared.stop.Stop.{Stop}
use Rattle.kmip_runs.specs.declared.stop.Stop.TheVariants as stops
use Rattle.kmip_runs.specs.PrivateCarried.{Went}
use Rattle.kmip_runs.specs.Saved.{IsInMemory, IsWhole, Situation}
use Rattle.kmip_runs.specs.declared.save_fault.SaveFault.{SaveFault}
use Rattle.kmip_runs.proofs.KnownLemmas.{delivered_grown, grown_itself, grown_then}
use Rattle.kmip_runs.proofs.OnLemmas.{on_nowhere, on_then}

abbrev ok : Stop → Result Stop SaveFault
ok stop = Ok stop

-- ---- nothing is taken back

pub kept_itself : (knowns : List Knowledge) → AllZip IsKept knowns knowns
kept_itself [] = tt
kept_itself (known ∷ knowns) = (record { identifier_kept = λ uid is. is; done_kept = omega arith }, kept_itself knowns)

pub kept_then : (a b c : List Knowledge) → AllZip IsKept a b → AllZip IsKept b c → AllZip IsKept a c
kept_then [] [] [] first second = tt
kept_then [] [] (z ∷ c) first second = absurd second
kept_then [] (y ∷ b) c first second = absurd first
kept_then (x ∷ a) [] c first second = absurd first
kept_then (x ∷ a) (y ∷ b) [] first second = absurd second
kept_then (x ∷ a) (y ∷ b) (z ∷ c) first second = (
  record {
    identifier_kept = λ uid is. second.0.identifier_kept uid (first.0.identifier_kept uid is);
    done_kept = omega (arith, first.0.done_kept, second.0.done_kept);
  },
  kept_then a b c first.1 second.1,
)

keeps_itself : (c : ClientState) → Keeps c c
keeps_itself c = record { keys_stay = refl; batch_stays = refl; kept = kept_itself c.knowns }

keeps_then : (a b c : ClientState) → Keeps a b → Keeps b c → Keeps a c
keeps_then a b c first second =
    record {
      keys_stay = second.keys_stay ∙ first.keys_stay;
      batch_stays = second.batch_stays
          ∙ first.batch_stays;
      kept = kept_then a.knowns b.knowns c.knowns first.kept second.kept;
    }

-- ---- what exchanges teach

known_append : (keys : List Key) (knowns : List Knowledge) (xs ys : List (Option (List ℕ)))
    → known_after keys knowns (xs ++ ys) ≡ known_after keys (known_after keys knowns xs) ys
known_append keys knowns [] ys = refl
known_append keys knowns (x ∷ xs) ys = known_append keys (heard keys knowns x) xs ys

known_blind : HearingIsBlind → (keys : List Key) (xs ys : List Knowledge) (answers : List (Option (List ℕ)))
    → facts xs ≡ facts ys
    → facts (known_after keys xs answers) ≡ facts (known_after keys ys answers)
known_blind blind keys xs ys [] same = same
known_blind blind keys xs ys (answer ∷ answers) same =
    known_blind blind keys (heard keys xs answer) (heard keys ys answer) answers (blind keys xs ys answer same)

pub joined : {A : Type 0} (old between new xs ys : List A) → between ≡ old ++ xs → new ≡ between ++ ys
    → new ≡ old ++ (xs ++ ys)
joined old between new xs ys first second = second ∙ ap (λ zs. zs ++ ys) first ∙ append_assoc old xs ys

as_many : {A : Type 0} (xs ys : List A) (m n : ℕ) → length xs ≡ m → length ys ≡ n → length (xs ++ ys) ≡ m + n
as_many xs ys m n first second = length-append xs ys ∙ ap (λ k. k + length ys) first ∙ ap (λ k. m + k) second

pub learnt_nothing : (keys : List Key) (most : ℕ) (p : Past) (knowns : List Knowledge)
    → Learnt keys most p p knowns knowns 0
learnt_nothing keys most p knowns = record {
  questions = [];
  answers = [];
  sent_are = sym (append-nil p.sent);
  handed_are = sym (append-nil p.handed);
  requests_are = sym (append-nil p.requests);
  as_many_questions = refl;
  as_many_answers = refl;
  each = All-nil (IsQuestion keys most);
  known_is = refl;
}

pub learnt_then : HearingIsBlind → (keys : List Key) (most : ℕ) (old between new : Past)
    (knowns known nexts : List Knowledge) (m n : ℕ) → Learnt keys most old between knowns known m
    → Learnt keys most between new known nexts n → Learnt keys most old new knowns nexts (m + n)
learnt_then blind keys most old between new knowns known nexts m n a b = record {
  questions = a.questions ++ b.questions;
  answers = a.answers ++ b.answers;
  sent_are = joined old.sent between.sent new.sent a.questions b.questions a.sent_are b.sent_are;
  handed_are = joined old.handed between.handed new.handed a.answers b.answers a.handed_are b.handed_are;
  requests_are =
      joined old.requests between.requests new.requests (flat_map requests_in a.questions)
      (flat_map requests_in b.questions) a.requests_are b.requests_are
      ∙ ap (λ rs. old.requests ++ rs) (sym (flat_map-append requests_in a.questions b.questions));
  as_many_questions = as_many a.questions b.questions m n a.as_many_questions b.as_many_questions;
  as_many_answers = as_many a.answers b.answers m n a.as_many_answers b.as_many_answers;
  each = All-append (IsQuestion keys most) a.questions b.questions a.each b.each;
  known_is =
      b.known_is ∙ known_blind blind keys known (known_after keys knowns a.answers) b.answers a.known_is
      ∙ ap facts (sym (known_append keys knowns a.answers b.answers));
}

-- whatever happens between exchanges teaches nothing
pub learnt_delivered : DeliveriesKeepTheRequests
    → (keys : List Key) (most : ℕ) (names : Names) (old new : Past) (knowns : List Knowledge) → Delivered names old new
    → Learnt keys most old new knowns knowns 0
learnt_delivered requests keys most names old new knowns done =
    let grows = requests names old new done in
    record {
      questions = [];
      answers = [];
      sent_are = grows.sent ∙ sym (append-nil old.sent);
      handed_are = grows.handed ∙ sym (append-nil old.handed);
      requests_are = grows.requests ∙ sym (append-nil old.requests);
      as_many_questions = refl;
      as_many_answers = refl;
      each = All-nil (IsQuestion keys most);
      known_is = refl;
    }

-- ---- until memory ran out

-- exchanges, and then those until memory ran out
pub until_then : HearingIsBlind → (keys : List Key) (most : ℕ) (old between new : Past)
    (knowns known nexts : List Knowledge) (m n : ℕ) → Learnt keys most old between knowns known m
    → LearntUntil keys most between new known nexts n → LearntUntil keys most old new knowns nexts (m + n)
until_then blind keys most old between new knowns known nexts m n a b = record {
  between = b.between;
  heard = m + b.heard;
  learnt = learnt_then blind keys most old between b.between knowns known nexts m b.heard a b.learnt;
  broken = elim b.broken [
    | inl unmade ↦ inl (omega (arith, unmade.0), unmade.1)
    | inr unheard ↦ inr (omega (arith, unheard.0), unheard.1)
  ];
}

-- and what happens behind them
pub until_delivered : DeliveriesKeepTheRequests
    → (keys : List Key) (most : ℕ) (names : Names) (old mid new : Past) (knowns nexts : List Knowledge) (n : ℕ)
    → Delivered names mid new
    → LearntUntil keys most old mid knowns nexts n → LearntUntil keys most old new knowns nexts n
until_delivered requests keys most names old mid new knowns nexts n done a =
    let grows = requests names mid new done in
    record {
      between = a.between;
      heard = a.heard;
      learnt = a.learnt;
      broken = elim a.broken [
        | inl unmade ↦
            inl (
              unmade.0,
              record {
                asked = elim unmade.1.asked [
                  | inl none ↦ inl (grows.requests ∙ none)
                  | inr more ↦ inr (record {
                    question = more.question;
                    is_question = more.is_question;
                    requests_are = grows.requests ∙ more.requests_are;
                  })
                ];
                sent_stays = grows.sent ∙ unmade.1.sent_stays;
                handed_stays = grows.handed ∙ unmade.1.handed_stays;
              },
            )
        | inr unheard ↦
            let u = unheard.1 in
            inr (
              unheard.0,
              record {
                question = u.question;
                reply = u.reply;
                is_question = u.is_question;
                requests_are = grows.requests ∙ u.requests_are;
                sent_are = grows.sent ∙ u.sent_are;
                handed_are = grows.handed ∙ u.handed_are;
              },
            )
      ];
    }

-- memory ran out only behind them
pub until_behind : DeliveriesKeepTheRequests
    → (keys : List Key) (most : ℕ) (names : Names) (old mid new : Past) (knowns nexts : List Knowledge) (n : ℕ)
    → Delivered names mid new
    → Learnt keys most old mid knowns nexts n → LearntUntil keys most old new knowns nexts n
until_behind requests keys most names old mid new knowns nexts n done a =
    let grows = requests names mid new done in
    record {
      between = mid;
      heard = n;
      learnt = a;
      broken = inl (refl, record { asked = inl grows.requests; sent_stays = grows.sent; handed_stays = grows.handed });
    }

-- ---- nothing that was asked is taken back

-- who asks one key at once goes on doing so
asks_one : (a b : ClientState) → Keeps a b → AsksOne a → AsksOne b
asks_one a b keeps (inl one) = inl (keeps.batch_stays ∙ one)
asks_one a b keeps (inr alone) = inr (ap length keeps.keys_stay ∙ alone)

pub stop_is : (s t : Stop) → ok s ≡ ok t → s ≡ t
stop_is s t is = cc

-- ---- exchanges, one after the other

pub went_nowhere : Lawbook → (a : Situation) (result : Result Stop SaveFault) → IsInMemory result → Went a a result 0
went_nowhere l a result memory = record {
  good = λ good. good;
  onward = λ good. on_nowhere l.client.itself l.amid.nothing a.client.keys a.link.past;
  learns = λ holds. (holds, λ in_memory. learnt_nothing a.client.keys a.client.batch a.link.past a.client.knowns);
  broken = λ holds is. absurd (memory is);
  takes_nothing_back = λ holds. grown_itself a.link.past;
  keeps = keeps_itself a.client;
  near = λ settling whole. record { settling = settling; nearer = omega arith; exactly = λ one. omega arith };
}

-- where there was no memory to begin with
pub went_unbegun : Lawbook → (a : Situation) → Went a a (Ok stops.NoMemory) 0
went_unbegun l a = record {
  good = λ good. good;
  onward = λ good. on_nowhere l.client.itself l.amid.nothing a.client.keys a.link.past;
  learns = λ holds. (holds, λ memory. absurd (memory refl));
  broken = λ holds is. record {
    between = a.link.past;
    heard = 0;
    learnt = learnt_nothing a.client.keys a.client.batch a.link.past a.client.knowns;
    broken = inl (refl, record { asked = inl refl; sent_stays = refl; handed_stays = refl });
  };
  takes_nothing_back = λ holds. grown_itself a.link.past;
  keeps = keeps_itself a.client;
  near = λ settling whole. absurd (whole refl);
}

pub went_then : Lawbook → (a b c : Situation) (stop : Stop) (result : Result Stop SaveFault) (m n : ℕ)
    → stop ≢ stops.NoMemory
    → Went a b (Ok stop) m → Went b c result n → Went a c result (m + n)
went_then l a b c stop result m n memory first second =
    let in_memory : IsInMemory (Ok stop) = λ is. memory (stop_is stop stops.NoMemory is) in
    let keys = first.keeps.keys_stay in
    record {
      good = λ good. second.good (first.good good);
      onward = λ good.
          let before = first.onward good in
          let after = subst (λ ks. WentOn ks b.link.past c.link.past) keys (second.onward (first.good good)) in
          on_then l.client.twice l.amid.joins a.client.keys a.link.past b.link.past c.link.past before after;
      learns = λ holds.
          let before = first.learns holds in
          let after = second.learns (subst (λ ks. b.link.honest (is_planned ks)) (sym keys) before.0) in (
            subst (λ ks. c.link.honest (is_planned ks)) keys after.0,
            λ whole.
                learnt_then l.client.blind a.client.keys a.client.batch a.link.past b.link.past c.link.past
                a.client.knowns b.client.knowns c.client.knowns m n (before.1 in_memory)
                (subst (λ ks. Learnt ks a.client.batch b.link.past c.link.past b.client.knowns c.client.knowns n) keys
                (subst (λ most. Learnt b.client.keys most b.link.past c.link.past b.client.knowns c.client.knowns n)
                first.keeps.batch_stays (after.1 whole))),
          );
      broken = λ holds is.
          let before = first.learns holds in
          let after = second.broken (subst (λ ks. b.link.honest (is_planned ks)) (sym keys) before.0) is in
          until_then l.client.blind a.client.keys a.client.batch a.link.past b.link.past c.link.past a.client.knowns
          b.client.knowns c.client.knowns m n (before.1 in_memory)
          (subst (λ ks. LearntUntil ks a.client.batch b.link.past c.link.past b.client.knowns c.client.knowns n) keys
          (subst (λ most. LearntUntil b.client.keys most b.link.past c.link.past b.client.knowns c.client.knowns n)
          first.keeps.batch_stays after));
      takes_nothing_back = λ holds.
          grown_then a.link.past b.link.past c.link.past (first.takes_nothing_back holds)
          (subst (λ ks. TakesNothingBack ks b.link.past c.link.past) keys
          (second.takes_nothing_back (subst (λ ks. b.link.honest (is_planned ks)) (sym keys)
          (first.learns holds).0)));
      keeps = keeps_then a.client b.client c.client first.keeps second.keeps;
      near = λ settling whole.
          let before = first.near settling memory in
          let after = second.near before.settling whole in
          record {
            settling = after.settling;
            nearer = omega (arith, before.nearer, after.nearer);
            exactly = λ one. omega (
              arith,
              before.exactly one,
              after.exactly
                  (asks_one a.client b.client first.keeps one),
            );
          };
    }

-- what may happen meanwhile goes onward
pub went_passed : Lawbook → (keys : List Key) (old new : Past) → Sound keys old → PassedAmid keys old new
    → WentOn keys old new
went_passed l keys old new sound passed = record {
  onward = (l.amid.passing keys old new sound passed).1;
  mirrored = λ image. l.amid.image_passing keys old new sound image passed;
  passed = l.amid.blind keys [] [] old new passed;
}

-- the end of the run, after these exchanges
pub went_closed : {V E : Type 0} → Lawbook
    → (a b : Situation) (z : Seen) (result ended : Result Stop SaveFault) (closed : Result V E) (m : ℕ)
    → IsLawful a.client.keys
    → ((names : Names) → b.link.honest names → z.honest names × Delivered names b.link.past z.past)
    → ((keys : List Key) → b.link.amid keys → Sound keys b.link.past → z.amid keys × PassedAmid keys b.link.past z.past)
    → ((names : Names) → b.link.calm names → z.calm names × OnOk closed (z.past ≡ b.link.past))
    → (IsInMemory ended → IsInMemory result)
    → (ended ≡ Ok stops.NoMemory → (result ≡ Ok stops.NoMemory) ⊎ IsInMemory result)
    → (IsWhole ended → IsWhole result × (OnOk closed (z.past ≡ b.link.past) → z.past ≡ b.link.past))
    → Went a b result m → Went a (record b { link = z }) ended m
went_closed l a b z result ended closed m lawful delivers passes calms memory cut whole first =
    let keys = first.keeps.keys_stay in
    record {
      good = λ good. (good_closed (first.good good)).0;
      onward = λ good.
          let before = first.onward good in
          let after = subst (λ ks. WentOn ks b.link.past z.past) keys (good_closed (first.good good)).1 in
          on_then l.client.twice l.amid.joins a.client.keys a.link.past b.link.past z.past before after;
      learns = λ holds.
          let before = first.learns holds in
          let step = delivers (is_planned a.client.keys) before.0 in (
            step.0,
            λ in_memory.
                let none : m + 0 ≡ m = omega arith in
                subst (λ n. Learnt a.client.keys a.client.batch a.link.past z.past a.client.knowns b.client.knowns n)
                none
                (learnt_then l.client.blind a.client.keys a.client.batch a.link.past b.link.past z.past
                a.client.knowns b.client.knowns b.client.knowns m 0 (before.1 (memory in_memory))
                (learnt_delivered l.exchanges.requests_stay a.client.keys a.client.batch (is_planned a.client.keys)
                b.link.past z.past b.client.knowns step.1)),
          );
      broken = λ holds is.
          let before = first.learns holds in
          let step = delivers (is_planned a.client.keys) before.0 in
          elim (cut is) [
            | inl so ↦ until_delivered l.exchanges.requests_stay a.client.keys a.client.batch
                (is_planned a.client.keys) a.link.past b.link.past z.past a.client.knowns b.client.knowns m step.1
                (first.broken holds so)
            | inr in_memory ↦ until_behind l.exchanges.requests_stay a.client.keys a.client.batch
                (is_planned a.client.keys) a.link.past b.link.past z.past a.client.knowns b.client.knowns m step.1
                (before.1 in_memory)
          ];
      takes_nothing_back = λ holds.
          let step = delivers (is_planned a.client.keys) (first.learns holds).0 in
          grown_then a.link.past b.link.past z.past (first.takes_nothing_back holds)
          (delivered_grown (is_planned a.client.keys) b.link.past z.past step.1);
      keeps = first.keeps;
      near = λ settling done.
          let held = whole done in
          let before = first.near settling held.0 in
          let step = calms (is_planned b.client.keys) before.settling.calm_for in
          let same = held.1 step.1 in
          record {
            settling = record {
              calm_for = step.0;
              ready = subst (λ (p : Past). IsReady p.room b.client.keys p.objects b.client.knowns) (sym same)
                  before.settling.ready;
            };
            nearer = subst (λ (p : Past). m + need b.client p ≤ need a.client a.link.past) (sym same) before.nearer;
            exactly = λ one. subst (λ (p : Past). m + need b.client p ≡ need a.client a.link.past) (sym same)
                (before.exactly one);
          };
    }
  where
    good_closed : IsGood b.client b.link → IsGood b.client z × WentOn b.client.keys b.link.past z.past
    good_closed good =
        let step = passes b.client.keys good.amid_for good.sound in
        let kept = l.amid.passing b.client.keys b.link.past z.past good.sound step.1 in
        let on = kept.1 in (
          record {
            amid_for = step.0;
            sound = kept.0;
            held = l.client.known_for_good b.client.keys b.client.knowns b.link.past.objects z.past.objects
                (subst (λ ks. IsLawful ks) (sym first.keeps.keys_stay) lawful) on good.held;
          },
          record {
            onward = on;
            mirrored = λ image. l.amid.image_passing b.client.keys b.link.past z.past good.sound image step.1;
            passed = l.amid.blind b.client.keys [] [] b.link.past z.past step.1;
          },
        )
