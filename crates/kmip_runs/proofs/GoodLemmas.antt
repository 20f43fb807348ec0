-- What is good stays so over an exchange.
use Rattle.std.proofs.Common.{◌≡◌, ℕ, List, [], ◌∷◌, Option, Some, None, Result, Ok, Err, IfSome, option_map, sym}
use Rattle.std.proofs.Common.{subst, refl, ◌∙◌, arith, inl}
use Rattle.std.specs.List.{AllZip}
use Rattle.std.proofs.lemmas.List.Elements.{All-weaker}
use Rattle.kmip_objects.specs.Objects.{Object}
use Rattle.kmip_messages.specs.Items.{requests_in}
use Rattle.kmip_plan.specs.Plans.{IsLawful}
use Rattle.kmip_plan.specs.declared.key.Key.{Key}
use Rattle.kmip_client.specs.Asking.{after_ask}
use Rattle.kmip_client.specs.Clients.{ClientState}
use Rattle.kmip_client.specs.Held.{Held}
use Rattle.kmip_client.specs.Justified.{Justified, JustifiedMessage}
use Rattle.kmip_client.specs.Shapes.{IsKept}
use Rattle.kmip_client.specs.Truth.{TrueMessage}
use Rattle.kmip_client.specs.declared.knowledge.Knowledge.{Knowledge}
use Rattle.kmip_client.specs.declared.question.Question.{Question}
use Rattle.kmip_protocol.specs.Amid.{ExchangedAmid, HandsOverAmid}
use Rattle.kmip_protocol.specs.Exchanges.{AreGiven}
use Rattle.kmip_protocol.specs.Past.{Past}
use Rattle.kmip_protocol.specs.Seen.{Seen}
use Rattle.kmip_protocol.specs.Sound.{HarmlessMessage, IsHarmless, Sound}
use Rattle.kmip_protocol.specs.declared.link_fault.LinkFault.{LinkFault}
use Rattle.kmip_protocol.specs.declared.link_fault.LinkFault.TheVariants.{Io, Frame, NoMemory}
use Rattle.kmip_runs.specs.Driving.{IsGood, Keeps, WentOn}
use Rattle.kmip_runs.specs.PrivateLawbook.{Lawbook}
use Rattle.kmip_protocol.specs.Losses.{or_loss}
use Rattle.kmip_runs.proofs.OnLemmas.{on_nowhere, on_then}

-- ---- nothing is taken back

kept_itself : (knowns : List Knowledge) → AllZip IsKept knowns knowns
kept_itself [] = tt
kept_itself (known ∷ knowns) = (record { identifier_kept = λ uid is. is; done_kept = omega arith }, kept_itself knowns)

kept_then : (a b c : List Knowledge) → AllZip IsKept a b → AllZip IsKept b c → AllZip IsKept a c
kept_then [] [] [] first second = tt
kept_then [] [] (z ∷ c) first second = absurd second
kept_then [] (y ∷ b) c first second = absurd first
kept_then (x ∷ a) [] c first second = absurd first
kept_then (x ∷ a) (y ∷ b) [] first second = absurd second
kept_then (x ∷ a) (y ∷ b) (z ∷ c) first second = (
  record {
    identifier_kept = λ uid is. second.0.identifier_kept uid (first.0.identifier_kept uid is);
    done_kept = omega (arith, first.0.done_kept, second.0.done_kept);
  },
  kept_then a b c first.1 second.1,
)

pub keeps_itself : (c : ClientState) → Keeps c c
keeps_itself c = record { keys_stay = refl; batch_stays = refl; kept = kept_itself c.knowns }

pub keeps_then : (a b c : ClientState) → Keeps a b → Keeps b c → Keeps a c
keeps_then a b c first second =
    record {
      keys_stay = second.keys_stay ∙ first.keys_stay;
      batch_stays = second.batch_stays
          ∙ first.batch_stays;
      kept = kept_then a.knowns b.knowns c.knowns first.kept second.kept;
    }

pub keeps_asked : (c next : ClientState) → next ≡ after_ask c → Keeps c next
keeps_asked c next is =
    subst (λ n. Keeps c n) (sym is) (record { keys_stay = refl; batch_stays = refl; kept = kept_itself c.knowns })

-- ---- what goes on

pub went_nowhere : (l : Lawbook) (keys : List Key) (p : Past) → WentOn keys p p
went_nowhere l keys p = on_nowhere l.client.itself l.amid.nothing keys p

pub went_then : (l : Lawbook) (keys : List Key) (old between new : Past) → WentOn keys old between
    → WentOn keys between new → WentOn keys old new
went_then l keys old between new first second = on_then l.client.twice l.amid.joins keys old between new first second

-- what holds of the bytes that were handed over
pub if_handed : {X : Type 0} (P : List ℕ → Type 0) (answer : Option X) (bytes : X → List ℕ)
    → IfSome (option_map bytes answer) P → IfSome answer (λ x. P (bytes x))
if_handed P None bytes so = tt
if_handed P (Some x) bytes so = so

-- what is good is good once the question is asked, and the question may be
pub good_asked : (c next : ClientState) (link : Seen) (asked : Option Question) (question : Question)
    → next ≡ after_ask c → asked ≡ Some question
    → ((objects : List Object) → Held objects c.keys c.knowns
    → IfSome asked (λ q. JustifiedMessage c.keys objects q.bytes)) → IsGood c link
    → IsGood next link × JustifiedMessage next.keys link.past.objects question.bytes
good_asked c next link asked question is some may good =
    let objects = link.past.objects in
    let just = subst (λ o. IfSome o (λ q. JustifiedMessage c.keys objects q.bytes)) some (may objects good.held) in
    subst (λ n. IsGood n link × JustifiedMessage n.keys objects question.bytes) (sym is)
    (record { amid_for = good.amid_for; sound = good.sound; held = good.held }, just)

answer_is : (x y : Option (List ℕ)) → Some x ≡ Some y → x ≡ y
answer_is x y is = cc

-- what may be asked does no harm
pub harmless_message : (keys : List Key) (objects : List Object) (sent : List ℕ) → JustifiedMessage keys objects sent
    → HarmlessMessage keys objects sent
harmless_message keys objects sent just =
    All-weaker (Justified keys objects) (IsHarmless keys objects) (λ request one. inl one) (requests_in sent) just

-- what an exchange leaves: all is sound still, and what was known is true still
pub record Left (c : ClientState) (old new : Seen) : Type 0 where
  pub amid_for : new.amid c.keys
  pub sound : Sound c.keys new.past
  pub held : Held new.past.objects c.keys c.knowns
  pub on : WentOn c.keys old.past new.past

pub left : (l : Lawbook) (c : ClientState) (old new : Seen) (sent : List ℕ)
    (answered : Result (Option (List ℕ)) LinkFault) → IsLawful c.keys
    → IsGood c old → JustifiedMessage c.keys old.past.objects sent
    → ((keys : List Key) → old.amid keys → Sound keys old.past → HarmlessMessage keys old.past.objects sent
    → new.amid keys × ExchangedAmid keys old.past sent answered new.past) → Left c old new
left l c old new sent answered lawful good just goes =
    let may = harmless_message c.keys old.past.objects sent just in
    let step = goes c.keys good.amid_for good.sound may in
    let kept = l.amid.exchanges c.keys old.past new.past sent answered good.sound may step.1 in
    record {
      amid_for = step.0;
      sound = kept.0;
      held = l.client.known_for_good c.keys c.knowns old.past.objects new.past.objects lawful kept.1 good.held;
      on = record {
        onward = kept.1;
        mirrored = λ image. l.amid.image_exchanged c.keys old.past new.past sent answered good.sound image may step.1;
        passed = l.amid.exchanges_pass c.keys old.past new.past sent answered may step.1;
      };
    }

-- what was handed over among others, where memory did not run out
handed_amid : (keys : List Key) (old new : Past) (sent : List ℕ) (answered : Result (Option (List ℕ)) LinkFault)
    (answer : Option (List ℕ))
    → or_loss answered ≡ Some answer → ExchangedAmid keys old sent answered new → HandsOverAmid keys old sent answer new
handed_amid keys old new sent (Ok own) answer is done =
    subst (λ a. HandsOverAmid keys old sent a new) (answer_is own answer is) done
handed_amid keys old new sent (Err Io) answer is done =
    subst (λ a. HandsOverAmid keys old sent a new) (answer_is None answer is) done
handed_amid keys old new sent (Err Frame) answer is done =
    subst (λ a. HandsOverAmid keys old sent a new) (answer_is None answer is) done
handed_amid keys old new sent (Err NoMemory) answer is done = absurd cc

-- what was handed over is true
pub told : (l : Lawbook) (keys : List Key) (old new : Past) (sent : List ℕ)
    (answered : Result (Option (List ℕ)) LinkFault) (answer : Option (List ℕ)) → Sound keys new
    → or_loss answered ≡ Some answer → ExchangedAmid keys old sent answered new
    → IfSome answer (TrueMessage keys new.objects)
told l keys old new sent answered None sound is done = tt
told l keys old new sent answered (Some given) sound is done =
    let hands = handed_amid keys old new sent answered (Some given) is done in
    l.exchanges.answers keys new given sound (subst (λ (p : Past). AreGiven p given) (sym hands.is) hands.given)

pub good_left : (c next : ClientState) (old new : Seen) → Left c old new → next.keys ≡ c.keys
    → Held new.past.objects next.keys next.knowns
    → IsGood next new × WentOn c.keys old.past new.past
good_left c next old new l keys held = (
  record {
    amid_for = subst (λ ks. new.amid ks) (sym keys) l.amid_for;
    sound = subst (λ ks. Sound ks new.past) (sym keys) l.sound;
    held = held;
  },
  l.on,
)
