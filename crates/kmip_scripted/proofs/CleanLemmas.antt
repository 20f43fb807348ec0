-- An exchange that was not disturbed is clean: what the words before it delivered may as well have happened before it.
use Rattle.std.proofs.Common.{◌≡◌, ◌==◌, ◌+◌, ◌-◌, ◌≤◌, ℕ, zero, suc, pos, Bool, true, false, length, List, [], ◌∷◌, ◌++◌, drop, Option, Some, None, refl, sym, ap, subst, ◌∙◌, inl, inr, arith}
use Rattle.std.specs.List.{All, slice_get}
use Rattle.std.proofs.lemmas.Bool.{cases_Bool, eqb-false, or_parts}
use Rattle.std.proofs.lemmas.Option.{same_Some}
use Rattle.kmip_messages.specs.Items.{parts_in, replies_in, requests_in, stops_in}
use Rattle.kmip_server.specs.Batching.{batch_reply}
use Rattle.kmip_protocol.specs.Calm.{AreTaken}
use Rattle.kmip_protocol.specs.Clean.{Disturbances, HasRoom, IsClean, IsCounted, strange_handed}
use Rattle.kmip_protocol.specs.Exchanges.{with_asked}
use Rattle.kmip_protocol.specs.Laws.{DeliveriesJoin, NothingIsDelivered}
use Rattle.kmip_protocol.specs.Moves.{Delivered}
use Rattle.kmip_protocol.specs.Past.{Names}
use Rattle.kmip_scripted.specs.declared.word.Word.{Word}
use Rattle.kmip_scripted.specs.declared.word.Word.TheVariants.{Pass, LoseRequest, LoseReply, Cut, Stale, Again, Save, Prolong, Restart, Crash}
use Rattle.kmip_scripted.specs.Counting.{counted, every_name}
use Rattle.kmip_scripted.specs.Disturbing.{is_disturbed, is_repeated}
use Rattle.kmip_scripted.specs.PrivateEarly.{AreOfEarlier, IsEarly, IsOfEarlier, asked_only}
use Rattle.kmip_scripted.specs.Scenes.{Scene, disturbances_in, past_in, with_disturbances}
use Rattle.kmip_scripted.specs.Words.{after_word, before_play, exchange_word, goes_on, message_at, play, played, with_delivered, with_request, with_words, words_after_exchange}
use Rattle.kmip_scripted.specs.Private.{first_of}
use Rattle.kmip_scripted.proofs.CountLemmas.{have_room, no_more_strange, played_keeps, prepared_keeps}
use Rattle.kmip_scripted.proofs.FollowLemmas.{asked_past, handed}
use Rattle.kmip_scripted.proofs.WordLemmas.{by_other, by_test}

-- ---- what was asked before is found before and behind it

same_place : (messages : List (List ℕ)) (message : List ℕ) (place : ℕ) → (place ≡ length messages → ⊥)
    → slice_get messages place ≡ slice_get (messages ++ message ∷ []) place
same_place [] message zero differs = absurd (differs refl)
same_place [] message (suc place) differs = refl
same_place (first ∷ messages) message zero differs = refl
same_place (first ∷ messages) message (suc place) differs = same_place messages message place (λ same. differs (ap suc same))

positive : (number : ℕ) → (number == 0) ≡ false → 1 ≤ number
positive zero is = absurd cc
positive (suc number) is = omega arith

same_number : (messages : List (List ℕ)) (message : List ℕ) (number : ℕ) → (number == length messages + 1) ≡ false
    → message_at number messages ≡ message_at number (messages ++ message ∷ [])
same_number messages message number differs = elim (cases_Bool (number == 0)) [
  | inl none ↦ by_test (number == 0) (slice_get messages (number - 1)) none ∙ sym (by_test (number == 0) (slice_get (messages ++ message ∷ []) (number - 1)) none)
  | inr some ↦ by_other (number == 0) (slice_get messages (number - 1)) some
      ∙ same_place messages message (number - 1) (λ same. eqb-false number (length messages + 1) differs (omega (arith, same, positive number some)))
      ∙ sym (by_other (number == 0) (slice_get (messages ++ message ∷ []) (number - 1)) some)
]

pub earlier_all : (asked : List (List ℕ)) (request : List ℕ) (words : List Word) → is_repeated (length asked) words ≡ false
    → AreOfEarlier asked (asked ++ request ∷ []) words
earlier_all asked request [] unrepeated = tt
earlier_all asked request (Pass ∷ words) unrepeated = tt
earlier_all asked request (LoseRequest ∷ words) unrepeated = tt
earlier_all asked request (LoseReply ∷ words) unrepeated = tt
earlier_all asked request (Cut size ∷ words) unrepeated = tt
earlier_all asked request (Stale number ∷ words) unrepeated = tt
earlier_all asked request (Again number ∷ words) unrepeated =
    let parts = or_parts (number == length asked + 1) (is_repeated (length asked) words) unrepeated in
    (same_number asked request number parts.0, earlier_all asked request words parts.1)
earlier_all asked request (Save ∷ words) unrepeated = tt
earlier_all asked request (Prolong ∷ words) unrepeated = tt
earlier_all asked request (Restart start ∷ words) unrepeated = tt
earlier_all asked request (Crash crash ∷ words) unrepeated = tt

-- ---- word by word

asked_kept : (word : Word) (s : Scene) → (after_word word s).asked ≡ s.asked
asked_kept Pass s = refl
asked_kept LoseRequest s = refl
asked_kept LoseReply s = refl
asked_kept (Cut size) s = refl
asked_kept (Stale number) s = refl
asked_kept (Again number) s = delivered (message_at number s.asked) s where
  delivered : (message : Option (List ℕ)) (s : Scene) → (with_delivered message s).asked ≡ s.asked
  delivered None s = refl
  delivered (Some message) s = refl
asked_kept Save s = refl
asked_kept Prolong s = refl
asked_kept (Restart start) s = refl
asked_kept (Crash crash) s = refl

first_and_rest : (asked all : List (List ℕ)) (own : Word) (words : List Word) → goes_on false own ≡ true → AreOfEarlier asked all (own ∷ words)
    → IsOfEarlier asked all own × AreOfEarlier asked all words
first_and_rest asked all Pass words goes are = absurd cc
first_and_rest asked all LoseRequest words goes are = absurd cc
first_and_rest asked all LoseReply words goes are = absurd cc
first_and_rest asked all (Cut size) words goes are = absurd cc
first_and_rest asked all (Stale number) words goes are = absurd cc
first_and_rest asked all (Again number) words goes are = are
first_and_rest asked all Save words goes are = absurd cc
first_and_rest asked all Prolong words goes are = absurd cc
first_and_rest asked all (Restart start) words goes are = absurd cc
first_and_rest asked all (Crash crash) words goes are = absurd cc

stepped : (asked all : List (List ℕ)) (words : List Word) (word : Word) → Some word ≡ first_of words → goes_on false word ≡ true → AreOfEarlier asked all words
    → IsOfEarlier asked all word × AreOfEarlier asked all (drop 1 words)
stepped asked all [] word first goes are = absurd cc
stepped asked all (own ∷ words) word first goes are =
    let same : word ≡ own = same_Some _ _ first in
    subst (λ w. IsOfEarlier asked all w × AreOfEarlier asked all words) (sym same)
    (first_and_rest asked all own words (ap (goes_on false) (sym same) ∙ goes) are)

pub stays_early : (nothing : NothingIsDelivered) (names : Names) (asked : List (List ℕ)) (s new : Scene) → new ≡ s → AreOfEarlier asked s.asked s.words
    → IsEarly names asked s new
stays_early nothing names asked s new same are =
    subst (IsEarly names asked s) (sym same) (record { delivered = nothing names (past_in (asked_only asked s)); earlier = are })

pub steps_early : (names : Names) (asked : List (List ℕ)) (at_end : Bool) (word : Word) (s mid new : Scene) → at_end ≡ false → Some word ≡ first_of s.words
    → goes_on at_end word ≡ true → mid ≡ after_word word s → new ≡ with_words (drop 1 mid.words) mid → mid.words ≡ s.words
    → (IsOfEarlier asked s.asked word → Delivered names (past_in (asked_only asked s)) (past_in (asked_only asked mid)))
    → AreOfEarlier asked s.asked s.words → IsEarly names asked s new
steps_early names asked at_end word s mid new before first goes was is same delivers are =
    let parts = stepped asked s.asked s.words word first (ap (λ b. goes_on b word) (sym before) ∙ goes) are in
    let asked_is : mid.asked ≡ s.asked = ap (λ m. m.asked) was ∙ asked_kept word s in
    subst (IsEarly names asked s) (sym is) (record {
      delivered = delivers parts.0;
      earlier = subst (λ all. AreOfEarlier asked all (drop 1 mid.words)) (sym asked_is)
          (subst (λ words. AreOfEarlier asked s.asked (drop 1 words)) (sym same) parts.1);
    })

pub early_twice : (join : DeliveriesJoin) (names : Names) (asked : List (List ℕ)) (s mid new : Scene) → IsEarly names asked s mid
    → (AreOfEarlier asked mid.asked mid.words → IsEarly names asked mid new) → IsEarly names asked s new
early_twice join names asked s mid new first later =
    let second = later first.earlier in
    record {
      delivered = join names (past_in (asked_only asked s)) (past_in (asked_only asked mid)) (past_in (asked_only asked new)) first.delivered second.delivered;
      earlier = second.earlier;
    }

-- ---- the request joined in between

pub prepared_early : (names : Names) (request : List ℕ) (s mid new : Scene) → mid ≡ with_request request s
    → (AreOfEarlier s.asked mid.asked mid.words → IsEarly names s.asked mid new) → is_repeated (length s.asked) s.words ≡ false
    → Delivered names (past_in s) (past_in (asked_only s.asked new))
prepared_early names request s mid new is later unrepeated =
    let from = subst (λ m. AreOfEarlier s.asked m.asked m.words → IsEarly names s.asked m new) is later in
    (from (earlier_all s.asked request s.words unrepeated)).delivered

pub request_joins : (request : List ℕ) (s mid new : Scene) → mid ≡ with_request request s → (past_in new).requests ≡ (past_in mid).requests
    → past_in new ≡ with_asked request (past_in (asked_only s.asked new))
request_joins request s mid new is same =
    let requests : (past_in new).requests ≡ (past_in s).requests ++ requests_in request =
    same ∙ ap (λ m. (past_in m).requests) is ∙ ap (λ p. p.requests) (asked_past request s) in
    ap (λ r. record (past_in new) { requests = r }) requests

-- ---- the exchange

pub record IsUndisturbed (word : Word) (repeated : Bool) (answer : Option (List ℕ)) : Type 0 where
  pub word_is : word ≡ Pass
  pub first : repeated ≡ false
  pub given : List ℕ
  pub answer_is : answer ≡ Some given
  pub roomy : All HasRoom (replies_in given)

undisturbed : (word : Word) (repeated : Bool) (answer : Option (List ℕ)) → is_disturbed word repeated answer ≡ false → IsUndisturbed word repeated answer
undisturbed word repeated None is = absurd cc
undisturbed Pass true (Some given) is = absurd cc
undisturbed Pass false (Some given) is = record { word_is = refl; first = refl; given = given; answer_is = refl; roomy = have_room (replies_in given) is }
undisturbed LoseRequest repeated (Some given) is = absurd cc
undisturbed LoseReply repeated (Some given) is = absurd cc
undisturbed (Cut size) repeated (Some given) is = absurd cc
undisturbed (Stale number) repeated (Some given) is = absurd cc
undisturbed (Again number) repeated (Some given) is = absurd cc
undisturbed Save repeated (Some given) is = absurd cc
undisturbed Prolong repeated (Some given) is = absurd cc
undisturbed (Restart start) repeated (Some given) is = absurd cc
undisturbed (Crash crash) repeated (Some given) is = absurd cc

pass_answer : (request : List ℕ) (s : Scene) (word : Word) → word ≡ exchange_word s.words → word ≡ Pass
    → (played request s).0 ≡ Some (batch_reply s.stock request (pos 0))
pass_answer request s word is pass =
    ap (λ w. (play w request (with_words (words_after_exchange s.words) s)).0) (sym is ∙ pass)

-- an exchange step by step: what the link held after each step, and what the steps found
pub record Steps : Type 0 where
  -- before it, and once its request was asked and the words before its own were done
  pub before : Scene
  pub prepared : Scene
  -- once its own word was done
  pub played : Scene
  -- once its answer was handed over, and once it was counted
  pub handed : Scene
  pub after : Scene
  -- its own word, whether a word sends the request once more, and its answer
  pub word : Word
  pub repeated : Bool
  pub answer : Option (List ℕ)
  -- what was disturbed until then, with this exchange
  pub counts : Disturbances

-- these are the steps of an exchange of the request
pub record AreSteps (names : Names) (request : List ℕ) (s : Steps) : Type 0 where
  pub repeated_is : s.repeated ≡ is_repeated (length s.before.asked) s.before.words
  pub prepared_is : s.prepared ≡ before_play request s.before
  pub early : is_repeated (length s.before.asked) s.before.words ≡ false
      → Delivered names (past_in s.before) (past_in (asked_only s.before.asked s.prepared))
  pub joins : past_in s.prepared ≡ with_asked request (past_in (asked_only s.before.asked s.prepared))
  pub word_is : s.word ≡ exchange_word s.prepared.words
  pub taken : exchange_word s.prepared.words ≡ Pass
      → AreTaken (stops_in request) (parts_in request) (replies_in (batch_reply s.prepared.stock request (pos 0))) (past_in s.prepared) (past_in s.played)
  pub played_is : s.played ≡ (played request s.prepared).1
  pub answer_is : s.answer ≡ (played request s.prepared).0
  pub counts_are : s.counts
      ≡ counted (is_disturbed s.word s.repeated s.answer) (length (requests_in request)) (strange_handed every_name request s.answer) (disturbances_in s.played)
  pub handed_is : s.handed ≡ handed request s.word s.answer s.played
  pub after_is : s.after ≡ with_disturbances s.counts s.handed

clean : (nothing : NothingIsDelivered) (names : Names) (request : List ℕ) (s : Steps) → AreSteps names request s → IsUndisturbed s.word s.repeated s.answer
    → IsClean names (past_in s.before) request s.answer (past_in s.after)
clean nothing names request s are is =
    let bytes = batch_reply s.prepared.stock request (pos 0) in
    let answered : s.answer ≡ Some bytes = are.answer_is ∙ pass_answer request s.prepared s.word are.word_is is.word_is in
    let given_is : is.given ≡ bytes = same_Some _ _ (sym is.answer_is ∙ answered) in
    record {
      given = bytes;
      before = past_in (asked_only s.before.asked s.prepared);
      served = past_in s.played;
      after = past_in s.played;
      early = are.early (sym are.repeated_is ∙ is.first);
      taken = subst (λ p. AreTaken (stops_in request) (parts_in request) (replies_in bytes) p (past_in s.played)) are.joins
          (are.taken (sym are.word_is ∙ is.word_is));
      roomy = subst (λ given. All HasRoom (replies_in given)) given_is is.roomy;
      late = nothing names (past_in s.played);
      answer_is = answered;
      is = ap past_in are.after_is ∙ ap past_in are.handed_is;
    }

pub is_counted : (nothing : NothingIsDelivered) (names : Names) (request : List ℕ) (s : Steps) → AreSteps names request s
    → IsCounted names (past_in s.before) request s.answer (past_in s.after) (disturbances_in s.before) (disturbances_in s.after)
is_counted nothing names request s are =
    let kept : disturbances_in s.played ≡ disturbances_in s.before =
    ap disturbances_in are.played_is ∙ played_keeps request s.prepared ∙ ap disturbances_in are.prepared_is ∙ prepared_keeps request s.before in
    let disturbed = is_disturbed s.word s.repeated s.answer in
    let asked = length (requests_in request) in
    let strange = strange_handed every_name request s.answer in
    let now : disturbances_in s.after ≡ counted disturbed asked strange (disturbances_in s.before) =
    ap disturbances_in are.after_is ∙ are.counts_are ∙ ap (counted disturbed asked strange) kept in
    elim (cases_Bool disturbed) [
      | inr calm ↦ inl (
        clean nothing names request s are (undisturbed s.word s.repeated s.answer calm),
        now ∙ ap (λ b. counted b asked strange (disturbances_in s.before)) calm,
      )
      | inl so ↦ inr (strange, no_more_strange names request s.answer, now ∙ ap (λ b. counted b asked strange (disturbances_in s.before)) so)
    ]
