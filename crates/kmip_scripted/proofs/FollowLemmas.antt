-- An exchange, put together: what was asked, what happened, and what was handed over.
use Rattle.std.proofs.Common.{◌≡◌, ℕ, pos, Bool, false, List, [], ◌∷◌, ◌++◌, append-nil, length, Option, Some, None, IfSome, refl, sym, ap, subst, ◌∙◌, inl, inr}
use Rattle.std.specs.List.{All, Contains, flat_map}
use Rattle.std.proofs.lemmas.Grind.{flat_map-append}
use Rattle.std.proofs.lemmas.List.Elements.{All-contains_itself, All-weaker, Contains-append_right}
use Rattle.kmip_messages.specs.Items.{parts_in, replies_in, requests_in, stops_in}
use Rattle.kmip_server.specs.Batching.{batch_reply}
use Rattle.kmip_protocol.specs.Calm.{AreTaken, Calmly}
use Rattle.kmip_protocol.specs.Clean.{Disturbances, strange_handed}
use Rattle.kmip_protocol.specs.Exchanges.{AreGiven, HandsOver, with_asked}
use Rattle.kmip_protocol.specs.Moves.{Delivered}
use Rattle.kmip_protocol.specs.Past.{Names}
use Rattle.kmip_scripted.specs.declared.word.Word.{Word}
use Rattle.kmip_scripted.specs.declared.word.Word.TheVariants.{Pass, LoseRequest, LoseReply, Cut, Stale, Again, Save, Prolong, Restart, Crash}
use Rattle.kmip_scripted.specs.Counting.{counted, every_name}
use Rattle.kmip_scripted.specs.Disturbing.{is_disturbed, is_repeated}
use Rattle.kmip_scripted.specs.Scenes.{Scene, disturbances_in, past_in, with_disturbances}
use Rattle.kmip_scripted.specs.Private.{WasAsked}
use Rattle.kmip_scripted.specs.Words.{AreBegun, IsBegun, after_words, before_play, exchange, exchange_word, message_at, play, played, with_request, with_words, words_after_exchange}
use Rattle.kmip_scripted.proofs.WordLemmas.{half_played_is, said_by_number}

said_last : {R : Type 0} (f : List ℕ → List R) (messages : List (List ℕ)) (message : List ℕ) → flat_map f (messages ++ message ∷ []) ≡ flat_map f messages ++ f message
said_last f messages message =
    flat_map-append f messages (message ∷ []) ∙ ap (λ more. flat_map f messages ++ more) (append-nil (f message))

last_is_said : {R : Type 0} (f : List ℕ → List R) (messages : List (List ℕ)) (message : List ℕ) → All (Contains (flat_map f (messages ++ message ∷ []))) (f message)
last_is_said f messages message =
    subst (λ all. All (Contains all) (f message)) (sym (said_last f messages message))
    (All-weaker (Contains (f message)) (Contains (flat_map f messages ++ f message))
    (λ r has. Contains-append_right (flat_map f messages) (f message) r has) (f message) (All-contains_itself (f message)))

pub request_is_asked : (request : List ℕ) (s : Scene) → WasAsked request (with_request request s)
request_is_asked request s = last_is_said requests_in s.asked request

pub asked_past : (request : List ℕ) (s : Scene) → past_in (with_request request s) ≡ with_asked request (past_in s)
asked_past request s = ap (λ requests. record (past_in s) { requests = requests }) (said_last requests_in s.asked request)

pub joined_past : (names : Names) (request : List ℕ) (s mid new : Scene) → mid ≡ with_request request s → Delivered names (past_in mid) (past_in new)
    → Delivered names (with_asked request (past_in s)) (past_in new)
joined_past names request s mid new is delivered =
    subst (λ p. Delivered names p (past_in new)) (ap past_in is ∙ asked_past request s) delivered

pub still_asked : (request : List ℕ) (s mid new : Scene) → mid ≡ with_request request s → (past_in new).requests ≡ (past_in mid).requests → WasAsked request new
still_asked request s mid new is same =
    subst (λ requests. All (Contains requests) (requests_in request)) (sym (same ∙ ap (λ m. (past_in m).requests) is)) (request_is_asked request s)

stale_given : (number : ℕ) (s : Scene) (found : Option (List ℕ)) → message_at number s.given ≡ found → IfSome found (AreGiven (past_in s))
stale_given number s None is = tt
stale_given number s (Some given) is = said_by_number replies_in number s.given given is

play_given : (word : Word) (request : List ℕ) (s : Scene) → IfSome (play word request s).0 (AreGiven (past_in (play word request s).1))
play_given Pass request s = last_is_said replies_in s.given (batch_reply s.stock request (pos 0))
play_given LoseRequest request s = tt
play_given LoseReply request s = tt
play_given (Cut size) request s = tt
play_given (Stale number) request s = stale_given number s (message_at number s.given) refl
play_given (Again number) request s = last_is_said replies_in s.given (batch_reply s.stock request (pos 0))
play_given Save request s = last_is_said replies_in s.given (batch_reply s.stock request (pos 0))
play_given Prolong request s = last_is_said replies_in s.given (batch_reply s.stock request (pos 0))
play_given (Restart start) request s = last_is_said replies_in s.given (batch_reply s.stock request (pos 0))
play_given (Crash crash) request s = last_is_said replies_in s.given (batch_reply s.stock request (pos 0))

abbrev pub handed : List ℕ → Word → Option (List ℕ) → Scene → Scene
handed request word answer s = record s { sent = s.sent ++ request ∷ []; followed = s.followed ++ word ∷ []; handed = s.handed ++ answer ∷ [] }

pub hands_over : (names : Names) (request : List ℕ) (old prepared mid last new : Scene) (word : Word) (answer : Option (List ℕ)) (counts : Disturbances)
    → Delivered names (with_asked request (past_in old)) (past_in mid) → mid ≡ (played request prepared).1 → answer ≡ (played request prepared).0
    → last ≡ handed request word answer mid → new ≡ with_disturbances counts last → HandsOver names (past_in old) request answer (past_in new)
hands_over names request old prepared mid last new word answer counts delivered was is now more = record {
  between = past_in mid;
  delivered = delivered;
  given = subst (λ a. IfSome a (AreGiven (past_in mid))) (sym is)
      (subst (λ m. IfSome (played request prepared).0 (AreGiven (past_in m))) (sym was)
      (play_given (exchange_word prepared.words) request (with_words (words_after_exchange prepared.words) prepared)));
  is = ap past_in more ∙ ap past_in now;
}

-- what is handed over, and counted
abbrev counted_by : List ℕ → Bool → Word → Option (List ℕ) → Scene → Scene
counted_by request repeated word answer s =
    with_disturbances (counted (is_disturbed word repeated answer) (length (requests_in request)) (strange_handed every_name request answer) (disturbances_in s))
    (handed request word answer s)

pub exact_is : (request : List ℕ) (old prepared mid last new : Scene) (word : Word) (repeated : Bool) (answer : Option (List ℕ)) (counts : Disturbances)
    → repeated ≡ is_repeated (length old.asked) old.words → prepared ≡ before_play request old → word ≡ exchange_word prepared.words
    → mid ≡ (played request prepared).1 → answer ≡ (played request prepared).0
    → counts ≡ counted (is_disturbed word repeated answer) (length (requests_in request)) (strange_handed every_name request answer) (disturbances_in mid)
    → last ≡ handed request word answer mid → new ≡ with_disturbances counts last → new ≡ (exchange request old).1
exact_is request old prepared mid last new word repeated answer counts again was next left is counts_are now more =
    more ∙ ap (with_disturbances counts) now ∙ ap (λ d. with_disturbances d (handed request word answer mid)) counts_are
    ∙ ap (counted_by request repeated word answer) left ∙ ap (λ a. counted_by request repeated word a (played request prepared).1) is
    ∙ ap (λ w. counted_by request repeated w (played request prepared).0 (played request prepared).1) next
    ∙ ap (λ r. counted_by request r (exchange_word prepared.words) (played request prepared).0 (played request prepared).1) again
    ∙ ap (λ s. counted_by request (is_repeated (length old.asked) old.words) (exchange_word s.words) (played request s).0 (played request s).1) was

pub answer_is : (request : List ℕ) (old prepared : Scene) (answer : Option (List ℕ)) → prepared ≡ before_play request old
    → answer ≡ (played request prepared).0 → answer ≡ (exchange request old).0
answer_is request old prepared answer was is = is ∙ ap (λ s. (played request s).0) was

-- ---- where no word is left

calm_prepared : (request : List ℕ) (s : Scene) → s.words ≡ [] → before_play request s ≡ with_request request s
calm_prepared request s none = ap (λ words. after_words false words (with_request request s)) none

calm_answer : (request : List ℕ) (s : Scene) → s.words ≡ [] → (played request s).0 ≡ Some (batch_reply s.stock request (pos 0))
calm_answer request s none = ap (λ words. (play (exchange_word words) request (with_words (words_after_exchange words) s)).0) none

calm_words : (request : List ℕ) (s : Scene) → s.words ≡ [] → (played request s).1.words ≡ []
calm_words request s none = ap (λ words. (play (exchange_word words) request (with_words (words_after_exchange words) s)).1.words) none

pub calmly_done : (request : List ℕ) (old prepared mid last new : Scene) (word : Word) (answer : Option (List ℕ)) (counts : Disturbances) → old.words ≡ [] → prepared ≡ before_play request old
    → (exchange_word prepared.words ≡ Pass → AreTaken (stops_in request) (parts_in request) (replies_in (batch_reply prepared.stock request (pos 0))) (past_in prepared) (past_in mid))
    → answer ≡ (played request prepared).0 → last ≡ handed request word answer mid → new ≡ with_disturbances counts last → Calmly (past_in old) request answer (past_in new)
calmly_done request old prepared mid last new word answer counts none was taken is now more =
    let ready : prepared ≡ with_request request old = was ∙ calm_prepared request old none in
    let empty : prepared.words ≡ [] = ap (λ s. s.words) ready ∙ none in
    let from = subst (λ s. AreTaken (stops_in request) (parts_in request) (replies_in (batch_reply s.stock request (pos 0))) (past_in s) (past_in mid)) ready (taken (ap exchange_word empty)) in
    record {
      given = batch_reply old.stock request (pos 0);
      between = past_in mid;
      taken = subst (λ p. AreTaken (stops_in request) (parts_in request) (replies_in (batch_reply old.stock request (pos 0))) p (past_in mid)) (asked_past request old) from;
      answer_is = is ∙ calm_answer request prepared empty ∙ ap (λ s. Some (batch_reply s.stock request (pos 0))) ready;
      is = ap past_in more ∙ ap past_in now;
    }

pub calm_stays : (request : List ℕ) (old new : Scene) → old.words ≡ [] → new ≡ (exchange request old).1 → new.words ≡ []
calm_stays request old new none is =
    let ready = calm_prepared request old none in
    ap (λ s. s.words) is ∙ ap (λ s. (played request s).1.words) ready ∙ calm_words request (with_request request old) none

calm_begun : (request : List ℕ) (words : List Word) (s new : Scene) → words ≡ [] → AreBegun false words s new → new ≡ s
calm_begun request words s new none begun = subst (λ ws. AreBegun false ws s new) none begun

pub calm_stays_begun : (request : List ℕ) (old new : Scene) → old.words ≡ [] → IsBegun request old new → new.words ≡ []
calm_stays_begun request old new none (inl (inl same)) = ap (λ s. s.words) same ∙ none
calm_stays_begun request old new none (inl (inr begun)) =
    ap (λ s. s.words) (calm_begun request old.words (with_request request old) new none begun) ∙ none
calm_stays_begun request old new none (inr (inl taken)) =
    ap (λ s. s.words) taken ∙ ap words_after_exchange (ap (λ s. s.words) (calm_prepared request old none) ∙ none)
calm_stays_begun request old new none (inr (inr (inr half))) =
    let before = before_play request old in
    ap (λ s. s.words) (half_played_is (exchange_word before.words) request (with_words (words_after_exchange before.words) before) new half)
    ∙ ap words_after_exchange (ap (λ s. s.words) (calm_prepared request old none) ∙ none)
calm_stays_begun request old new none (inr (inr (inl done))) =
    ap (λ s. s.words) done ∙ ap (λ s. (played request s).1.words) (calm_prepared request old none) ∙ calm_words request (with_request request old) none
