-- The counts of a link in memory: they stay until an exchange is handed over, and what is counted as strange by every name.
use Rattle.std.proofs.Common.{◌≡◌, ◌≢◌, ◌≤◌, ◌==◌, ℕ, nat_le, pos, Bool, true, false, not, ◌&&◌, length, filter, if◌then◌else◌, List, [], ◌∷◌, Option, Some, None, Ok, refl, sym, ap, subst, ◌∙◌, inl, inr, arith, eq-eqb}
use Rattle.std.specs.List.{All, list_any}
use Rattle.std.proofs.lemmas.Bool.{cases_Bool, eqb-true, or_from, or_parts}
use Rattle.std.proofs.lemmas.List.Elements.{All-cons, All-head, All-nil, All-tail}
use Rattle.kmip_messages.specs.Items.{replies_in, requests_in}
use Rattle.kmip_batch_items.specs.declared.outcome.Outcome.{Outcome}
use Rattle.kmip_batch_items.specs.declared.outcome.Outcome.TheVariants.{Created, Located, Attributes, Activated, Revoked, Destroyed, Failed}
use Rattle.kmip_batch_items.specs.declared.reply.Reply.{Reply}
use Rattle.kmip_batch_items.specs.declared.request.Request.{Request}
use Rattle.kmip_batch_items.specs.declared.standard.TheConstants.{REASON_SERVER_FULL}
use Rattle.kmip_server.specs.Batching.{batch_reply}
use Rattle.kmip_protocol.specs.Clean.{AreNoFewer, HasRoom, IsRoomy, but_of, is_name_of, names_one, strange_handed}
use Rattle.kmip_protocol.specs.Past.{Names}
use Rattle.kmip_scripted.specs.declared.word.Word.{Word}
use Rattle.kmip_scripted.specs.declared.word.Word.TheVariants.{Pass, LoseRequest, LoseReply, Cut, Stale, Again, Save, Prolong, Restart, Crash}
use Rattle.kmip_scripted.specs.Counting.{counted, every_name, is_full, is_full_outcome}
use Rattle.kmip_scripted.specs.Scenes.{Scene, disturbances_in}
use Rattle.kmip_scripted.specs.Serving.{with_served}
use Rattle.kmip_scripted.specs.Words.{AreBegun, IsBegun, after_run, after_word, after_words, before_play, exchange, exchange_word, goes_on, message_at, play, played, with_delivered, with_request, with_words, words_after_exchange}
use Rattle.kmip_scripted.proofs.WordLemmas.{half_done_is, half_played_is}

-- ---- until an exchange is handed over

word_keeps : (word : Word) (s : Scene) → disturbances_in (after_word word s) ≡ disturbances_in s
word_keeps Pass s = refl
word_keeps LoseRequest s = refl
word_keeps LoseReply s = refl
word_keeps (Cut size) s = refl
word_keeps (Stale number) s = refl
word_keeps (Again number) s = delivered (message_at number s.asked) s where
  delivered : (message : Option (List ℕ)) (s : Scene) → disturbances_in (with_delivered message s) ≡ disturbances_in s
  delivered None s = refl
  delivered (Some message) s = refl
word_keeps Save s = refl
word_keeps Prolong s = refl
word_keeps (Restart start) s = refl
word_keeps (Crash crash) s = refl

pub words_keep : (at_end : Bool) (words : List Word) (s : Scene) → disturbances_in (after_words at_end words s) ≡ disturbances_in s
words_keep at_end [] s = refl
words_keep at_end (word ∷ words) s =
    going (goes_on at_end word) (after_words at_end words (with_words words (after_word word s))) s
    (words_keep at_end words (with_words words (after_word word s)) ∙ word_keeps word s) where
      going : (goes : Bool) (gone s : Scene) → disturbances_in gone ≡ disturbances_in s → disturbances_in (if goes then gone else s) ≡ disturbances_in s
      going true gone s same = same
      going false gone s same = refl

pub begun_keep : (at_end : Bool) (words : List Word) (s new : Scene) → AreBegun at_end words s new → disturbances_in new ≡ disturbances_in s
begun_keep at_end [] s new is = ap disturbances_in is
begun_keep at_end (word ∷ words) s new (inl is) = ap disturbances_in is
begun_keep at_end (word ∷ words) s new (inr (goes, inl half)) = ap disturbances_in (half_done_is word s new half)
begun_keep at_end (word ∷ words) s new (inr (goes, inr begun)) =
    begun_keep at_end words (with_words words (after_word word s)) new begun ∙ word_keeps word s

play_keeps : (word : Word) (request : List ℕ) (s : Scene) → disturbances_in (play word request s).1 ≡ disturbances_in s
play_keeps Pass request s = refl
play_keeps LoseRequest request s = refl
play_keeps LoseReply request s = refl
play_keeps (Cut size) request s = cut (nat_le (length request) size) s where
  cut : (whole : Bool) (s : Scene) → disturbances_in (if whole then with_served request s else s) ≡ disturbances_in s
  cut true s = refl
  cut false s = refl
play_keeps (Stale number) request s = refl
play_keeps (Again number) request s = refl
play_keeps Save request s = refl
play_keeps Prolong request s = refl
play_keeps (Restart start) request s = refl
play_keeps (Crash crash) request s = refl

pub played_keeps : (request : List ℕ) (s : Scene) → disturbances_in (played request s).1 ≡ disturbances_in s
played_keeps request s = play_keeps (exchange_word s.words) request (with_words (words_after_exchange s.words) s)

pub prepared_keeps : (request : List ℕ) (s : Scene) → disturbances_in (before_play request s) ≡ disturbances_in s
prepared_keeps request s = words_keep false s.words (with_request request s)

pub exchange_begun_keeps : (request : List ℕ) (s new : Scene) → IsBegun request s new → disturbances_in new ≡ disturbances_in s
exchange_begun_keeps request s new (inl (inl same)) = ap disturbances_in same
exchange_begun_keeps request s new (inl (inr begun)) = begun_keep false s.words (with_request request s) new begun
exchange_begun_keeps request s new (inr (inl taken)) = ap disturbances_in taken ∙ prepared_keeps request s
exchange_begun_keeps request s new (inr (inr (inl done))) =
    ap disturbances_in done ∙ played_keeps request (before_play request s) ∙ prepared_keeps request s
exchange_begun_keeps request s new (inr (inr (inr half))) =
    let before = before_play request s in
    ap disturbances_in (half_played_is (exchange_word before.words) request (with_words (words_after_exchange before.words) before) new half) ∙ prepared_keeps request s

pub run_keeps : (s : Scene) → disturbances_in (after_run s) ≡ disturbances_in s
run_keeps s = words_keep true s.words s

pub no_fewer : (s new : Scene) → disturbances_in new ≡ disturbances_in s → AreNoFewer (disturbances_in s) (disturbances_in new)
no_fewer s new same = subst (AreNoFewer (disturbances_in s)) (sym same) (omega arith, omega arith, omega arith)

-- ---- room

full_is : (outcome : Outcome) → outcome ≢ Failed (Some REASON_SERVER_FULL) → is_full_outcome outcome ≡ false
full_is (Created uid) other = refl
full_is (Located uids) other = refl
full_is (Attributes uid attrs) other = refl
full_is (Activated uid) other = refl
full_is (Revoked uid) other = refl
full_is (Destroyed uid) other = refl
full_is (Failed None) other = refl
full_is (Failed (Some reason)) other = elim (cases_Bool (reason == REASON_SERVER_FULL)) [
  | inl same ↦ absurd (other (ap (λ r. Failed (Some r)) (eqb-true reason REASON_SERVER_FULL same)))
  | inr differs ↦ differs
]

has_room : (reply : Reply) → is_full reply ≡ false → HasRoom reply
has_room reply roomy = λ full.
    let is : is_full reply ≡ true = ap is_full_outcome full ∙ eq-eqb REASON_SERVER_FULL REASON_SERVER_FULL refl in absurd cc

pub have_room : (replies : List Reply) → list_any is_full replies ≡ false → All HasRoom replies
have_room [] roomy = All-nil HasRoom
have_room (reply ∷ replies) roomy =
    let parts = or_parts (is_full reply) (list_any is_full replies) roomy in
    All-cons HasRoom reply replies (has_room reply parts.0) (have_room replies parts.1)

none_is_full : (replies : List Reply) → All HasRoom replies → list_any is_full replies ≡ false
none_is_full [] roomy = refl
none_is_full (reply ∷ replies) roomy =
    or_from (is_full reply) (list_any is_full replies) (full_is reply.outcome (All-head HasRoom reply replies roomy))
    (none_is_full replies (All-tail HasRoom reply replies roomy))

-- ---- what is strange by some names is so by every name

other_by : (in_names own : Bool) → not own ≡ false → (in_names && not own) ≡ false
other_by true own is = is
other_by false own is = refl

one_by : (requests : List Request) (names : Names) (id : Option (List ℕ)) → names_one (but_of requests every_name) id ≡ false
    → names_one (but_of requests names) id ≡ false
one_by requests names None is = refl
one_by requests names (Some []) is = refl
one_by requests names (Some (operation ∷ name)) is = other_by (names name) (list_any (is_name_of name) requests) is

-- where each row that is not of the other kind is not of this one, no more are of this one
no_more : {R : Type 0} (one other : R → Bool) → ((row : R) → other row ≡ false → one row ≡ false) → (rows : List R)
    → length (filter one rows) ≤ length (filter other rows)
no_more one other is [] = omega arith
no_more one other is (row ∷ rows) =
    let rest = no_more one other is rows in
    elim (cases_Bool (other row)) [
      | inl so ↦ elim (cases_Bool (one row)) [
        | inl too ↦ rw (so, too) (omega (arith, rest))
        | inr differs ↦ rw (so, differs) (omega (arith, rest))
      ]
      | inr differs ↦ let too = is row differs in rw (differs, too) rest
    ]

pub no_more_strange : (names : Names) (sent : List ℕ) (answer : Option (List ℕ)) → strange_handed names sent answer ≤ strange_handed every_name sent answer
no_more_strange names sent None = omega arith
no_more_strange names sent (Some given) =
    no_more (λ reply. names_one (but_of (requests_in sent) names) reply.id) (λ reply. names_one (but_of (requests_in sent) every_name) reply.id)
    (λ reply. one_by (requests_in sent) names reply.id) (replies_in given)

-- ---- where no word is left, and the server has room

calm_kept : (request : List ℕ) (s : Scene) → All HasRoom (replies_in (batch_reply s.stock request (pos 0)))
    → disturbances_in (exchange request (with_words [] s)).1 ≡ disturbances_in s
calm_kept request s roomy =
    ap (λ disturbed. counted disturbed (length (requests_in request)) (strange_handed every_name request (Some (batch_reply s.stock request (pos 0)))) (disturbances_in s))
    (none_is_full (replies_in (batch_reply s.stock request (pos 0))) roomy)

pub calm_is_kept : (request : List ℕ) (s : Scene) → s.words ≡ [] → IsRoomy (Ok (exchange request s).0)
    → disturbances_in (exchange request s).1 ≡ disturbances_in s
calm_is_kept request s none roomy =
    let is : s ≡ with_words [] s = ap (λ words. with_words words s) none in
    ap (λ t. disturbances_in (exchange request t).1) is ∙ calm_kept request s (subst (λ t. IsRoomy (Ok (exchange request t).0)) is roomy)
