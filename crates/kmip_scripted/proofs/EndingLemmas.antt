-- Where runs end: the end of a run notes it, and nothing else does.
use Rattle.std.proofs.Common.{◌≡◌, ℕ, nat_le, Bool, true, false, if◌then◌else◌, List, [], ◌∷◌, ◌++◌, length, Option, Some, None, refl, sym, ap, subst, ◌∙◌, inl, inr}
use Rattle.std.proofs.lemmas.Bool.{cases_Bool}
use Rattle.kmip_protocol.specs.Ending.{EndedAt}
use Rattle.kmip_scripted.specs.declared.word.Word.{Word}
use Rattle.kmip_scripted.specs.declared.word.Word.TheVariants.{Pass, LoseRequest, LoseReply, Cut, Stale, Again, Save, Prolong, Restart, Crash}
use Rattle.kmip_scripted.specs.Scenes.{Scene}
use Rattle.kmip_scripted.specs.Serving.{with_served}
use Rattle.kmip_scripted.specs.Words.{AreBegun, IsBegun, after_run, after_word, after_words, before_play, exchange, exchange_word, goes_on, message_at, play, with_delivered, with_request, with_words, words_after_exchange}
use Rattle.kmip_scripted.proofs.WordLemmas.{half_done_is, half_played_is, only_served}

-- nothing was sent, and no run ended
record NoneEnds (old new : Scene) : Type 0 where
  sent_stays : new.sent ≡ old.sent
  ended_stays : new.ended ≡ old.ended

none_ends : (s : Scene) → NoneEnds s s
none_ends s = record { sent_stays = refl; ended_stays = refl }

none_delivered : (message : Option (List ℕ)) (s : Scene) → NoneEnds s (with_delivered message s)
none_delivered None s = record { sent_stays = refl; ended_stays = refl }
none_delivered (Some message) s = record { sent_stays = refl; ended_stays = refl }

none_by_word : (word : Word) (s : Scene) → NoneEnds s (after_word word s)
none_by_word Pass s = none_ends s
none_by_word LoseRequest s = none_ends s
none_by_word LoseReply s = none_ends s
none_by_word (Cut size) s = none_ends s
none_by_word (Stale number) s = none_ends s
none_by_word (Again number) s = none_delivered (message_at number s.asked) s
none_by_word Save s = none_ends s
none_by_word Prolong s = none_ends s
none_by_word (Restart start) s = none_ends s
none_by_word (Crash crash) s = none_ends s

none_then : (word : Word) (words : List Word) (s new : Scene) → NoneEnds (with_words words (after_word word s)) new → NoneEnds s new
none_then word words s new later =
    let first = none_by_word word s in
    record { sent_stays = later.sent_stays ∙ first.sent_stays; ended_stays = later.ended_stays ∙ first.ended_stays }

none_by : (goes : Bool) (s later : Scene) → NoneEnds s later → NoneEnds s (if goes then later else s)
none_by true s later none = none
none_by false s later none = none_ends s

none_by_words : (at_end : Bool) (words : List Word) (s : Scene) → NoneEnds s (after_words at_end words s)
none_by_words at_end [] s = none_ends s
none_by_words at_end (word ∷ words) s =
    none_by (goes_on at_end word) s (after_words at_end words (with_words words (after_word word s)))
    (none_then word words s (after_words at_end words (with_words words (after_word word s))) (none_by_words at_end words (with_words words (after_word word s))))

none_served : (s new : Scene) → new ≡ only_served new s → NoneEnds s new
none_served s new is = record { sent_stays = ap (λ t. t.sent) is; ended_stays = ap (λ t. t.ended) is }

none_begun : (at_end : Bool) (words : List Word) (s new : Scene) → AreBegun at_end words s new → NoneEnds s new
none_begun at_end [] s new same = subst (NoneEnds s) (sym same) (none_ends s)
none_begun at_end (word ∷ words) s new (inl same) = subst (NoneEnds s) (sym same) (none_ends s)
none_begun at_end (word ∷ words) s new (inr (goes, inl half)) = none_served s new (half_done_is word s new half)
none_begun at_end (word ∷ words) s new (inr (goes, inr begun)) =
    none_then word words s new (none_begun at_end words (with_words words (after_word word s)) new begun)

-- ---- an exchange

served_or_not : (b : Bool) (request : List ℕ) (s : Scene) → (if b then with_served request s else s).ended ≡ s.ended
served_or_not true request s = refl
served_or_not false request s = refl

play_ended : (word : Word) (request : List ℕ) (s : Scene) → (play word request s).1.ended ≡ s.ended
play_ended Pass request s = refl
play_ended LoseRequest request s = refl
play_ended LoseReply request s = refl
play_ended (Cut size) request s = served_or_not (nat_le (length request) size) request s
play_ended (Stale number) request s = refl
play_ended (Again number) request s = refl
play_ended Save request s = refl
play_ended Prolong request s = refl
play_ended (Restart next) request s = refl
play_ended (Crash crash) request s = refl

before_ended : (request : List ℕ) (s : Scene) → (before_play request s).ended ≡ s.ended
before_ended request s = (none_by_words false s.words (with_request request s)).ended_stays

played_ended : (request : List ℕ) (s : Scene) → (exchange request s).1.ended ≡ s.ended
played_ended request s =
    let before = before_play request s in
    play_ended (exchange_word before.words) request (with_words (words_after_exchange before.words) before) ∙ before_ended request s

pub exchange_ended : (request : List ℕ) (old new : Scene) → new ≡ (exchange request old).1 → new.ended ≡ old.ended
exchange_ended request old new is = ap (λ s. s.ended) is ∙ played_ended request old

pub begun_ended : (request : List ℕ) (old new : Scene) → IsBegun request old new → new.ended ≡ old.ended
begun_ended request old new (inl (inl same)) = ap (λ s. s.ended) same
begun_ended request old new (inl (inr begun)) = (none_begun false old.words (with_request request old) new begun).ended_stays
begun_ended request old new (inr (inl taken)) = ap (λ s. s.ended) taken ∙ before_ended request old
begun_ended request old new (inr (inr (inl done))) = ap (λ s. s.ended) done ∙ played_ended request old
begun_ended request old new (inr (inr (inr half))) =
    let before = before_play request old in
    ap (λ s. s.ended) (half_played_is (exchange_word before.words) request (with_words (words_after_exchange before.words) before) new half) ∙ before_ended request old

-- ---- the end of a run

pub run_ended : (old new : Scene) → new ≡ after_run old → EndedAt (length old.sent) old.ended new.ended
run_ended old new is =
    let none = none_by_words true old.words old in
    ap (λ s. s.ended) is ∙ ap (λ ns. ns ++ length (after_words true old.words old).sent ∷ []) none.ended_stays
    ∙ ap (λ sent. old.ended ++ length sent ∷ []) none.sent_stays

pub run_begun : (old new : Scene) → AreBegun true old.words old new → new.ended ≡ old.ended
run_begun old new begun = (none_begun true old.words old new begun).ended_stays

all_by : (at_end : Bool) (word : Word) (words : List Word) (s : Scene) → AreBegun at_end words (with_words words (after_word word s))
    (after_words at_end words (with_words words (after_word word s))) → AreBegun at_end (word ∷ words) s (after_words at_end (word ∷ words) s)
all_by at_end word words s later = elim (cases_Bool (goes_on at_end word)) [
  | inl on ↦ inr (on, inr (rw on later))
  | inr off ↦ inl (rw off refl)
]

-- all of them is a beginning
all_begun : (at_end : Bool) (words : List Word) (s : Scene) → AreBegun at_end words s (after_words at_end words s)
all_begun at_end [] s = refl
all_begun at_end (word ∷ words) s = all_by at_end word words s (all_begun at_end words (with_words words (after_word word s)))

-- the words of a run were done, and its end was not noted
pub run_unnoted : (old mid new : Scene) → mid ≡ after_words true old.words old → new ≡ mid → AreBegun true old.words old new
run_unnoted old mid new done same = subst (AreBegun true old.words old) (sym (same ∙ done)) (all_begun true old.words old)
