-- The words that are left, as they are taken one by one.
use Rattle.std.proofs.Common.{◌≡◌, ◌<◌, ◌==◌, ◌-◌, ℕ, zero, suc, Bool, true, false, if◌then◌else◌, List, [], ◌∷◌, ◌++◌, drop, length, Option, Some, None, Result, Ok, Err, OnErr, refl, sym, ap, subst, ◌∙◌, inl, inr, arith}
use Rattle.std.specs.List.{All, Contains, flat_map, slice_get}
use Rattle.std.proofs.lemmas.Bool.{cases_Bool}
use Rattle.std.proofs.lemmas.List.Elements.{All-contains_itself, All-weaker, Contains-append_left, Contains-append_right}
use Rattle.std.proofs.lemmas.Option.{same_Some}
use Rattle.kmip_messages.specs.Items.{requests_in}
use Rattle.kmip_scripted.specs.declared.word.Word.{Word}
use Rattle.kmip_scripted.specs.declared.word.Word.TheVariants.{Pass, LoseRequest, LoseReply, Cut, Stale, Again, Save, Prolong, Restart, Crash}
use Rattle.kmip_scripted.specs.Scenes.{Scene}
use Rattle.kmip_scripted.specs.Private.{WasAsked}
use Rattle.kmip_scripted.specs.Serving.{IsHalfServed}
use Rattle.kmip_scripted.specs.Words.{AreBegun, IsHalfDelivered, IsHalfDone, IsHalfPlayed, after_word, after_words, goes_on, is_restart, message_at, next_words, with_delivered, with_words}
use Rattle.kmip_scripted.specs.Private.{HasStopped, StepsOn, first_of}

pub next_restart : (words : List Word) (word : Word) → Some word ≡ first_of words → is_restart word ≡ true → next_words (drop 1 words) ≡ next_words words
next_restart [] word first is = absurd cc
next_restart (own ∷ words) word first is =
    let restart : is_restart own ≡ true = ap is_restart (sym (same_Some _ _ first)) ∙ is in
    rw restart refl

pub next_other : (words : List Word) (word : Word) → Some word ≡ first_of words → is_restart word ≡ false → words ≡ next_words words
next_other [] word first is = absurd cc
next_other (own ∷ words) word first is =
    let other : is_restart own ≡ false = ap is_restart (sym (same_Some _ _ first)) ∙ is in
    rw other refl

pub next_none : (words : List Word) → None ≡ first_of words → words ≡ next_words words
next_none [] none = refl
next_none (own ∷ words) none = absurd cc

pub shorter : (words : List Word) (word : Word) → Some word ≡ first_of words → length (drop 1 words) < length words
shorter [] word first = absurd cc
shorter (own ∷ words) word first = omega arith

steps_by : (at_end : Bool) (own : Word) (words : List Word) (s : Scene) → goes_on at_end own ≡ true
    → after_words at_end words (with_words words (after_word own s)) ≡ after_words at_end (own ∷ words) s
steps_by at_end own words s goes = rw goes refl

-- a word that goes on was done and taken
pub steps_on : (at_end : Bool) (words : List Word) (word : Word) (s new : Scene) → s.words ≡ words → Some word ≡ first_of words → goes_on at_end word ≡ true
    → new ≡ with_words (drop 1 words) (after_word word s) → StepsOn at_end s new
steps_on at_end [] word s new are first goes is = absurd cc
steps_on at_end (own ∷ words) word s new are first goes is =
    let same : word ≡ own = same_Some _ _ first in
    let on : goes_on at_end own ≡ true = ap (goes_on at_end) (sym same) ∙ goes in
    let now : new ≡ with_words words (after_word own s) = is ∙ ap (λ w. with_words words (after_word w s)) same in
    subst (StepsOn at_end s) (sym now) (record {
      all = steps_by at_end own words s on ∙ sym (ap (λ ws. after_words at_end ws s) are);
      begun = λ last begun. subst (λ ws. AreBegun at_end ws s last) (sym are) (inr (on, inr begun));
      shorter = subst (λ ws. length words < length ws) (sym are) (omega arith);
    })

stops_by : (at_end : Bool) (own : Word) (words : List Word) (s : Scene) → goes_on at_end own ≡ false → s ≡ after_words at_end (own ∷ words) s
stops_by at_end own words s stays = rw stays refl

pub has_stopped : (at_end : Bool) (words : List Word) (word : Word) (s : Scene) → s.words ≡ words → Some word ≡ first_of words → goes_on at_end word ≡ false
    → HasStopped at_end s s
has_stopped at_end [] word s are first stays = absurd cc
has_stopped at_end (own ∷ words) word s are first stays =
    let off : goes_on at_end own ≡ false = ap (goes_on at_end) (sym (same_Some _ _ first)) ∙ stays in
    record { same = refl; is = stops_by at_end own words s off ∙ sym (ap (λ ws. after_words at_end ws s) are) }

pub has_ended : (at_end : Bool) (words : List Word) (s : Scene) → s.words ≡ words → None ≡ first_of words → HasStopped at_end s s
has_ended at_end [] s are none = record { same = refl; is = sym (ap (λ ws. after_words at_end ws s) are) }
has_ended at_end (own ∷ words) s are none = absurd cc

-- where a word is done by half, nothing but the records and the effects may change
abbrev pub only_served : Scene → Scene → Scene
only_served new s = record s { stock = new.stock; effects = new.effects }

pub half_served_is : (message : List ℕ) (s new : Scene) → IsHalfServed message s new → new ≡ only_served new s
half_served_is message s new (more, is, begun) =
    is ∙ ap (λ effects. record s { stock = new.stock; effects = effects }) (sym (ap (λ t. t.effects) is))

half_delivered_is : (message : Option (List ℕ)) (s new : Scene) → IsHalfDelivered message s new → new ≡ only_served new s
half_delivered_is None s new half = absurd half
half_delivered_is (Some message) s new half = half_served_is message s new half

pub half_done_is : (word : Word) (s new : Scene) → IsHalfDone word s new → new ≡ only_served new s
half_done_is Pass s new half = absurd half
half_done_is LoseRequest s new half = absurd half
half_done_is LoseReply s new half = absurd half
half_done_is (Cut size) s new half = absurd half
half_done_is (Stale number) s new half = absurd half
half_done_is (Again number) s new half = half_delivered_is (message_at number s.asked) s new half
half_done_is Save s new half = absurd half
half_done_is Prolong s new half = absurd half
half_done_is (Restart start) s new half = absurd half
half_done_is (Crash crash) s new half = absurd half

-- the words that are left stay, whatever a word does
words_kept : (word : Word) (s : Scene) → (after_word word s).words ≡ s.words
words_kept Pass s = refl
words_kept LoseRequest s = refl
words_kept LoseReply s = refl
words_kept (Cut size) s = refl
words_kept (Stale number) s = refl
words_kept (Again number) s = delivered_words (message_at number s.asked) s where
  delivered_words : (message : Option (List ℕ)) (s : Scene) → (with_delivered message s).words ≡ s.words
  delivered_words None s = refl
  delivered_words (Some message) s = refl
words_kept Save s = refl
words_kept Prolong s = refl
words_kept (Restart start) s = refl
words_kept (Crash crash) s = refl

pub taken_after : (word : Word) (s mid new : Scene) → mid ≡ after_word word s → new ≡ with_words (drop 1 mid.words) mid
    → new ≡ with_words (drop 1 s.words) (after_word word s)
taken_after word s mid new was is =
    is ∙ ap (λ m. with_words (drop 1 m.words) m) was ∙ ap (λ words. with_words (drop 1 words) (after_word word s)) (words_kept word s)

pub last_given : (messages : List (List ℕ)) (message : List ℕ) → slice_get (messages ++ message ∷ []) (length messages) ≡ Some message
last_given [] message = refl
last_given (first ∷ messages) message = last_given messages message

-- what each message of a list says is among what all say
said_at : {R : Type 0} (f : List ℕ → List R) (messages : List (List ℕ)) (place : ℕ) (message : List ℕ) → slice_get messages place ≡ Some message
    → All (Contains (flat_map f messages)) (f message)
said_at f [] place message is = absurd cc
said_at f (first ∷ messages) zero message is =
    let same : first ≡ message = same_Some _ _ is in
    subst (λ m. All (Contains (flat_map f (first ∷ messages))) (f m)) same
    (All-weaker (Contains (f first)) (Contains (f first ++ flat_map f messages))
    (λ r has. Contains-append_left (f first) (flat_map f messages) r has) (f first) (All-contains_itself (f first)))
said_at f (first ∷ messages) (suc place) message is =
    All-weaker (Contains (flat_map f messages)) (Contains (f first ++ flat_map f messages))
    (λ r has. Contains-append_right (f first) (flat_map f messages) r has) (f message) (said_at f messages place message is)

pub by_test : (b : Bool) (found : Option (List ℕ)) → b ≡ true → (if b then None else found) ≡ None
by_test b found is = rw is refl

pub by_other : (b : Bool) (found : Option (List ℕ)) → b ≡ false → (if b then None else found) ≡ found
by_other b found is = rw is refl

pub said_by_number : {R : Type 0} (f : List ℕ → List R) (number : ℕ) (messages : List (List ℕ)) (message : List ℕ) → message_at number messages ≡ Some message
    → All (Contains (flat_map f messages)) (f message)
said_by_number f number messages message is = elim (cases_Bool (number == 0)) [
  | inl none ↦ let no : None ≡ Some message = sym (by_test (number == 0) (slice_get messages (number - 1)) none) ∙ is in absurd cc
  | inr some ↦ said_at f messages (number - 1) message (sym (by_other (number == 0) (slice_get messages (number - 1)) some) ∙ is)
]

pub was_asked : (number : ℕ) (s : Scene) (message : List ℕ) → message_at number s.asked ≡ Some message → WasAsked message s
was_asked number s message is = said_by_number requests_in number s.asked message is

pub on_err : {A E X : Type 0} → (r : Result A E) → X → OnErr r X
on_err (Ok a) x = tt
on_err (Err e) x = x

pub half_played_is : (word : Word) (request : List ℕ) (s new : Scene) → IsHalfPlayed word request s new → new ≡ only_served new s
half_played_is Pass request s new half = half_served_is request s new half
half_played_is LoseRequest request s new half = absurd half
half_played_is LoseReply request s new half = half_served_is request s new half
half_played_is (Cut size) request s new half = half_served_is request s new half.1
half_played_is (Stale number) request s new half = absurd half
half_played_is (Again number) request s new half = half_served_is request s new half
half_played_is Save request s new half = half_served_is request s new half
half_played_is Prolong request s new half = half_served_is request s new half
half_played_is (Restart start) request s new half = half_served_is request s new half
half_played_is (Crash crash) request s new half = half_served_is request s new half
