-- Texts that are appended piece by piece, and the exchanges that are left.
use Rattle.std.proofs.Common.{◌≡◌, ◌+◌, ◌-◌, ◌<◌, ℕ, suc, false, List, [], ◌∷◌, ◌++◌, sym, ap, ◌∙◌, arith, append_assoc}
use Rattle.kmip_scripted.specs.declared.word.Word.{Word}
use Rattle.kmip_simulation.specs.declared.moment.Moment.{Moment}
use Rattle.kmip_simulation.specs.declared.moment.Moment.TheVariants.{Exchanged}
use Rattle.kmip_simulation.specs.Moments.{all_repeats, exchanges_from, words_after_exchanges, words_after_next}

-- two pieces, one after the other
pub two_joined : {X : Type 0} (a b old mid new : List X) → mid ≡ old ++ a → new ≡ mid ++ b → new ≡ old ++ (a ++ b)
two_joined a b old mid new first second = second ∙ ap (λ t. t ++ b) first ∙ append_assoc old a b

-- three pieces
pub three_joined : {X : Type 0} (a b c old mid next new : List X) → mid ≡ old ++ a → next ≡ mid ++ b → new ≡ next ++ c → new ≡ old ++ (a ++ b ++ c)
three_joined a b c old mid next new first second third = two_joined (a ++ b) c old next new (two_joined a b old mid next first second) third

-- after one exchange more there is one fewer to be made
one_fewer : (count place : ℕ) → place < count → count - place ≡ suc (count - (place + 1))
one_fewer count place inside = omega arith

pub words_after_one : (count place : ℕ) (words left new : List Word) → place < count → new ≡ words_after_next left
    → words_after_exchanges (count - place) left ≡ words_after_exchanges count words
    → words_after_exchanges (count - (place + 1)) new ≡ words_after_exchanges count words
words_after_one count place words left new inside is so_far =
    ap (words_after_exchanges (count - (place + 1))) is ∙ ap (λ n. words_after_exchanges n left) (sym (one_fewer count place inside)) ∙ so_far

-- the next exchange joins those so far
pub one_exchange_more : (end place : ℕ) (left rest : List Word) (now new all : List Moment) → place < end → rest ≡ words_after_next left
    → now ++ exchanges_from (end - place) place left ≡ all → new ≡ now ++ (all_repeats false (place + 1) left ++ (Exchanged (place + 1) ∷ []))
    → new ++ exchanges_from (end - (place + 1)) (place + 1) rest ≡ all
one_exchange_more end place left rest now new all inside is so_far joined =
    let count = end - (place + 1) in
    let repeated = all_repeats false (place + 1) left in
    let one = Exchanged (place + 1) ∷ [] in
    let others = exchanges_from count (place + 1) (words_after_next left) in
    ap (λ ws. new ++ exchanges_from count (place + 1) ws) is
    ∙ ap (λ t. t ++ others) joined
    ∙ append_assoc now (repeated ++ one) others
    ∙ ap (λ t. now ++ t) (append_assoc repeated one others)
    ∙ ap (λ n. now ++ exchanges_from n place left) (sym (one_fewer end place inside))
    ∙ so_far
