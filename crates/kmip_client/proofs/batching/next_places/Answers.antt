-- Each place is that of a key that is worked on, and there is one where some key is.
use Rattle.std.proofs.Common.{◌≡◌, ◌∙◌, ◌++◌, ℕ, List, take, drop, ap, sym, subst}
use Rattle.std.specs.List.{All}
use Rattle.kmip_client.specs.Asking.{all_working_from, next_places, AreApart}
use Rattle.kmip_client.specs.Clients.{ClientState, WorksAt}
use Rattle.kmip_client.proofs.AskingLemmas.{cut_twice, no_places, places_apart, places_work}
use Rattle.kmip_client.proofs.batching.next_places.Goals as goal

-- where the keys stand, and whose turn it is
abbrev turn_in : goal.In_ok-push_working-2 → ClientState
turn_in c = record { keys = c.args.keys.now; knowns = c.args.knowns.now; next = c.args.next; batch = c.args.most }

in_turn_there : (c : goal.In_ok-push_working-2) → c.push_working-2.new.places.items ≡ next_places (turn_in c)
in_turn_there c =
    let behind : List ℕ = all_working_from c.args.next (drop c.args.next c.args.keys.now) (drop c.args.next c.args.knowns.now) in
    let front : List ℕ = all_working_from 0 (take c.args.next c.args.keys.now) (take c.args.next c.args.knowns.now) in
    let first : c.push_working.new.places.items ≡ take c.args.most behind =
    c.in_ok-push_working.ensures.places ∙ ap (λ ps. take c.args.most (ps ++ behind)) c.in_ok-places.ensures.items in
    c.in_ok-push_working-2.ensures.places ∙ ap (λ ps. take c.args.most (ps ++ front)) first ∙ cut_twice c.args.most behind front

pub returns-clause-work : goal.returns-clause-work
returns-clause-work c =
    subst (λ ps. All (WorksAt c.args.keys.now c.args.knowns.now) ps) (sym (in_turn_there c)) (places_work (turn_in c))

pub returns-clause-apart : goal.returns-clause-apart
returns-clause-apart c = subst AreApart (sym (in_turn_there c)) (places_apart (turn_in c))

pub returns-clause-none : goal.returns-clause-none
returns-clause-none c = λ none some. no_places (turn_in c) some c.requires.as_many (sym (in_turn_there c) ∙ none)
