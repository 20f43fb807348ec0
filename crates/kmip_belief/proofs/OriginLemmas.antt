-- The parts of the text of an origin.
use Rattle.std.proofs.Common.{◌≡◌, ◌≢◌, ◌<◌, ◌≤◌, ◌+◌, ◌-◌, ℕ, zero, suc, Bool, true, false, ltb, eqb, List, [], ◌∷◌, ◌++◌, Option}
use Rattle.std.proofs.Common.{Some, None, length, take, drop, get_or, refl, sym, ap, subst, ◌∙◌, inl, inr, arith, true≢false}
use Rattle.std.proofs.Common.{append_assoc, append-nil}
use Rattle.std.specs.List.{starts_with, slice_get}
use Rattle.std.proofs.lemmas.Bool.{cases_Bool, ltb-true, ltb-false}
use Rattle.std.proofs.lemmas.Bool.Decides.{Decides-eqb}
use Rattle.std.proofs.lemmas.List.{append_cancel_left, drop_more, take_rest, length-take-le, take-append-drop, get_or-take}
use Rattle.std.proofs.lemmas.List.{get_or-append-add, get_or_append_left, length-append, drop_at}
use Rattle.std.proofs.lemmas.Option.{same_Some}
use Rattle.std.proofs.lemmas.Slice.Eq.{starts_is}
use Rattle.kmip_plan.specs.declared.key.Key.{Key}
use Rattle.kmip_belief.specs.Origins.{HasNoLineFeed, key_line, key_lines, origin_head, origin_text}

-- what begins with some bytes is these, and then the rest
pub front_then : (s p : List ℕ) (r : Bool) → r ≡ starts_with eqb s p → r ≡ true
    → s ≡ p ++ take (length s - length p) (drop (length p) s)
front_then s p r is so = (starts_is Decides-eqb s p r is).0 so ∙ ap (λ l. p ++ l) (sym (take_rest s (length p)))

pub no_front : (s p : List ℕ) (r : Bool) → r ≡ starts_with eqb s p → r ≡ false → (rest : List ℕ) → s ≢ p ++ rest
no_front s p r is fails rest e = true≢false (sym ((starts_is Decides-eqb s p r is).1 rest e) ∙ fails)

-- a line feed parts what stands before it from what stands behind it
pub fed_at : (bytes : List ℕ) (place : ℕ) → place < length bytes → get_or bytes place 0 ≡ 10
    → bytes ≡ take place bytes ++ 10 ∷ take (length bytes - (place + 1)) (drop (place + 1) bytes)
fed_at bytes place within is =
    sym (take-append-drop place bytes) ∙ ap (λ l. take place bytes ++ l) (drop_more bytes place 0 within)
    ∙ ap (λ b. take place bytes ++ b ∷ drop (place + 1) bytes) is
    ∙ ap (λ l. take place bytes ++ 10 ∷ l) (sym (take_rest bytes (place + 1)))

pub none_fed : (bytes : List ℕ) (place : ℕ) → place < length bytes
    → ((j : ℕ) → j < place → get_or bytes j 0 ≢ 10) → HasNoLineFeed (take place bytes)
none_fed bytes place within free j inside is =
    let long = length-take-le place bytes (omega (arith, within)) in
    let before : j < place = omega (arith, long, inside) in
    free j before (sym (get_or-take place bytes j 0 before) ∙ is)

feed_behind : (bytes line rest : List ℕ) → bytes ≡ line ++ 10 ∷ rest → get_or bytes (length line) 0 ≡ 10
feed_behind bytes line rest e =
    let at : length line ≡ length line + 0 = omega arith in
    ap (λ b. get_or b (length line) 0) e ∙ ap (λ k. get_or (line ++ 10 ∷ rest) k 0) at
    ∙ get_or-append-add line (10 ∷ rest) 0 0

pub never_fed : (bytes line rest : List ℕ) → ((j : ℕ) → j < length bytes → get_or bytes j 0 ≢ 10) → bytes ≢ line ++ 10 ∷ rest
never_fed bytes line rest free e =
    let long = ap length e ∙ length-append line (10 ∷ rest) in
    free (length line) (omega (arith, long)) (feed_behind bytes line rest e)

same_place : (bytes line rest : List ℕ) (place : ℕ) → get_or bytes place 0 ≡ 10
    → ((j : ℕ) → j < place → get_or bytes j 0 ≢ 10) → HasNoLineFeed line → bytes ≡ line ++ 10 ∷ rest
    → length line ≡ place
same_place bytes line rest place is free none e = elim (cases_Bool (ltb place (length line))) [
  | inl so ↦
      let inside = ltb-true place (length line) so in
      let there = sym (get_or_append_left line (10 ∷ rest) 0 place inside) ∙ ap (λ b. get_or b place 0) (sym e) ∙ is in
      absurd (none place inside there)
  | inr so ↦ elim (cases_Bool (ltb (length line) place)) [
    | inl past ↦ absurd (free (length line) (ltb-true (length line) place past) (feed_behind bytes line rest e))
    | inr past ↦ omega (arith, ltb-false place (length line) so, ltb-false (length line) place past)
  ]
]

pub first_fed : (bytes line rest : List ℕ) (place : ℕ) → get_or bytes place 0 ≡ 10
    → ((j : ℕ) → j < place → get_or bytes j 0 ≢ 10) → HasNoLineFeed line → bytes ≡ line ++ 10 ∷ rest
    → take (length bytes - (place + 1)) (drop (place + 1) bytes) ≡ rest
first_fed bytes line rest place is free none e =
    let here = same_place bytes line rest place is free none e in
    let long : length (line ++ 10 ∷ []) ≡ place + 1 = length-append line (10 ∷ []) ∙ omega (arith, here) in
    take_rest bytes (place + 1) ∙ ap (drop (place + 1)) (e ∙ sym (append_assoc line (10 ∷ []) rest))
    ∙ drop_at (line ++ 10 ∷ []) rest (place + 1) long

-- a key at a place parts the keys
get_suc : (keys : List Key) (place : ℕ) (key : Key) → slice_get keys place ≡ Some key
    → (take (suc place) keys ≡ take place keys ++ key ∷ []) × (drop place keys ≡ key ∷ drop (suc place) keys)
get_suc [] zero key is = absurd cc
get_suc [] (suc place) key is = absurd cc
get_suc (k ∷ keys) zero key is = (ap (λ x. x ∷ []) (same_Some k key is), ap (λ x. x ∷ keys) (same_Some k key is))
get_suc (k ∷ keys) (suc place) key is = let deeper = get_suc keys place key is in (ap (λ l. k ∷ l) deeper.0, deeper.1)

pub get_more : (keys : List Key) (place : ℕ) (key : Key) → slice_get keys place ≡ Some key
    → (take (place + 1) keys ≡ take place keys ++ key ∷ []) × (drop place keys ≡ key ∷ drop (place + 1) keys)
get_more keys place key is =
    let on : suc place ≡ place + 1 = omega arith in
    subst (λ n. (take n keys ≡ take place keys ++ key ∷ []) × (drop place keys ≡ key ∷ drop n keys)) on (get_suc keys place key is)

-- the lines of keys, one more at a time
pub lines_more : (keys more : List Key) → key_lines (keys ++ more) ≡ key_lines keys ++ key_lines more
lines_more [] more = refl
lines_more (key ∷ keys) more =
    ap (λ l. key_line key ++ l) (lines_more keys more) ∙ sym (append_assoc (key_line key) (key_lines keys) (key_lines more))

pub lines_then : (keys : List Key) (place : ℕ) (key : Key) (lines rest more : List ℕ) → take (place + 1) keys ≡ take place keys ++ key ∷ []
    → lines ≡ key_lines (take place keys) ++ rest → rest ≡ key_line key ++ more
    → lines ≡ key_lines (take (place + 1) keys) ++ more
lines_then keys place key lines rest more next so behind =
    so ∙ ap (λ l. key_lines (take place keys) ++ l) behind
    ∙ sym (append_assoc (key_lines (take place keys)) (key_line key) more)
    ∙ ap (λ l. l ++ more)
    (ap (λ l. key_lines (take place keys) ++ l) (sym (append-nil (key_line key)))
    ∙ sym (lines_more (take place keys) (key ∷ [])) ∙ ap key_lines (sym next))

pub rest_then : (keys : List Key) (place : ℕ) (key : Key) (rest more : List ℕ) → drop place keys ≡ key ∷ drop (place + 1) keys
    → rest ≡ key_lines (drop place keys) → rest ≡ key_line key ++ more
    → more ≡ key_lines (drop (place + 1) keys)
rest_then keys place key rest more next so behind =
    append_cancel_left (key_line key) more (key_lines (drop (place + 1) keys)) (sym behind ∙ so ∙ ap key_lines next)

-- no lines are those of a key
pub lines_are_some : (key : Key) (keys : List Key) → key_lines (key ∷ keys) ≢ []
lines_are_some key keys is = absurd cc

pub empty_of : (bytes : List ℕ) → length bytes ≡ 0 → bytes ≡ []
empty_of [] is = refl
empty_of (byte ∷ bytes) is = absurd (omega (arith, is))

pub left_some : (keys : List Key) (place : ℕ) (rest : List ℕ) → place < length keys
    → rest ≡ key_lines (drop place keys) → rest ≢ []
left_some [] place rest within so none = absurd (omega (arith, within))
left_some (key ∷ keys) zero rest within so none = lines_are_some key keys (sym so ∙ none)
left_some (key ∷ keys) (suc place) rest within so none = left_some keys place rest (omega (arith, within)) so none

pub none_left : (keys : List Key) (rest : List ℕ) → rest ≡ key_lines (drop (length keys) keys) → rest ≡ []
none_left [] rest so = so
none_left (key ∷ keys) rest so = none_left keys rest so

pub whole_lines : (keys : List Key) (place : ℕ) (key : Key) (rest : List ℕ) → slice_get keys place ≡ Some key
    → rest ≡ key_lines (drop place keys) → rest ≡ key_line key ++ key_lines (drop (place + 1) keys)
whole_lines keys place key rest here so = so ∙ ap key_lines (get_more keys place key here).1

-- what stands behind the head
pub behind_head : (server kept : List ℕ) (keys : List Key) (text head : List ℕ) → head ≡ origin_head server
    → text ≡ origin_text server kept keys → text ≡ head ++ kept ++ 10 ∷ key_lines keys
behind_head server kept keys text head same is = is ∙ ap (λ h. h ++ kept ++ 10 ∷ key_lines keys) (sym same)

pub rest_is : (server kept : List ℕ) (keys : List Key) (text head rest : List ℕ) → head ≡ origin_head server
    → text ≡ origin_text server kept keys → text ≡ head ++ rest → rest ≡ kept ++ 10 ∷ key_lines keys
rest_is server kept keys text head rest same is found =
    append_cancel_left head rest (kept ++ 10 ∷ key_lines keys)
    (sym found ∙ behind_head server kept keys text head same is ∙ append_assoc head kept (10 ∷ key_lines keys))

pub never_some : {A : Type 0} (x : A) → None ≡ Some x → ⊥
never_some x is = absurd cc
