-- Tables and arrays as they lie in memory, beside what a contract sees of them.
use Rattle.std.proofs.Common.{◌≡◌, ℕ, ◌+◌, ◌<◌, Bool, true, false, not, ◌&&◌, cond, List, [], ◌∷◌, length, get_or, drop, Option, Some, String, Global, Bor, string_bytes, refl, sym, ap, ◌∙◌, arith}
use Rattle.std.specs.List.{list_all, find}
use Rattle.std.specs.Map.{keys_of}
use Rattle.std.specs.Option.{option_map, option_map_or, option_copied}
use Rattle.toml.specs.Data.{item, as_str}
use Rattle.toml.specs.View.{view, items_view, members_view}
use Rattle.toml.specs.declared.value.Value.{Value}
use Rattle.toml.proofs.Views.{Entry, items_view-drop}
use Rattle.kmip_plan.specs.Tables.{count, is_word, times, all_words, first_other}

first_step : (b : Bool) (word : String Global) (found : Option (String Global)) (rest : Option (List ℕ)) → option_map string_bytes found ≡ rest
    → option_map string_bytes (cond (not b) (Some word) found) ≡ cond b rest (Some (string_bytes word))
first_step true word found rest e = e
first_step false word found rest e = refl

-- the first key that does not pass is the first other member
first_found : (known : List ℕ → Bool) (es : List Entry)
    → option_map string_bytes (find (λ word. not (known (string_bytes word))) (keys_of es)) ≡ first_other known (members_view es)
first_found known [] = refl
first_found known (e ∷ es) = first_step (known (string_bytes e.0)) e.0 _ _ (first_found known es)

-- the same of a reference to it
pub other_found : (known : List ℕ → Bool) (es : List Entry) (r o : Option (Bor (String Global)))
    → option_copied r ≡ find (λ word. not (known (string_bytes word))) (keys_of es) → r ≡ o
    → option_map string_bytes (option_copied o) ≡ first_other known (members_view es)
other_found known es r o found is =
    ap (λ q. option_map string_bytes (option_copied q)) (sym is) ∙ ap (option_map string_bytes) found ∙ first_found known es

-- each item passes
pub all_words-view : (test : List ℕ → Bool) (vs : List Value)
    → list_all (λ v. option_map_or test (as_str (view v)) false) vs ≡ all_words test (items_view vs)
all_words-view test [] = refl
all_words-view test (v ∷ vs) = ap (λ b. option_map_or test (as_str (view v)) false && b) (all_words-view test vs)

-- as many items as elements
pub count-view : (vs : List Value) → count (items_view vs) ≡ length vs
count-view [] = refl
count-view (v ∷ vs) = grind (arith, count-view vs)

-- one more item was looked at
pub times_more : (word : List ℕ) (vs : List Value) (i : ℕ) (v : Value) → i < length vs → v ≡ get_or vs i v
    → times word (items_view (drop i vs)) ≡ cond (is_word word (view v)) (1 + times word (items_view (drop (i + 1) vs))) (times word (items_view (drop (i + 1) vs)))
times_more word vs i v within is = ap (times word) (items_view-drop vs i v within ∙ ap (λ w. item (view w) (items_view (drop (i + 1) vs))) (sym is))
