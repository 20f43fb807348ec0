-- The text of a progress, line by line.
use Rattle.std.proofs.Common.{◌≡◌, ◌+◌, ◌<◌, ◌≤◌, ℕ, zero, suc, ◌==◌, Bool, true, false, Some, List, [], ◌∷◌, ◌++◌}
use Rattle.std.proofs.Common.{length, take, drop, set, get_or, codes, refl, sym, ◌∙◌, ap, subst, append_assoc, arith}
use Rattle.std.proofs.Common.{length-append}
use Rattle.std.proofs.lemmas.Bool.{eqb-true}
use Rattle.std.proofs.lemmas.List.{take_at, drop_at, drop_all, append-nil}
use Rattle.std.proofs.lemmas.List.Sums.{sum_by-cons, sum_by_more_le}
use Rattle.std.specs.Bool.{beq}
use Rattle.std.specs.List.{sum_by, slice_get}
use Rattle.std.specs.Option.{is_some}
use Rattle.kmip_plan.specs.declared.key.Key.{Key}
use Rattle.kmip_progress.specs.declared.format.Format.TheVariants.{Two}
use Rattle.kmip_progress.specs.declared.known.Known.{Known}
use Rattle.kmip_progress.specs.declared.saved_line.SavedLine.{SavedLine}
use Rattle.kmip_progress.specs.Suiting.{Suits}
use Rattle.kmip_progress.specs.Texts.{key_line, end_line, entries_for, progress_text}
use Rattle.kmip_progress.specs.Saved.{line_bytes, line_says, saved_line, saved_lines, saved_of, says_at, SavedState}
use Rattle.kmip_progress.specs.Private.{key_lines}
use Rattle.kmip_progress.proofs.SuitingLemmas.{both}
use Rattle.kmip_progress.proofs.WritingLemmas.{as_many_lines, whole, whole_as_many}

-- a saved text of these bytes and lines
abbrev pub state : List ℕ → List SavedLine → SavedState
state text lines = record { text = text; lines = lines }

-- how many bytes lines have
abbrev pub sizes : List SavedLine → ℕ
sizes lines = sum_by (λ line. line.size) lines

-- ---- what is left of the lines in a loop

no_lines : (keys : List Key) → saved_lines keys [] ≡ []
no_lines [] = refl
no_lines (key ∷ keys) = refl

pub all_saved : (lines old : List SavedLine) (rest keys : List Key) (known : List Known) (i : ℕ) → length known ≤ i
    → lines ++ saved_lines rest (drop i known) ≡ old ++ saved_lines keys known → lines ≡ old ++ saved_lines keys known
all_saved lines old rest keys known i end same =
    sym (append-nil lines) ∙ ap (λ more. lines ++ more) (sym (no_lines rest)
    ∙ ap (saved_lines rest) (sym (drop_all i known end))) ∙ same

-- ---- the lines of the keys

-- the line of the first key, and the others
line_then : (key : Key) (known : Known) (more : List ℕ) → key_line key known ++ 10 ∷ more ≡ line_bytes key known ++ more
line_then key known more = sym (append_assoc (key_line key known) (10 ∷ []) more)

-- the saved lines are as long as the lines
lengths : (keys : List Key) (progress : List Known)
    → sizes (saved_lines keys progress) ≡ length (key_lines keys progress)
lengths [] progress = refl
lengths (key ∷ keys) [] = refl
lengths (key ∷ keys) (known ∷ progress) =
    sum_by-cons (λ line. line.size) (saved_line key known) (saved_lines keys progress)
    ∙ ap (λ n. length (line_bytes key known) + n) (lengths keys progress)
    ∙ sym (length-append (line_bytes key known) (key_lines keys progress))
    ∙ ap length (sym (line_then key known (key_lines keys progress)))

-- what stands before the line of the key at a place, and what stands after it, with another line in between too
pub record Parted (keys : List Key) (progress : List Known) (place : ℕ) (key : Key) (new : Known) : Type 0 where
  pub old : Known
  pub front : List ℕ
  pub back : List ℕ
  pub was : key_lines keys progress ≡ front ++ (line_bytes key old ++ back)
  pub is : key_lines keys (set progress place new) ≡ front ++ (line_bytes key new ++ back)
  pub begins : sizes (take place (saved_lines keys progress)) ≡ length front
  pub line : (d : SavedLine) → get_or (saved_lines keys progress) place d ≡ saved_line key old

one_more : (key : Key) (known : Known) (lines front rest : List ℕ) → lines ≡ front ++ rest
    → key_line key known ++ 10 ∷ lines ≡ (line_bytes key known ++ front) ++ rest
one_more key known lines front rest same =
    line_then key known lines ∙ ap (λ more. line_bytes key known ++ more) same
    ∙ sym (append_assoc (line_bytes key known) front rest)

pub parted : (keys : List Key) (progress : List Known) (place : ℕ) (d : Key) (new : Known) → Suits keys progress
    → place < length keys
    → Parted keys progress place (get_or keys place d) new
parted [] progress place d new suits within = absurd (omega arith)
parted (key ∷ keys) [] place d new suits within = absurd suits
parted (key ∷ keys) (known ∷ progress) zero d new suits within = record {
  old = known;
  front = [];
  back = key_lines keys progress;
  was = line_then key known (key_lines keys progress);
  is = line_then key new (key_lines keys progress);
  begins = refl;
  line = λ d. refl;
}
parted (key ∷ keys) (known ∷ progress) (suc place) d new suits within =
    let p = parted keys progress place d new suits.1 (omega arith) in
    let own = get_or keys place d in
    record {
      old = p.old;
      front = line_bytes key known ++ p.front;
      back = p.back;
      was = one_more key known (key_lines keys progress) p.front (line_bytes own p.old ++ p.back) p.was;
      is = one_more key known (key_lines keys (set progress place new)) p.front (line_bytes own new ++ p.back) p.is;
      begins =
          sum_by-cons (λ line. line.size) (saved_line key known) (take place (saved_lines keys progress))
          ∙ ap (λ n. length (line_bytes key known) + n) p.begins ∙ sym (length-append (line_bytes key known) p.front);
      line = p.line;
    }

-- the line of the key at a place alone is another one
pub lines_set : (keys : List Key) (progress : List Known) (place : ℕ) (d : Key) (new : Known) → Suits keys progress
    → place < length keys
    → saved_lines keys (set progress place new) ≡ set (saved_lines keys progress) place
    (saved_line (get_or keys place d) new)
lines_set [] progress place d new suits within = absurd (omega arith)
lines_set (key ∷ keys) [] place d new suits within = absurd suits
lines_set (key ∷ keys) (known ∷ progress) zero d new suits within = refl
lines_set (key ∷ keys) (known ∷ progress) (suc place) d new suits within =
    ap (λ lines. saved_line key known ∷ lines) (lines_set keys progress place d new suits.1 (omega arith))

-- there are as many lines as before
as_many_set : (keys : List Key) (progress : List Known) (place : ℕ) (new : Known)
    → length (entries_for Two keys (set progress place new)) ≡ length (entries_for Two keys progress)
as_many_set [] progress place new = refl
as_many_set (key ∷ keys) [] place new = refl
as_many_set (key ∷ keys) (known ∷ progress) zero new = refl
as_many_set (key ∷ keys) (known ∷ progress) (suc place) new = ap suc (as_many_set keys progress place new)

-- ---- the text

abbrev head : List ℕ
head = codes "kmip-progress 2" ++ 10 ∷ []

abbrev foot : List Key → List ℕ
foot keys = end_line (length keys) ++ 10 ∷ []

-- head, front, a line and the rest
around : (lines front line back end : List ℕ) → lines ≡ front ++ (line ++ back)
    → codes "kmip-progress 2" ++ 10 ∷ (lines ++ end) ≡ (head ++ front) ++ (line ++ (back ++ end))
around lines front line back end same =
    ap (λ lines. codes "kmip-progress 2" ++ 10 ∷ (lines ++ end)) same ∙ simp append_assoc refl

head_long : (front : List ℕ) → length (head ++ front) ≡ 16 + length front
head_long front = length-append head front

-- the text is longer than its head and its lines
pub text_long : (keys : List Key) (progress : List Known) → Suits keys progress
    → 16 + sizes (saved_lines keys progress) ≤ length (progress_text keys progress)
text_long keys progress suits =
    let lines = key_lines keys progress in
    let long : length (progress_text keys progress) ≡ length (head ++ (lines ++ foot keys)) =
    ap length (sym (whole keys progress suits)) in
    omega (arith, long, head_long (lines ++ foot keys), length-append lines (foot keys), lengths keys progress)

-- there are as many saved lines as keys
pub count : (keys : List Key) (progress : List Known) → Suits keys progress
    → length (saved_lines keys progress) ≡ length keys
count [] [] suits = refl
count [] (known ∷ progress) suits = absurd suits
count (key ∷ keys) [] suits = absurd suits
count (key ∷ keys) (known ∷ progress) suits = ap suc (count keys progress suits.1)

-- a part of a list is another one
swapped : (a b c text : List ℕ) (start size : ℕ) (new : List ℕ) → text ≡ a ++ (b ++ c) → length a ≡ start
    → length b ≡ size
    → take start text ++ (new ++ drop (start + size) text) ≡ a ++ (new ++ c)
swapped a b c text start size new is begins long =
    let both_long : length (a ++ b) ≡ start + size = omega (arith, length-append a b, begins, long) in
    ap (λ t. take start t ++ (new ++ drop (start + size) t)) is
    ∙ ap (λ front. front ++ (new ++ drop (start + size) (a ++ (b ++ c)))) (take_at a (b ++ c) start begins)
    ∙ ap (λ back. a ++ (new ++ back)) (ap (λ t. drop (start + size) t) (sym (append_assoc a b c))
    ∙ drop_at (a ++ b) c (start + size) both_long)

-- with the line of the key at a place written anew, it is the text of the progress with that in its place
pub text_set : (keys : List Key) (progress : List Known) (place : ℕ) (d : Key) (e : SavedLine) (new : Known)
    (text : List ℕ) (start size : ℕ)
    → Suits keys progress → place < length keys → text ≡ progress_text keys progress
    → start ≡ 16 + sizes (take place (saved_lines keys progress))
    → size ≡ (get_or (saved_lines keys progress) place e).size
    → take start text ++ (line_bytes (get_or keys place d) new ++ drop (start + size) text) ≡ progress_text keys
    (set progress place new)
text_set keys progress place d e new text start size suits within is begins long =
    let own = get_or keys place d in
    let p = parted keys progress place d new suits within in
    let front : length (head ++ p.front) ≡ start = omega (arith, head_long p.front, p.begins, begins) in
    let line : length (line_bytes own p.old) ≡ size = sym (long ∙ ap (λ (l : SavedLine). l.size) (p.line e)) in
    let was : text ≡ (head ++ p.front) ++ (line_bytes own p.old ++ (p.back ++ foot keys)) =
    is ∙ sym (whole keys progress suits) ∙ around (key_lines keys progress) p.front (line_bytes own p.old) p.back
    (foot keys) p.was in
    swapped (head ++ p.front) (line_bytes own p.old) (p.back ++ foot keys) text start size
    (line_bytes own new) was front line
    ∙ sym (around (key_lines keys (set progress place new)) p.front (line_bytes own new) p.back (foot keys) p.is)
    ∙ whole_as_many keys (set progress place new) (as_many_set keys progress place new
    ∙ as_many_lines Two keys progress suits)

-- ---- what a line says

same_bool : (a b : Bool) → beq a b ≡ true → a ≡ b
same_bool true true is = refl
same_bool false false is = refl
same_bool true false is = absurd cc
same_bool false true is = absurd cc

told : (key : Key) (known : Known) (done : ℕ) (is_identified : Bool)
    → line_says done is_identified (saved_line key known) ≡ true
    → (known.done ≡ done) × (is_some known.identifier ≡ is_identified)
told key known done is_identified says =
    let p = both (known.done == done) (beq (is_some known.identifier) is_identified) says in
    (eqb-true known.done done p.0, same_bool (is_some known.identifier) is_identified p.1)

pub lines_true : (keys : List Key) (progress : List Known) (place done : ℕ) (is_identified : Bool) (known : Known)
    → place < length keys
    → slice_get progress place ≡ Some known → says_at (saved_lines keys progress) place done is_identified ≡ true
    → (known.done ≡ done) × (is_some known.identifier ≡ is_identified)
lines_true [] progress place done is_identified known within is says = absurd (omega arith)
lines_true (key ∷ keys) [] place done is_identified known within is says = absurd cc
lines_true (key ∷ keys) (first ∷ progress) zero done is_identified known within is says =
    let same : first ≡ known = cc in
    told key known done is_identified (subst (λ k. line_says done is_identified (saved_line key k) ≡ true) same says)
lines_true (key ∷ keys) (first ∷ progress) (suc place) done is_identified known within is says =
    lines_true keys progress place done is_identified known (omega arith) is says

-- ---- the saved text

pub same_state : (keys : List Key) (progress : List Known) (text : List ℕ) (lines : List SavedLine)
    → text ≡ progress_text keys progress → lines ≡ saved_lines keys progress
    → state text lines ≡ saved_of keys progress
same_state keys progress text lines is are = ap (λ t. state t lines) is
    ∙ ap (λ l. state (progress_text keys progress) l) are

-- how the parts of a saved text lie, at the place of a key
pub record Laid (keys : List Key) (progress : List Known) (place : ℕ) (text : List ℕ) (lines : List SavedLine) : Type 0
  where
    pub text_is : text ≡ progress_text keys progress
    pub lines_are : lines ≡ saved_lines keys progress
    pub counted : length lines ≡ length keys
    pub long : 16 + sizes lines ≤ length text
    pub ends : (e : SavedLine) → 16 + sizes (take place lines) + (get_or lines place e).size ≤ length text

pub laid : (keys : List Key) (progress : List Known) (place : ℕ) (text : List ℕ) (lines : List SavedLine)
    → state text lines ≡ saved_of keys progress
    → Suits keys progress → place < length keys → Laid keys progress place text lines
laid keys progress place text lines is suits within =
    let text_is : text ≡ progress_text keys progress = ap (λ (s : SavedState). s.text) is in
    let lines_are : lines ≡ saved_lines keys progress = ap (λ (s : SavedState). s.lines) is in
    let counted : length lines ≡ length keys = ap length lines_are ∙ count keys progress suits in
    let long : 16 + sizes lines ≤ length text =
    omega (arith, text_long keys progress suits, ap sizes lines_are, ap length text_is) in
    let known : place < length lines = omega (arith, counted, within) in
    record {
      text_is = text_is;
      lines_are = lines_are;
      counted = counted;
      long = long;
      ends = λ e. omega (arith, long, sum_by_more_le (λ line. line.size) lines place e known);
    }
