-- The text that is written is its head, the lines of the keys and its end.
use Rattle.std.proofs.Common.{◌≡◌, ◌+◌, ◌≤◌, ◌<◌, ℕ, suc, nat_lt, decimal, true, Result, Ok, Err, IsOk, List, [], ◌∷◌, ◌++◌, length, drop, map, codes, refl, sym, ◌∙◌, ap, append_assoc}
use Rattle.std.proofs.lemmas.List.{drop_all, append-nil}
use Rattle.std.proofs.lemmas.Bool.{and_parts, ltb-true}
use Rattle.std.proofs.lemmas.Fmt.{decimal_digit}
use Rattle.std.proofs.lemmas.Str.{IsUtf8-from_ascii}
use Rattle.std.proofs.lemmas.Str.Ascii.{IsAscii-nil, IsAscii-cons}
use Rattle.std.specs.List.{list_all}
use Rattle.std.specs.Result.{MatchResult}
use Rattle.std.specs.Str.{IsAscii, IsUtf8}
use Rattle.hex.proofs.HexLemmas.{IsAscii-encode_with}
use Rattle.hex.specs.Hex.{encode_lower, lower_digits}
use Rattle.kmip_plan.specs.declared.key.Key.{Key}
use Rattle.kmip_progress.specs.declared.format.Format.{Format}
use Rattle.kmip_progress.specs.declared.format.Format.TheVariants.{Two}
use Rattle.kmip_progress.specs.declared.known.Known.{Known}
use Rattle.kmip_progress.specs.Suiting.{Suits}
use Rattle.kmip_progress.specs.Texts.{line_of, text_of_lines, entry_words, entries_for, end_line, key_line, progress_text}
use Rattle.kmip_progress.specs.Private.{key_lines}

no_lines : (keys : List Key) → key_lines keys [] ≡ []
no_lines [] = refl
no_lines (key ∷ keys) = refl

pub all_written : (text old : List ℕ) (rest keys : List Key) (known : List Known) (i : ℕ) → length known ≤ i
    → text ++ key_lines rest (drop i known) ≡ old ++ key_lines keys known → text ≡ old ++ key_lines keys known
all_written text old rest keys known i end same =
    sym (append-nil text) ∙ ap (λ lines. text ++ lines) (sym (no_lines rest) ∙ ap (key_lines rest) (sym (drop_all i known end))) ∙ same

-- as many lines as keys
pub as_many_lines : (format : Format) (keys : List Key) (progress : List Known) → Suits keys progress → length (entries_for format keys progress) ≡ length keys
as_many_lines format [] [] suits = refl
as_many_lines format [] (known ∷ progress) suits = absurd suits
as_many_lines format (key ∷ keys) [] suits = absurd suits
as_many_lines format (key ∷ keys) (known ∷ progress) suits = ap suc (as_many_lines format keys progress suits.1)

lines_then : (keys : List Key) (progress : List Known) (end : List ℕ)
    → text_of_lines (map (λ e. line_of (entry_words Two e)) (entries_for Two keys progress) ++ end ∷ []) ≡ key_lines keys progress ++ (end ++ 10 ∷ [])
lines_then [] progress end = refl
lines_then (key ∷ keys) [] end = refl
lines_then (key ∷ keys) (known ∷ progress) end =
    ap (λ more. key_line key known ++ 10 ∷ more) (lines_then keys progress end)
    ∙ sym (append_assoc (key_line key known) (10 ∷ key_lines keys progress) (end ++ 10 ∷ []))

-- head, lines and end, where there are as many lines as keys
pub whole_as_many : (keys : List Key) (progress : List Known) → length (entries_for Two keys progress) ≡ length keys
    → codes "kmip-progress 2" ++ 10 ∷ (key_lines keys progress ++ (end_line (length keys) ++ 10 ∷ [])) ≡ progress_text keys progress
whole_as_many keys progress as_many =
    ap (λ more. codes "kmip-progress 2" ++ 10 ∷ more)
    (ap (λ n. key_lines keys progress ++ (end_line n ++ 10 ∷ [])) (sym as_many)
    ∙ sym (lines_then keys progress (end_line (length (entries_for Two keys progress)))))

-- head, lines and end
pub whole : (keys : List Key) (progress : List Known) → Suits keys progress
    → codes "kmip-progress 2" ++ 10 ∷ (key_lines keys progress ++ (end_line (length keys) ++ 10 ∷ [])) ≡ progress_text keys progress
whole keys progress suits = whole_as_many keys progress (as_many_lines Two keys progress suits)

-- the words of a line, as they are pushed
pub words_joined : (old a b c d e : List ℕ)
    → old ++ (a ++ 32 ∷ []) ++ (b ++ 32 ∷ []) ++ (c ++ 32 ∷ []) ++ (d ++ 32 ∷ []) ++ e ++ 10 ∷ []
    ≡ old ++ (line_of (a ∷ b ∷ c ∷ d ∷ e ∷ []) ++ 10 ∷ [])
words_joined old a b c d e = simp append_assoc refl

-- bytes that pass the test are ASCII
all_ascii : (bytes : List ℕ) → list_all (λ b. nat_lt b 128) bytes ≡ true → IsAscii bytes
all_ascii [] h = IsAscii-nil
all_ascii (b ∷ bytes) h =
    let p = and_parts (nat_lt b 128) (list_all (λ b. nat_lt b 128) bytes) h in
    IsAscii-cons b bytes (ltb-true b 128 p.0) (all_ascii bytes p.1)

-- hexadecimal is a text
pub hex_is_text : (bytes : List ℕ) → IsUtf8 (encode_lower bytes)
hex_is_text bytes = IsUtf8-from_ascii (encode_lower bytes) (IsAscii-encode_with lower_digits bytes (all_ascii lower_digits refl))

-- what is refused only where something fails that holds is not refused
pub not_refused : {T E : Type 0} {A : Type 0} (P : T → Type 0) (Q : E → Type 0) (r : Result T E) → A → MatchResult r P (λ e. (A → ⊥) × Q e) → IsOk r
not_refused P Q (Ok x) a m = refl
not_refused P Q (Err e) a m = absurd (m.0 a)

-- one digit and a space are a number of one digit in decimal, and a space
pub digit_written : (old new : List ℕ) (number digit : ℕ) → digit < 10 → number ≡ digit → new ≡ old ++ (48 + digit) ∷ 32 ∷ [] → new ≡ old ++ (decimal number ++ 32 ∷ [])
digit_written old new number digit small is text =
    text ∙ ap (λ (ds : List ℕ). old ++ (ds ++ 32 ∷ [])) (sym (decimal_digit digit small))
    ∙ ap (λ (n : ℕ). old ++ (decimal n ++ 32 ∷ [])) (sym is)
