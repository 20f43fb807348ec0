-- Reading gives the words of a text exactly where it is a script of them, and else its first line at fault.
use Rattle.std.proofs.Common.{◌≡◌, ◌<◌, ◌≤◌, ◌∙◌, ℕ, ◌+◌, ◌-◌, true, false, List, [], ◌∷◌, ◌++◌, length, Option, Some, None, Result, Ok, Err, IfOk, ap, arith, inl, inr, refl, subst, sym}
use Rattle.std.specs.Prelude.{◌⊎◌, nat_lt}
use Rattle.std.proofs.lemmas.Bool.{cases_Bool}
use Rattle.std.proofs.lemmas.Bool.Decides.{nat_tests}
use Rattle.kmip_scripted.specs.ScriptReading.{GivesScript, followed_by, script_read, with_front, word_in, word_or_fault, words_from, words_of_line}
use Rattle.kmip_scripted.specs.ScriptTexts.{FailsAt, IsNoWord, IsScript, Say, lines_in, most_lines}
use Rattle.kmip_scripted.specs.declared.script_fault.ScriptFault.{ScriptFault}
use Rattle.kmip_scripted.specs.declared.script_fault.ScriptFault.TheVariants.{Line}
use Rattle.kmip_scripted.specs.declared.word.Word.{Word}
use Rattle.kmip_scripted.proofs.ScriptLemmas.{is_word, no_word, none_without, read_here, word_is}

abbrev ok : List Word → Result (List Word) ScriptFault
ok words = Ok words

abbrev err : ScriptFault → Result (List Word) ScriptFault
err fault = Err fault

same_words : (a x : List Word) → ok a ≡ ok x → a ≡ x
same_words a x is = cc

same_fault : (a x : ScriptFault) → err a ≡ err x → a ≡ x
same_fault a x is = cc

same_line : (m n : ℕ) → Line m ≡ Line n → m ≡ n
same_line m n is = cc

-- ---- what is read says so

by_word : (byte : ℕ) (bytes : List ℕ) (lines : List (List ℕ)) (more words : List Word) (number : ℕ) (found : Option Word) → word_in (byte ∷ bytes) ≡ found
    → word_or_fault found number ≡ Ok more → Say lines words → Say ((byte ∷ bytes) ∷ lines) (more ++ words)
by_word byte bytes lines more words number None at is say = absurd cc
by_word byte bytes lines more words number (Some word) at is say =
    subst (λ ws. Say ((byte ∷ bytes) ∷ lines) (ws ++ words)) (same_words (word ∷ []) more is) (word_is (byte ∷ bytes) word at, say)

say_more : (line : List ℕ) (lines : List (List ℕ)) (more words : List Word) (number : ℕ) → words_of_line line number ≡ Ok more → Say lines words
    → Say (line ∷ lines) (more ++ words)
say_more [] lines more words number is say = subst (λ ws. Say ([] ∷ lines) (ws ++ words)) (same_words [] more is) say
say_more (byte ∷ bytes) lines more words number is say = by_word byte bytes lines more words number (word_in (byte ∷ bytes)) refl is say

abbrev IsRead : ℕ → List (List ℕ) → List Word → Type 0
IsRead number lines words = Say lines words × (length lines ≤ most_lines + 1 - number)

join_read : (line : List ℕ) (lines : List (List ℕ)) (words : List Word) (number : ℕ) (first rest : Result (List Word) ScriptFault) → number ≤ most_lines
    → words_of_line line number ≡ first → ((others : List Word) → rest ≡ Ok others → IsRead (number + 1) lines others) → followed_by first rest ≡ Ok words
    → IsRead number (line ∷ lines) words
join_read line lines words number (Err fault) rest few at later is = absurd cc
join_read line lines words number (Ok more) (Err fault) few at later is = absurd cc
join_read line lines words number (Ok more) (Ok others) few at later is =
    let left = later others refl in (
      subst (Say (line ∷ lines)) (same_words (more ++ others) words is) (say_more line lines more others number at left.0),
      omega (arith, few, left.1),
    )

not_beyond : (number : ℕ) → nat_lt most_lines number ≡ false → number ≤ most_lines
not_beyond number is = grind (arith, nat_tests)

is_beyond : (number : ℕ) → nat_lt most_lines number ≡ true → most_lines < number
is_beyond number is = grind (arith, nat_tests)

read_ok : (number : ℕ) (lines : List (List ℕ)) (words : List Word) → words_from number lines ≡ Ok words → IsRead number lines words
read_ok number [] words is = (subst (Say []) (same_words [] words is) tt, omega arith)
read_ok number (line ∷ lines) words is =
    elim (cases_Bool (nat_lt most_lines number)) [
      | inl over ↦ no_words (Line number) words (rw over at is)
      | inr not ↦
          join_read line lines words number (words_of_line line number) (words_from (number + 1) lines) (not_beyond number not) refl
          (λ others at. read_ok (number + 1) lines others at) (rw not at is)
    ]
  where
    no_words : {X : Type 0} (fault : ScriptFault) (words : List Word) → err fault ≡ ok words → X
    no_words fault words is = absurd cc

-- and what says so is read
ok_read : (number : ℕ) (lines : List (List ℕ)) (words : List Word) → Say lines words → length lines ≤ most_lines + 1 - number → words_from number lines ≡ Ok words
ok_read number [] [] say few = refl
ok_read number [] (word ∷ words) say few = absurd say
ok_read number ([] ∷ lines) words say few =
    read_here [] lines number (omega (arith, few)) ∙ ap (with_front []) (ok_read (number + 1) lines words say (omega (arith, few)))
ok_read number ((byte ∷ bytes) ∷ lines) [] say few = absurd say
ok_read number ((byte ∷ bytes) ∷ lines) (word ∷ words) say few =
    read_here (byte ∷ bytes) lines number (omega (arith, few))
    ∙ ap (λ found. followed_by (word_or_fault found number) (words_from (number + 1) lines)) (is_word (byte ∷ bytes) word say.0)
    ∙ ap (with_front (word ∷ [])) (ok_read (number + 1) lines words say.1 (omega (arith, few)))

-- ---- the first line at fault

record FailsFrom (number : ℕ) (lines : List (List ℕ)) (at : ℕ) : Type 0 where
  before : List (List ℕ)
  line : List ℕ
  behind : List (List ℕ)
  words : List Word
  lines_are : lines ≡ before ++ line ∷ behind
  at_is : at ≡ number + length before
  few : at ≤ most_lines + 1
  say : Say before words
  amiss : IsNoWord line ⊎ (at ≡ most_lines + 1)

bad_word : (byte : ℕ) (bytes : List ℕ) (number at : ℕ) (found : Option Word) → word_in (byte ∷ bytes) ≡ found → word_or_fault found number ≡ Err (Line at)
    → (at ≡ number) × IsNoWord (byte ∷ bytes)
bad_word byte bytes number at None none is =
    (sym (same_line number at (same_fault (Line number) (Line at) is)), record { some = λ e. absurd cc; none = no_word (byte ∷ bytes) none })
bad_word byte bytes number at (Some word) found is = absurd cc

bad_line : (line : List ℕ) (number at : ℕ) → words_of_line line number ≡ Err (Line at) → (at ≡ number) × IsNoWord line
bad_line [] number at is = absurd cc
bad_line (byte ∷ bytes) number at is = bad_word byte bytes number at (word_in (byte ∷ bytes)) refl is

join_fail : (line : List ℕ) (lines : List (List ℕ)) (number at : ℕ) (first rest : Result (List Word) ScriptFault) → number ≤ most_lines
    → words_of_line line number ≡ first → (rest ≡ Err (Line at) → FailsFrom (number + 1) lines at) → followed_by first rest ≡ Err (Line at)
    → FailsFrom number (line ∷ lines) at
join_fail line lines number at (Err fault) rest few read later is =
    let bad = bad_line line number at (read ∙ is) in
    record {
      before = [];
      line = line;
      behind = lines;
      words = [];
      lines_are = refl;
      at_is = omega (arith, bad.0);
      few = omega (arith, few, bad.0);
      say = tt;
      amiss = inl bad.1;
    }
join_fail line lines number at (Ok more) (Ok others) few read later is = absurd cc
join_fail line lines number at (Ok more) (Err fault) few read later is =
    let f = later is in
    record {
      before = line ∷ f.before;
      line = f.line;
      behind = f.behind;
      words = more ++ f.words;
      lines_are = ap (λ ls. line ∷ ls) f.lines_are;
      at_is = omega (arith, f.at_is);
      few = f.few;
      say = say_more line f.before more f.words number read f.say;
      amiss = f.amiss;
    }

fail_read : (number : ℕ) (lines : List (List ℕ)) (at : ℕ) → number ≤ most_lines + 1 → words_from number lines ≡ Err (Line at) → FailsFrom number lines at
fail_read number [] at most is = absurd cc
fail_read number (line ∷ lines) at most is =
    elim (cases_Bool (nat_lt most_lines number)) [
      | inl over ↦
          let same = same_line number at (same_fault (Line number) (Line at) (rw over at is)) in
          let many = is_beyond number over in
          record {
            before = [];
            line = line;
            behind = lines;
            words = [];
            lines_are = refl;
            at_is = omega (arith, same);
            few = omega (arith, same, most);
            say = tt;
            amiss = inr (omega (arith, same, most, many));
          }
      | inr not ↦
          let few = not_beyond number not in
          join_fail line lines number at (words_of_line line number) (words_from (number + 1) lines) few refl
          (λ later. fail_read (number + 1) lines at (omega (arith, few)) later) (rw not at is)
    ]

-- and where it fails so, that is read
bad_here : (number : ℕ) (line : List ℕ) (behind : List (List ℕ)) → IsNoWord line ⊎ (number ≡ most_lines + 1) → words_from number (line ∷ behind) ≡ Err (Line number)
bad_here number line behind amiss =
    elim (cases_Bool (nat_lt most_lines number)) [
      | inl over ↦ rw over refl
      | inr not ↦ elim amiss [
        | inl bad ↦ no_word_here number line behind (not_beyond number not) bad
        | inr many ↦ let few = not_beyond number not in absurd (omega (arith, few, many))
      ]
    ]
  where
    no_word_here : (number : ℕ) (line : List ℕ) (behind : List (List ℕ)) → number ≤ most_lines → IsNoWord line → words_from number (line ∷ behind) ≡ Err (Line number)
    no_word_here number [] behind few bad = absurd (bad.some refl)
    no_word_here number (byte ∷ bytes) behind few bad =
        read_here (byte ∷ bytes) behind number few
        ∙ ap (λ found. followed_by (word_or_fault found number) (words_from (number + 1) behind)) (none_without (byte ∷ bytes) bad.none)

read_fail : (number : ℕ) (before : List (List ℕ)) (line : List ℕ) (behind : List (List ℕ)) (words : List Word) (at : ℕ) → Say before words → at ≡ number + length before
    → at ≤ most_lines + 1 → IsNoWord line ⊎ (at ≡ most_lines + 1) → words_from number (before ++ line ∷ behind) ≡ Err (Line at)
read_fail number [] line behind words at say is few amiss =
    let same : at ≡ number = omega (arith, is) in
    bad_here number line behind (subst (λ n. IsNoWord line ⊎ (n ≡ most_lines + 1)) same amiss) ∙ ap (λ n. Err (Line n)) (sym same)
read_fail number ([] ∷ before) line behind words at say is few amiss =
    read_here [] (before ++ line ∷ behind) number (omega (arith, is, few))
    ∙ ap (with_front []) (read_fail (number + 1) before line behind words at say (omega (arith, is)) few amiss)
read_fail number ((byte ∷ bytes) ∷ before) line behind [] at say is few amiss = absurd say
read_fail number ((byte ∷ bytes) ∷ before) line behind (word ∷ words) at say is few amiss =
    read_here (byte ∷ bytes) (before ++ line ∷ behind) number (omega (arith, is, few))
    ∙ ap (λ found. followed_by (word_or_fault found number) (words_from (number + 1) (before ++ line ∷ behind))) (is_word (byte ∷ bytes) word say.0)
    ∙ ap (with_front (word ∷ [])) (read_fail (number + 1) before line behind words at say.1 (omega (arith, is)) few amiss)

-- ---- a text

pub script_is : (text : List ℕ) (words : List Word) → script_read text ≡ Ok words → IsScript text words
script_is text words is = let read = read_ok 1 (lines_in text) words is in record { few = omega (arith, read.1); say = read.0 }

pub is_script : (text : List ℕ) (words : List Word) → IsScript text words → script_read text ≡ Ok words
is_script text words is = ok_read 1 (lines_in text) words is.say (omega (arith, is.few))

pub fails_is : (text : List ℕ) (number : ℕ) → script_read text ≡ Err (Line number) → FailsAt text number
fails_is text number is =
    let f = fail_read 1 (lines_in text) number (omega arith) is in
    record {
      before = f.before;
      line = f.line;
      behind = f.behind;
      words = f.words;
      lines_are = f.lines_are;
      number_is = omega (arith, f.at_is);
      few = omega (arith, f.at_is, f.few);
      say = f.say;
      amiss = elim f.amiss [
        | inl bad ↦ inl bad
        | inr many ↦ inr (omega (arith, f.at_is, many))
      ];
    }

pub is_fails : (text : List ℕ) (number : ℕ) → FailsAt text number → script_read text ≡ Err (Line number)
is_fails text number f =
    ap (words_from 1) f.lines_are
    ∙ read_fail 1 f.before f.line f.behind f.words number f.say (omega (arith, f.number_is)) (omega (arith, f.number_is, f.few))
    (elim f.amiss [
      | inl bad ↦ inl bad
      | inr many ↦ inr (omega (arith, f.number_is, many))
    ])

-- ---- what a call answered

pub found_is : (text : List ℕ) (r : Result (List Word) ScriptFault) → GivesScript (λ words. words) r (script_read text) → IfOk r (IsScript text)
found_is text (Ok words) gives = script_is text words gives
found_is text (Err fault) gives = tt
