-- A text is read just where it is one of a progress, and each proper front of one is cut.
use Rattle.std.proofs.Common.{◌≡◌, ◌≢◌, ◌≤◌, ◌<◌, ◌^◌, ℕ, nat_le, Bool, true, not, ◌&&◌, List, [], ◌∷◌, ◌++◌, length, map, codes, Option, Some, None, is_some, option_map, Result, Ok, Err, IfOk, subst, refl, sym, ap, ◌∙◌, inl, inr, arith, lit<, append_assoc}
use Rattle.std.specs.Fmt.{decimal}
use Rattle.std.specs.List.{list_all}
use Rattle.std.specs.Option.{option_map_or}
use Rattle.std.specs.Str.{is_utf8}
use Rattle.std.proofs.lemmas.Bool.{cases_Bool, and_parts, and_from}
use Rattle.kmip_objects.specs.Ranges.{is_name, is_name_byte}
use Rattle.kmip_ttlv.proofs.ReadSteps.{Reads, reads-ok, reads-bind, reads-as}
use Rattle.kmip_plan.specs.Plans.{IsLawful}
use Rattle.kmip_plan.specs.TargetWords.{is_text, target_word}
use Rattle.kmip_plan.specs.declared.key.Key.{Key}
use Rattle.kmip_plan.specs.declared.target.Target.{Target}
use Rattle.kmip_plan.specs.declared.target.Target.TheVariants.{Created, Active, Revoked, Destroyed, Discarded}
use Rattle.kmip_progress.specs.declared.entry.Entry.{Entry}
use Rattle.kmip_progress.specs.declared.format.Format.{Format}
use Rattle.kmip_progress.specs.declared.format.Format.TheVariants.{One, Two}
use Rattle.kmip_progress.specs.declared.progress_fault.ProgressFault.{ProgressFault}
use Rattle.kmip_progress.specs.declared.progress_fault.ProgressFault.TheVariants as faults
use Rattle.kmip_progress.specs.declared.known.Known.{Known}
use Rattle.kmip_progress.specs.Reading.{parts, body_of, format_of_head, format_in, keys_behind, all_known, entries_of_text, read_text, GivesProgress}
use Rattle.kmip_progress.specs.Suiting.{has_text, Suits}
use Rattle.kmip_progress.specs.Texts.{head_line, entry_words, line_of, text_of_lines, lines_of, end_line, text_of, entry_fits, reason_stands, Tells, IsProgressText}
use Rattle.kmip_progress.specs.Words.{is_number, number_in, reason_word, identifier_word}
use Rattle.kmip_progress.proofs.BodyLemmas.{body_here, no_body, body_found}
use Rattle.kmip_progress.proofs.ByteLemmas.{is_word, hex_word, utf8_bytes, digits_printable, decimal_digits, decimal_number, all_from, all_parts}
use Rattle.kmip_progress.proofs.EntryLemmas.{AreRead, entries-law, reads-need, reads-guard, fits_so}
use Rattle.kmip_progress.proofs.SplitLemmas.{is_free, words_back, line_back, line_free, lines_back, text_back, cut_short}
use Rattle.kmip_progress.proofs.TellingLemmas.{told, tells, as_few, told_suits}
use Rattle.kmip_progress.proofs.WordLemmas.{same_some, not_some, same_text, text_same, of_reasons, stands_reason}

-- ---- the words of a line are printable

target_printable : (target : Target) → is_word (target_word target) ≡ true
target_printable Created = refl
target_printable Active = refl
target_printable Revoked = refl
target_printable Destroyed = refl
target_printable Discarded = refl

number_printable : (n : ℕ) → n < 2 ^ 64 → is_word (decimal n) ≡ true
number_printable n small = digits_printable (decimal n) (decimal_digits n small)

reason_printable : (target : Target) (o : Option ℕ) → reason_stands Two target o ≡ true → is_word (reason_word o) ≡ true
reason_printable target None h = refl
reason_printable target (Some r) h =
    of_reasons r (λ n. is_word (decimal n) ≡ true) (stands_reason target r h)
    (number_printable 1 (lit< tt)) (number_printable 4 (lit< tt)) (number_printable 5 (lit< tt)) (number_printable 6 (lit< tt)) (number_printable 7 (lit< tt))

identifier_printable : (k : Known) → has_text k ≡ true → is_word (identifier_word k.identifier) ≡ true
identifier_printable k h = printable k.identifier h where
  printable : (o : Option (List ℕ)) → option_map_or is_utf8 o true ≡ true → is_word (identifier_word o) ≡ true
  printable None text = refl
  printable (Some u) text = hex_word u (utf8_bytes u text)

name_printable : (name : List ℕ) → is_name name ≡ true → is_word name ≡ true
name_printable name h = (and_parts (nat_le 1 (length name) && nat_le (length name) 64) (list_all is_name_byte name) h).1

four_words : (a b c d : List ℕ) → is_word a ≡ true → is_word b ≡ true → is_word c ≡ true → is_word d ≡ true → list_all is_word (a ∷ b ∷ c ∷ d ∷ []) ≡ true
four_words a b c d h i j k = rw (h, i, j, k) refl

words_printable : (format : Format) (e : Entry) → entry_fits format e ≡ true → list_all is_word (entry_words format e) ≡ true
words_printable One e h =
    let f = fits_so One e h in
    let few = f.few in
    four_words e.name (target_word e.target) (decimal e.known.done) (identifier_word e.known.identifier) (name_printable e.name f.name)
    (target_printable e.target) (number_printable e.known.done (omega (arith, few))) (identifier_printable e.known f.text)
words_printable Two e h =
    let f = fits_so Two e h in
    let few = f.few in
    and_from (is_word e.name) (list_all is_word (target_word e.target ∷ reason_word e.reason ∷ decimal e.known.done ∷ identifier_word e.known.identifier ∷ []))
    (name_printable e.name f.name)
    (four_words (target_word e.target) (reason_word e.reason) (decimal e.known.done) (identifier_word e.known.identifier)
    (target_printable e.target) (reason_printable e.target e.reason f.reason) (number_printable e.known.done (omega (arith, few))) (identifier_printable e.known f.text))

-- the words of a line are those that were joined
entry_back : (format : Format) (e : Entry) → entry_fits format e ≡ true → parts 0x20 (line_of (entry_words format e)) ≡ entry_words format e
entry_back One e h = words_back e.name (target_word e.target ∷ decimal e.known.done ∷ identifier_word e.known.identifier ∷ []) (words_printable One e h)
entry_back Two e h =
    words_back e.name (target_word e.target ∷ reason_word e.reason ∷ decimal e.known.done ∷ identifier_word e.known.identifier ∷ []) (words_printable Two e h)

abbrev entry_lines : Format → List Entry → List (List ℕ)
entry_lines format entries = map (λ e. line_of (entry_words format e)) entries

entries_back : (format : Format) (entries : List Entry) → list_all (entry_fits format) entries ≡ true
    → map (λ line. parts 0x20 line) (entry_lines format entries) ≡ map (entry_words format) entries
entries_back format [] h = refl
entries_back format (e ∷ entries) h =
    let p = and_parts (entry_fits format e) (list_all (entry_fits format) entries) h in
    (λ i. (entry_back format e p.0 i ∷ entries_back format entries p.1 i))

entries_free : (format : Format) (entries : List Entry) → list_all (entry_fits format) entries ≡ true → list_all (is_free 0x0A) (entry_lines format entries) ≡ true
entries_free format [] h = refl
entries_free format (e ∷ entries) h =
    let p = and_parts (entry_fits format e) (list_all (entry_fits format) entries) h in
    and_from (is_free 0x0A (line_of (entry_words format e))) (list_all (is_free 0x0A) (entry_lines format entries))
    (line_free (entry_words format e) (words_printable format e p.0)) (entries_free format entries p.1)

end_words : (n : ℕ) → n < 2 ^ 64 → list_all is_word (codes "end" ∷ decimal n ∷ []) ≡ true
end_words n small = rw (number_printable n small) refl

end_back : (n : ℕ) → n < 2 ^ 64 → parts 0x20 (end_line n) ≡ codes "end" ∷ decimal n ∷ []
end_back n small = words_back (codes "end") (decimal n ∷ []) (end_words n small)

end_free : (n : ℕ) → n < 2 ^ 64 → is_free 0x0A (end_line n) ≡ true
end_free n small = line_free (codes "end" ∷ decimal n ∷ []) (end_words n small)

end_number : (n : ℕ) → n < 2 ^ 64 → number_in (parts 0x20 (end_line n)) ≡ Some (decimal n)
end_number n small = ap number_in (end_back n small) ∙ (rw (decimal_number n small) refl)

head_free : (format : Format) → is_free 0x0A (head_line format) ≡ true
head_free One = refl
head_free Two = refl

head_known : (format : Format) → format_of_head (head_line format) ≡ Some format
head_known One = refl
head_known Two = refl

-- ---- what a text of an end line has

number_found : (words : List (List ℕ)) (number : List ℕ) → number_in words ≡ Some number → words ≡ codes "end" ∷ number ∷ []
number_found [] number is = not_some number is
number_found (a ∷ []) number is = not_some number is
number_found (a ∷ b ∷ []) number is =
    elim (cases_Bool (is_text a (codes "end") && is_number b)) [
      | inl both ↦
          let word = same_text a (codes "end") (and_parts (is_text a (codes "end")) (is_number b) both).0 in
          let same = same_some b number (rw both at is) in
          (λ i. (word i ∷ same i ∷ []))
      | inr not ↦ not_some number (rw not at is)
    ]
number_found (a ∷ b ∷ c ∷ words) number is = not_some number is

head_found : (line : List ℕ) (format : Format) → format_of_head line ≡ Some format → line ≡ head_line format
head_found line format is =
    elim (cases_Bool (is_text line (head_line One))) [
      | inl one ↦ same_text line (head_line One) one ∙ ap head_line (same_some One format (rw one at is))
      | inr other ↦
          elim (cases_Bool (is_text line (head_line Two))) [
            | inl two ↦ same_text line (head_line Two) two ∙ ap head_line (same_some Two format (rw (other, two) at is))
            | inr neither ↦ not_some format (rw (other, neither) at is)
          ]
    ]

mapped : (o : Option Format) (lines : List (List ℕ)) (found : Format × List (List ℕ)) → option_map (λ format. (format, lines)) o ≡ Some found
    → (o ≡ Some found.0) × (lines ≡ found.1)
mapped None lines found is = not_some found is
mapped (Some format) lines found is =
    let same = same_some (format, lines) found is in
    (ap (λ (p : Format × List (List ℕ)). Some p.0) same, ap (λ (p : Format × List (List ℕ)). p.1) same)

format_found : (body : List (List ℕ)) (found : Format × List (List ℕ)) → format_in body ≡ Some found → body ≡ head_line found.0 ∷ found.1
format_found [] found is = not_some found is
format_found (line ∷ lines) found is =
    let (head, rest) = mapped (format_of_head line) lines found is in
    let line_is = head_found line found.0 head in
    (λ i. (line_is i ∷ rest i))

-- ---- the lines of a text

-- what was read of a text, step by step
pub record AreSpelt (text : List ℕ) (entries : List Entry) : Type 0 where
  pub body : List (List ℕ)
  pub end : List ℕ
  pub whole : body_of (parts 0x0A text) ≡ Some (body, end)
  pub number : List ℕ
  pub ends : number_in (parts 0x20 end) ≡ Some number
  pub format : Format
  pub lines : List (List ℕ)
  pub begins : format_in body ≡ Some (format, lines)
  pub read : AreRead format [] lines entries
  pub counted : is_text number (decimal (length entries)) ≡ true

spelt-law : (text : List ℕ) → Reads (entries_of_text text) (AreSpelt text)
unfolding entries_of_text
spelt-law text = reads-as (entries_of_text text) _ (AreSpelt text)
    (λ entries (b, whole, (number, ends, (found, begins, (read, are, (_, counted, same))))).
    subst (AreSpelt text) same (record {
      body = b.0;
      end = b.1;
      whole = whole;
      number = number;
      ends = ends;
      format = found.0;
      lines = found.1;
      begins = begins;
      read = are;
      counted = counted;
    }))
    (λ entries p. (
      (p.body, p.end),
      p.whole,
      (p.number, p.ends, ((p.format, p.lines), p.begins, (entries, p.read, (tt, p.counted, refl)))),
    ))
    (reads-bind _ _ _ _ (reads-need faults.Cut (body_of (parts 0x0A text))) (λ b.
    reads-bind _ _ _ _ (reads-need faults.Cut (number_in (parts 0x20 b.1))) (λ number.
    reads-bind _ _ _ _ (reads-need faults.BadText (format_in b.0)) (λ found.
    reads-bind _ _ _ _ (entries-law found.0 [] found.1) (λ entries.
    reads-bind _ _ _ _ (reads-guard faults.BadText (is_text number (decimal (length entries)))) (λ counted.
    reads-ok entries))))))

-- a text of these lines
pub record IsTextOf (text : List ℕ) (entries : List Entry) : Type 0 where
  pub format : Format
  pub fit : list_all (entry_fits format) entries ≡ true
  pub spelt : text ≡ text_of format entries

-- lines are their words, joined
lines_back_of : (lines : List (List ℕ)) → map line_of (map (λ line. parts 0x20 line) lines) ≡ lines
lines_back_of [] = refl
lines_back_of (line ∷ lines) = (λ i. (line_back line i ∷ lines_back_of lines i))

joined_words : (format : Format) (entries : List Entry) → map line_of (map (entry_words format) entries) ≡ entry_lines format entries
joined_words format [] = refl
joined_words format (e ∷ entries) = ap (λ l. line_of (entry_words format e) ∷ l) (joined_words format entries)

pub text_found : (text : List ℕ) (entries : List Entry) → AreSpelt text entries → IsTextOf text entries
text_found text entries h =
    let same : entries ≡ h.read.entries = h.read.behind in
    let lines_are : h.lines ≡ entry_lines h.format entries =
    sym (lines_back_of h.lines) ∙ ap (map line_of) (h.read.words_are ∙ ap (map (entry_words h.format)) (sym same)) ∙ joined_words h.format entries in
    let body_is : h.body ≡ head_line h.format ∷ entry_lines h.format entries = format_found h.body (h.format, h.lines) h.begins ∙ ap (λ l. head_line h.format ∷ l) lines_are in
    let number_is : h.number ≡ decimal (length entries) = same_text h.number (decimal (length entries)) h.counted in
    let end_is : h.end ≡ end_line (length entries) =
    sym (line_back h.end) ∙ ap line_of (number_found (parts 0x20 h.end) h.number h.ends) ∙ ap (λ n. line_of (codes "end" ∷ n ∷ [])) number_is in
    let pieces : parts 0x0A text ≡ (h.body ++ h.end ∷ []) ++ [] ∷ [] = body_found (parts 0x0A text) h.body h.end h.whole ∙ sym (append_assoc h.body (h.end ∷ []) ([] ∷ [])) in
    record {
      format = h.format;
      fit = ap (list_all (entry_fits h.format)) same ∙ h.read.fit;
      spelt = text_back text (h.body ++ h.end ∷ []) pieces ∙ (λ i. text_of_lines (body_is i ++ end_is i ∷ []));
    }

-- the lines of a text, taken apart
lines_apart : (format : Format) (entries : List Entry) → list_all (entry_fits format) entries ≡ true → length entries < 2 ^ 64
    → parts 0x0A (text_of format entries) ≡ (head_line format ∷ entry_lines format entries) ++ end_line (length entries) ∷ [] ∷ []
lines_apart format entries fit small =
    lines_back (lines_of format entries)
    (all_from (is_free 0x0A) (head_line format ∷ entry_lines format entries) (end_line (length entries) ∷ [])
    (and_from (is_free 0x0A (head_line format)) (list_all (is_free 0x0A) (entry_lines format entries)) (head_free format) (entries_free format entries fit))
    (and_from (is_free 0x0A (end_line (length entries))) true (end_free (length entries) small) refl))
    ∙ append_assoc (head_line format ∷ entry_lines format entries) (end_line (length entries) ∷ []) ([] ∷ [])

pub text_spelt : (text : List ℕ) (entries : List Entry) → length entries < 2 ^ 64 → IsTextOf text entries → AreSpelt text entries
text_spelt text entries small h = record {
  body = head_line h.format ∷ entry_lines h.format entries;
  end = end_line (length entries);
  whole =
      ap body_of (ap (parts 0x0A) h.spelt ∙ lines_apart h.format entries h.fit small)
      ∙ body_here (head_line h.format ∷ entry_lines h.format entries) (end_line (length entries));
  number = decimal (length entries);
  ends = end_number (length entries) small;
  format = h.format;
  lines = entry_lines h.format entries;
  begins = ap (option_map (λ format. (format, entry_lines h.format entries))) (head_known h.format);
  read = record { entries = entries; behind = refl; words_are = entries_back h.format entries h.fit; fit = h.fit };
  counted = text_same (decimal (length entries));
}

-- ---- the text of a progress

pub record IsRead (keys : List Key) (text : List ℕ) (progress : List Known) : Type 0 where
  pub entries : List Entry
  pub spelt : AreSpelt text entries
  pub behind : List Key
  pub found : keys_behind keys entries ≡ Some behind
  pub known : all_known entries behind ≡ progress

read-law : (keys : List Key) (text : List ℕ) → Reads (read_text keys text) (IsRead keys text)
unfolding read_text
read-law keys text = reads-as (read_text keys text) _ (IsRead keys text)
    (λ progress (entries, spelt, (behind, found, known)). record { entries = entries; spelt = spelt; behind = behind; found = found; known = known })
    (λ progress p. (p.entries, p.spelt, (p.behind, p.found, p.known)))
    (reads-bind _ _ _ _ (spelt-law text) (λ entries.
    reads-bind _ _ _ _ (reads-need faults.OtherPlan (keys_behind keys entries)) (λ behind.
    reads-ok (all_known entries behind))))

pub progress_found : (keys : List Key) (text : List ℕ) (progress : List Known) → read_text keys text ≡ Ok progress → IsProgressText keys text progress
progress_found keys text progress is =
    let h = (read-law keys text).sound progress is in
    let t = text_found text h.entries h.spelt in
    record {
      format = t.format;
      entries = h.entries;
      fit = t.fit;
      spelt = t.spelt;
      tells = subst (Tells keys h.entries) h.known (told keys h.entries h.behind h.found);
    }

pub progress_read : (keys : List Key) (text : List ℕ) (progress : List Known) → (h : IsProgressText keys text progress) → length h.entries < 2 ^ 64
    → read_text keys text ≡ Ok progress
progress_read keys text progress h small =
    let b = tells keys h.entries progress h.tells in
    (read-law keys text).complete progress (record {
      entries = h.entries;
      spelt = text_spelt text h.entries small (record { format = h.format; fit = h.fit; spelt = h.spelt });
      behind = b.behind;
      found = b.found;
      known = b.known;
    })

-- ---- what a call answers

pub is_found : (keys : List Key) (text : List ℕ) (r : Result (List Known) ProgressFault) → GivesProgress (λ p. p) r (read_text keys text)
    → IfOk r (λ progress. IsProgressText keys text progress)
is_found keys text (Ok progress) e = progress_found keys text progress e
is_found keys text (Err fault) e = tt

pub is_only : (keys : List Key) (text : List ℕ) (r : Result (List Known) ProgressFault) (progress : List Known) → IsLawful keys
    → GivesProgress (λ p. p) r (read_text keys text) → IsProgressText keys text progress → GivesProgress (λ p. p) r (Ok progress)
is_only keys text r progress lawful e is =
    let as_many = as_few keys is.entries progress is.tells in
    let few = lawful.few in
    subst (λ read. GivesProgress (λ p. p) r read) (progress_read keys text progress is (omega (arith, few, as_many))) e

text_suits : (keys : List Key) (text : List ℕ) (progress : List Known) → IsProgressText keys text progress → Suits keys progress
text_suits keys text progress h = told_suits h.format keys h.entries progress h.fit h.tells

pub is_suited : (keys : List Key) (text : List ℕ) (r : Result (List Known) ProgressFault) → GivesProgress (λ p. p) r (read_text keys text)
    → IfOk r (λ progress. Suits keys progress)
is_suited keys text (Ok progress) e = text_suits keys text progress (progress_found keys text progress e)
is_suited keys text (Err fault) e = tt

-- ---- a proper front

-- no line but the last is an end line
abbrev is_inner : List ℕ → Bool
is_inner line = not (is_some (number_in (parts 0x20 line)))

head_inner : (format : Format) → is_inner (head_line format) ≡ true
head_inner One = refl
head_inner Two = refl

entry_inner : (format : Format) (e : Entry) → entry_fits format e ≡ true → is_inner (line_of (entry_words format e)) ≡ true
entry_inner One e h = ap (λ words. not (is_some (number_in words))) (entry_back One e h)
entry_inner Two e h = ap (λ words. not (is_some (number_in words))) (entry_back Two e h)

entries_inner : (format : Format) (entries : List Entry) → list_all (entry_fits format) entries ≡ true → list_all is_inner (entry_lines format entries) ≡ true
entries_inner format [] h = refl
entries_inner format (e ∷ entries) h =
    let p = and_parts (entry_fits format e) (list_all (entry_fits format) entries) h in
    and_from (is_inner (line_of (entry_words format e))) (list_all is_inner (entry_lines format entries))
    (entry_inner format e p.0) (entries_inner format entries p.1)

-- the last of some lines
record HasLast (lines : List (List ℕ)) : Type 0 where
  body : List (List ℕ)
  last : List ℕ
  is : lines ≡ body ++ last ∷ []

last_of : (line : List ℕ) (lines : List (List ℕ)) → HasLast (line ∷ lines)
last_of line [] = record { body = []; last = line; is = refl }
last_of line (next ∷ lines) =
    let h = last_of next lines in
    record { body = line ∷ h.body; last = h.last; is = ap (λ l. line ∷ l) h.is }

no_some : {A : Type 0} (o : Option A) → not (is_some o) ≡ true → o ≡ None
no_some None h = refl
no_some (Some a) h = absurd cc

cut_lines : (text : List ℕ) (whole : List (List ℕ)) (rest : List ℕ) → parts 0x0A text ≡ whole ++ rest ∷ [] → list_all is_inner whole ≡ true
    → entries_of_text text ≡ Err faults.Cut
unfolding entries_of_text
cut_lines text whole (b ∷ rest) is inner = rw (ap body_of is ∙ no_body whole b rest) refl
cut_lines text [] [] is inner = rw (ap body_of is) refl
cut_lines text (line ∷ lines) [] is inner =
    let h = last_of line lines in
    let behind : parts 0x0A text ≡ h.body ++ h.last ∷ [] ∷ [] = is ∙ ap (λ l. l ++ [] ∷ []) h.is ∙ append_assoc h.body (h.last ∷ []) ([] ∷ []) in
    let p = all_parts is_inner h.body (h.last ∷ []) (ap (list_all is_inner) (sym h.is) ∙ inner) in
    let none = no_some (number_in (parts 0x20 h.last)) (and_parts (is_inner h.last) true p.1).0 in
    rw (ap body_of behind ∙ body_here h.body h.last, none) refl

cut_read : (keys : List Key) (text : List ℕ) → entries_of_text text ≡ Err faults.Cut → read_text keys text ≡ Err faults.Cut
unfolding read_text
cut_read keys text is = rw is refl

pub front_is_cut : (keys others : List Key) (text front more : List ℕ) (progress : List Known) → length keys ≤ 1000
    → IsProgressText keys text progress → text ≡ front ++ more → more ≢ [] → read_text others front ≡ Err faults.Cut
front_is_cut keys others text front more progress few h same some =
    let as_many = as_few keys h.entries progress h.tells in
    let small : length h.entries < 2 ^ 64 = omega (arith, few, as_many) in
    let lines = head_line h.format ∷ entry_lines h.format h.entries in
    let end = end_line (length h.entries) in
    let free : list_all (is_free 0x0A) lines ≡ true =
    and_from (is_free 0x0A (head_line h.format)) (list_all (is_free 0x0A) (entry_lines h.format h.entries)) (head_free h.format) (entries_free h.format h.entries h.fit) in
    let inner : list_all is_inner lines ≡ true =
    and_from (is_inner (head_line h.format)) (list_all is_inner (entry_lines h.format h.entries)) (head_inner h.format) (entries_inner h.format h.entries h.fit) in
    let short = cut_short lines end front more free (end_free (length h.entries) small) (sym h.spelt ∙ same) some in
    let first = all_parts is_inner short.whole short.left (ap (list_all is_inner) (sym short.first) ∙ inner) in
    cut_read others front (cut_lines front short.whole short.rest short.pieces first.0)
