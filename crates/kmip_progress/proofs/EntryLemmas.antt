-- The line of a key is read just where it is one.
use Rattle.std.proofs.Common.{◌≡◌, ◌==◌, ◌≤◌, ℕ, nat_le, Bool, true, false, ◌&&◌, ◌||◌, List, [], ◌∷◌, ◌++◌, length, map, Option, Some, None, is_some, Result, Ok, Err, subst, refl, sym, ap, ◌∙◌, arith, append_assoc}
use Rattle.std.specs.Fmt.{decimal}
use Rattle.std.specs.List.{list_all}
use Rattle.std.specs.Option.{option_map_or}
use Rattle.std.specs.Str.{is_utf8}
use Rattle.std.proofs.lemmas.Bool.{and_parts, and_from, leb-true, le-leb}
use Rattle.std.proofs.lemmas.List.{append-nil}
use Rattle.kmip_objects.specs.Ranges.{is_name, is_identifier}
use Rattle.kmip_ttlv.proofs.ReadSteps.{Reads, reads-ok, reads-bind, reads-as}
use Rattle.kmip_plan.specs.Fields.{if_so}
use Rattle.kmip_plan.specs.TargetWords.{target_word, target_of_word}
use Rattle.kmip_plan.specs.declared.target.Target.{Target}
use Rattle.kmip_progress.specs.declared.entry.Entry.{Entry}
use Rattle.kmip_progress.specs.declared.format.Format.{Format}
use Rattle.kmip_progress.specs.declared.format.Format.TheVariants.{One, Two}
use Rattle.kmip_progress.specs.declared.progress_fault.ProgressFault.{ProgressFault}
use Rattle.kmip_progress.specs.declared.progress_fault.ProgressFault.TheVariants as faults
use Rattle.kmip_progress.specs.declared.known.Known.{Known}
use Rattle.kmip_progress.specs.Reading.{need, guard, parts, known_in, entry_1, entry_2, entry_in, entries_in}
use Rattle.kmip_progress.specs.Suiting.{is_known, has_text}
use Rattle.kmip_progress.specs.Texts.{entry_words, entry_fits, reason_stands}
use Rattle.kmip_progress.specs.Words.{done_of_word, reason_in, reason_word, identifier_in, identifier_word}
use Rattle.kmip_progress.proofs.WordLemmas.{same_some, not_some, passed, passes, is_lawful, word_of_target, target_of_its_word, done_found, done_read, reason_in_found, reason_in_read, identifier_found, identifier_read}

-- ---- the steps of a reader

abbrev pub ok : (A : Type 0) → A → Result A ProgressFault
ok A a = Ok a

abbrev pub err : (A : Type 0) → ProgressFault → Result A ProgressFault
err A e = Err e

pub same_ok : {A : Type 0} (x y : A) → ok A x ≡ ok A y → x ≡ y
same_ok x y e = cc

pub not_ok : {A X : Type 0} (e : ProgressFault) (a : A) → err A e ≡ ok A a → X
not_ok e a is = absurd cc

pub reads-need : {A : Type 0} (fault : ProgressFault) (o : Option A) → Reads (need fault o) (λ a. o ≡ Some a)
reads-need fault None = record { sound = λ a e. not_ok fault a e; complete = λ a e. not_some a e }
reads-need fault (Some x) = record { sound = λ a e. ap Some (same_ok x a e); complete = λ a e. ap Ok (same_some x a e) }

pub reads-guard : (fault : ProgressFault) (b : Bool) → Reads (guard fault b) (λ u. b ≡ true)
reads-guard fault true = record { sound = λ u e. refl; complete = λ u e. refl }
reads-guard fault false = record { sound = λ u e. not_ok fault u e; complete = λ u e. absurd cc }

-- what is refused is none of these
reads-nothing : {A : Type 0} (fault : ProgressFault) (P : A → Type 0) → ((a : A) → P a → ⊥) → Reads (err A fault) P
reads-nothing fault P never = record { sound = λ a e. not_ok fault a e; complete = λ a p. absurd (never a p) }

-- ---- what is known of a key

pub record IsKnownBy (done identifier : List ℕ) (k : Known) : Type 0 where
  pub done_is : done ≡ decimal k.done
  pub few : k.done ≤ 4
  pub identifier_is : identifier ≡ identifier_word k.identifier
  pub known : is_known k ≡ true
  pub text : has_text k ≡ true

known_by : (done identifier : List ℕ) (n : ℕ) (u : Option (List ℕ)) (k : Known) → done_of_word done ≡ Some n → identifier_in identifier ≡ Some u
    → if_so is_known (record { identifier = u; done = n }) ≡ Some k → IsKnownBy done identifier k
known_by done identifier n u k counts spells so =
    let one : Known = record { identifier = u; done = n } in
    let (same, fits) = passed is_known (is_known one) one k refl so in
    let (done_is, few) = done_found done n counts in
    let (identifier_is, lawful) = identifier_found identifier u spells in
    subst (IsKnownBy done identifier) same (record {
      done_is = done_is;
      few = few;
      identifier_is = identifier_is;
      known = fits;
      text = (and_parts (option_map_or is_identifier u true) (option_map_or is_utf8 u true) lawful).1;
    })

lawful_by : (k : Known) → is_known k ≡ true → has_text k ≡ true → is_lawful k.identifier ≡ true
lawful_by k known text =
    let p = and_parts (k.done == 0 || is_some k.identifier) (option_map_or is_identifier k.identifier true) known in
    and_from (option_map_or is_identifier k.identifier true) (option_map_or is_utf8 k.identifier true) p.1 text

known-law : (done identifier : List ℕ) → Reads (known_in done identifier) (IsKnownBy done identifier)
unfolding known_in
known-law done identifier = reads-as (known_in done identifier) _ (IsKnownBy done identifier)
    (λ k (n, counts, (u, spells, so)). known_by done identifier n u k counts spells so)
    (λ k p. (
      k.done,
      ap done_of_word p.done_is ∙ done_read k.done p.few,
      (
        k.identifier,
        ap identifier_in p.identifier_is ∙ identifier_read k.identifier (lawful_by k p.known p.text),
        passes is_known k p.known,
      ),
    ))
    (reads-bind _ _ _ _ (reads-need faults.BadText (done_of_word done)) (λ n.
    reads-bind _ _ _ _ (reads-need faults.BadText (identifier_in identifier)) (λ u.
    reads-need faults.BadText (if_so is_known (record { identifier = u; done = n })))))

-- ---- the line of a key

pub record IsEntry (format : Format) (words : List (List ℕ)) (e : Entry) : Type 0 where
  pub words_are : words ≡ entry_words format e
  pub fit : entry_fits format e ≡ true

-- what an entry has to have
pub record Fits (format : Format) (e : Entry) : Type 0 where
  pub name : is_name e.name ≡ true
  pub reason : reason_stands format e.target e.reason ≡ true
  pub few : e.known.done ≤ 4
  pub known : is_known e.known ≡ true
  pub text : has_text e.known ≡ true

pub fits_so : (format : Format) (e : Entry) → entry_fits format e ≡ true → Fits format e
fits_so format e h =
    let a = and_parts (is_name e.name && reason_stands format e.target e.reason && nat_le e.known.done 4 && is_known e.known) (has_text e.known) h in
    let b = and_parts (is_name e.name && reason_stands format e.target e.reason && nat_le e.known.done 4) (is_known e.known) a.0 in
    let c = and_parts (is_name e.name && reason_stands format e.target e.reason) (nat_le e.known.done 4) b.0 in
    let d = and_parts (is_name e.name) (reason_stands format e.target e.reason) c.0 in
    record { name = d.0; reason = d.1; few = leb-true e.known.done 4 c.1; known = b.1; text = a.1 }

pub so_fits : (format : Format) (e : Entry) → Fits format e → entry_fits format e ≡ true
so_fits format e h =
    and_from (is_name e.name && reason_stands format e.target e.reason && nat_le e.known.done 4 && is_known e.known) (has_text e.known)
    (and_from (is_name e.name && reason_stands format e.target e.reason && nat_le e.known.done 4) (is_known e.known)
    (and_from (is_name e.name && reason_stands format e.target e.reason) (nat_le e.known.done 4)
    (and_from (is_name e.name) (reason_stands format e.target e.reason) h.name h.reason) (le-leb e.known.done 4 h.few)) h.known) h.text

no_reason : (target : Target) (o : Option ℕ) → reason_stands One target o ≡ true → None ≡ o
no_reason target None h = refl
no_reason target (Some r) h = absurd cc

entry_1-law : (name target done identifier : List ℕ) → Reads (entry_1 name target done identifier) (IsEntry One (name ∷ target ∷ done ∷ identifier ∷ []))
unfolding entry_1
entry_1-law name target done identifier = reads-as (entry_1 name target done identifier) _ (IsEntry One (name ∷ target ∷ done ∷ identifier ∷ []))
    (λ e (n, called, (t, goes, (k, known, same))).
    let (name_is, name_fits) = passed is_name (is_name name) name n refl called in
    let target_is = word_of_target target t goes in
    subst (IsEntry One (name ∷ target ∷ done ∷ identifier ∷ [])) same (record {
      words_are = λ i. (name_is i ∷ target_is i ∷ known.done_is i ∷ known.identifier_is i ∷ []);
      fit = so_fits One (record { name = n; target = t; reason = None; known = k }) (record {
        name = ap is_name (sym name_is) ∙ name_fits;
        reason = refl;
        few = known.few;
        known = known.known;
        text = known.text;
      });
    }))
    (λ e p.
    let f = fits_so One e p.fit in
    let name_is : name ≡ e.name = let all = p.words_are in cc in
    let target_is : target ≡ target_word e.target = let all = p.words_are in cc in
    let done_is : done ≡ decimal e.known.done = let all = p.words_are in cc in
    let identifier_is : identifier ≡ identifier_word e.known.identifier = let all = p.words_are in cc in (
      e.name,
      ap (if_so is_name) name_is ∙ passes is_name e.name f.name,
      (
        e.target,
        ap target_of_word target_is ∙ target_of_its_word e.target,
        (
          e.known,
          record { done_is = done_is; few = f.few; identifier_is = identifier_is; known = f.known; text = f.text },
          ap (λ o. record e { reason = o }) (no_reason e.target e.reason f.reason),
        ),
      ),
    ))
    (reads-bind _ _ _ _ (reads-need faults.BadText (if_so is_name name)) (λ n.
    reads-bind _ _ _ _ (reads-need faults.BadText (target_of_word target)) (λ t.
    reads-bind _ _ _ _ (known-law done identifier) (λ k.
    reads-ok (record { name = n; target = t; reason = None; known = k })))))

entry_2-law : (name target reason done identifier : List ℕ)
    → Reads (entry_2 name target reason done identifier) (IsEntry Two (name ∷ target ∷ reason ∷ done ∷ identifier ∷ []))
unfolding entry_2
entry_2-law name target reason done identifier =
    reads-as (entry_2 name target reason done identifier) _ (IsEntry Two (name ∷ target ∷ reason ∷ done ∷ identifier ∷ []))
    (λ e (n, called, (t, goes, (r, because, (k, known, same)))).
    let (name_is, name_fits) = passed is_name (is_name name) name n refl called in
    let target_is = word_of_target target t goes in
    let (reason_is, stands) = reason_in_found t reason r because in
    subst (IsEntry Two (name ∷ target ∷ reason ∷ done ∷ identifier ∷ [])) same (record {
      words_are = λ i. (name_is i ∷ target_is i ∷ reason_is i ∷ known.done_is i ∷ known.identifier_is i ∷ []);
      fit = so_fits Two (record { name = n; target = t; reason = r; known = k }) (record {
        name = ap is_name (sym name_is) ∙ name_fits;
        reason = stands;
        few = known.few;
        known = known.known;
        text = known.text;
      });
    }))
    (λ e p.
    let f = fits_so Two e p.fit in
    let name_is : name ≡ e.name = let all = p.words_are in cc in
    let target_is : target ≡ target_word e.target = let all = p.words_are in cc in
    let reason_is : reason ≡ reason_word e.reason = let all = p.words_are in cc in
    let done_is : done ≡ decimal e.known.done = let all = p.words_are in cc in
    let identifier_is : identifier ≡ identifier_word e.known.identifier = let all = p.words_are in cc in (
      e.name,
      ap (if_so is_name) name_is ∙ passes is_name e.name f.name,
      (
        e.target,
        ap target_of_word target_is ∙ target_of_its_word e.target,
        (
          e.reason,
          ap (reason_in e.target) reason_is ∙ reason_in_read e.target e.reason f.reason,
          (
            e.known,
            record { done_is = done_is; few = f.few; identifier_is = identifier_is; known = f.known; text = f.text },
            refl,
          ),
        ),
      ),
    ))
    (reads-bind _ _ _ _ (reads-need faults.BadText (if_so is_name name)) (λ n.
    reads-bind _ _ _ _ (reads-need faults.BadText (target_of_word target)) (λ t.
    reads-bind _ _ _ _ (reads-need faults.BadText (reason_in t reason)) (λ r.
    reads-bind _ _ _ _ (known-law done identifier) (λ k.
    reads-ok (record { name = n; target = t; reason = r; known = k }))))))

-- a line of as many words as an entry of the format has
many : (format : Format) (words : List (List ℕ)) (e : Entry) → IsEntry format words e → length words ≡ length (entry_words format e)
many format words e h = ap (λ (l : List (List ℕ)). length l) h.words_are

refuses : (format : Format) (words : List (List ℕ)) → ((e : Entry) → length words ≡ length (entry_words format e) → ⊥) → Reads (err Entry faults.BadText) (IsEntry format words)
refuses format words other = reads-nothing faults.BadText (IsEntry format words) (λ e h. other e (many format words e h))

pub entry-law : (format : Format) (words : List (List ℕ)) → Reads (entry_in format words) (IsEntry format words)
entry-law One [] = refuses One [] (λ e l. omega (arith, l))
entry-law One (a ∷ []) = refuses One (a ∷ []) (λ e l. omega (arith, l))
entry-law One (a ∷ b ∷ []) = refuses One (a ∷ b ∷ []) (λ e l. omega (arith, l))
entry-law One (a ∷ b ∷ c ∷ []) = refuses One (a ∷ b ∷ c ∷ []) (λ e l. omega (arith, l))
entry-law One (a ∷ b ∷ c ∷ d ∷ []) = entry_1-law a b c d
entry-law One (a ∷ b ∷ c ∷ d ∷ x ∷ more) = refuses One (a ∷ b ∷ c ∷ d ∷ x ∷ more) (λ e l. omega (arith, l))
entry-law Two [] = refuses Two [] (λ e l. omega (arith, l))
entry-law Two (a ∷ []) = refuses Two (a ∷ []) (λ e l. omega (arith, l))
entry-law Two (a ∷ b ∷ []) = refuses Two (a ∷ b ∷ []) (λ e l. omega (arith, l))
entry-law Two (a ∷ b ∷ c ∷ []) = refuses Two (a ∷ b ∷ c ∷ []) (λ e l. omega (arith, l))
entry-law Two (a ∷ b ∷ c ∷ d ∷ []) = refuses Two (a ∷ b ∷ c ∷ d ∷ []) (λ e l. omega (arith, l))
entry-law Two (a ∷ b ∷ c ∷ d ∷ x ∷ []) = entry_2-law a b c d x
entry-law Two (a ∷ b ∷ c ∷ d ∷ x ∷ y ∷ more) = refuses Two (a ∷ b ∷ c ∷ d ∷ x ∷ y ∷ more) (λ e l. omega (arith, l))

-- ---- the lines

-- the entries before, and those of the lines behind them
pub record AreRead (format : Format) (before : List Entry) (lines : List (List ℕ)) (all : List Entry) : Type 0 where
  pub entries : List Entry
  pub behind : all ≡ before ++ entries
  pub words_are : map (λ line. parts 0x20 line) lines ≡ map (entry_words format) entries
  pub fit : list_all (entry_fits format) entries ≡ true

no_lines : (format : Format) (before all entries : List Entry) → all ≡ before ++ entries → [] ≡ map (entry_words format) entries → before ≡ all
no_lines format before all [] behind same = sym (behind ∙ append-nil before)
no_lines format before all (e ∷ entries) behind same = absurd cc

first_line : (format : Format) (before : List Entry) (line : List ℕ) (lines : List (List ℕ)) (all entries : List Entry) → all ≡ before ++ entries
    → parts 0x20 line ∷ map (λ l. parts 0x20 l) lines ≡ map (entry_words format) entries → list_all (entry_fits format) entries ≡ true
    → (e : Entry) × IsEntry format (parts 0x20 line) e × AreRead format (before ++ e ∷ []) lines all
first_line format before line lines all [] behind same fit = absurd cc
first_line format before line lines all (e ∷ entries) behind same fit =
    let p = and_parts (entry_fits format e) (list_all (entry_fits format) entries) fit in
    let here : parts 0x20 line ≡ entry_words format e = cc in
    let there : map (λ l. parts 0x20 l) lines ≡ map (entry_words format) entries = cc in (
      e,
      record { words_are = here; fit = p.0 },
      record { entries = entries; behind = behind ∙ sym (append_assoc before (e ∷ []) entries); words_are = there; fit = p.1 },
    )

pub entries-law : (format : Format) (before : List Entry) (lines : List (List ℕ)) → Reads (entries_in format before lines) (AreRead format before lines)
entries-law format before [] = reads-as (ok (List Entry) before) _ (AreRead format before [])
    (λ all e. record { entries = []; behind = sym e ∙ sym (append-nil before); words_are = refl; fit = refl })
    (λ all h. no_lines format before all h.entries h.behind h.words_are)
    (reads-ok before)
entries-law format before (line ∷ lines) = reads-as (entries_in format before (line ∷ lines)) _ (AreRead format before (line ∷ lines))
    (λ all (e, is, read). record {
      entries = e ∷ read.entries;
      behind = read.behind ∙ append_assoc before (e ∷ []) read.entries;
      words_are = λ i. (is.words_are i ∷ read.words_are i);
      fit = and_from (entry_fits format e) (list_all (entry_fits format) read.entries) is.fit read.fit;
    })
    (λ all h. first_line format before line lines all h.entries h.behind h.words_are h.fit)
    (reads-bind _ _ _ _ (entry-law format (parts 0x20 line)) (λ e. entries-law format (before ++ e ∷ []) lines))
