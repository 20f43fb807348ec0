-- What was written is read back, for its own plan and for one that prolongs it.
use Rattle.std.proofs.Common.{◌≡◌, ◌≤◌, ℕ, nat_le, true, not, ◌&&◌, List, [], ◌∷◌, ◌++◌, length, map, drop, Some, None, Ok, subst, refl, sym, ap, ◌∙◌, inl, inr, arith}
use Rattle.std.specs.List.{list_all}
use Rattle.std.proofs.Math.Seq.{drop-length}
use Rattle.std.proofs.lemmas.Bool.{cases_Bool, and_parts, and_from, leb-true, cond-true, cond-false}
use Rattle.std.proofs.lemmas.List.{append-nil}
use Rattle.kmip_objects.specs.Ranges.{is_name, is_algorithm, is_length, is_usage, attrs_fit}
use Rattle.kmip_plan.specs.Chains.{chain, is_revoked}
use Rattle.kmip_plan.specs.Plans.{key_fits, reason_fits, IsLawful}
use Rattle.kmip_plan.specs.Prolonging.{Prolongs}
use Rattle.kmip_plan.specs.declared.key.Key.{Key}
use Rattle.kmip_plan.specs.declared.target.Target.{Target}
use Rattle.kmip_plan.specs.declared.target.Target.TheVariants.{Created, Active, Revoked, Destroyed, Discarded}
use Rattle.kmip_progress.specs.declared.format.Format.{Format}
use Rattle.kmip_progress.specs.declared.format.Format.TheVariants.{One, Two}
use Rattle.kmip_progress.specs.declared.known.Known.{Known}
use Rattle.kmip_progress.specs.Reading.{read_text}
use Rattle.kmip_progress.specs.Suiting.{is_known, known_fits, nothing_known, Suits, has_text, are_texts}
use Rattle.kmip_progress.specs.Texts.{reason_stands, reason_for, entry_fits, entry_for, entries_for, text_of, IsProgressText}
use Rattle.kmip_progress.proofs.EntryLemmas.{so_fits}
use Rattle.kmip_progress.proofs.TellingLemmas.{prolonged, itself}
use Rattle.kmip_progress.proofs.TextLemmas.{progress_read}
use Rattle.kmip_progress.proofs.WritingLemmas.{as_many_lines}

four_steps : (target : Target) → length (chain target) ≤ 4
four_steps Created = omega arith
four_steps Active = omega arith
four_steps Revoked = omega arith
four_steps Destroyed = omega arith
four_steps Discarded = omega arith

own_stands : (format : Format) (key : Key) → reason_fits key.target key.reason ≡ true → reason_stands format key.target (reason_for format key) ≡ true
own_stands One key fits = refl
own_stands Two key fits = elim (cases_Bool (is_revoked key.target)) [
  | inl revoked ↦
      ap (reason_stands Two key.target) (cond-true (is_revoked key.target) (Some key.reason) None revoked)
      ∙ and_from (is_revoked key.target) (reason_fits key.target key.reason) revoked fits
  | inr never ↦ ap (reason_stands Two key.target) (cond-false (is_revoked key.target) (Some key.reason) None never) ∙ ap not never
]

named : (key : Key) → attrs_fit key.attrs ≡ true → is_name key.attrs.name ≡ true
named key h =
    let a = key.attrs in
    let p = and_parts (is_name a.name && is_algorithm a.algorithm && is_length a.algorithm a.length) (is_usage a.usage) h in
    let q = and_parts (is_name a.name && is_algorithm a.algorithm) (is_length a.algorithm a.length) p.0 in
    (and_parts (is_name a.name) (is_algorithm a.algorithm) q.0).0

own_fits : (format : Format) (key : Key) (known : Known) → key_fits key ≡ true → known_fits key known ≡ true → has_text known ≡ true
    → entry_fits format (entry_for format key known) ≡ true
own_fits format key known fits suits text =
    let k = and_parts (attrs_fit key.attrs) (reason_fits key.target key.reason) fits in
    let p = and_parts (nat_le known.done (length (chain key.target))) (is_known known) suits in
    let within = leb-true known.done (length (chain key.target)) p.0 in
    so_fits format (entry_for format key known) (record {
      name = named key k.0;
      reason = own_stands format key k.1;
      few = omega (arith, within, four_steps key.target);
      known = p.1;
      text = text;
    })

all_own : (format : Format) (keys : List Key) (progress : List Known) → list_all key_fits keys ≡ true → Suits keys progress → are_texts progress ≡ true
    → list_all (entry_fits format) (entries_for format keys progress) ≡ true
all_own format [] progress fits suits texts = refl
all_own format (key ∷ keys) [] fits suits texts = refl
all_own format (key ∷ keys) (known ∷ progress) fits suits texts =
    let f = and_parts (key_fits key) (list_all key_fits keys) fits in
    let t = and_parts (has_text known) (are_texts progress) texts in
    and_from (entry_fits format (entry_for format key known)) (list_all (entry_fits format) (entries_for format keys progress))
    (own_fits format key known f.0 suits.0 t.0) (all_own format keys progress f.1 suits.1 t.1)

-- what was written for a plan says this of one that prolongs it
abbrev says_on : (format : Format) (new old : List Key) (progress : List Known) → IsLawful old → Prolongs new old → Suits old progress
    → are_texts progress ≡ true
    → IsProgressText new (text_of format (entries_for format old progress)) (progress ++ map (λ key. nothing_known) (drop (length old) new))
says_on format new old progress lawful prolongs suits texts = record {
  format = format;
  entries = entries_for format old progress;
  fit = all_own format old progress lawful.fit suits texts;
  spelt = refl;
  tells = prolonged format new old progress prolongs suits;
}

pub read_on : (format : Format) (new old : List Key) (progress : List Known) → IsLawful old → Prolongs new old → Suits old progress
    → are_texts progress ≡ true
    → read_text new (text_of format (entries_for format old progress)) ≡ Ok (progress ++ map (λ key. nothing_known) (drop (length old) new))
read_on format new old progress lawful prolongs suits texts =
    let many = as_many_lines format old progress suits in
    let few = lawful.few in
    progress_read new (text_of format (entries_for format old progress)) (progress ++ map (λ key. nothing_known) (drop (length old) new))
    (says_on format new old progress lawful prolongs suits texts) (omega (arith, few, many))

-- nothing more is known of the keys of the plan itself
nothing_more : (keys : List Key) (progress : List Known) → progress ++ map (λ key. nothing_known) (drop (length keys) keys) ≡ progress
nothing_more keys progress = ap (λ (ks : List Key). progress ++ map (λ key. nothing_known) ks) (drop-length keys) ∙ append-nil progress

pub says_own : (keys : List Key) (text : List ℕ) (progress : List Known) → IsLawful keys → Suits keys progress → are_texts progress ≡ true
    → text ≡ text_of Two (entries_for Two keys progress) → IsProgressText keys text progress
says_own keys text progress lawful suits texts is =
    subst (λ t. IsProgressText keys t progress) (sym is)
    (subst (IsProgressText keys (text_of Two (entries_for Two keys progress))) (nothing_more keys progress)
    (says_on Two keys keys progress lawful (itself keys) suits texts))

pub read_again : (keys : List Key) (progress : List Known) → IsLawful keys → Suits keys progress → are_texts progress ≡ true
    → read_text keys (text_of Two (entries_for Two keys progress)) ≡ Ok progress
read_again keys progress lawful suits texts = read_on Two keys keys progress lawful (itself keys) suits texts ∙ ap Ok (nothing_more keys progress)
