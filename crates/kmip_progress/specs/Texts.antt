-- The texts of a progress, of both formats: how they are made, and what they say of a plan.
-- Source: own (text); what a text may say is own (choice).
use Rattle.std.specs.Prelude.{◌≡◌, ◌≤◌, ℕ, Bool, true, false, not, ◌&&◌, nat_le, List, [], ◌∷◌, ◌++◌, length, map, codes, decimal, Option, Some, None, IfSome, if◌then◌else◌}
use Rattle.std.specs.List.{list_all, join_with_byte}
use Rattle.kmip_objects.specs.Ranges.{is_name}
use Rattle.kmip_plan.specs.Chains.{chain, is_revoked}
use Rattle.kmip_plan.specs.Plans.{reason_fits}
use Rattle.kmip_plan.specs.Chains.{LeadsOn}
use Rattle.kmip_plan.specs.TargetWords.{target_word}
use Rattle.kmip_plan.specs.declared.key.Key.{Key}
use Rattle.kmip_plan.specs.declared.target.Target.{Target}
use Rattle.kmip_progress.specs.declared.entry.Entry.{Entry}
use Rattle.kmip_progress.specs.declared.format.Format.{Format}
use Rattle.kmip_progress.specs.declared.format.Format.TheVariants.{One, Two}
use Rattle.kmip_progress.specs.declared.known.Known.{Known}
use Rattle.kmip_progress.specs.Suiting.{is_known, has_text, nothing_known}
use Rattle.kmip_progress.specs.Words.{reason_word, identifier_word}

-- The first line of a text, which names its format.
abbrev pub head_line : Format → List ℕ
head_line One = codes "kmip-progress 1"
head_line Two = codes "kmip-progress 2"

-- The words of a key's line; the reason is in format 2 alone.
abbrev pub entry_words : Format → Entry → List (List ℕ)
entry_words One e = e.name ∷ target_word e.target ∷ decimal e.known.done ∷ identifier_word e.known.identifier ∷ []
entry_words Two e =
    e.name ∷ target_word e.target ∷ reason_word e.reason ∷ decimal e.known.done ∷ identifier_word e.known.identifier ∷ []

-- A line is its words, one space between.
abbrev pub line_of : List (List ℕ) → List ℕ
line_of words = join_with_byte 0x20 words

-- A text is its lines, each ended by a line feed.
abbrev pub text_of_lines : List (List ℕ) → List ℕ
text_of_lines [] = []
text_of_lines (line ∷ lines) = line ++ 0x0A ∷ text_of_lines lines

-- The last line of a text: `end`, and how many keys there are.
abbrev pub end_line : ℕ → List ℕ
end_line count = line_of (codes "end" ∷ decimal count ∷ [])

-- The lines of a text: its head, a line for each key, and the last line.
abbrev pub lines_of : Format → List Entry → List (List ℕ)
lines_of format entries =
    head_line format ∷ map (λ e. line_of (entry_words format e)) entries ++ end_line (length entries) ∷ []

-- The text of a format that has these lines of keys.
abbrev pub text_of : Format → List Entry → List ℕ
text_of format entries = text_of_lines (lines_of format entries)

-- The line of a key may have this reason: none in format 1, and in format 2 one just where a Revoke leads to
-- the target.
abbrev pub reason_stands : Format → Target → Option ℕ → Bool
reason_stands One target None = true
reason_stands One target (Some reason) = false
reason_stands Two target None = not (is_revoked target)
reason_stands Two target (Some reason) = is_revoked target && reason_fits target reason

-- What the line of a key may say: a name and a reason in their ranges, and at most four steps done. An
-- identifier is UTF-8 of 1 to 64 bytes, and no step is done without one.
abbrev pub entry_fits : Format → Entry → Bool
entry_fits format e =
    is_name e.name && reason_stands format e.target e.reason && nat_le e.known.done 4 && is_known e.known && has_text e.known

-- A line speaks of a key of the plan: it has the key's name, and its target leads on to the key's target. A
-- reason that it has is the key's, and no more steps are done than lead to the line's own target.
pub record SpeaksOf (e : Entry) (key : Key) : Type 0 where
  pub name_same : e.name ≡ key.attrs.name
  pub leads_on : LeadsOn e.target key.target
  pub reason_same : IfSome e.reason (λ reason. reason ≡ key.reason)
  pub within : e.known.done ≤ length (chain e.target)

-- The lines speak of the first keys of the plan, in order, and nothing is known of the keys after those.
abbrev pub Tells : List Key → List Entry → List Known → Type 0
Tells keys [] progress = progress ≡ map (λ key. nothing_known) keys
Tells [] (e ∷ entries) progress = ⊥
Tells (key ∷ keys) (e ∷ entries) [] = ⊥
Tells (key ∷ keys) (e ∷ entries) (known ∷ progress) = SpeaksOf e key × (known ≡ e.known) × Tells keys entries progress

-- A text says this progress of the keys of a plan: its lines, in one of the formats, spell the text and speak
-- of the first keys.
pub record IsProgressText (keys : List Key) (text : List ℕ) (progress : List Known) : Type 0 where
  pub format : Format
  pub entries : List Entry
  pub fit : list_all (entry_fits format) entries ≡ true
  pub spelt : text ≡ text_of format entries
  pub tells : Tells keys entries progress

-- The reason in the line of a key: in format 2 where a Revoke leads to its target, else none.
abbrev pub reason_for : Format → Key → Option ℕ
reason_for One key = None
reason_for Two key = if is_revoked key.target then Some key.reason else None

-- What the line of a key says of it and of what is known.
abbrev pub entry_for : Format → Key → Known → Entry
entry_for format key known =
    record { name = key.attrs.name; target = key.target; reason = reason_for format key; known = known }

-- The line of a key in format 2, without its line feed.
abbrev pub key_line : Key → Known → List ℕ
key_line key known = line_of (entry_words Two (entry_for Two key known))

-- What the lines of the keys say, in the order of the keys.
abbrev pub entries_for : Format → List Key → List Known → List Entry
entries_for format [] progress = []
entries_for format (key ∷ keys) [] = []
entries_for format (key ∷ keys) (known ∷ progress) = entry_for format key known ∷ entries_for format keys progress

-- The text that is written of a progress: format 2.
abbrev pub progress_text : List Key → List Known → List ℕ
progress_text keys progress = text_of Two (entries_for Two keys progress)

-- The text that an earlier version wrote of a progress: format 1.
abbrev pub progress_text_1 : List Key → List Known → List ℕ
progress_text_1 keys progress = text_of One (entries_for One keys progress)
