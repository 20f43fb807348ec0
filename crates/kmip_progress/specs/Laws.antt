-- What holds of every progress text.
-- Source: own (law): each is proved of all plans and texts.
use Rattle.std.specs.Prelude.{◌≡◌, ◌≢◌, ◌≤◌, ◌<◌, ℕ, Bool, true, List, [], ◌++◌, length, map, drop, is_some, slice_get, Some, Ok, Err}
use Rattle.kmip_plan.specs.Limits.{most_keys}
use Rattle.kmip_plan.specs.Plans.{IsLawful}
use Rattle.kmip_plan.specs.Prolonging.{Prolongs}
use Rattle.kmip_plan.specs.declared.key.Key.{Key}
use Rattle.kmip_progress.specs.declared.progress_fault.ProgressFault.TheVariants.{Cut}
use Rattle.kmip_progress.specs.declared.known.Known.{Known}
use Rattle.kmip_progress.specs.Reading.{read_text}
use Rattle.kmip_progress.specs.Saved.{saved_lines, says_at}
use Rattle.kmip_progress.specs.Suiting.{nothing_known, Suits, are_texts}
use Rattle.kmip_progress.specs.Texts.{IsProgressText, progress_text, progress_text_1}

-- What is written for a lawful plan is read back, where the progress suits it and its identifiers are UTF-8.
abbrev pub TextsAreReadBack : Type 0
TextsAreReadBack =
    (keys : List Key) (progress : List Known) → IsLawful keys → Suits keys progress → are_texts progress ≡ true
    → read_text keys (progress_text keys progress) ≡ Ok progress

-- Each proper front of a text that some plan of at most 1,000 keys takes is cut, whichever keys it is read
-- for.
abbrev pub FrontsAreCut : Type 0
FrontsAreCut =
    (keys others : List Key) (text front more : List ℕ) (progress : List Known) → length keys ≤ most_keys
    → IsProgressText keys text progress → text ≡ front ++ more → more ≢ [] → read_text others front ≡ Err Cut

-- What is written for a lawful plan is read for each plan that prolongs it, with nothing known of the further
-- keys.
abbrev pub TextsAreProlonged : Type 0
TextsAreProlonged =
    (new old : List Key) (progress : List Known) → IsLawful old → Prolongs new old → Suits old progress → are_texts progress ≡ true
    → read_text new (progress_text old progress) ≡ Ok (progress ++ map (λ key. nothing_known) (drop (length old) new))

-- What an earlier version wrote for a lawful plan is read for each plan that prolongs it, with nothing known
-- of the further keys.
abbrev pub OldTextsAreProlonged : Type 0
OldTextsAreProlonged =
    (new old : List Key) (progress : List Known) → IsLawful old → Prolongs new old → Suits old progress → are_texts progress ≡ true
    → read_text new (progress_text_1 old progress) ≡ Ok (progress ++ map (λ key. nothing_known) (drop (length old) new))

-- What a saved line says is so: it is the number of steps that are known to be done of that key, and whether
-- an identifier of it is known.
abbrev pub SavedLinesAreTrue : Type 0
SavedLinesAreTrue =
    (keys : List Key) (progress : List Known) (place done : ℕ) (is_identified : Bool) (known : Known)
    → place < length keys → slice_get progress place ≡ Some known
    → says_at (saved_lines keys progress) place done is_identified ≡ true
    → (known.done ≡ done) × (is_some known.identifier ≡ is_identified)
