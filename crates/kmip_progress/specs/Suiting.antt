-- What may be known of the keys of a plan.
-- Source: own (choice).
use Rattle.std.specs.Prelude.{◌≡◌, Bool, true, ◌&&◌, ◌||◌, ◌==◌, nat_le, List, length, None, is_some}
use Rattle.std.specs.List.{list_all, AllZip}
use Rattle.std.specs.Option.{option_map_or}
use Rattle.std.specs.Str.{is_utf8}
use Rattle.kmip_objects.specs.Ranges.{is_identifier}
use Rattle.kmip_plan.specs.Chains.{chain}
use Rattle.kmip_plan.specs.declared.key.Key.{Key}
use Rattle.kmip_progress.specs.declared.known.Known.{Known}

-- Nothing is known of a key: it has no identifier, and no step is done.
abbrev pub nothing_known : Known
nothing_known = record { identifier = None; done = 0 }

-- An identifier has 1 to 64 bytes, and no step is done without one.
abbrev pub is_known : Known → Bool
is_known known = (known.done == 0 || is_some known.identifier) && option_map_or is_identifier known.identifier true

-- This may be known of a key: no more steps are done than lead to its target, and none without an identifier,
-- which has 1 to 64 bytes.
abbrev pub known_fits : Key → Known → Bool
known_fits key known = nat_le known.done (length (chain key.target)) && is_known known

-- A progress suits the keys of a plan: it has as many entries, and what it has for each key may be known of
-- that key.
abbrev pub Suits : List Key → List Known → Type 0
Suits keys progress = AllZip (λ key known. known_fits key known ≡ true) keys progress

-- An identifier, where there is one, is UTF-8.
abbrev pub has_text : Known → Bool
has_text known = option_map_or is_utf8 known.identifier true

-- Each identifier of a progress is UTF-8. Own (view): every text of the code is.
abbrev pub are_texts : List Known → Bool
are_texts progress = list_all has_text progress
