-- Private: definitions that only clauses of private functions cite.
-- Source: own (view): parts of the public definitions of this crate.
use Rattle.std.specs.Prelude.{Bool, true, false, ◌&&◌, List, [], ◌∷◌, ℕ, ◌++◌}
use Rattle.kmip_plan.specs.declared.key.Key.{Key}
use Rattle.kmip_progress.specs.declared.known.Known.{Known}
use Rattle.kmip_progress.specs.Suiting.{known_fits}
use Rattle.kmip_progress.specs.Texts.{key_line}

-- The same as a test
abbrev pub all_fit : List Key → List Known → Bool
all_fit [] [] = true
all_fit [] (known ∷ progress) = false
all_fit (key ∷ keys) [] = false
all_fit (key ∷ keys) (known ∷ progress) = known_fits key known && all_fit keys progress

-- The lines of keys in format 2, each with its line feed
abbrev pub key_lines : List Key → List Known → List ℕ
key_lines [] progress = []
key_lines (key ∷ keys) [] = []
key_lines (key ∷ keys) (known ∷ progress) = key_line key known ++ 0x0A ∷ key_lines keys progress
