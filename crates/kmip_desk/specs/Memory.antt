-- What is seen of a desk in memory.
-- Source: own: it keeps the rules by what its calls do.
use Rattle.std.specs.Prelude.{◌≡◌, ⊤, List, ℕ, None, Some, Option, if◌then◌else◌, option_map, string_bytes}
use Rattle.kmip_desk.specs.Desks.{DeskView}
use Rattle.kmip_desk.specs.declared.memory_desk.MemoryDesk.{MemoryDesk}

-- The text that was written, or else the one that is found.
abbrev pub written_or : Option (List ℕ) → Option (List ℕ) → Option (List ℕ)
written_or None found = found
written_or (Some text) found = Some text

-- What is seen of it. Its files are those that are found, but for what this run has done to them.
abbrev pub memory_view : MemoryDesk → DeskView
memory_view desk =
    let origin = option_map (λ v. v.items) desk.origin in
    let progress = option_map string_bytes desk.progress in
    record {
      lawful = ⊤;
      is_held = desk.is_held;
      progress = if desk.is_aside then None else progress;
      origin = written_or (option_map (λ v. v.items) desk.written) origin;
      found_progress = progress;
      found_origin = origin;
    }

-- Both desks say the same.
pub record SaysTheSame (old new : MemoryDesk) : Type 0 where
  -- The lock is held by this run in both, or in neither.
  pub is_held : (memory_view new).is_held ≡ (memory_view old).is_held
  -- The progress files are the same.
  pub progress : (memory_view new).progress ≡ (memory_view old).progress
  -- The texts that say where the progress was saved are the same.
  pub origin : (memory_view new).origin ≡ (memory_view old).origin
  -- The same progress was found when the lock was taken.
  pub found_progress : (memory_view new).found_progress ≡ (memory_view old).found_progress
  -- The same text next to it was found then.
  pub found_origin : (memory_view new).found_origin ≡ (memory_view old).found_origin
