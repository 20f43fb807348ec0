-- Private: definitions that only clauses of private functions cite.
-- Source: own (view): parts of the public definitions of this crate.
use Rattle.kmip_ttlv.specs.Limits.{head_size}
use Rattle.std.specs.Prelude.{◌≡◌, ℕ, ◌+◌, ◌≤◌, nat_le, if◌then◌else◌, Option, Some, None, Result, Ok, Err}
use Rattle.kmip_ttlv.specs.Node.{Node, Nodes}
use Rattle.kmip_ttlv.specs.Fitting.{IsInRange, AreInRange, HasWholeGroups, HaveWholeGroups, depth, depths}
use Rattle.kmip_ttlv.specs.Sizes.{size, sizes}
use Rattle.kmip_ttlv.specs.declared.ttlv_fault.TtlvFault.{TtlvFault}
use Rattle.kmip_ttlv.specs.Reading.{FailsContent}

-- A size, where the room holds it
abbrev pub size_up_to : ℕ → ℕ → Option ℕ
size_up_to size room = if nat_le size room then Some size else None

-- The size of an item, where it has at most this many levels and bytes
abbrev pub IsSizeWithin : Option ℕ → Node → ℕ → ℕ → Type 0
IsSizeWithin (Some found) n levels room = IsInRange n × (depth n ≤ levels) × (found ≡ size n) × (found ≤ room)
IsSizeWithin None n levels room = HasWholeGroups n → depth n ≤ levels → size n ≤ room → ⊥

-- The size of these items together
abbrev pub AreSizesWithin : Option ℕ → Nodes → ℕ → ℕ → Type 0
AreSizesWithin (Some found) ns levels room = AreInRange ns × (depths ns ≤ levels) × (found ≡ sizes ns) × (found ≤ room)
AreSizesWithin None ns levels room = HaveWholeGroups ns → depths ns ≤ levels → sizes ns ≤ room → ⊥

-- The size of a Structure of these items
abbrev pub IsStructureWithin : Option ℕ → Nodes → ℕ → ℕ → Type 0
IsStructureWithin (Some found) ns levels room =
    AreInRange ns × (1 + depths ns ≤ levels) × (found ≡ head_size + sizes ns) × (found ≤ room)
IsStructureWithin None ns levels room = HaveWholeGroups ns → 1 + depths ns ≤ levels → head_size + sizes ns ≤ room → ⊥

-- What the code returned, seen by a view, is what reading gives, unless memory ran out.
abbrev pub GivesContent : {X Y : Type 0} → (X → Y) → Result X TtlvFault → Result Y TtlvFault → Type 0
GivesContent seen (Ok x) read = read ≡ Ok (seen x)
GivesContent seen (Err e) read = FailsContent e read
