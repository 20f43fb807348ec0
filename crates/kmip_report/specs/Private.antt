-- Private: definitions that only clauses of private functions cite, here and in the crates above.
-- Source: own (view): parts of the public definitions of this crate.
use Rattle.std.specs.Prelude.{◌≡◌, ◌⊎◌, ℕ, List, ◌++◌, codes, Option}
use Rattle.std.specs.Io.KnownBytes.{Keeps}
use Rattle.serde_json.specs.Data.{string}
use Rattle.serde_json.specs.Written.{compact_text}
use Rattle.kmip_report.specs.declared.command_fault.CommandFault.{CommandFault}
use Rattle.kmip_report.specs.declared.command_fault.CommandFault.TheVariants.{NoMemory}
use Rattle.kmip_report.specs.declared.member.Member.{Member}
use Rattle.kmip_report.specs.Members.{data_of}

-- A name, a colon and the value.
unfoldable pub member_text : Member → List ℕ
member_text m = compact_text (string m.name.now) ++ codes ":" ++ compact_text (data_of m.value)

-- A command failed. It was for want of memory, and nothing was printed; or by the fault of its
-- printer, which then holds what it held if it takes all or nothing.
abbrev pub Fails : CommandFault → CommandFault → Type 0 → Option (List ℕ) → Option (List ℕ) → Type 0
Fails fault own_fault IsWhole old new = ((fault ≡ NoMemory) × Keeps old new) ⊎ ((fault ≡ own_fault) × (IsWhole → Keeps old new))
