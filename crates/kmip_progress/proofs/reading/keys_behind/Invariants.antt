-- The keys behind those that are left are the keys behind all.
use Rattle.std.proofs.Common.{◌≡◌, drop}
use Rattle.kmip_progress.specs.Reading.{keys_behind}
use Rattle.kmip_progress.proofs.reading.keys_behind.Given as goal

abbrev pub invariant-loop-entry : goal.invariant-loop-entry
invariant-loop-entry l = keys_behind l.rest (drop l.entry-index l.entries) ≡ keys_behind l.keys l.entries
