-- What a disk of which nothing is claimed is seen as.
-- Source: own: the files of a real machine keep the rules by what its system promises, and by no proof.
use Rattle.std.specs.Prelude.{None, ℕ}
use Rattle.kmip_disk.specs.Views.{DiskView}

-- A disk of which nothing is claimed, but how many of its calls have failed.
abbrev pub unclaimed : ℕ → DiskView
unclaimed failures = record {
  lawful = ⊥;
  file = None;
  beside = None;
  file_may_keep = λ c. ⊥;
  beside_may_keep = λ c. ⊥;
  may_leave = λ c. ⊥;
  moment = 0;
  left_since = λ t c. ⊥;
  failures = failures;
  limit = None;
  kill_loses_nothing = λ lawful. absurd lawful;
  counts_now = λ lawful. absurd lawful;
  only_now = λ lawful. absurd lawful;
}
