-- What a desk of which nothing is claimed is seen as.
-- Source: own: the files of a real machine keep the rules by what its system promises, and by no proof.
use Rattle.std.specs.Prelude.{None, false}
use Rattle.kmip_desk.specs.Desks.{DeskView}

-- A desk of which nothing is claimed.
abbrev pub unclaimed : DeskView
unclaimed = record {
  lawful = ⊥;
  is_held = false;
  progress = None;
  origin = None;
  found_progress = None;
  found_origin = None;
}
