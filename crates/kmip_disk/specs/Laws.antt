-- What holds of a run of writes over any disk.
-- Source: own: the history of a file is that of its texts.
use Rattle.std.specs.Prelude.{[], List, ℕ, ◌++◌, ◌∷◌}
use Rattle.kmip_disk.specs.Views.{DiskView}
use Rattle.kmip_disk.specs.Whole.{IsBeforeOrText, LeavesOneOf, LeavesOnly}

-- Before anything is written, a crash leaves what it might have left.
abbrev pub NothingIsWritten : {D : Type 0} → (D → DiskView) → Type 0
NothingIsWritten {D} view = (first : D) → (view first).lawful → LeavesOneOf (view first) [] (view first)

-- One text is written.
abbrev pub OneTextIsWritten : {D : Type 0} → (D → DiskView) → Type 0
OneTextIsWritten {D} view = (first last : D) (text : List ℕ) → LeavesOnly (view first) (view last) (IsBeforeOrText (view first) text) → LeavesOneOf (view first) (text ∷ []) (view last)

-- More texts are written, and join those that a crash may leave.
abbrev pub TextsAddUp : {D : Type 0} → (D → DiskView) → Type 0
TextsAddUp {D} view = (first next last : D) (texts more : List (List ℕ)) → (view next).lawful → LeavesOneOf (view first) texts (view next) → LeavesOneOf (view next) more (view last) → LeavesOneOf (view first) (texts ++ more) (view last)

-- What leaves no more than it might have left adds no text.
abbrev pub ClosingAddsNothing : {D : Type 0} → (D → DiskView) → Type 0
ClosingAddsNothing {D} view = (first next last : D) (texts : List (List ℕ)) → (view next).lawful → LeavesOneOf (view first) texts (view next) → LeavesOnly (view next) (view last) (view next).may_leave → LeavesOneOf (view first) texts (view last)
