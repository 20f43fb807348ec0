-- For crates that keep a text on a disk by a trait of their own: how what a crash may leave adds up, save by save.
use Rattle.std.proofs.Common.{[], List, inl, ℕ, ◌++◌, ◌∷◌}
use Rattle.kmip_disk.specs.Views.{Content, DiskView}
use Rattle.kmip_disk.specs.Whole.{IsBeforeOrText, LeavesOneOf, LeavesOnly}
use Rattle.kmip_disk.proofs.HistoryLemmas.{add_up, closed_on, one_text}
use Rattle.kmip_disk.proofs.Moments.{started}

-- before anything is saved, a crash leaves what it might have left
pub none_saved : (disk : DiskView) → disk.lawful → LeavesOneOf disk [] disk
none_saved disk lawful = started disk _ lawful (λ c left. inl left)

-- so too where what it might have left has P
pub nothing_since : (disk : DiskView) → disk.lawful → (P : Content → Type 0) → ((c : Content) → disk.may_leave c → P c) → LeavesOnly disk disk P
nothing_since disk lawful P here = started disk P lawful here

-- one text is saved, or could not be
pub one_saved : (first last : DiskView) (text : List ℕ) → LeavesOnly first last (IsBeforeOrText first text) → LeavesOneOf first (text ∷ []) last
one_saved = one_text

-- more texts join those that a crash may leave
pub more_saved : (first next last : DiskView) (texts more : List (List ℕ)) → next.lawful → LeavesOneOf first texts next → LeavesOneOf next more last → LeavesOneOf first (texts ++ more) last
more_saved = add_up

-- what leaves no more than it might have left adds no text
pub none_more : (first next last : DiskView) (texts : List (List ℕ)) → next.lawful → LeavesOneOf first texts next → LeavesOnly next last next.may_leave → LeavesOneOf first texts last
none_more first next last texts = closed_on first next last _
