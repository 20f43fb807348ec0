-- What the calls of a disk in memory do.
use Rattle.std.proofs.Common.{[], List, append-nil, append_assoc, ap, arith, drop, get_or, inl, inr, length, length-append, refl, subst, suc, sym, zero, ℕ, ⊎_elim, ◌++◌, ◌∙◌, ◌∷◌, ◌<◌, ◌≡◌, ◌≤◌, ◌⊎◌}
use Rattle.std.specs.Prelude.{Err, None, Ok, Option}
use Rattle.kmip_disk.specs.Calls.{Counts, LeavesFile, Renames, SyncsFolder, TakesPlace}
use Rattle.kmip_disk.specs.Memory.{IsOutcome, IsOutcomeOfOne, bytes_of, later_too, memory_view}
use Rattle.kmip_disk.specs.Views.{Content, DiskView}
use Rattle.kmip_disk.specs.declared.memory_disk.MemoryDisk.{MemoryDisk}
use Rattle.kmip_disk.specs.declared.stored_file.StoredFile.{StoredFile}

abbrev Files : Type 0
Files = List (Option StoredFile)

-- where the file and what stood in its place are the same, the file stays as it was
pub alone_same : (old new : MemoryDisk) → new.file ≡ old.file → new.back.items ≡ old.back.items → new.gone.items ≡ old.gone.items → LeavesFile (memory_view old) (memory_view new)
alone_same old new file back gone = record {
  lawful = tt;
  file = ap bytes_of file;
  kept = λ c kept. here c kept;
  crash = λ c. ⊎_elim (λ now. inl (here c now)) (λ one. inr (subst (λ (b : Files). IsOutcomeOfOne b c) back one));
  time = record {
    later = omega (arith, ap length gone);
    nothing_else = λ t c le left. inl (⊎_elim (λ now. inl (here c now)) (λ one. inr (subst (λ (b : Files). IsOutcomeOfOne b c) (since t) one)) left);
    keeps = λ t c le. ⊎_elim (λ now. inl (subst (λ (f : Option StoredFile). IsOutcome f c) (sym file) now)) (λ one. inr (subst (λ (b : Files). IsOutcomeOfOne b c) (sym (since t)) one));
  };
}
  where
    here : (c : Content) → IsOutcome new.file c → IsOutcome old.file c
    here c now = subst (λ (f : Option StoredFile). IsOutcome f c) file now

    since : (t : ℕ) → drop t new.gone.items ++ new.back.items ≡ drop t old.gone.items ++ old.back.items
    since t = ap (λ (g : Files). drop t g ++ new.back.items) gone ∙ ap (λ (b : Files). drop t old.gone.items ++ b) back

pub earlier_too : (files more : Files) (c : Content) → IsOutcomeOfOne files c → IsOutcomeOfOne (files ++ more) c
earlier_too [] more c one = absurd one
earlier_too (file ∷ files) more c (inl here) = inl here
earlier_too (file ∷ files) more c (inr there) = inr (earlier_too files more c there)

split_last : (files : Files) (file : Option StoredFile) (c : Content) → IsOutcomeOfOne (files ++ file ∷ []) c → IsOutcome file c ⊎ IsOutcomeOfOne files c
split_last [] file c (inl here) = inl here
split_last [] file c (inr none) = absurd none
split_last (first ∷ files) file c (inl here) = inr (inl here)
split_last (first ∷ files) file c (inr there) = ⊎_elim (λ last. inl last) (λ one. inr (inr one)) (split_last files file c there)

-- the file beside takes the place of the file, which a crash may bring back
pub moved : {E : Type 0} (old new : MemoryDisk) (u : Unit {0}) → new.file ≡ old.beside → new.beside ≡ None → new.back.items ≡ old.back.items ++ old.file ∷ [] → new.gone.items ≡ old.gone.items → Counts {E = E} (memory_view old) (Ok u) (memory_view new) → Renames {E = E} (memory_view old) (Ok u) (memory_view new)
moved old new u file beside back gone counted = record {
  lawful = tt;
  moved = takes;
  gone = ap bytes_of beside;
  whole = inr takes;
  crash = λ c. ⊎_elim (λ now. inr (here c now)) (λ one. inl (split_last old.back.items old.file c (subst (λ (b : Files). IsOutcomeOfOne b c) back one)));
  time = record {
    later = omega (arith, ap length gone);
    nothing_else = λ t c le. ⊎_elim (λ now. inr (inl now)) (λ one. inl (split_last (drop t old.gone.items ++ old.back.items) old.file c (subst (λ (b : Files). IsOutcomeOfOne b c) (since t) one)));
    keeps = λ t c le had. inr (subst (λ (b : Files). IsOutcomeOfOne b c) (sym (since t)) (⊎_elim
        (λ now. later_too (drop t old.gone.items ++ old.back.items) (old.file ∷ []) c (inl now))
        (λ one. earlier_too (drop t old.gone.items ++ old.back.items) (old.file ∷ []) c one)
        had));
  };
  counted = counted;
}
  where
    here : (c : Content) → IsOutcome new.file c → IsOutcome old.beside c
    here c now = subst (λ (f : Option StoredFile). IsOutcome f c) file now

    takes : TakesPlace (memory_view old) (memory_view new)
    takes = record { file = ap bytes_of file; kept = here }

    since : (t : ℕ) → drop t new.gone.items ++ new.back.items ≡ (drop t old.gone.items ++ old.back.items) ++ old.file ∷ []
    since t = ap (λ (g : Files). drop t g ++ new.back.items) gone ∙ ap (λ (b : Files). drop t old.gone.items ++ b) back ∙ sym (append_assoc (drop t old.gone.items) old.back.items (old.file ∷ []))

-- a rename that was not done
pub not_moved : {E : Type 0} (old new : DiskView) (fault : E) → LeavesFile old new → Counts {A = Unit {0}} old (Err fault) new → Renames {E = E} old (Err fault) new
not_moved old new fault alone counted = record {
  lawful = alone.lawful;
  moved = tt;
  gone = tt;
  whole = inl (record { file = alone.file; kept = alone.kept });
  crash = λ c left. inl (alone.crash c left);
  time = alone.time;
  counted = counted;
}

drop_front : (t : ℕ) (files more : Files) → t ≤ length files → drop t (files ++ more) ≡ drop t files ++ more
drop_front zero files more le = refl
drop_front (suc t) [] more le = absurd (omega arith)
drop_front (suc t) (file ∷ files) more le = drop_front t files more (omega arith)

-- what stood in the file's place is gone for good
pub folder_synced : {E : Type 0} (old new : MemoryDisk) (u : Unit {0}) → new.file ≡ old.file → new.beside ≡ old.beside → new.back.items ≡ [] → new.gone.items ≡ old.gone.items ++ old.back.items → Counts {E = E} (memory_view old) (Ok u) (memory_view new) → SyncsFolder {E = E} (memory_view old) (Ok u) (memory_view new)
folder_synced old new u file beside back gone counted = record {
  alone = record {
    lawful = tt;
    file = ap bytes_of file;
    kept = here;
    crash = λ c left. inl (durable c left);
    time = record {
      later = omega (arith, ap length gone, length-append old.gone.items old.back.items);
      nothing_else = λ t c le left. inl (⊎_elim (λ now. inl (here c now)) (λ one. inr (subst (λ (b : Files). IsOutcomeOfOne b c) (since t le) one)) left);
      keeps = λ t c le. ⊎_elim (λ now. inl (subst (λ (f : Option StoredFile). IsOutcome f c) (sym file) now)) (λ one. inr (subst (λ (b : Files). IsOutcomeOfOne b c) (sym (since t le)) one));
    };
  };
  same = ap bytes_of beside;
  durable = durable;
  counted = counted;
}
  where
    here : (c : Content) → IsOutcome new.file c → IsOutcome old.file c
    here c now = subst (λ (f : Option StoredFile). IsOutcome f c) file now

    durable : (c : Content) → IsOutcome new.file c ⊎ IsOutcomeOfOne new.back.items c → IsOutcome old.file c
    durable c left = ⊎_elim (here c) (λ one. absurd (subst (λ (b : Files). IsOutcomeOfOne b c) back one)) left

    since : (t : ℕ) → t ≤ length old.gone.items → drop t new.gone.items ++ new.back.items ≡ drop t old.gone.items ++ old.back.items
    since t le = ap (λ (g : Files). drop t g ++ new.back.items) gone ∙ ap (λ (b : Files). drop t (old.gone.items ++ old.back.items) ++ b) back ∙ append-nil (drop t (old.gone.items ++ old.back.items)) ∙ drop_front t old.gone.items old.back.items le

-- what may be left of one of them
pub one_outcome : (files : Files) (i : ℕ) (file : Option StoredFile) (c : Content) → i < length files → file ≡ get_or files i file → IsOutcome file c → IsOutcomeOfOne files c
one_outcome [] i file c below is kept = absurd (omega arith)
one_outcome (first ∷ files) zero file c below is kept = inl (subst (λ (f : Option StoredFile). IsOutcome f c) is kept)
one_outcome (first ∷ files) (suc i) file c below is kept = inr (one_outcome files i file c (omega arith) is kept)
