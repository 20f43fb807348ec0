-- The steps by which a file is replaced.
use Rattle.std.proofs.Common.{Bor, ◌≡◌, ◌⊎◌, List, Result, [], arith, inl, inr, refl, subst, sym, ℕ, ⊎_elim, ◌∙◌}
use Rattle.std.specs.Prelude.{Err, IfSome, None, Ok, Option, Some, option_map}
use Rattle.kmip_disk.specs.Calls.{CreatesBeside, HasRisenBy, KeepsPlace, RemovesBeside, Renames, SyncsBeside, TakesPlace, WritesBeside}
use Rattle.kmip_disk.specs.Views.{DiskView}
use Rattle.kmip_disk.specs.Whole.{HasText, IsBeforeOrText, IsWritten, LeavesOnly, WritesWhole}
use Rattle.kmip_disk.specs.PrivateWhole.{PutsBeside, Replaces}
use Rattle.kmip_disk.proofs.Moments.{alone_on, alone_twice, counts_on, goes_on, now_too, on_both, on_ok, started}

-- the file beside is made, written and brought to the disk
pub put_synced : {E : Type 0} (a b c d : DiskView) (text : List ℕ) (u v : Unit {0}) (result : Result (Unit {0}) E) → a.lawful → CreatesBeside {E = E} a (Ok u) b → WritesBeside {E = E} b text (Ok v) c → SyncsBeside c result d → PutsBeside a text result d
put_synced {E} a b c d text u v result lawful made written synced =
    let has : c.beside ≡ Some text = written.written [] made.created in
    record {
      alone = alone_twice a b d lawful made.alone (alone_twice b c d made.alone.lawful written.alone synced.alone);
      beside = on_ok result (λ same. same ∙ has) synced.same;
      durable = on_ok result (λ only x kept. only x kept ∙ has) synced.durable;
      counted = counts_on a c d result (written.counted.limit ∙ made.counted.limit) (omega (arith, made.counted.later, written.counted.later)) synced.counted;
    }

-- nothing was done but beside the file
pub replaced_not : {E : Type 0} (a b : DiskView) (text : List ℕ) (fault : E) → a.lawful → PutsBeside a text (Err fault) b → Replaces {E = E} a text (Err fault) b
replaced_not {E} a b text fault lawful put = record {
  lawful = put.alone.lawful;
  written = tt;
  whole = inl put.alone.file;
  any_moment = alone_on a a b (IsBeforeOrText a text) (started a (IsBeforeOrText a text) lawful (λ x left. inl left)) lawful put.alone;
  still = λ was x kept. was x (put.alone.kept x kept) ∙ sym put.alone.file;
  counted = put.counted;
}

-- the file beside, all of it on the disk, takes the place
pub replaced_by : {E : Type 0} (a b c : DiskView) (text : List ℕ) (u : Unit {0}) (result : Result (Unit {0}) E) → a.lawful → PutsBeside {E = E} a text (Ok u) b → Renames b result c → Replaces a text result c
replaced_by {E} a b c text u result lawful put moves =
    let P = IsBeforeOrText a text in
    let so_far : LeavesOnly a b P = alone_on a a b P (started a P lawful (λ x left. inl left)) lawful put.alone in
    let taken : TakesPlace b c → IsWritten c = λ takes x kept. put.durable x (takes.kept x kept) ∙ sym (takes.file ∙ put.beside) in
    let stayed : IsWritten a → KeepsPlace b c → IsWritten c = λ was keeps x kept. was x (put.alone.kept x (keeps.kept x kept)) ∙ sym (keeps.file ∙ put.alone.file) in
    record {
      lawful = moves.lawful;
      written = on_both result (λ takes gone. record { file = takes.file ∙ put.beside; durable = taken takes; tidy = gone }) moves.moved moves.gone;
      whole = ⊎_elim (λ keeps. inl (keeps.file ∙ put.alone.file)) (λ takes. inr (takes.file ∙ put.beside)) moves.whole;
      any_moment = goes_on a b c P so_far moves.time (λ x left. ⊎_elim (now_too a b P so_far put.alone.lawful x) (λ kept. inr (put.durable x kept)) (moves.crash x left));
      still = λ was. ⊎_elim (stayed was) taken moves.whole;
      counted = counts_on a b c result put.counted.limit put.counted.later moves.counted;
    }

-- and what is beside the file is removed
pub tidied : {E : Type 0} (a b c : DiskView) (text : List ℕ) (fault : E) (result : Result (Unit {0}) E) → Replaces {E = E} a text (Err fault) b → RemovesBeside b result c → WritesWhole {E = E} a text (Err fault) c
tidied {E} a b c text fault result replaced removed = record {
  lawful = removed.alone.lawful;
  written = tt;
  whole = ⊎_elim (λ same. inl (removed.alone.file ∙ same)) (λ new. inr (removed.alone.file ∙ new)) replaced.whole;
  any_moment = alone_on a b c (IsBeforeOrText a text) replaced.any_moment replaced.lawful removed.alone;
  still = λ was x kept. replaced.still was x (removed.alone.kept x kept) ∙ sym removed.alone.file;
  tidied = removed_or_not result removed;
  failed = omega (arith, replaced.counted.failed, removed.counted.later);
  later = omega (arith, replaced.counted.later, removed.counted.later);
  limit = removed.counted.limit ∙ replaced.counted.limit;
}
  where
    removed_or_not : (r : Result (Unit {0}) E) → RemovesBeside b r c → (c.beside ≡ None) ⊎ HasRisenBy 2 a.failures c.failures
    removed_or_not (Ok _) removes = inl removes.gone
    removed_or_not (Err _) removes = inr (omega (arith, replaced.counted.failed, removes.counted.failed))

-- where nothing failed there is nothing to remove
pub tidy : {E : Type 0} (a b : DiskView) (text : List ℕ) (u : Unit {0}) → Replaces {E = E} a text (Ok u) b → WritesWhole {E = E} a text (Ok u) b
tidy a b text u replaced = record {
  lawful = replaced.lawful;
  written = replaced.written;
  whole = replaced.whole;
  any_moment = replaced.any_moment;
  still = replaced.still;
  tidied = tt;
  failed = tt;
  later = replaced.counted.later;
  limit = replaced.counted.limit;
}

-- where the text stands there already, nothing is written
pub not_written : {E : Type 0} (a : DiskView) (text : List ℕ) (u : Unit {0}) → a.lawful → HasText a text → WritesWhole {E = E} a text (Ok u) a
not_written a text u lawful has = record {
  lawful = lawful;
  written = has;
  whole = inl refl;
  any_moment = started a (IsBeforeOrText a text) lawful (λ x left. inl left);
  still = λ was. was;
  tidied = tt;
  failed = tt;
  later = omega arith;
  limit = refl;
}

-- the text that was told as the last one is this
pub told : (last : Option (Bor (List ℕ))) (text : List ℕ) (a : DiskView) → option_map (λ t. t.now) last ≡ Some text → IfSome last (λ t. HasText a t.now) → HasText a text
told None text a is stands = absurd (cc)
told (Some t) text a is stands = let same : t.now ≡ text = cc in subst (λ (x : List ℕ). HasText a x) same stands
