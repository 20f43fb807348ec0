-- How a run of calls of a disk goes on.
use Rattle.std.proofs.Common.{◌≡◌, ◌≤◌, OnOk, Result, arith, inl, inr, ⊎_elim, ◌∙◌}
use Rattle.std.specs.Prelude.{Err, Ok}
use Rattle.kmip_disk.specs.Calls.{Counts, Elapses, LeavesFile}
use Rattle.kmip_disk.specs.Views.{Content, DiskView}
use Rattle.kmip_disk.specs.Whole.{LeavesOnly}

-- what follows from what holds at `Ok` holds at `Ok`
pub on_ok : {A E P Q : Type 0} (result : Result A E) → (P → Q) → OnOk result P → OnOk result Q
on_ok (Ok _) follows holds = follows holds
on_ok (Err _) follows holds = tt

pub on_both : {A E P Q R : Type 0} (result : Result A E) → (P → Q → R) → OnOk result P → OnOk result Q → OnOk result R
on_both (Ok _) follows p q = follows p q
on_both (Err _) follows p q = tt

-- before the first call
pub started : (old : DiskView) (P : Content → Type 0) → old.lawful → ((c : Content) → old.may_leave c → P c) → LeavesOnly old old P
started old P lawful here = record {
  later = omega arith;
  each = λ c left. here c (old.only_now lawful c left);
  before = λ t c le left. inl left;
}

-- one call more, after which a crash leaves what has P
pub goes_on : (old mid new : DiskView) (P : Content → Type 0) → LeavesOnly old mid P → Elapses mid new → ((c : Content) → new.may_leave c → P c) → LeavesOnly old new P
goes_on old mid new P so_far time here = record {
  later = omega (arith, so_far.later, time.later);
  each = λ c left. ⊎_elim (so_far.each c) (here c) (time.nothing_else old.moment c so_far.later left);
  before = λ t c le left. ⊎_elim (so_far.before t c le) (λ now. inr (here c now)) (time.nothing_else t c (omega (arith, le, so_far.later)) left);
}

-- what a crash may leave now is among what it might have left since
pub now_too : (old new : DiskView) (P : Content → Type 0) → LeavesOnly old new P → new.lawful → (c : Content) → new.may_leave c → P c
now_too old new P so_far lawful c now = so_far.each c (new.counts_now lawful old.moment c so_far.later now)

-- a call more that leaves the file alone
pub alone_on : (old mid new : DiskView) (P : Content → Type 0) → LeavesOnly old mid P → mid.lawful → LeavesFile mid new → LeavesOnly old new P
alone_on old mid new P so_far lawful alone = goes_on old mid new P so_far alone.time (λ c now. now_too old mid P so_far lawful c (alone.crash c now))

-- two calls that leave the file alone
pub alone_twice : (old mid new : DiskView) → old.lawful → LeavesFile old mid → LeavesFile mid new → LeavesFile old new
alone_twice old mid new lawful first second = record {
  lawful = second.lawful;
  file = second.file ∙ first.file;
  kept = λ c kept. first.kept c (second.kept c kept);
  crash = λ c left. first.crash c (second.crash c left);
  time = record {
    later = omega (arith, first.time.later, second.time.later);
    nothing_else = λ t c le left. ⊎_elim
        (λ was. ⊎_elim (λ had. inl had) (λ now. inl (old.counts_now lawful t c le (first.crash c now))) (first.time.nothing_else t c le was))
        (λ now. inr now)
        (second.time.nothing_else t c (omega (arith, le, first.time.later)) left);
    keeps = λ t c le had. second.time.keeps t c (omega (arith, le, first.time.later)) (first.time.keeps t c le had);
  };
}

-- a count that had not fallen before rises by a failure
pub counts_on : {A E : Type 0} (old mid new : DiskView) (result : Result A E) → mid.limit ≡ old.limit → old.failures ≤ mid.failures → Counts mid result new → Counts old result new
counts_on old mid new (Ok _) limit le counts = record { limit = counts.limit ∙ limit; later = omega (arith, le, counts.later); failed = tt }
counts_on old mid new (Err _) limit le counts = record { limit = counts.limit ∙ limit; later = omega (arith, le, counts.later); failed = omega (arith, le, counts.failed) }
