-- Runs after a crash: whatever the crash left, the next run may begin with it.
-- Source: own (law).
use Rattle.std.specs.Prelude.{◌≡◌, ◌⊎◌, List, None}
use Rattle.kmip_disk.specs.Views.{Content}
use Rattle.kmip_objects.specs.Objects.{Object}
use Rattle.kmip_plan.specs.Plans.{IsLawful}
use Rattle.kmip_plan.specs.declared.key.Key.{Key}
use Rattle.kmip_protocol.specs.Seen.{Seen}
use Rattle.kmip_runs.specs.Headline.{GoodLink}
use Rattle.kmip_runs.specs.Keeping.{Kept}
use Rattle.kmip_run_command.specs.Course.{IsGoodStart, IsWholeFile, KeepsSafe, LeavesTrue}

-- There is no file, or the text of a whole progress that is true of these objects.
abbrev pub IsGoodFile : List Object → List Key → Content → Type 0
IsGoodFile objects keys c = (c ≡ None) ⊎ IsWholeFile objects keys c

-- A run began over a good link and a disk that keeps the rules, on which each file that a crash might have left was
-- good. It did what `run` promises (*safe*, *any_moment*), and a crash at some time during it left this.
pub record IsLeft {L K : Type 0} (seen : L → Seen) (kept : K → Kept) (keys : List Key) (begun ended : L) (first last : K) (c : Content) : Type 0 where
  pub good : GoodLink keys (seen begun)
  pub lawful : (kept first).disk.lawful
  pub were_good : (b : Content) → (kept first).disk.may_leave b → IsGoodFile (seen begun).past.objects keys b
  pub safe : KeepsSafe keys (seen begun) (seen ended)
  pub any_moment : LeavesTrue (seen ended).past.objects keys (kept first).disk (kept last).disk
  pub left : (kept last).disk.left_since (kept first).disk.moment c

-- Whatever a crash of a run leaves is good.
abbrev pub CrashesLeaveGoodFiles : {L K : Type 0} → (L → Seen) → (K → Kept) → Type 0
CrashesLeaveGoodFiles {L} {K} seen kept =
    (keys : List Key) (begun ended : L) (first last : K) (c : Content) → IsLawful keys
    → IsLeft seen kept keys begun ended first last c → IsGoodFile (seen ended).past.objects keys c

-- So the next run begins well with it (`IsGoodStart`): what its client knows is true (clause *held* of `begin`), and
-- `run` promises the sentence again.
abbrev pub TheNextRunBeginsWell : {L K : Type 0} → (L → Seen) → (K → Kept) → Type 0
TheNextRunBeginsWell {L} {K} seen kept =
    (keys : List Key) (begun ended : L) (first last : K) (c : Content) → IsLawful keys
    → IsLeft seen kept keys begun ended first last c → IsGoodStart c (seen ended) keys
