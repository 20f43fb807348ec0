-- When a server last replied, and when all keys were last finished.
-- Source: own (metrics).
use Rattle.std.specs.Prelude.{ℕ, ◌-◌, Bool, Option, Some, None, if◌then◌else◌}
use Rattle.kmip_run_record.specs.declared.last_times.LastTimes.{LastTimes}

-- The times after a command that ends now, to which the server last replied so many seconds ago, if it replied.
abbrev pub times_after : LastTimes → ℕ → Option ℕ → Bool → LastTimes
times_after before now None is_finished = before
times_after before now (Some ago) is_finished =
    record { answer = Some (now - ago); finish = if is_finished then Some now else before.finish }
