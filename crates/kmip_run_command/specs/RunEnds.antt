-- What a run begins with, how it ended, and what that has come of.
-- Source: own (view).
use Rattle.std.specs.Prelude.{◌≡◌, ◌≢◌, ◌≤◌, ℕ, List, Option, Some, None, Result, Ok, Err}
use Rattle.kmip_plan.specs.declared.key.Key.{Key}
use Rattle.kmip_progress.specs.Reading.{read_text}
use Rattle.kmip_progress.specs.declared.progress_fault.ProgressFault.{ProgressFault}
use Rattle.kmip_progress.specs.declared.known.Known.{Known}
use Rattle.kmip_client.specs.Clients.{ClientState, fresh}
use Rattle.kmip_client.specs.Saving.{resume}
use Rattle.kmip_client.specs.declared.knowledge.Knowledge.{Knowledge}
use Rattle.kmip_runs.specs.Driving.{IsBorneOut}
use Rattle.kmip_runs.specs.declared.stop.Stop.{Stop}
use Rattle.kmip_runs.specs.declared.stop.Stop.TheVariants as stops
use Rattle.kmip_runs.specs.declared.save_fault.SaveFault.{SaveFault}
use Rattle.kmip_runs.specs.declared.save_fault.SaveFault.TheVariants as faults
use Rattle.kmip_run_command.specs.declared.run_end.RunEnd.{RunEnd}
use Rattle.kmip_run_command.specs.declared.run_end.RunEnd.TheVariants.{Unwritten, Stopped}

-- What came of a run: what is known after it, why no more exchanges were made, and how many were.
pub record Outcome : Type 0 where
  -- What is known of each key.
  pub knowns : List Knowledge
  -- Why no more exchanges were made.
  pub result : Result Stop SaveFault
  -- How many were made.
  pub exchanges : ℕ

-- What is known from what reading a saved progress gives, or the fault of reading.
abbrev pub knowns_read : List Key → Result (List Known) ProgressFault → Result (List Knowledge) ProgressFault
knowns_read keys (Ok saved) = Ok (resume keys saved).knowns
knowns_read keys (Err fault) = Err fault

-- What is known from the text of a saved progress; nothing where there is none.
abbrev pub begin_knowns : List Key → Option (List ℕ) → Result (List Knowledge) ProgressFault
begin_knowns keys None = Ok (fresh keys).knowns
begin_knowns keys (Some text) = knowns_read keys (read_text keys text)

-- A run over these keys stopped for this reason after so many exchanges, and its client is then this one. What came
-- of them is given.
pub record IsStopped (came : Outcome → Type 0) (keys : List Key) (limit : ℕ) (client : ClientState) (stop : Stop) (exchanges : ℕ) : Type 0 where
  -- The client is one of these keys.
  pub keys_are : client.keys ≡ keys
  -- What it knows has come of the exchanges.
  pub has_come : came (record { knowns = client.knowns; result = Ok stop; exchanges = exchanges })
  -- Memory did not run out.
  pub in_memory : stop ≢ stops.NoMemory
  -- How the keys stand bears out why it stopped.
  pub stands : IsBorneOut stop keys client.knowns
  -- No more exchanges were made than may be.
  pub within : exchanges ≤ limit

-- What was known after the last exchange of a run over these keys could not be kept. Its client is then this one.
pub record IsUnwritten (came : Outcome → Type 0) (keys : List Key) (client : ClientState) : Type 0 where
  -- The client is one of these keys.
  pub keys_are : client.keys ≡ keys
  -- How many exchanges were made.
  pub exchanges : ℕ
  -- What it knows has come of the exchanges.
  pub has_come : came (record { knowns = client.knowns; result = Err faults.Output; exchanges = exchanges })

-- How a run over these keys ended, after which its client is this one: it stopped, or what was known could not be kept.
abbrev pub EndsFrom : (Outcome → Type 0) → List Key → ℕ → ClientState → RunEnd → Type 0
EndsFrom came keys limit client (Stopped stop exchanges) = IsStopped came keys limit client stop exchanges
EndsFrom came keys limit client Unwritten = IsUnwritten came keys client
