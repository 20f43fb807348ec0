-- How far a key is known to be.
-- Source: own (view).
use Rattle.std.specs.Prelude.{ℕ, length, nat_lt, Option, Some, None, if◌then◌else◌}
use Rattle.std.specs.Option.{is_some}
use Rattle.kmip_client.specs.Clients.{ClientState, done_at, identifier_at, verdict_at}
use Rattle.kmip_run_record.specs.declared.stage.Stage.{Stage}

-- How far a client knows the key at a place to be.
abbrev pub known_stage : ClientState → ℕ → Stage
known_stage client place = record {
  done = done_at client.knowns place;
  is_identified = is_some (identifier_at client.knowns place);
  verdict = verdict_at client.keys client.knowns place;
}

-- The same, if the plan has a key at the place.
abbrev pub stage_at : ClientState → ℕ → Option Stage
stage_at client place = if nat_lt place (length client.keys) then Some (known_stage client place) else None
