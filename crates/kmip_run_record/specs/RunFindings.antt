-- What a run finds out of its keys.
-- Source: own (view).
use Rattle.std.specs.Prelude.{ℕ, ◌+◌, Bool, true, false, List, [], ◌∷◌, map, Option, Some, None}
use Rattle.std.specs.List.{fold}
use Rattle.kmip_client.specs.Clients.{ClientState}
use Rattle.kmip_client.specs.Verdicts.{counts_of, verdicts_of}
use Rattle.kmip_client.specs.declared.part.Part.{Part}
use Rattle.kmip_client.specs.declared.verdict.Verdict.{Verdict}
use Rattle.kmip_plan.specs.declared.key.Key.{Key}
use Rattle.kmip_tally.specs.declared.course.Course.{Course}
use Rattle.kmip_run_record.specs.Scores.{begun_course, changed_at, course_at}
use Rattle.kmip_run_record.specs.Stages.{known_stage, stage_at}
use Rattle.kmip_run_record.specs.Stories.{StoryState, begun, reaching}
use Rattle.kmip_run_record.specs.declared.stage.Stage.{Stage}

-- What a contract sees of the findings: of each key its story, its course and its verdict, the number of replies that
-- could not be read, and whether anything may be new of any key.
pub record FindingsState : Type 0 where
  pub stories : List StoryState
  pub courses : List Course
  pub verdicts : List Verdict
  pub unreadable : ℕ
  pub is_any_new : Bool

-- The stories of some keys of a client, the first of which is at this place, each begun with what the client knows.
abbrev pub begun_from : ClientState → ℕ → List Key → List StoryState
begun_from client place [] = []
begun_from client place (key ∷ keys) = begun (known_stage client place) ∷ begun_from client (place + 1) keys

-- The stories of all keys of a client.
abbrev pub begun_stories : ClientState → List StoryState
begun_stories client = begun_from client 0 client.keys

-- What a run has found out that begins with what a client knows.
abbrev pub begun_findings : ClientState → FindingsState
begun_findings client = record {
  stories = begun_stories client;
  courses = map begun_course (counts_of client.knowns);
  verdicts = verdicts_of client.keys client.knowns;
  unreadable = 0;
  is_any_new = true;
}

-- The key at a place is known to be so far, if there is one.
abbrev pub known_by : ℕ → Option Stage → FindingsState → FindingsState
known_by place None findings = findings
known_by place (Some stage) findings = record findings {
  stories = changed_at (reaching stage) findings.stories place;
  courses = changed_at (course_at stage.done) findings.courses place;
  verdicts = changed_at (λ verdict. stage.verdict) findings.verdicts place;
}

-- What a client knows of the key at a place is taken in.
abbrev pub known_at : ClientState → FindingsState → ℕ → FindingsState
known_at client findings place = known_by place (stage_at client place) findings

-- What a client knows of some keys is taken in, the first of which is at this place.
abbrev pub known_from : ClientState → ℕ → List Key → FindingsState → FindingsState
known_from client place [] findings = findings
known_from client place (key ∷ keys) findings = known_from client (place + 1) keys (known_at client findings place)

-- What a client knows of all keys is taken in.
abbrev pub all_known : ClientState → FindingsState → FindingsState
all_known client findings = known_from client 0 client.keys findings

-- What a client knows of the keys that were asked about is taken in.
abbrev pub asked_known : ClientState → FindingsState → List Part → FindingsState
asked_known client findings asked = fold (λ found part. known_at client found part.key) findings asked

-- What a client knows after an exchange is taken in: of all keys if anything may be new of any, and otherwise of those
-- that were asked about.
abbrev pub learnt : ClientState → List Part → Bool → FindingsState → FindingsState
learnt client asked true findings = record (all_known client findings) { is_any_new = false }
learnt client asked false findings = asked_known client findings asked
