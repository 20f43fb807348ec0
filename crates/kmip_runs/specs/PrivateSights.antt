-- Private: what a run sees of the keys, and what an exchange of it brings.
-- Source: own (choice): the standard does not say when a client gets on.
use Rattle.std.specs.Prelude.{◌≡◌, ◌≤◌, ◌+◌, ℕ, zero, suc, length, Bool, true, false, ◌&&◌, ◌||◌, not, nat_lt, List, Some, slice_get}
use Rattle.std.specs.Option.{is_some}
use Rattle.kmip_plan.specs.declared.key.Key.{Key}
use Rattle.kmip_client.specs.Clients.{done_at, identifier_at, is_told_at, one_if, verdict_at}
use Rattle.kmip_client.specs.declared.knowledge.Knowledge.{Knowledge}
use Rattle.kmip_client.specs.declared.verdict.Verdict.{Verdict}
use Rattle.kmip_client.specs.declared.verdict.Verdict.TheVariants.{Working, Finished, Conflict}
use Rattle.kmip_runs.specs.declared.sight.Sight.{Sight}

-- A key was found to be in conflict.
abbrev pub is_conflict : Verdict → Bool
is_conflict (Conflict clash) = true
is_conflict Working = false
is_conflict Finished = false

-- What is known of the key at a place, as far as it tells whether a run gets on.
abbrev pub sight_at : List Key → List Knowledge → ℕ → Sight
sight_at keys knowns place = record {
  done = done_at knowns place;
  is_identified = is_some (identifier_at knowns place);
  is_in_conflict = is_conflict (verdict_at keys knowns place);
  is_told = is_told_at knowns place;
}

-- More steps are known than before, or an identifier or a conflict that was not.
abbrev pub has_grown : Sight → Sight → Bool
has_grown old new =
    nat_lt old.done new.done || (new.is_identified && not old.is_identified) || (new.is_in_conflict && not old.is_in_conflict)

-- How the key stands was told before, and nothing has grown since.
abbrev pub was_told : Sight → Sight → Bool
was_told old new = old.is_told && not (has_grown old new)

-- A run gets on by a key where something has grown. It also gets on where it is told, for the first time
-- since then, how the key stands: that there is no object, or what its object is.
abbrev pub gets_on : Sight → Sight → Bool
gets_on old new = has_grown old new || (new.is_told && not (was_told old new))

-- What is remembered of a key after an exchange.
abbrev pub remembered : Sight → Sight → Sight
remembered old new = record new { is_told = new.is_told || was_told old new }

-- The run has got on by some key, over what was seen of each before.
pub record GetsOn (keys : List Key) (knowns : List Knowledge) (before : List Sight) : Type 0 where
  pub place : ℕ
  pub sight : Sight
  pub sight_is : slice_get before place ≡ Some sight
  pub more : gets_on sight (sight_at keys knowns place) ≡ true

-- The run has got on by no key.
abbrev pub GetsNowhere : List Key → List Knowledge → List Sight → Type 0
GetsNowhere keys knowns before =
    (place : ℕ) (sight : Sight) → slice_get before place ≡ Some sight → gets_on sight (sight_at keys knowns place) ≡ false

-- The number of keys at the first places whose status the last answer reported.
abbrev pub told_before : ℕ → List Knowledge → ℕ
told_before zero knowns = 0
told_before (suc place) knowns = told_before place knowns + one_if (is_told_at knowns place)

-- The number of keys whose status the last answer reported. The next question about each of them asks for
-- a step.
abbrev pub told_count : List Key → List Knowledge → ℕ
told_count keys knowns = told_before (length keys) knowns

-- Each of the keys that a message asked about, one at least, was answered and has another question. If nothing
-- has grown, that is so if its answer reports its status, which was not reported before. So the number of
-- keys whose status is reported rises by the number of keys that were asked about.
abbrev pub IsEachAnswered : ℕ → ℕ → ℕ → Type 0
IsEachAnswered asked before now = (1 ≤ asked) × (now ≡ before + asked)
