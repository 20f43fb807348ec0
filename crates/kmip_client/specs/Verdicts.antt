-- How many steps of each key are done, and the verdict on each, in the order of the plan; and how a verdict is printed.
-- Source: own (view). The words are own (text).
use Rattle.std.specs.Prelude.{◌≤◌, ℕ, Bool, true, false, List, [], ◌∷◌, codes, filter, length, map}
use Rattle.std.specs.List.{AllZip}
use Rattle.kmip_plan.specs.declared.key.Key.{Key}
use Rattle.kmip_client.specs.Knowledge.{chain_length, verdict_of}
use Rattle.kmip_client.specs.declared.knowledge.Knowledge.{Knowledge}
use Rattle.kmip_client.specs.declared.clash.Clash.TheVariants.{Attributes, State, TwoObjects}
use Rattle.kmip_client.specs.declared.verdict.Verdict.{Verdict}
use Rattle.kmip_client.specs.declared.verdict.Verdict.TheVariants.{Working, Finished, Conflict}

-- How many steps of each key are known to be done.
abbrev pub counts_of : List Knowledge → List ℕ
counts_of knowns = map (λ known. known.done) knowns

-- No more steps of each key are counted than lead to its target.
abbrev pub AreWithin : List Key → List ℕ → Type 0
AreWithin keys counts = AllZip (λ key count. count ≤ chain_length key) keys counts

-- The verdict on each key.
abbrev pub verdicts_of : List Key → List Knowledge → List Verdict
verdicts_of [] knowns = []
verdicts_of (key ∷ keys) [] = []
verdicts_of (key ∷ keys) (known ∷ knowns) = verdict_of key known ∷ verdicts_of keys knowns

-- The words for a verdict.
abbrev pub verdict_word : Verdict → List ℕ
verdict_word Working = codes "working"
verdict_word Finished = codes "finished"
verdict_word (Conflict Attributes) = codes "conflict attributes"
verdict_word (Conflict State) = codes "conflict state"
verdict_word (Conflict TwoObjects) = codes "conflict two-objects"

-- True if the key is finished.
abbrev pub is_finished : Verdict → Bool
is_finished Finished = true
is_finished verdict = false

-- The number of verdicts that a key is finished.
abbrev pub finished_count : List Verdict → ℕ
finished_count verdicts = length (filter is_finished verdicts)
