-- Where the runs of a campaign were ended over their link: how many messages had been sent then.
-- Source: own (view): a run is no part of the standard.
use Rattle.std.specs.Prelude.{◌≡◌, ℕ, ◌+◌, List, [], ◌∷◌, ◌++◌}
use Rattle.kmip_runs.specs.declared.run_end.RunEnd.{RunEnd}

-- how many messages had been sent at the end of each run, where `sent` had been before the first of them
abbrev pub ended_at : ℕ → List RunEnd → List ℕ
ended_at sent [] = []
ended_at sent (end ∷ ends) = (sent + end.exchanges) ∷ ended_at (sent + end.exchanges) ends

-- The runs with these ends were ended over the link, each right after its last exchange, and no other run
-- was.
abbrev pub AreEnded : List RunEnd → ℕ → List ℕ → List ℕ → Type 0
AreEnded ends sent old new = new ≡ old ++ ended_at sent ends
