-- The last run is taken, and given back as one that is saved.
use Rattle.std.proofs.Common.{rules, ◌≡◌, length, sym, ap, ◌∙◌}
use Rattle.kmip_scripted.specs.Runs.{with_last_saved}
use Rattle.kmip_scripted.proofs.PartLemmas.{last_is_saved, none_is_saved}
use Rattle.kmip_scripted.proofs.runs.runs_before.Goals as goal
use Rattle.kmip_scripted.proofs.runs.runs_before.Goals.{in-Some+in_ok-push, in_default}

pub returns : goal.returns
returns c = elim c.match-pop.branch [
  | in-Some+in_ok-push w ↦
      ap (λ v. v.items) w.runs-is
      ∙ w.in_ok-push.ensures.items
      ∙ sym (last_is_saved c.pop.new.self.items w.in-Some.last)
      ∙ ap with_last_saved (sym w.in-Some.ensures.items ∙ c.in_ok-runs.ensures)
  | in_default w ↦
      let none : length c.match-pop.runs.items ≡ 0 = search rules in
      let same : c.match-pop.runs.items ≡ c.in_ok-runs.runs.items = search rules in
      none_is_saved c.match-pop.runs.items none ∙ ap with_last_saved (same ∙ c.in_ok-runs.ensures)
]
