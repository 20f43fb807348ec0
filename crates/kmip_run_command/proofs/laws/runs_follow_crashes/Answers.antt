-- What a crash left is what it might have left before, which is good still, or a whole text that is true.
use Rattle.std.proofs.Common.{inr, ⊎_elim}
use Rattle.kmip_run_command.proofs.TrueTextLemmas.{file_still, good_file_is_true}
use Rattle.kmip_run_command.proofs.laws.runs_follow_crashes.Goals as goal

pub returns-clause-good : goal.returns-clause-good
returns-clause-good g c = λ keys begun ended first last content lawful left.
    ⊎_elim
    (λ before.
    file_still c.the_laws_of_clients_hold.ensures.known_for_good keys (g.L.Link.seen begun).past.objects
    (g.L.Link.seen ended).past.objects content lawful
    left.safe.went_on.onward (left.were_good content before))
    (λ file. inr file) ((left.any_moment left.lawful).each content left.left)

pub returns-clause-next : goal.returns-clause-next
returns-clause-next g c = λ keys begun ended first last content lawful left. (
  left.safe.stays_good,
  good_file_is_true keys (g.L.Link.seen ended).past.objects content
      (returns-clause-good g c keys begun ended first last content lawful left),
)
