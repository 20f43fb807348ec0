-- How many of its steps a run took.
use Rattle.std.proofs.lemmas.Grind.{common_steps}
use Rattle.std.proofs.Common.{arith}
use Rattle.kmip_tally.proofs.CourseLemmas.{all_steps}
use Rattle.kmip_tally.proofs.course.Course.taken.Goals as goal

pub returns : goal.returns
returns c = grind (arith, common_steps, c.count.ensures, c.count-2.ensures, c.count-3.ensures, c.count-4.ensures, all_steps c.args.self.now c.args.key.now.target)
