-- Nothing happens.
use Rattle.std.proofs.Common.{rules}
use Rattle.kmip_company.specs.Sharing.{past_of}
use Rattle.kmip_company.proofs.shared.SharedLink.end_run.Goals as goal

pub returns-clause-ends : goal.returns-clause-ends
returns-clause-ends g c = record {
  honestly = search rules;
  amid = λ keys together sound. (together, c.the_laws_amid_others_hold.ensures.nothing keys (past_of c.args.self.now));
  calm = search rules;
  counted = search rules;
  io = search rules;
  spent = search rules;
  followed = search rules;
  wanting = search rules;
}
