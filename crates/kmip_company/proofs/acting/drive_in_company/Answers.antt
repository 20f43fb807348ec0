-- By the turns and the exchanges that `drive` promises.
use Rattle.kmip_company.proofs.OccurLemmas.{driven_occurs}
use Rattle.kmip_company.proofs.acting.drive_in_company.Goals as goal

pub returns : goal.returns
returns g c = record {
  occurs = λ honest memory.
      let driven = c.drive.result in
      driven_occurs _ driven.0 driven.1 c.args.client.now c.drive.new.client (g.L.Link.seen c.args.link.now).past (g.L.Link.seen c.drive.new.link).past
      c.drive.ensures.turned honest memory;
}
