-- One look.
use Rattle.kmip_refresh.specs.KnownKeys.{keys_of}
use Rattle.kmip_desk.specs.DeskRuns.{known_of}
use Rattle.kmip_desk.proofs.LookLemmas.{one_looked}
use Rattle.kmip_desk.proofs.refreshing.look_once.Goals as goal

pub returns-in-Err-look_at_progress-clause-alone : goal.returns-in-Err-look_at_progress-clause-alone
returns-in-Err-look_at_progress-clause-alone g c =
    one_looked (keys_of (known_of c.args.client.now)) _ _ _ c.bytes-mark.ensures.name c.look_at_progress.ensures.sound
    c.look_at_progress.ensures.looks_alone

pub returns-clause-alone : goal.returns-clause-alone
returns-clause-alone g c =
    one_looked (keys_of (known_of c.args.client.now)) _ _ _ c.bytes-mark.ensures.name c.look_at_progress.ensures.sound
    c.look_at_progress.ensures.looks_alone

pub returns-clause-looks : goal.returns-clause-looks
returns-clause-looks g c = record {
  alone = one_looked (keys_of (known_of c.args.client.now)) _ _ _ c.bytes-mark.ensures.name c.look_at_progress.ensures.sound
      c.look_at_progress.ensures.looks_alone;
  from = c.args.link.now;
  mark = _;
  judged = c.in-Ok-look_at_progress.ensures.judged;
  stood = c.in-Ok-look_at_progress.ensures.since;
  finished = c.in-Ok-look_at_progress.ensures.finished;
}
