-- More looks follow those that were made.
use Rattle.kmip_refresh.specs.KnownKeys.{keys_of}
use Rattle.kmip_desk.specs.DeskRuns.{known_of}
use Rattle.kmip_desk.proofs.LookLemmas.{last_after, then_looked}
use Rattle.kmip_desk.proofs.refreshing.look_until_told.Goals as goal

pub returns-in_err-looks-2-clause-alone : goal.returns-in_err-looks-2-clause-alone
returns-in_err-looks-2-clause-alone g c =
    then_looked (keys_of (known_of c.args.client.now)) _ _ _ c.loop.invariant.alone c.look_once-in-loop.ensures.alone

pub loop-preserved : goal.loop-preserved
loop-preserved g c =
    last_after _ c.args.client.now _ c.loop.link _ _ c.loop.invariant.alone c.in_ok-looks-2.ensures.looks
