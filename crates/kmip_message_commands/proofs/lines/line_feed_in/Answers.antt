-- The first place that `memchr` finds is the first by place.
use Rattle.kmip_message_commands.proofs.LineLemmas.{feed_found}
use Rattle.kmip_message_commands.proofs.lines.line_feed_in.Goals as goal

pub returns : goal.returns
returns c = feed_found c.args.bytes.now c.memchr.result c.memchr.ensures
