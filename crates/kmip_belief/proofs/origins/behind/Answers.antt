-- By what `starts_with` says.
use Rattle.kmip_belief.proofs.OriginLemmas.{front_then, no_front}
use Rattle.kmip_belief.proofs.origins.behind.Goals as goal

pub returns-then-starts_with-clause-found : goal.returns-then-starts_with-clause-found
returns-then-starts_with-clause-found c =
    front_then c.args.bytes.now c.args.front.now c.starts_with.result c.starts_with.ensures.value c.if-starts_with.true

pub returns-clause-none : goal.returns-clause-none
returns-clause-none c = λ none rest.
    no_front c.args.bytes.now c.args.front.now c.starts_with.result c.starts_with.ensures.value c.if-starts_with.false rest
