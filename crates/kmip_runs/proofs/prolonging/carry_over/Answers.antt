-- What is read of both lists is what is read of the two joined.
use Rattle.std.proofs.Common.{refl}
use Rattle.std.proofs.lemmas.List.{map-append}
use Rattle.std.proofs.lemmas.List.Elements.{All-append}
use Rattle.kmip_progress.specs.Suiting.{Suits}
use Rattle.kmip_runs.proofs.prolonging.carry_over.Goals as goal

pub returns-clause-read : goal.returns-clause-read
returns-clause-read c =
    rw (c.in-Some.is, c.in_ok-append.ensures.items) (
      rw (c.in_ok-read.ensures.read, c.in_ok-more.ensures.read, map-append) refl,
      All-append (Suits c.in-Some.next.now) c.in_ok-read.read.items c.in_ok-more.more.items c.in_ok-read.ensures.suits c.in_ok-more.ensures.suits,
    )
