-- Each plan is the one that its option names.
use Rattle.std.proofs.Common.{rules}
use Rattle.kmip_choices.proofs.choice.check_of.Goals as goal

pub returns-in_ok-earlier-in-Some : goal.returns-in_ok-earlier-in-Some
returns-in_ok-earlier-in-Some c = search rules
