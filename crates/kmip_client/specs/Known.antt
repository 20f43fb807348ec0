-- What a client knows by the answers alone that it was handed, whichever question each of them came to. What
-- it asks next is left out, since an answer that is lost changes nothing else.
-- Source: own (view).
use Rattle.std.specs.Prelude.{ℕ, List, [], ◌∷◌, map, Option, Some, None, Result, Ok, Err}
use Rattle.kmip_plan.specs.declared.key.Key.{Key}
use Rattle.kmip_client.specs.Hearing.{hear}
use Rattle.kmip_client.specs.declared.clash.Clash.{Clash}
use Rattle.kmip_client.specs.declared.hear_fault.HearFault.{HearFault}
use Rattle.kmip_client.specs.declared.heard.Heard.{Heard}
use Rattle.kmip_client.specs.declared.knowledge.Knowledge.{Knowledge}

-- What is known of a key: its identifier, how many of its steps are done, and the clash that was found, if
-- any.
pub record Fact : Type 0 where
  pub identifier : Option (List ℕ)
  pub done : ℕ
  pub clash : Option Clash

-- What is known of a key, without what is asked next.
abbrev pub fact_of : Knowledge → Fact
fact_of known = record { identifier = known.identifier; done = known.done; clash = known.clash }

-- What is known of each key, without what is asked next.
abbrev pub facts : List Knowledge → List Fact
facts knowns = map fact_of knowns

-- What is known after a message was heard; one that is refused changes nothing.
abbrev pub knowns_heard : List Knowledge → Result (List (Result Heard HearFault) × List Knowledge) HearFault → List Knowledge
knowns_heard knowns (Ok lesson) = lesson.1
knowns_heard knowns (Err fault) = knowns

-- What is known after one answer; where no answer came, what was known before.
abbrev pub heard : List Key → List Knowledge → Option (List ℕ) → List Knowledge
heard keys knowns None = knowns
heard keys knowns (Some bytes) = knowns_heard knowns (hear keys knowns bytes)

-- What is known after some answers, one after the other.
abbrev pub known_after : List Key → List Knowledge → List (Option (List ℕ)) → List Knowledge
known_after keys knowns [] = knowns
known_after keys knowns (answer ∷ answers) = known_after keys (heard keys knowns answer) answers
