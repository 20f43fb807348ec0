-- What a client knows is what it heard, whatever it asked.
use Rattle.std.proofs.Common.{◌≡◌, ℕ, List, [], ◌∷◌, filter, Option, Some, None, Result, Ok, Err, refl, ◌∙◌}
use Rattle.kmip_plan.specs.declared.key.Key.{Key}
use Rattle.kmip_client.specs.Clients.{changed_at, lost_working}
use Rattle.kmip_client.specs.Hearing.{hear}
use Rattle.kmip_client.specs.Known.{facts, heard, known_after, knowns_heard}
use Rattle.kmip_client.specs.Laws.{HearingIsBlind, LossesTeachNothing}
use Rattle.kmip_client.specs.declared.hear_fault.HearFault.{HearFault}
use Rattle.kmip_client.specs.declared.heard.Heard.{Heard}
use Rattle.kmip_client.specs.declared.knowledge.Knowledge.{Knowledge}
use Rattle.kmip_client.specs.declared.part.Part.{Part}
use Rattle.kmip_client.specs.declared.question.Question.{Question}
use Rattle.kmip_protocol.specs.Turns.{is_unanswered, known_then, lost_each, taught_by}

pub known_blind : HearingIsBlind → (keys : List Key) (xs ys : List Knowledge) (answers : List (Option (List ℕ))) → facts xs ≡ facts ys
    → facts (known_after keys xs answers) ≡ facts (known_after keys ys answers)
known_blind blind keys xs ys [] same = same
known_blind blind keys xs ys (answer ∷ answers) same =
    known_blind blind keys (heard keys xs answer) (heard keys ys answer) answers (blind keys xs ys answer same)

lost_each_facts : LossesTeachNothing → (keys : List Key) (parts : List Part) (knowns : List Knowledge) → facts (lost_each keys parts knowns) ≡ facts knowns
lost_each_facts lost keys [] knowns = refl
lost_each_facts lost keys (part ∷ parts) knowns =
    lost_each_facts lost keys parts (changed_at lost_working keys knowns part.key) ∙ lost keys knowns part.key

taught_by_facts : LossesTeachNothing → (keys : List Key) (parts : List Part) (knowns : List Knowledge) (r : Result (List (Result Heard HearFault) × List Knowledge) HearFault)
    → facts (taught_by keys parts knowns r) ≡ facts (knowns_heard knowns r)
taught_by_facts lost keys parts knowns (Ok lesson) = lost_each_facts lost keys (filter (is_unanswered lesson.0) parts) lesson.1
taught_by_facts lost keys parts knowns (Err fault) = lost_each_facts lost keys parts knowns

-- what is known of an answer is what was heard
pub taught_facts : LossesTeachNothing → (keys : List Key) (question : Question) (answer : Option (List ℕ)) (knowns : List Knowledge)
    → facts (known_then keys question answer knowns) ≡ facts (heard keys knowns answer)
taught_facts lost keys question None knowns = lost_each_facts lost keys question.parts knowns
taught_facts lost keys question (Some bytes) knowns = taught_by_facts lost keys question.parts knowns (hear keys knowns bytes)
